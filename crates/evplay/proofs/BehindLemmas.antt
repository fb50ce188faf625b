-- A script that a text spells brings in nothing behind the end of an end.
use Rattle.std.proofs.Common.{◌≡◌, ◌⊎◌, inl, inr, ◌++◌, ◌∷◌, ◌||◌, not, Bool, true, false, List, [], refl, sym, ap, ◌∙◌}
use Rattle.std.proofs.Common.{if◌then◌else◌}
use Rattle.std.specs.List.{flat_map, list_any}
use Rattle.std.proofs.lemmas.Bool.{and_parts, eq-eqb, eqb-true}
use Rattle.std.proofs.lemmas.Grind.{flat_map-append}
use Rattle.ev_types.specs.declared.side.SideId.{SideId}
use Rattle.ev_types.specs.declared.turn_line.TurnLine.{TurnLine}
use Rattle.ev_types.specs.declared.turn_line.TurnLine.TheVariants as turn
use Rattle.ev_types.specs.Sides.{number, same_end}
use Rattle.script_text.specs.Order.{is_end_of, is_ended, is_known, may_follow}
use Rattle.relay_model.specs.Lines.{brings, ends}
use Rattle.drain_laws.specs.CanDrain.{NoneBehind}
use Rattle.evplay.proofs.HandedLemmas.{same-number}

tail-is : {A : Type 0} (x y : A) (xs ys : List A) → x ∷ xs ≡ y ∷ ys → xs ≡ ys
tail-is x y xs ys h = cc h

none-right : {A : Type 0} (xs ys : List A) → [] ≡ xs ++ ys → ys ≡ []
none-right [] ys h = sym h
none-right (x ∷ xs) ys h = absurd (cc h)

-- where a list with one more element is cut
snoc-split : {A : Type 0} (xs : List A) (x : A) (before after : List A) → xs ++ x ∷ [] ≡ before ++ after →
    (after ≡ []) ⊎ ((m : List A) × (after ≡ m ++ x ∷ []) × (xs ≡ before ++ m))
snoc-split xs x [] after h = inr (xs, sym h, refl)
snoc-split [] x (y ∷ before) after h = inl (none-right before after (tail-is x y [] (before ++ after) h))
snoc-split (z ∷ xs) x (y ∷ before) after h = on (snoc-split xs x before after (tail-is z y (xs ++ x ∷ []) (before ++ after) h))
  where
    head : z ≡ y
    head = cc h

    on : (after ≡ []) ⊎ ((m : List _) × (after ≡ m ++ x ∷ []) × (xs ≡ before ++ m)) →
        (after ≡ []) ⊎ ((m : List _) × (after ≡ m ++ x ∷ []) × (z ∷ xs ≡ (y ∷ before) ++ m))
    on (inl none) = inl none
    on (inr cut) = inr (cut.0, cut.1, (λ i. head i ∷ cut.2 i))

-- what one line of some passes passes another test that is weaker
any-weaker : (p q : TurnLine → Bool) → ((x : TurnLine) → p x ≡ true → q x ≡ true) → (xs : List TurnLine) → list_any p xs ≡ true →
    list_any q xs ≡ true
any-weaker p q f [] h = absurd (cc h)
any-weaker p q f (x ∷ xs) h = go (λ k. any-weaker p q f xs k) (p x) refl h
  where
    go : (list_any p xs ≡ true → list_any q xs ≡ true) → (b : Bool) → p x ≡ b → (b || list_any p xs) ≡ true → list_any q (x ∷ xs) ≡ true
    go rest true is k = ap (λ b. b || list_any q xs) (f x is)
    go rest false is k = or-right (q x) (rest k)
      where
        or-right : (b : Bool) {c : Bool} → c ≡ true → (b || c) ≡ true
        or-right true e = refl
        or-right false e = e

any-front : (p : TurnLine → Bool) (xs ys : List TurnLine) → list_any p xs ≡ true → list_any p (xs ++ ys) ≡ true
any-front p [] ys h = absurd (cc h)
any-front p (x ∷ xs) ys h = go (λ k. any-front p xs ys k) (p x) h
  where
    go : (list_any p xs ≡ true → list_any p (xs ++ ys) ≡ true) → (b : Bool) → (b || list_any p xs) ≡ true →
        (b || list_any p (xs ++ ys)) ≡ true
    go rest true k = refl
    go rest false k = rest k

-- a line that ends an end ends what its number gives
ends-number : (side e : SideId) → same_end side e ≡ true → (x : TurnLine) → ends e x ≡ true → is_end_of (number side) x ≡ true
ends-number side e same (turn.NewLink wait) h = absurd (cc h)
ends-number side e same (turn.Conn link made) h = absurd (cc h)
ends-number side e same (turn.Pending other bytes) h = absurd (cc h)
ends-number side e same (turn.Eof other) h =
    let one = eqb-true (number other) (number e) (same-number other e ∙ h) in
    let two = eqb-true (number side) (number e) (same-number side e ∙ same) in
    eq-eqb (number other) (number side) (one ∙ sym two)
ends-number side e same (turn.ReadFail other) h = absurd (cc h)
ends-number side e same (turn.Take other more) h = absurd (cc h)
ends-number side e same (turn.WriteFail other) h = absurd (cc h)
ends-number side e same (turn.Spur other) h = absurd (cc h)
ends-number side e same turn.PollFail h = absurd (cc h)

-- a line that may stand behind some brings in nothing at an end that one of them ended
brings-nothing : (lines before m : List TurnLine) (x : TurnLine) (e : SideId) → may_follow lines x ≡ true → lines ≡ before ++ m →
    list_any (ends e) before ≡ true → brings e x ≡ []
brings-nothing lines before m (turn.Pending side bytes) e may cut ended = go (same_end side e) refl
  where
    go : (b : Bool) → same_end side e ≡ b → (if b then bytes else []) ≡ []
    go false is = refl
    go true is =
        let open_still = (and_parts (is_known side lines) (not (is_ended (number side) lines)) may).1 in
        let there = any-front (is_end_of (number side)) before m
        (any-weaker (ends e) (is_end_of (number side)) (ends-number side e is) before ended) in
        let here : is_ended (number side) lines ≡ true = ap (is_ended (number side)) cut ∙ there in
        absurd (cc)
brings-nothing lines before m (turn.NewLink wait) e may cut ended = refl
brings-nothing lines before m (turn.Conn link made) e may cut ended = refl
brings-nothing lines before m (turn.Eof side) e may cut ended = refl
brings-nothing lines before m (turn.ReadFail side) e may cut ended = refl
brings-nothing lines before m (turn.Take side more) e may cut ended = refl
brings-nothing lines before m (turn.WriteFail side) e may cut ended = refl
brings-nothing lines before m (turn.Spur side) e may cut ended = refl
brings-nothing lines before m turn.PollFail e may cut ended = refl

pub behind-none : NoneBehind []
behind-none before after e cut ended = ap (flat_map (brings e)) (none-right before after cut)

pub behind-more : (lines : List TurnLine) (x : TurnLine) → NoneBehind lines → may_follow lines x ≡ true → NoneBehind (lines ++ x ∷ [])
behind-more lines x old may before after e cut ended = on (snoc-split lines x before after cut)
  where
    on : (after ≡ []) ⊎ ((m : List TurnLine) × (after ≡ m ++ x ∷ []) × (lines ≡ before ++ m)) → flat_map (brings e) after ≡ []
    on (inl none) = ap (flat_map (brings e)) none
    on (inr split) =
        let m = split.0 in
        let first = old before m e split.2 ended in
        let last = brings-nothing lines before m x e may split.2 ended in
        ap (flat_map (brings e)) split.1 ∙ flat_map-append (brings e) m (x ∷ [])
        ∙ (λ i. first i ++ (last i ++ []))
