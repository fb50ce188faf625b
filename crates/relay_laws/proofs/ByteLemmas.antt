-- What filters make of bytes are bytes, and bytes that stand in a part of a trace stand in the whole.
use Rattle.std.proofs.Common.{◌≡◌, ℕ, ◌+◌, ◌-◌, ◌*◌, ◌/◌, ◌%◌, ◌<◌, ◌≤◌, Bool, true, false, ◌==◌, ◌&&◌, ◌||◌, not, nat_lt, nat_le}
use Rattle.std.proofs.Common.{if◌then◌else◌, List, [], ◌∷◌, ◌++◌, length, take, inl, inr, refl, ◌∙◌, ap, subst, arith, length-append}
use Rattle.std.specs.Prelude.{All}
use Rattle.std.specs.List.{flat_map}
use Rattle.std.proofs.lemmas.Bool.{and_parts, or_cases, leb-true}
use Rattle.std.proofs.lemmas.Grind.{flat_map-append}
use Rattle.std.proofs.lemmas.List.{get_or_append_left, get_or-append-add}
use Rattle.std.proofs.lemmas.List.Elements.{All-nil, All-cons, All-head, All-tail, All-append, All-take}
use Rattle.ev_types.specs.declared.filter.FilterKind.{FilterKind}
use Rattle.ev_types.specs.declared.filter.FilterKind.TheVariants as kind
use Rattle.ev_types.specs.declared.side.SideId.{SideId}
use Rattle.ev_types.specs.declared.answer.ReadAnswer.TheVariants as read
use Rattle.ev_types.specs.declared.answer.WriteAnswer.TheVariants as write
use Rattle.ev_types.specs.declared.entry.Entry.TheVariants as entry
use Rattle.ev_types.specs.Trace.{Event, Trace}
use Rattle.relay_model.specs.Trace.{read_by, given_by, bytes_read, bytes_given}
use Rattle.filter_model.specs.Filter.{CR, LF, crlf_after, to_lf, last_cr, hex_digit, hex_out, is_within, is_hex, hex_value, hex_in}
use Rattle.filter_model.specs.Filter.{filter_of}
use Rattle.relay_model.specs.Flow.{Flow, middle, outcome}
use Rattle.relay_model.proofs.EndLemmas.{same_end-refl}

abbrev pub IsByte : ℕ → Type 0
IsByte b = b < 256

abbrev pub AllBytes : List ℕ → Type 0
AllBytes xs = All IsByte xs

one-byte : (x : ℕ) → IsByte x → AllBytes (x ∷ [])
one-byte x h = All-cons IsByte x [] h (All-nil IsByte)

-- Each filter

crlf-bytes : (last : ℕ) (xs : List ℕ) → AllBytes xs → AllBytes (crlf_after last xs)
crlf-bytes last [] h = All-nil IsByte
crlf-bytes last (x ∷ xs) h =
    All-append IsByte (if x == LF && not (last == CR) then CR ∷ LF ∷ [] else x ∷ []) (crlf_after x xs)
    (first (x == LF && not (last == CR))) (crlf-bytes x xs (All-tail IsByte x xs h))
  where
    first : (b : Bool) → AllBytes (if b then CR ∷ LF ∷ [] else x ∷ [])
    first true = All-cons IsByte CR (LF ∷ []) (omega arith) (one-byte LF (omega arith))
    first false = one-byte x (All-head IsByte x xs h)

lf-bytes : (xs : List ℕ) → AllBytes xs → AllBytes (to_lf xs)
lf-bytes [] h = All-nil IsByte
lf-bytes (x ∷ []) h = first (x == CR)
  where
    first : (b : Bool) → AllBytes (if b then [] else x ∷ [])
    first true = All-nil IsByte
    first false = h
lf-bytes (x ∷ y ∷ ys) h =
    All-append IsByte (if x == CR && y == LF then [] else x ∷ []) (to_lf (y ∷ ys))
    (first (x == CR && y == LF)) (lf-bytes (y ∷ ys) (All-tail IsByte x (y ∷ ys) h))
  where
    first : (b : Bool) → AllBytes (if b then [] else x ∷ [])
    first true = All-nil IsByte
    first false = one-byte x (All-head IsByte x (y ∷ ys) h)

last-bytes : (xs : List ℕ) → AllBytes xs → AllBytes (last_cr xs)
last-bytes [] h = All-nil IsByte
last-bytes (x ∷ []) h = first (x == CR)
  where
    first : (b : Bool) → AllBytes (if b then x ∷ [] else [])
    first true = h
    first false = All-nil IsByte
last-bytes (x ∷ y ∷ ys) h = last-bytes (y ∷ ys) (All-tail IsByte x (y ∷ ys) h)

digit-byte : (d : ℕ) → d < 16 → IsByte (hex_digit d)
digit-byte d h = go (nat_lt d 10)
  where
    go : (b : Bool) → IsByte (if b then 48 + d else 87 + d)
    go true = omega (arith, h)
    go false = omega (arith, h)

hex_out-bytes : (xs : List ℕ) → AllBytes xs → AllBytes (hex_out xs)
hex_out-bytes [] h = All-nil IsByte
hex_out-bytes (x ∷ xs) h =
    let small = All-head IsByte x xs h in
    let rest = hex_out-bytes xs (All-tail IsByte x xs h) in
    All-cons IsByte (hex_digit (x / 16)) (hex_digit (x % 16) ∷ hex_out xs) (digit-byte (x / 16) (omega (arith, small)))
    (All-cons IsByte (hex_digit (x % 16)) (hex_out xs) (digit-byte (x % 16) (omega arith)) rest)

within-top : (low high x : ℕ) → is_within low high x ≡ true → x ≤ high
within-top low high x h = leb-true x high (and_parts (nat_le low x) (nat_le x high) h).1

value-small : (x : ℕ) → is_hex x ≡ true → hex_value x < 16
value-small x h = go (nat_le x 57) refl (nat_le x 70) refl
  where
    top : x ≤ 102
    top = elim (or_cases (is_within 48 57 x || is_within 65 70 x) (is_within 97 102 x) h) [
      | inl a ↦ (elim (or_cases (is_within 48 57 x) (is_within 65 70 x) a) [
        | inl b ↦ (let c = within-top 48 57 x b in omega (arith, c))
        | inr b ↦ (let c = within-top 65 70 x b in omega (arith, c))
      ])
      | inr a ↦ within-top 97 102 x a
    ]

    go : (a : Bool) → nat_le x 57 ≡ a → (b : Bool) → nat_le x 70 ≡ b → (if a then x - 48 else (if b then x - 55 else x - 87)) < 16
    go true p b q = let c = leb-true x 57 p in omega (arith, c)
    go false p true q = let c = leb-true x 70 q in omega (arith, c)
    go false p false q = omega (arith, top)

hex_in-bytes : (xs : List ℕ) → AllBytes (hex_in xs)
hex_in-bytes [] = All-nil IsByte
hex_in-bytes (x ∷ []) = All-nil IsByte
hex_in-bytes (x ∷ y ∷ ys) = go (is_hex x && is_hex y) refl (hex_in-bytes ys)
  where
    go : (b : Bool) → (is_hex x && is_hex y) ≡ b → AllBytes (hex_in ys) →
        AllBytes (if b then (16 * hex_value x + hex_value y) ∷ hex_in ys else [])
    go true e rest =
        let both = and_parts (is_hex x) (is_hex y) e in
        let a = value-small x both.0 in
        let b = value-small y both.1 in
        All-cons IsByte (16 * hex_value x + hex_value y) (hex_in ys) (omega (arith, a, b)) rest
    go false e rest = All-nil IsByte

before-bytes : (k : FilterKind) (xs : List ℕ) → AllBytes xs → AllBytes ((filter_of k).before xs)
before-bytes kind.None xs h = h
before-bytes kind.ToCrlf xs h = crlf-bytes 0 xs h
before-bytes kind.ToLf xs h = lf-bytes xs h
before-bytes kind.HexOut xs h = hex_out-bytes xs h
before-bytes kind.HexIn xs h = hex_in-bytes xs

at_end-bytes : (k : FilterKind) (xs : List ℕ) → AllBytes xs → AllBytes ((filter_of k).at_end xs)
at_end-bytes kind.None xs h = h
at_end-bytes kind.ToCrlf xs h = crlf-bytes 0 xs h
at_end-bytes kind.ToLf xs h = All-append IsByte (to_lf xs) (last_cr xs) (lf-bytes xs h) (last-bytes xs h)
at_end-bytes kind.HexOut xs h = hex_out-bytes xs h
at_end-bytes kind.HexIn xs h = hex_in-bytes xs

made-bytes : (k : FilterKind) (b : Bool) (xs : List ℕ) → AllBytes xs →
    AllBytes (if b then (filter_of k).at_end xs else (filter_of k).before xs)
made-bytes k true xs h = at_end-bytes k xs h
made-bytes k false xs h = before-bytes k xs h

middle-bytes : (k : FilterKind) (read : List ℕ) (f : Flow) → AllBytes read → AllBytes (middle (filter_of k) read f)
middle-bytes k read f h = made-bytes k f.read_done (take f.used read) (All-take IsByte f.used read h)

-- what both filters of a direction have made of what was read
pub outcome-bytes : (j k : FilterKind) (read : List ℕ) (f : Flow) → AllBytes read → AllBytes (outcome (filter_of j) (filter_of k) read f)
outcome-bytes j k read f h =
    let m = middle (filter_of j) read f in
    made-bytes k f.write_done (take f.turned m) (All-take IsByte f.turned m (middle-bytes j read f h))

-- Parts of a trace

-- of a place of a list
pub all-at : {X : Type 0} (P : X → Type 0) (xs : List X) (y : X) (ys : List X) → All P (xs ++ y ∷ ys) → P y
all-at P xs y ys h =
    subst P (get_or-append-add xs (y ∷ ys) 0 y) (h (length xs + 0) y (omega (arith, length-append xs (y ∷ ys))))

module _ (P : ℕ → Type 0) where
  -- of a part of a list
  pub all-part : (xs ys zs : List ℕ) → All P (xs ++ (ys ++ zs)) → All P ys
  all-part xs ys zs h k d lt =
      subst P (get_or-append-add xs (ys ++ zs) k d ∙ get_or_append_left ys zs d k lt)
      (h (length xs + k) d (omega (arith, lt, length-append xs (ys ++ zs), length-append ys zs)))

  pub all-event : (f : Event → List ℕ) (t before : Trace) (y : Event) (after : Trace) → t ≡ before ++ y ∷ after →
      All P (flat_map f t) → All P (f y)
  all-event f t before y after is h =
      all-part (flat_map f before) (f y) (flat_map f after)
      (subst (All P) (ap (flat_map f) is ∙ flat_map-append f before (y ∷ after)) h)

  -- what was got, and what was taken
  pub all-got : (t before after : Trace) (e : SideId) (room n : ℕ) (bytes : List ℕ) →
      t ≡ before ++ (entry.Read e room (read.Got n), bytes) ∷ after → All P (bytes_read e t) → All P bytes
  all-got t before after e room n bytes is h =
      subst (λ b. All P (if b then bytes else [])) (same_end-refl e)
      (all-event (read_by e) t before (entry.Read e room (read.Got n), bytes) after is h)

  pub all-took : (t before after : Trace) (e : SideId) (offered n : ℕ) (bytes : List ℕ) →
      t ≡ before ++ (entry.Write e offered (write.Took n), bytes) ∷ after → All P (bytes_given e t) → All P bytes
  all-took t before after e offered n bytes is h =
      subst (λ b. All P (if b then bytes else [])) (same_end-refl e)
      (all-event (given_by e) t before (entry.Write e offered (write.Took n), bytes) after is h)
