-- What hooks tell of a fire, of entries of which none is of a hook, and of one thing behind another.
use Rattle.std.proofs.Common.{◌≡◌, ◌≢◌, ℕ, Bool, true, false, if◌then◌else◌, List, [], ◌∷◌, ◌++◌, Option, Some, None, refl, sym, ◌∙◌}
use Rattle.std.proofs.Common.{ap, subst, append_assoc, append-nil, ◌&&◌}
use Rattle.std.specs.List.{list_all}
use Rattle.std.proofs.lemmas.List.Folds.{list_all-append}
use Rattle.std.specs.Prelude.{MatchOption, IsSomeAnd, is_some, ⊤}
use Rattle.ev_types.specs.declared.act.Act.{Act}
use Rattle.ev_types.specs.declared.act.Act.TheVariants as act
use Rattle.ev_types.specs.declared.answer.AskAnswer.{AskAnswer}
use Rattle.ev_types.specs.declared.answer.AskAnswer.TheVariants as ask
use Rattle.ev_types.specs.declared.entry.Entry.TheVariants as entry
use Rattle.ev_types.specs.declared.side.SideId.{SideId}
use Rattle.ev_types.specs.declared.why.Why.{Why}
use Rattle.ev_types.specs.Sides.{number, same_end}
use Rattle.ev_types.specs.Trace.{Trace}
use Rattle.relay_core.specs.Fires.{told_more}
use Rattle.relay_model.proofs.EndLemmas.{number-eq, same_end-refl}
use Rattle.relay_model.specs.Hooked.{heard_in, asked_in, is_within_fire}
use Rattle.relay_state.specs.Asking.{ask_events, AsksAll, Fires}
use Rattle.relay_state.specs.State.{State}
use Rattle.relay_drive.specs.Seats.{seat, EndsInFire, Telling, TellsMore, HooksTell, HooksTellBut}
use Rattle.relay_drive.proofs.EndNames.{same_end-true, same_end-false}
use Rattle.relay_drive.proofs.HookEvents.{IsUnhooked, heard_in-append, asked_in-append, unheard-in, unasked-in}

-- One hook

none-more : {A : Type 0} (t : Option (List A)) → t ≡ told_more t []
none-more None = refl
none-more (Some xs) = ap Some (sym (append-nil xs))

more-twice : {A : Type 0} (t : Option (List A)) (xs ys : List A) → told_more (told_more t xs) ys ≡ told_more t (xs ++ ys)
more-twice None xs ys = refl
more-twice (Some zs) xs ys = ap Some (append_assoc zs xs ys)

-- a hook that was not called tells what it told
pub tells_more-none : {H : Type 0} (tells : Telling H) (was : H) → TellsMore tells was was [] []
tells_more-none tells was = record {
  heard = none-more (tells.heard was);
  asked = none-more (tells.asked was);
  planned = refl;
  by_plan = λ h. h;
}

-- one thing behind another
pub tells_more-then : {H : Type 0} (tells : Telling H) (was mid now : H) (xs ys : List Why) (ps qs : List (Act × AskAnswer)) →
    TellsMore tells was mid xs ps → TellsMore tells mid now ys qs → TellsMore tells was now (xs ++ ys) (ps ++ qs)
tells_more-then tells was mid now xs ys ps qs h k = record {
  heard = k.heard ∙ ap (λ z. told_more z ys) h.heard ∙ more-twice (tells.heard was) xs ys;
  asked = k.asked ∙ ap (λ z. told_more z qs) h.asked ∙ more-twice (tells.asked was) ps qs;
  planned = k.planned ∙ h.planned;
  by_plan = λ p. k.by_plan (h.by_plan p);
}

-- All seats

-- the hook of one side, by where it was and is
abbrev pub SideTells : {H : Type 0} → Telling H → Option H → Option H → List Why → List (Act × AskAnswer) → Type 0
SideTells tells was now heard asked = MatchOption was ((now ≡ None) × (heard ≡ []) × (asked ≡ []))
    (λ x. IsSomeAnd now (λ y. TellsMore tells x y heard asked))

side-none : {H : Type 0} (tells : Telling H) (o : Option H) → SideTells tells o o [] []
side-none tells None = (refl, refl, refl)
side-none tells (Some x) = tells_more-none tells x

side-then : {H : Type 0} (tells : Telling H) (a b c : Option H) (xs ys : List Why) (ps qs : List (Act × AskAnswer)) →
    SideTells tells a b xs ps → SideTells tells b c ys qs → SideTells tells a c (xs ++ ys) (ps ++ qs)
side-then tells None None c xs ys ps qs h k =
    let a = h.1 in
    let b = h.2 in
    let d = k.1 in
    let e = k.2 in
    (k.0, (λ i. a i ++ d i), (λ i. b i ++ e i))
side-then tells None (Some b) c xs ys ps qs h k = absurd (let bad = h.0 in cc)
side-then tells (Some a) None c xs ys ps qs h k = absurd h
side-then tells (Some a) (Some b) None xs ys ps qs h k = absurd k
side-then tells (Some a) (Some b) (Some c) xs ys ps qs h k = tells_more-then tells a b c xs ys ps qs h k

side-ps : {H : Type 0} (tells : Telling H) (a b : Option H) (xs ys : List Why) (ps qs : List (Act × AskAnswer)) → xs ≡ ys → ps ≡ qs →
    SideTells tells a b ys qs → SideTells tells a b xs ps
side-ps tells a b xs ys ps qs p q h =
    subst (λ z. SideTells tells a b z ps) (sym p) (subst (λ z. SideTells tells a b ys z) (sym q) h)

-- no hook was called, and each is where it was
pub tells-none : {H : Type 0} (tells : Telling H) (short : Option SideId) (hooks gone : List (Option H)) (a : Trace) → IsUnhooked a →
    HooksTell tells short hooks gone hooks gone a
tells-none tells short hooks gone a h = record {
  more = λ e other.
      let here = seat hooks gone (number e) in
      side-ps tells here here (heard_in e a) [] (asked_in e a) [] (unheard-in e a h) (unasked-in e a h) (side-none tells here);
  kept = λ e. refl;
}

-- one thing behind another
pub tells-then : {H : Type 0} (tells : Telling H) (short : Option SideId) (hooks gone hooks1 gone1 hooks2 gone2 : List (Option H))
    (a b : Trace) → HooksTell tells short hooks gone hooks1 gone1 a → HooksTell tells short hooks1 gone1 hooks2 gone2 b →
    HooksTell tells short hooks gone hooks2 gone2 (a ++ b)
tells-then tells short hooks gone hooks1 gone1 hooks2 gone2 a b h k = record {
  more = λ e other.
      let n : ℕ = number e in
      side-ps tells (seat hooks gone n) (seat hooks2 gone2 n) (heard_in e (a ++ b)) (heard_in e a ++ heard_in e b) (asked_in e (a ++ b))
      (asked_in e a ++ asked_in e b) (heard_in-append e a b) (asked_in-append e a b)
      (side-then tells (seat hooks gone n) (seat hooks1 gone1 n) (seat hooks2 gone2 n) (heard_in e a) (heard_in e b) (asked_in e a)
      (asked_in e b) (h.more e other) (k.more e other));
  kept = λ e. k.kept e ∙ h.kept e;
}

-- what is told of all hooks is told of all but one
pub tells-but : {H : Type 0} (tells : Telling H) (short : Option SideId) (hooks gone hooks' gone' : List (Option H)) (a : Trace) →
    HooksTell tells None hooks gone hooks' gone' a → HooksTell tells short hooks gone hooks' gone' a
tells-but tells short hooks gone hooks' gone' a h = record { more = λ e other. h.more e (λ p. absurd (cc)); kept = h.kept }

-- what ends in a fire does so with entries in front of it
ends-behind : {H : Type 0} (tells : Telling H) (short : Option SideId) (hooks gone hooks1 gone1 : List (Option H)) (a b : Trace) →
    HooksTell tells None hooks gone hooks1 gone1 a → MatchOption short ⊤ (λ e. EndsInFire tells e hooks1 gone1 b) →
    MatchOption short ⊤ (λ e. EndsInFire tells e hooks gone (a ++ b))
ends-behind tells None hooks gone hooks1 gone1 a b h k = tt
ends-behind tells (Some e) hooks gone hooks1 gone1 a b h k = record {
  before = a ++ k.before;
  reason = k.reason;
  fire = k.fire;
  joined = ap (λ z. a ++ z) k.joined ∙ sym (append_assoc a k.before ((entry.Fired e k.reason, []) ∷ k.fire));
  within = k.within;
  hooks_then = k.hooks_then;
  gone_then = k.gone_then;
  told = tells-then tells None hooks gone hooks1 gone1 k.hooks_then k.gone_then a k.before h k.told;
}

-- where memory was wanting for some hook or for none behind it
pub tells-then_but : {H : Type 0} (tells : Telling H) (hooks gone hooks1 gone1 hooks2 gone2 : List (Option H)) (a b : Trace) →
    HooksTell tells None hooks gone hooks1 gone1 a → HooksTellBut tells hooks1 gone1 hooks2 gone2 b →
    HooksTellBut tells hooks gone hooks2 gone2 (a ++ b)
tells-then_but tells hooks gone hooks1 gone1 hooks2 gone2 a b h k = (
  k.0,
  tells-then tells k.0 hooks gone hooks1 gone1 hooks2 gone2 a b (tells-but tells k.0 hooks gone hooks1 gone1 a h) k.1,
  ends-behind tells k.0 hooks gone hooks1 gone1 a b h k.2,
)

-- A fire

-- what the asks of a hook say of a side: they are heard by none, and asked by that hook
record Says (me e : SideId) (mine : Bool) (xs : List (Act × AskAnswer)) (a : Trace) : Type 0 where
  heard : heard_in e a ≡ []
  asked : asked_in e a ≡ (if mine then xs else [])

one-says : (me e : SideId) (mine : Bool) (s : State) (x : Act) (r : AskAnswer) → same_end me e ≡ mine →
    Says me e mine ((x, r) ∷ []) (ask_events me s x r)
one-says me e mine s (act.Free f) ask.Ok is =
    record { heard = refl; asked = ap (λ b. (if b then (act.Free f, ask.Ok) ∷ [] else []) ++ []) is ∙ append-nil _ }
one-says me e mine s (act.Free f) r is =
    record { heard = refl; asked = ap (λ b. (if b then (act.Free f, r) ∷ [] else []) ++ []) is ∙ append-nil _ }
one-says me e mine s x r is = record { heard = refl; asked = ap (λ b. (if b then (x, r) ∷ [] else []) ++ []) is ∙ append-nil _ }

one-within : (me : SideId) (s : State) (x : Act) (r : AskAnswer) → list_all is_within_fire (ask_events me s x r) ≡ true
one-within me s (act.Free f) ask.Ok = refl
one-within me s x r = refl

both-say : (me e : SideId) (mine : Bool) (xs ys : List (Act × AskAnswer)) (a b c : Trace) → Says me e mine xs a → Says me e mine ys b →
    c ≡ a ++ b → Says me e mine (xs ++ ys) c
both-say me e mine xs ys a b c h k j = record {
  heard = ap (heard_in e) j ∙ heard_in-append e a b ∙ (let p = h.heard in let q = k.heard in λ i. p i ++ q i);
  asked = ap (asked_in e) j ∙ asked_in-append e a b ∙ (let p = h.asked in let q = k.asked in λ i. p i ++ q i) ∙ joins mine;
}
  where
    joins : (m : Bool) → (if m then xs else []) ++ (if m then ys else []) ≡ (if m then xs ++ ys else [])
    joins true = refl
    joins false = refl

all-say : (me e : SideId) (mine : Bool) (xs : List (Act × AskAnswer)) (s new : State) (a : Trace) → same_end me e ≡ mine →
    AsksAll me xs s a new → Says me e mine xs a
all-say me e mine [] s new a is h = record { heard = ap (heard_in e) h.0; asked = ap (asked_in e) h.0 ∙ none mine }
  where
    none : (m : Bool) → ◌≡◌ {A = List (Act × AskAnswer)} [] (if m then [] else [])
    none true = refl
    none false = refl
all-say me e mine (x ∷ xs) s new a is h =
    let one : Says me e mine ((x.0, x.1) ∷ []) h.1 =
    subst (Says me e mine ((x.0, x.1) ∷ [])) (sym h.3.entries) (one-says me e mine s x.0 x.1 is) in
    both-say me e mine ((x.0, x.1) ∷ []) xs h.1 h.2 a one (all-say me e mine xs h.0 new h.2 is h.4) h.5

-- what a hook asked stands within its fire
pub asks-within : (me : SideId) (xs : List (Act × AskAnswer)) (s new : State) (a : Trace) → AsksAll me xs s a new →
    list_all is_within_fire a ≡ true
asks-within me [] s new a h = ap (list_all is_within_fire) h.0
asks-within me (x ∷ xs) s new a h =
    let one : list_all is_within_fire h.1 ≡ true = ap (list_all is_within_fire) h.3.entries ∙ one-within me s x.0 x.1 in
    let more : list_all is_within_fire h.2 ≡ true = asks-within me xs h.0 new h.2 h.4 in
    ap (list_all is_within_fire) h.5 ∙ list_all-append is_within_fire h.1 h.2 ∙ (λ i. one i && more i)

-- what a fire says of a side: its own hook heard the reason and made its asks, and no other one did anything
pub fire-heard : {stopped : Bool} {s new : State} {a : Trace} (e : SideId) (h : Fires stopped s a new) →
    heard_in e a ≡ (if same_end h.side e then h.reason ∷ [] else [])
fire-heard e h =
    let says = all-say h.side e (same_end h.side e) h.asks _ _ h.behind refl h.does in
    ap (heard_in e) h.entries ∙ ap (λ z. (if same_end h.side e then h.reason ∷ [] else []) ++ z) says.heard ∙ append-nil _

pub fire-asked : {stopped : Bool} {s new : State} {a : Trace} (e : SideId) (h : Fires stopped s a new) →
    asked_in e a ≡ (if same_end h.side e then h.asks else [])
fire-asked e h = ap (asked_in e) h.entries ∙ (all-say h.side e (same_end h.side e) h.asks _ _ h.behind refl h.does).asked

-- what the entries behind the first say of the hook that was fired
pub asks-told : {stopped : Bool} {s new : State} {a : Trace} (h : Fires stopped s a new) → asked_in h.side h.behind ≡ h.asks
asks-told h = (all-say h.side h.side true h.asks _ _ h.behind (same_end-refl h.side) h.does).asked

-- The hook of the fired side heard the reason and made these asks, and every other one is where it was. Nothing is said of it where
-- memory was wanting for it.
pub tells-fire : {H : Type 0} (tells : Telling H) (short : Option SideId) (hooks gone hooks' gone' : List (Option H)) {stopped : Bool}
    {s new : State} {a : Trace} (h : Fires stopped s a new) (was now : H) → seat hooks gone (number h.side) ≡ Some was →
    seat hooks' gone' (number h.side) ≡ Some now → (short ≢ Some h.side → TellsMore tells was now (h.reason ∷ []) h.asks) →
    ((n : ℕ) → n ≢ number h.side → seat hooks' gone' n ≡ seat hooks gone n) → HooksTell tells short hooks gone hooks' gone' a
tells-fire tells short hooks gone hooks' gone' {a = a} h was now before behind own others = record {
  more = λ e other. more_at e other (same_end h.side e) refl;
  kept = λ e. kept_at e (same_end h.side e) refl;
}
  where
    mine : short ≢ Some h.side →
        SideTells tells (seat hooks gone (number h.side)) (seat hooks' gone' (number h.side)) (h.reason ∷ []) h.asks
    mine other =
        subst (λ z. SideTells tells z (seat hooks' gone' (number h.side)) (h.reason ∷ []) h.asks) (sym before)
        (subst (λ z. SideTells tells (Some was) z (h.reason ∷ []) h.asks) (sym behind) (own other))

    apart : (e : SideId) → same_end h.side e ≡ false → number e ≢ number h.side
    apart e is same = same_end-false h.side e is (number-eq e h.side same)

    still : (e : SideId) → same_end h.side e ≡ false → seat hooks' gone' (number e) ≡ seat hooks gone (number e)
    still e is = others (number e) (apart e is)

    more_at : (e : SideId) → short ≢ Some e → (b : Bool) → same_end h.side e ≡ b →
        SideTells tells (seat hooks gone (number e)) (seat hooks' gone' (number e)) (heard_in e a) (asked_in e a)
    more_at e other true is =
        let here : e ≡ h.side = same_end-true h.side e is in
        side-ps tells (seat hooks gone (number e)) (seat hooks' gone' (number e)) (heard_in e a) (h.reason ∷ []) (asked_in e a) h.asks
        (fire-heard e h ∙ ap (λ b. if b then h.reason ∷ [] else []) is)
        (fire-asked e h ∙ ap (λ b. if b then h.asks else []) is)
        (subst (λ z. SideTells tells (seat hooks gone (number z)) (seat hooks' gone' (number z)) (h.reason ∷ []) h.asks) (sym here)
        (mine (λ p. other (p ∙ ap Some (sym here)))))
    more_at e other false is =
        side-ps tells (seat hooks gone (number e)) (seat hooks' gone' (number e)) (heard_in e a) [] (asked_in e a) []
        (fire-heard e h ∙ ap (λ b. if b then h.reason ∷ [] else []) is)
        (fire-asked e h ∙ ap (λ b. if b then h.asks else []) is)
        (subst (λ z. SideTells tells (seat hooks gone (number e)) z [] []) (sym (still e is))
        (side-none tells (seat hooks gone (number e))))

    kept_at : (e : SideId) (b : Bool) → same_end h.side e ≡ b →
        is_some (seat hooks' gone' (number e)) ≡ is_some (seat hooks gone (number e))
    kept_at e true is =
        let here : e ≡ h.side = same_end-true h.side e is in
        subst (λ z. is_some (seat hooks' gone' (number z)) ≡ is_some (seat hooks gone (number z))) (sym here)
        (ap is_some behind ∙ sym (ap is_some before))
    kept_at e false is = ap is_some (still e is)
