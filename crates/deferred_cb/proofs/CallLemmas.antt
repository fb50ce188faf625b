-- The reasons of entries, and the calls that they come to.
use Rattle.std.proofs.Common.{◌≡◌, ℕ, ◌<◌, ◌≤◌, Bool, true, false, not, if◌then◌else◌, List, [], ◌∷◌, ◌++◌, length, Option, Some, None}
use Rattle.std.proofs.Common.{refl, sym, ◌∙◌, ap, arith}
use Rattle.std.specs.Prelude.{◌==◌, ◌||◌, nat_eq, is_some, option_map}
use Rattle.std.specs.Bool.{then_some}
use Rattle.std.proofs.lemmas.Bool.Decides.{nat_tests}
use Rattle.std.proofs.lemmas.List.Elements.{filter-append}
use Rattle.ev_types.specs.declared.why.Why.{Why}
use Rattle.ev_types.specs.declared.why.Why.TheVariants as why
use Rattle.ev_types.specs.declared.why.Flags.{Flags}
use Rattle.deferred_cb.specs.declared.reasons.Reasons.{Reasons}
use Rattle.deferred_cb.specs.DueCalls.{Entry, Call, joined, joined_flags, has_reason, with_reason, without, without_calls, call_for}
use Rattle.deferred_cb.specs.DueCalls.{calls_of, all_calls}
use Rattle.deferred_cb.specs.DueView.{HaveReasons}

or_true : (b : Bool) → (b || true) ≡ true
or_true true = refl
or_true false = refl

or_left : (a b : Bool) → a ≡ true → (a || b) ≡ true
or_left true b h = refl
or_left false b h = absurd (cc)

some-joined : (o : Option Flags) (f : Flags) → is_some (joined_flags o f) ≡ true
some-joined None f = refl
some-joined (Some g) f = refl

-- one reason more is a reason
pub has_reason-joined : (r : Reasons) (y : Why) → has_reason (joined r y) ≡ true
has_reason-joined r why.Connected = refl
has_reason-joined r why.Read = or_left _ _ (or_left _ _ (or_left _ _ (or_true r.connected)))
has_reason-joined r why.Write = or_left _ _ (or_left _ _ (or_true (r.connected || r.read)))
has_reason-joined r why.Timer = or_true (((r.connected || r.read) || r.write) || is_some r.event)
has_reason-joined r (why.Event flags) =
    or_left _ _ (ap (λ b. ((r.connected || r.read) || r.write) || b) (some-joined r.event flags) ∙ or_true ((r.connected || r.read) || r.write))

pub have-with_reason : (owner : ℕ) (y : Why) (es : List Entry) → HaveReasons es → HaveReasons (with_reason owner y es)
have-with_reason owner y [] h = (has_reason-joined _ y, h)
have-with_reason owner y (e ∷ es) h = go (have-with_reason owner y es h.1) (nat_eq owner e.0)
  where
    go : HaveReasons (with_reason owner y es) → (b : Bool) → HaveReasons (if b then (e.0, joined e.1 y) ∷ es else e ∷ with_reason owner y es)
    go ih true = (has_reason-joined e.1 y, h.1)
    go ih false = (h.0, ih)

pub have-without : (owner : ℕ) (es : List Entry) → HaveReasons es → HaveReasons (without owner es)
have-without owner [] h = h
have-without owner (e ∷ es) h = go (have-without owner es h.1) (not (nat_eq owner e.0))
  where
    go : HaveReasons (without owner es) → (b : Bool) → HaveReasons (if b then e ∷ without owner es else without owner es)
    go ih true = (h.0, ih)
    go ih false = ih

-- the call of an owner stays or goes, as the owner's
without_calls-call_for : (owner o : ℕ) (y : Option Why) →
    without_calls owner (call_for o y) ≡ (if not (nat_eq owner o) then call_for o y else [])
without_calls-call_for owner o None = go (not (nat_eq owner o))
  where
    go : (b : Bool) → without_calls owner (call_for o None) ≡ (if b then call_for o None else [])
    go true = refl
    go false = refl
without_calls-call_for owner o (Some y) = refl

both : (b : Bool) (xs ys : List Call) → (if b then xs else []) ++ (if b then ys else []) ≡ (if b then xs ++ ys else [])
both true xs ys = refl
both false xs ys = refl

-- so do two lists of calls, one behind the other
without_calls-append : (owner o : ℕ) (xs ys : List Call) → without_calls owner xs ≡ (if not (nat_eq owner o) then xs else []) →
    without_calls owner ys ≡ (if not (nat_eq owner o) then ys else []) →
    without_calls owner (xs ++ ys) ≡ (if not (nat_eq owner o) then xs ++ ys else [])
without_calls-append owner o xs ys f g =
    filter-append (λ (call : Call). not (nat_eq owner call.0)) xs ys ∙ (λ i. f i ++ g i) ∙ both (not (nat_eq owner o)) xs ys

without_calls-calls_of : (owner : ℕ) (e : Entry) →
    without_calls owner (calls_of e) ≡ (if not (nat_eq owner e.0) then calls_of e else [])
without_calls-calls_of owner e =
    let one = λ (y : Option Why). without_calls-call_for owner e.0 y in
    let c = then_some e.1.connected why.Connected in
    let r = then_some e.1.read why.Read in
    let w = then_some e.1.write why.Write in
    let v = option_map why.Event e.1.event in
    let t = then_some e.1.timer why.Timer in
    without_calls-append owner e.0 _ _ (without_calls-append owner e.0 _ _ (without_calls-append owner e.0 _ _
    (without_calls-append owner e.0 _ _ (one c) (one r)) (one w)) (one v)) (one t)

-- the calls of the entries of others are the calls of others
pub all_calls-without : (owner : ℕ) (es : List Entry) → all_calls (without owner es) ≡ without_calls owner (all_calls es)
all_calls-without owner [] = refl
all_calls-without owner (e ∷ es) =
    split (not (nat_eq owner e.0)) ∙ (λ i. sym (without_calls-calls_of owner e) i ++ all_calls-without owner es i)
    ∙ sym (filter-append (λ (call : Call). not (nat_eq owner call.0)) (calls_of e) (all_calls es))
  where
    split : (b : Bool) → all_calls (if b then e ∷ without owner es else without owner es) ≡
        (if b then calls_of e else []) ++ all_calls (without owner es)
    split true = refl
    split false = refl

-- an entry with a reason has a call
some-call : (e : Entry) → has_reason e.1 ≡ true → 0 < length (calls_of e)
some-call e h = go e.1.connected e.1.read e.1.write e.1.event e.1.timer h
  where
    go : (c r w : Bool) (v : Option Flags) (t : Bool) → ((((c || r) || w) || is_some v) || t) ≡ true →
        0 < length (call_for e.0 (then_some c why.Connected) ++ call_for e.0 (then_some r why.Read)
        ++ call_for e.0 (then_some w why.Write) ++ call_for e.0 (option_map why.Event v) ++ call_for e.0 (then_some t why.Timer))
    go true r w v t k = omega arith
    go false true w v t k = omega arith
    go false false true v t k = omega arith
    go false false false (Some f) t k = omega arith
    go false false false None true k = omega arith
    go false false false None false k = absurd (cc)

-- one without has none
pub no-call : (e : Entry) → has_reason e.1 ≡ false → calls_of e ≡ []
no-call e h = go e.1.connected e.1.read e.1.write e.1.event e.1.timer h
  where
    go : (c r w : Bool) (v : Option Flags) (t : Bool) → ((((c || r) || w) || is_some v) || t) ≡ false →
        (call_for e.0 (then_some c why.Connected) ++ call_for e.0 (then_some r why.Read)
        ++ call_for e.0 (then_some w why.Write) ++ call_for e.0 (option_map why.Event v) ++ call_for e.0 (then_some t why.Timer)) ≡ []
    go true r w v t k = absurd (cc)
    go false true w v t k = absurd (cc)
    go false false true v t k = absurd (cc)
    go false false false (Some f) t k = absurd (cc)
    go false false false None true k = absurd (cc)
    go false false false None false k = refl

-- entries with reasons have no calls exactly where there are none
pub no-calls : (es : List Entry) → HaveReasons es → all_calls es ≡ [] → es ≡ []
no-calls [] h k = refl
no-calls (e ∷ es) h k = absurd (let s = some-call e h.0 in let z = ap length k in let l = length-more (calls_of e) (all_calls es) in omega (arith, s, z, l))
  where
    length-more : (xs ys : List Call) → length xs ≤ length (xs ++ ys)
    length-more [] ys = omega arith
    length-more (x ∷ xs) ys = let l = length-more xs ys in omega (arith, l)

-- entries with reasons have no calls exactly where there are none, as a test
pub no-calls-test : (es : List Entry) → HaveReasons es → (length es == 0) ≡ (length (all_calls es) == 0)
no-calls-test [] h = refl
no-calls-test (e ∷ es) h = go (all_calls (e ∷ es)) (λ k. no-calls (e ∷ es) h k)
  where
    none : (e ∷ es) ≡ [] → (length (e ∷ es) == 0) ≡ true
    none k = absurd (cc)

    go : (calls : List Call) → (calls ≡ [] → e ∷ es ≡ []) → (length (e ∷ es) == 0) ≡ (length calls == 0)
    go [] k = none (k refl)
    go (x ∷ xs) k = grind (arith, nat_tests)
