-- One fire of a batch, and all of them.
use Rattle.std.proofs.Common.{◌≡◌, ◌∙◌, sym, ap, refl, ℕ, zero, suc, ◌+◌, ◌<◌, ◌≤◌, add-one, arith, Bool, true, false, cond, Some, Ok, Err}
use Rattle.event_base.specs.Base.{BaseValue}
use Rattle.event_base.specs.Calls as call
use Rattle.base_mode.specs.declared.halt.Halt.{Halt}
use Rattle.base_mode.specs.declared.halt.Halt.TheVariants as halt
use Rattle.base_mode.specs.Run.{RunValue, Outcome, Fired, called_back, next_fired}
use Rattle.base_mode.specs.Turned.{after_fired, all_fired, owed, IsClosed, whole_batch}
use Rattle.base_mode.specs.Stops.{Went, HasFired}
use Rattle.base_mode.proofs.OwedLemmas.{Falls}
use Rattle.base_mode.proofs.BatchLemmas.{next_fired-falls}

-- the next callback was called
pub next_fired-called : (r : RunValue) (b : BaseValue) (fire : ℕ × ℕ) (after : RunValue) → call.next_active r.base ≡ Ok b →
    call.next_fire r.base ≡ Some fire
    → called_back (record r { base = b }) fire.0 fire.1 ≡ Ok after → next_fired r ≡ Fired.Called (Ok after)
next_fired-called r b fire after goes is called = rw (goes, is) (ap Fired.Called called)

-- none is called
pub all_fired-none : (n : ℕ) (r : RunValue) → n ≡ 0 → all_fired n r ≡ Ok r
unfolding all_fired
all_fired-none n r none = rw none refl

-- the first of some more was called
pub all_fired-called : (n left : ℕ) (r after : RunValue) → n ≡ left + 1 → HasFired (Ok true) after (next_fired r) →
    all_fired n r ≡ all_fired left after
unfolding all_fired
all_fired-called n left r after more fired = rw (more, add-one, fired) refl

-- the batch was over before
pub all_fired-over : (n left : ℕ) (r after : RunValue) → n ≡ left + 1 → HasFired (Ok false) after (next_fired r) → all_fired n r ≡ Ok after
unfolding all_fired
all_fired-over n left r after more fired = rw (more, add-one, fired) refl

-- the run stopped at a fire
pub all_fired-stopped : (why : Halt) (n left : ℕ) (r after : RunValue) → n ≡ left + 1 → HasFired (Err why) after (next_fired r) →
    Went {T = Unit {0}} (Err why) after (all_fired n r)
unfolding all_fired
all_fired-stopped halt.Memory n left r after more fired = tt
all_fired-stopped halt.Spent n left r after more fired = rw (more, add-one, fired) refl

-- what of a fire's outcome goes on so goes on so with the same next steps
same_after : (f : Fired) (on on' : RunValue → Outcome) → ((next : RunValue) → f ≡ Fired.Called (Ok next) → on next ≡ on' next) →
    after_fired f on ≡ after_fired f on'
same_after (Fired.Over r) on on' same = refl
same_after (Fired.Called (Ok r)) on on' same = same r refl
same_after (Fired.Called (Err text)) on on' same = refl

-- more steps than the batch wants change nothing
all_fired-enough : (n m : ℕ) (r : RunValue) → IsClosed r.base → owed r.base + 1 ≤ n → owed r.base + 1 ≤ m → all_fired n r ≡ all_fired m r
unfolding all_fired
all_fired-enough zero m r closed low high = absurd (omega arith)
all_fired-enough (suc n) zero r closed low high = absurd (omega arith)
all_fired-enough (suc n) (suc m) r closed low high =
    same_after (next_fired r) (all_fired n) (all_fired m)
    (λ next called.
    let falls : Falls 1 r.base next.base = next_fired-falls r next closed called in
    all_fired-enough n m next falls.closed (omega (arith, falls.less)) (omega (arith, falls.less)))

-- the batch goes on as the rest of it does, once a callback was called
pub whole_batch-called : (r after : RunValue) → IsClosed r.base → HasFired (Ok true) after (next_fired r) →
    whole_batch r ≡ whole_batch after
whole_batch-called r after closed fired =
    let falls : Falls 1 r.base after.base = next_fired-falls r after closed fired in
    all_fired-called (owed r.base + 1) (owed r.base) r after refl fired
    ∙ all_fired-enough (owed r.base) (owed after.base + 1) after falls.closed (omega (arith, falls.less)) (omega arith)

-- each step of the batch takes one from what is left
pub fires-smaller : (going was : Bool) (r after : RunValue) → was ≡ true → IsClosed r.base → HasFired (Ok going) after (next_fired r)
    → cond going (owed after.base + 1) 0 < cond was (owed r.base + 1) 0
fires-smaller going false r after on closed fired = cc
fires-smaller true true r after on closed fired = let falls = next_fired-falls r after closed fired in omega (arith, falls.less)
fires-smaller false true r after on closed fired = omega arith

-- after a step of the batch comes the rest of it
pub fires-left : (going : Bool) (r after : RunValue) → IsClosed r.base → HasFired (Ok going) after (next_fired r)
    → cond {A = Outcome} going (whole_batch after) (Ok after) ≡ whole_batch r
fires-left true r after closed fired = sym (whole_batch-called r after closed fired)
fires-left false r after closed fired = sym (all_fired-over (owed r.base + 1) (owed r.base) r after refl fired)

pub fires-closed : (going : Bool) (r after : RunValue) → IsClosed r.base → HasFired (Ok going) after (next_fired r) → going ≡ true →
    IsClosed after.base
fires-closed true r after closed fired on = let falls = next_fired-falls r after closed fired in falls.closed
fires-closed false r after closed fired on = cc
