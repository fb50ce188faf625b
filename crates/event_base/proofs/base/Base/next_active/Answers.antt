-- The front of the batch starts its callback.
use Rattle.std.proofs.Common.{◌≡◌, ◌∙◌, ℕ, ◌+◌, ◌<◌, sym, ap, subst, slice_get, List}
use Rattle.std.proofs.Common.{length, Some, None, Err, IfErr, true, false, arith}
use Rattle.event_base.specs.declared.base.Base.TheInside.{Inside}
use Rattle.event_base.specs.declared.event.Event.{Event}
use Rattle.event_base.specs.declared.fault.BaseFault.TheVariants.{Memory}
use Rattle.event_base.specs.Base.{BaseValue}
use Rattle.event_base.specs.Events.{made}
use Rattle.event_base.specs.BaseView.{base_of}
use Rattle.event_base.specs.Ready.{IsNext}
use Rattle.event_base.specs.Tied.{AreKept}
use Rattle.std.proofs.lemmas.Result.{err_from_is_err_and}
use Rattle.event_base.specs.Turns.{next_event}
use Rattle.event_base.specs.Calls.{IsAnswer, next_active}
use Rattle.event_base.specs.SetsAgain.{sets_again}
use Rattle.event_base.specs.Fires.{is_past_numbers}
use Rattle.event_base.proofs.TiedLemmas.{slice_get-within, slice_get-get_or}
use Rattle.event_base.proofs.FireLemmas.{next_event-is, next-there}
use Rattle.event_base.proofs.CallLemmas.{next_active-call, next_active-none, next_fire-call, next_fire-none, answer-spent, call-ok}
use Rattle.event_base.proofs.CallLemmas.{called_base, called-kept, if_err}
use Rattle.event_base.proofs.WantLemmas.{sets_again-is}
use Rattle.event_base.proofs.base.Base.next_active.Goals as goal

-- the event that fires next has a number in range, and is the next of the base
record Front (x : Inside) (number : ℕ) : Type 0 where
  within : number < length x.events.items
  next : next_event (base_of x) ≡ Some number

front-of : (x : Inside) (number : ℕ) → AreKept x.events.items x.deadlines x.ready → IsNext x.batch_priority x.batch_end
    x.ready.places (Some number) → Front x number
front-of x number kept found =
    let there = next-there (base_of x) x.ready.places number kept.placed found in
    record {
      within = slice_get-within x.events.items number there.0 there.2;
      next = next_event-is (base_of x) x.ready.places (made false None 0) (Some number) kept.placed found;
    }

-- the event that was looked up stands in the list that is kept
kept-is : {seen items : List Event} (e : Event) (number : ℕ) → seen ≡ items → Some e ≡ slice_get seen number → slice_get items
    number ≡ Some e
kept-is e number same found = sym (found ∙ ap (λ xs. slice_get xs number) same)

pub returns-in_default-clause-fire : goal.returns-in_default-clause-fire
returns-in_default-clause-fire c =
    let b = base_of c.self.inside in
    let none : next_event b ≡ None = next_event-is b c.self.inside.ready.places (made false None 0) None
    c.self.invariant.kept.placed c.in_default.ensures in
    rw (← c.self.view_is) (sym (next_fire-none b c.if-self.false none))

pub returns-in_default-clause-ok : goal.returns-in_default-clause-ok
returns-in_default-clause-ok c =
    let b = base_of c.self.inside in
    let none : next_event b ≡ None = next_event-is b c.self.inside.ready.places (made false None 0) None
    c.self.invariant.kept.placed c.in_default.ensures in
    rw (← c.self.view_is) (next_active-none b c.if-self.false none)

pub overflow_cast-event : goal.overflow_cast-event
overflow_cast-event c =
    let kept = c.self.invariant.kept in
    let front = front-of c.self.inside c.in-Some.number kept c.in-Some.ensures in
    omega (arith, front.within, kept.few)

pub set_again-requires-clause-there : goal.set_again-requires-clause-there
set_again-requires-clause-there c =
    let kept = c.self.invariant.kept in
    let front = front-of c.self.inside c.in-Some.number kept c.in-Some.ensures in
    omega (arith, front.within, kept.moments)

pub returns-in_err-timeout-clause-refused : goal.returns-in_err-timeout-clause-refused
returns-in_err-timeout-clause-refused c =
    let b = base_of c.self.inside in
    let number = c.in-Some.number in
    let front = front-of c.self.inside number c.self.invariant.kept c.in-Some.ensures in
    let is = kept-is c.in-Some-event_at.kept number c.deref.ensures.value c.in-Some-event_at.ensures in
    let p = err_from_is_err_and c.from_residual.result c.from_residual.ensures.1 in
    let past = is_past_numbers c.self.inside.time (c.self.inside.deadlines.last + 1) c.in-Some-active.active.flags
    c.in-Some-event_at.kept in
    let step = next_active-call b number c.in-Some-event_at.kept c.in-Some-active.active c.if-self.false front.next is
    c.in-Some-active.is in
    subst (λ (v : BaseValue). IfErr c.from_residual.result (λ fault. IsAnswer fault (next_active v))) c.self.view_is
    (if_err c.from_residual.result p.0 (λ fault. IsAnswer fault (next_active b)) p.1
    (answer-spent past (next_active b) (called_base b number c.in-Some-event_at.kept c.in-Some-active.active) p.0 step
    (p.2 ∙ c.in_err-timeout.ensures.refused)))

pub returns-in_err-timeout-clause-memory : goal.returns-in_err-timeout-clause-memory
returns-in_err-timeout-clause-memory c = λ wanted.
    let b = base_of c.self.inside in
    let number = c.in-Some.number in
    let front = front-of c.self.inside number c.self.invariant.kept c.in-Some.ensures in
    let is = kept-is c.in-Some-event_at.kept number c.deref.ensures.value c.in-Some-event_at.ensures in
    let p = err_from_is_err_and c.from_residual.result c.from_residual.ensures.1 in
    let memory : p.0 ≡ Memory = cc (wanted, p.1) in
    let again = c.in_err-timeout.ensures.memory (ap Err (sym p.2 ∙ memory)) in
    subst (λ (v : BaseValue). sets_again v ≡ true) c.self.view_is
    (sets_again-is b number c.in-Some-event_at.kept c.if-self.false front.next is ∙ again)

pub index_mut-called-requires : goal.index_mut-called-requires
index_mut-called-requires c =
    let kept = c.self.invariant.kept in
    let front = front-of c.self.inside c.in-Some.number kept c.in-Some.ensures in
    omega (arith, front.within, c.self.inside.events.ok.0)

pub invariant_of-self-2 : goal.invariant_of-self-2
invariant_of-self-2 c =
    let b = base_of c.self.inside in
    let number = c.in-Some.number in
    let front = front-of c.self.inside number c.self.invariant.kept c.in-Some.ensures in
    let is = kept-is c.in-Some-event_at.kept number c.deref.ensures.value c.in-Some-event_at.ensures in
    let same : c.index_mut-called.result.now ≡ c.in-Some-event_at.kept = c.index_mut-called.ensures.value
    ∙ slice_get-get_or c.self.inside.events.items number c.in-Some-event_at.kept c.index_mut-called.result.now is in
    record {
      kept = rw (c.rest_front_unless.ensures, c.is_active-stays.ensures, c.begin_call.ensures, same)
          (called-kept c.self.inside.events.items c.self.inside.deadlines c.set_again.new.deadlines c.self.inside.ready number
          c.in-Some-event_at.kept
          c.in-Some-active.active c.in_ok-timeout.timeout c.self.invariant.kept is c.in-Some-active.is c.in_ok-timeout.ensures.moments);
      early = c.self.invariant.early;
    }

pub returns-clause-fire : goal.returns-clause-fire
returns-clause-fire c =
    let b = base_of c.self.inside in
    let number = c.in-Some.number in
    let front = front-of c.self.inside number c.self.invariant.kept c.in-Some.ensures in
    let is = kept-is c.in-Some-event_at.kept number c.deref.ensures.value c.in-Some-event_at.ensures in
    rw (← c.self.view_is) (sym (next_fire-call b number c.in-Some-event_at.kept c.in-Some-active.active c.if-self.false front.next
    is c.in-Some-active.is))

pub returns-clause-ok : goal.returns-clause-ok
returns-clause-ok c =
    let b = base_of c.self.inside in
    let number = c.in-Some.number in
    let front = front-of c.self.inside number c.self.invariant.kept c.in-Some.ensures in
    let is = kept-is c.in-Some-event_at.kept number c.deref.ensures.value c.in-Some-event_at.ensures in
    let same : c.index_mut-called.result.now ≡ c.in-Some-event_at.kept = c.index_mut-called.ensures.value
    ∙ slice_get-get_or c.self.inside.events.items number c.in-Some-event_at.kept c.index_mut-called.result.now is in
    let step = next_active-call b number c.in-Some-event_at.kept c.in-Some-active.active c.if-self.false front.next is c.in-Some-active.is
    ∙ call-ok b number c.in-Some-event_at.kept c.in-Some-active.active c.in_ok-timeout.ensures.fits in
    rw (
      ← c.self.view_is,
      c.begin_call.ensures,
      same,
      c.in_ok-timeout.ensures.timeout,
      c.in_ok-timeout.ensures.last,
      c.set_again.ensures.delays,
      c.rest_front_unless.ensures,
    ) step
