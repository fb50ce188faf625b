-- The event, its timer and its place change together.
use Rattle.std.proofs.Common.{◌≡◌, ◌∙◌, ℕ, ◌<◌, List, sym, ap, refl, slice_get, set, Some, None, Option, Bool, true, false, cond}
use Rattle.std.proofs.Common.{option_map, is_some, Ok}
use Rattle.std.proofs.lemmas.Bool.{lt-ltb}
use Rattle.event_base.specs.declared.event.Event.{Event}
use Rattle.event_base.specs.declared.event.Activation.{Activation}
use Rattle.event_base.specs.declared.event.Timeout.{Timeout}
use Rattle.event_base.specs.Events.{added, unless_freed, is_active, not_by_timeout, has_timed_out}
use Rattle.event_base.specs.Deadlines.{Moment, DeadlinesValue}
use Rattle.event_base.specs.Ready.{ReadyValue}
use Rattle.event_base.specs.Tied.{AreKept, place_of, moment_of}
use Rattle.event_base.proofs.TiedLemmas.{AreKept-set, AreKept-moment, AreKept-last, priority-within, slice_get-get_or}
use Rattle.event_base.proofs.base.Base.add_until.Goals as goal

still : (b : Bool) (a : Activation) → is_some (cond b None (Some a)) ≡ true → cond b None (Some a) ≡ Some a
still true a h = cc h
still false a h = refl

-- an event that stays active is active as it was
stays : (o : Option Activation) → is_some (not_by_timeout o) ≡ true → not_by_timeout o ≡ o
stays None h = cc h
stays (Some a) h = still (has_timed_out a.flags) a h

gone : (o : Option Activation) → is_some o ≡ false → o ≡ None
gone None h = refl
gone (Some a) h = cc h

-- the event leaves its queue where its timeout had made it active, and else keeps its place
kept_by : (events : List Event) (deadlines : DeadlinesValue) (ready : ReadyValue) (k last : ℕ) (e : Event) (t : Timeout) → AreKept
    events deadlines ready → slice_get events k ≡ Some e
    → AreKept (set events k (added (Some t) e))
    (record deadlines { moments = set deadlines.moments k (Some (record { deadline = t.deadline; order = t.order })); last = last })
    (record ready { places = cond (is_active (added (Some t) e)) ready.places (set ready.places k None) })
kept_by events deadlines ready k last e t kept is = split (is_active (added (Some t) e)) refl
  where
    low : e.priority < ready.priorities
    low = priority-within events deadlines ready k e kept is

    split : (b : Bool) → is_active (added (Some t) e) ≡ b → AreKept (set events k (added (Some t) e))
        (record deadlines { moments = set deadlines.moments k (Some (record { deadline = t.deadline; order = t.order })); last = last })
        (record ready { places = cond b ready.places (set ready.places k None) })
    split true h = AreKept-last _ (record deadlines {
      moments = set deadlines.moments k (Some (record { deadline = t.deadline; order = t.order }));
    })
        last _ (AreKept-moment events deadlines ready k e (added (Some t) e) _ kept is refl
        (ap (option_map (λ (a : Activation). record { priority = e.priority; order = a.order })) (stays e.active h)) low)
    split false h = AreKept-last _ (record deadlines {
      moments = set deadlines.moments k (Some (record { deadline = t.deadline; order = t.order }));
    })
        last _ (AreKept-set events deadlines ready k e (added (Some t) e) _ None kept is refl
        (ap (option_map (λ (a : Activation). record { priority = e.priority; order = a.order }))
        (gone (not_by_timeout e.active) h)) low)

pub invariant_of-self-2 : goal.invariant_of-self-2
invariant_of-self-2 c =
    let is : slice_get c.self.inside.events.items c.args.event ≡ Some c.in-Some.field-0 = sym
    (ap (λ xs. slice_get xs c.args.event) c.deref.ensures.value) ∙ c.in-Some.ensures.there c.in-Some.field-0 refl in
    let same : c.index_mut-added.result.now ≡ c.in-Some.field-0 = c.index_mut-added.ensures.value
    ∙ slice_get-get_or c.self.inside.events.items c.args.event c.in-Some.field-0 c.index_mut-added.result.now is in
    record {
      kept = rw (c.rest_unless.ensures, c.is_active-stays.ensures, c.add_until.ensures, same, c.last-order.ensures, c.in_ok-set.ensures.ok)
          (kept_by c.self.inside.events.items c.self.inside.deadlines c.self.inside.ready c.args.event _ c.in-Some.field-0 _
          c.self.invariant.kept is);
      early = c.self.invariant.early;
    }

pub returns-clause-ok : goal.returns-clause-ok
returns-clause-ok c =
    let is : slice_get c.self.inside.events.items c.args.event ≡ Some c.in-Some.field-0 = sym
    (ap (λ xs. slice_get xs c.args.event) c.deref.ensures.value) ∙ c.in-Some.ensures.there c.in-Some.field-0 refl in
    let same : c.index_mut-added.result.now ≡ c.in-Some.field-0 = c.index_mut-added.ensures.value
    ∙ slice_get-get_or c.self.inside.events.items c.args.event c.in-Some.field-0 c.index_mut-added.result.now is in
    let live : unless_freed (slice_get c.self.inside.events.items c.args.event) ≡ Some c.in-Some.field-0 = sym
    (c.in-Some.ensures.live ∙ ap (λ xs. unless_freed (slice_get xs c.args.event)) c.deref.ensures.value) in
    rw (
      ← c.self.view_is,
      live,
      lt-ltb _ _ c.in_ok-set.ensures.fits,
      c.add_until.ensures,
      same,
      c.last-order.ensures,
      c.in_ok-set.ensures.ok,
      c.rest_unless.ensures,
    ) refl
