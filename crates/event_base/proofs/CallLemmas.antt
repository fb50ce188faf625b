-- What a call does, where what decides it is known.
use Rattle.std.proofs.Common.{◌≡◌, ℕ, ◌<◌, ◌≤◌, ◌^◌, ◌+◌, ◌-◌, Bool, true, false, not, ◌&&◌, cond, List, [], map, length, set, slice_get}
use Rattle.std.proofs.Common.{nat_lt, nat_le, Option, Some, None, is_some, unwrap_or, option_map, Result, Ok, Err, OnOk, IfErr, refl, sym}
use Rattle.std.proofs.Common.{◌∙◌, ap, subst, count_by, arith}
use Rattle.std.proofs.lemmas.Bool.{lt-ltb, ne_eqb}
use Rattle.std.specs.Option.{option_map_or}
use Rattle.std.specs.List.{list_any}
use Rattle.event_base.specs.declared.event.Event.{Event}
use Rattle.event_base.specs.declared.event.Activation.{Activation}
use Rattle.event_base.specs.declared.fault.BaseFault.{BaseFault}
use Rattle.event_base.specs.declared.fault.BaseFault.TheVariants.{Memory, NoEvent, Spent}
use Rattle.event_base.specs.Base.{BaseValue}
use Rattle.event_base.specs.declared.event.Timeout.{Timeout}
use Rattle.event_base.specs.declared.ready.Place.{Place}
use Rattle.event_base.specs.Deadlines.{DeadlinesValue}
use Rattle.event_base.specs.Ready.{ReadyValue}
use Rattle.event_base.specs.Events.{called, one_less}
use Rattle.event_base.specs.Turns.{time_at, wakes, timed_out, least, active_priority, next_event}
use Rattle.event_base.specs.Fires.{is_woken_by, hearing, signalled, overflows, is_past_numbers, is_set_again}
use Rattle.event_base.specs.Rousing.{risen, wakers}
use Rattle.event_base.specs.Tied.{moment_at, AreKept}
use Rattle.event_base.specs.Calls.{Step, IsAnswer, with_event, call, next_call, next_fire, next_active, signal, begin_turn, ended, fit}
use Rattle.event_base.proofs.SignalLemmas.{signalled-risen, hearing-wakers}
use Rattle.event_base.proofs.TiedLemmas.{AreKept-set, AreKept-moment, AreKept-as, priority-within}

-- the event that fires, and what is done to it
abbrev at_fired : BaseValue → ℕ → (Event → Step) → Step
at_fired b number step = option_map_or step (slice_get b.events number) (Err NoEvent)

pub next_call-event : (b : BaseValue) (o : Option ℕ) → b.broken ≡ false → next_event b ≡ o → next_call b ≡ o
next_call-event b o broken next = ap (λ x. cond x None (next_event b)) broken ∙ next

-- the next callback starts where there is one
pub next_active-call : (b : BaseValue) (k : ℕ) (e : Event) (a : Activation) → b.broken ≡ false → next_event b ≡ Some k → slice_get
    b.events k ≡ Some e → e.active ≡ Some a → next_active b ≡ call b k e a
next_active-call b k e a broken next is active =
    ap (λ (o : Option ℕ). option_map_or (λ number. at_fired b number (λ e. option_map_or (call b number e) e.active (Ok b))) o
    (Ok b)) (next_call-event b (Some k) broken next)
    ∙ ap (λ (o : Option Event). option_map_or (λ (e : Event). option_map_or (call b k e) e.active (Ok b)) o (Err NoEvent)) is
    ∙ ap (λ (o : Option Activation). option_map_or (call b k e) o (Ok b)) active

pub next_active-none : (b : BaseValue) → b.broken ≡ false → next_event b ≡ None → next_active b ≡ Ok b
next_active-none b broken next = ap (λ (o : Option ℕ). option_map_or (λ number. at_fired b number
    (λ e. option_map_or (call b number e) e.active (Ok b))) o (Ok b)) (next_call-event b None broken next)

pub next_fire-call : (b : BaseValue) (k : ℕ) (e : Event) (a : Activation) → b.broken ≡ false → next_event b ≡ Some k → slice_get
    b.events k ≡ Some e → e.active ≡ Some a → next_fire b ≡ Some (k, a.flags)
next_fire-call b k e a broken next is active =
    ap (λ (o : Option ℕ). option_map_or (λ number. option_map_or (λ (e : Event). option_map (λ (a : Activation). (number, a.flags))
    e.active) (slice_get b.events number) None) o None) (next_call-event b (Some k) broken next)
    ∙ ap (λ (o : Option Event). option_map_or (λ (e : Event). option_map (λ (a : Activation). (k, a.flags)) e.active) o None) is
    ∙ ap (option_map (λ (a : Activation). (k, a.flags))) active

pub next_fire-none : (b : BaseValue) → b.broken ≡ false → next_event b ≡ None → next_fire b ≡ None
next_fire-none b broken next = ap (λ (o : Option ℕ). option_map_or (λ number. option_map_or
    (λ (e : Event). option_map (λ (a : Activation). (number, a.flags)) e.active) (slice_get b.events number) None) o None)
    (next_call-event b None broken next)

-- a fault that is Spent where a test says so, and want of memory else, answers the step
pub answer-spent : (b : Bool) (step : Step) (good : BaseValue) (fault : BaseFault) → step ≡ cond b (Err Spent) (Ok good) → fault ≡
    cond b Spent Memory → IsAnswer fault step
answer-spent true step good fault e f = subst (IsAnswer fault) (sym e) f
answer-spent false step good fault e f = subst (IsAnswer fault) (sym e) f

pub answer-memory : (step : Step) (good : BaseValue) (fault : BaseFault) → step ≡ Ok good → fault ≡ Memory → IsAnswer fault step
answer-memory step good fault e f = subst (IsAnswer fault) (sym e) f

-- so many order numbers more fit
pub fit-true : (next more : ℕ) → next + more < 2 ^ 64 → fit next more ≡ true
fit-true next more h = lt-ltb (next + more) (2 ^ 64) h

-- what holds where a call went well
pub on_ok : {T : Type 0} (r : Result T BaseFault) (P Q : Type 0) → OnOk r P → (P → Q) → OnOk r Q
on_ok (Ok x) P Q p f = f p
on_ok (Err e) P Q p f = p

-- what holds of the fault that a call answers, where the fault is known
pub if_err : {T : Type 0} (r : Result T BaseFault) (e : BaseFault) (P : BaseFault → Type 0) → r ≡ Err e → P e → IfErr r P
if_err r e P is p = subst (λ x. IfErr x P) (sym is) p

-- a base with other events and another next order number of activation
abbrev pub with_parts : BaseValue → List Event → ℕ → BaseValue
with_parts b events next = record b { events = events; next_activation = next }

-- a signal whose counts and order numbers fit
pub signal-done : (b new : BaseValue) (number count k : ℕ) (numbers : List ℕ) → numbers ≡ hearing number 0 b.events → k ≡ count →
    (count ≡ 0 → ⊥) → b.next_activation + count_by (is_woken_by number) b.events < 2 ^ 64 → list_any (overflows number count)
    b.events ≡ false
    → new ≡ with_parts b (risen 8 k k b.events b.next_activation numbers) (b.next_activation + length (wakers b.events numbers)) →
    signal b number count ≡ Ok new
signal-done b new number count k numbers are same some low fits is =
    let next = b.next_activation in
    let woken = count_by (is_woken_by number) b.events in
    let good : Step = Ok (with_parts b (signalled number count next b.events) (next + woken)) in
    let events : risen 8 k k b.events next numbers ≡ signalled number count next b.events =
    ap (λ n. risen 8 n n b.events next numbers) same ∙ ap (risen 8 count count b.events next) are ∙ signalled-risen number count
    b.events [] next in
    let total : length (wakers b.events numbers) ≡ woken = ap (λ ks. length (wakers b.events ks)) are ∙ hearing-wakers number b.events [] in
    ap (λ t. cond t (Ok b) (cond (fit next woken && not (list_any (overflows number count) b.events)) good (Err Spent)))
    (ne_eqb count 0 some)
    ∙ ap (λ t. cond (t && not (list_any (overflows number count) b.events)) good (Err Spent)) (fit-true next woken low)
    ∙ ap (λ t. cond (not t) good (Err Spent)) fits
    ∙ ap Ok (sym (is ∙ ap (λ es. with_parts b es (next + length (wakers b.events numbers))) events ∙ ap
    (λ n. with_parts b (signalled number count next b.events) (next + n)) total))

-- a base whose turn has begun
abbrev pub turned : BaseValue → ℕ → ℕ → List Event → ℕ → Bool → BaseValue
turned b now time events next over = record b {
  time = time;
  events = events;
  next_activation = next;
  batch_priority = unwrap_or (least active_priority events) 0;
  batch_end = cond over 0 next;
}

-- a turn whose order numbers fit
pub begin_turn-ok : (b : BaseValue) (now : ℕ) → b.next_activation + count_by (wakes (time_at b.time now)) b.events < 2 ^ 64
    → begin_turn b now ≡ Ok (turned b now (time_at b.time now) (map (timed_out (time_at b.time now) b.next_activation b.events)
    b.events) (b.next_activation + count_by (wakes (time_at b.time now)) b.events) (ended b))
begin_turn-ok b now low = ap (λ t. cond t
    (Ok (turned b now (time_at b.time now) (map (timed_out (time_at b.time now) b.next_activation b.events) b.events)
    (b.next_activation + count_by (wakes (time_at b.time now)) b.events) (ended b))) (Err Spent))
    (fit-true b.next_activation (count_by (wakes (time_at b.time now)) b.events) low)

pub begin_turn-done : (b mid new : BaseValue) (now time : ℕ) (numbers : List ℕ) (over : Bool) → time ≡ time_at b.time now → over ≡ ended b
    → risen 1 1 0 b.events b.next_activation numbers ≡ map (timed_out time b.next_activation b.events) b.events
    → length (wakers b.events numbers) ≡ count_by (wakes time) b.events
    → b.next_activation + count_by (wakes time) b.events < 2 ^ 64
    → mid ≡ with_parts b (risen 1 1 0 b.events b.next_activation numbers) (b.next_activation + length (wakers b.events numbers))
    → new ≡ record mid {
      time = time;
      batch_priority = unwrap_or (least active_priority mid.events) 0;
      batch_end = cond over 0
          mid.next_activation;
    }
    → begin_turn b now ≡ Ok new
begin_turn-done b mid new now time numbers over at_time is_over events total low half whole =
    let next = b.next_activation in
    let made : new ≡ turned b now time (map (timed_out time next b.events) b.events) (next + count_by (wakes time) b.events) (ended b) =
    whole
    ∙ ap (λ (m : BaseValue). record m {
      time = time;
      batch_priority = unwrap_or (least active_priority m.events) 0;
      batch_end =
          cond over 0 m.next_activation;
    }) half
    ∙ ap (λ es. turned b now time es (next + length (wakers b.events numbers)) over) events
    ∙ ap (λ n. turned b now time (map (timed_out time next b.events) b.events) (next + n) over) total
    ∙ ap (turned b now time (map (timed_out time next b.events) b.events) (next + count_by (wakes time) b.events)) is_over in
    let low_then : next + count_by (wakes (time_at b.time now)) b.events < 2 ^ 64 = subst (λ t. next + count_by (wakes t) b.events
    < 2 ^ 64) at_time low in
    begin_turn-ok b now low_then
    ∙ ap (λ t. Ok (turned b now t (map (timed_out t next b.events) b.events) (next + count_by (wakes t) b.events) (ended b))) (sym at_time)
    ∙ ap Ok (sym made)

-- the base behind the start of a callback
abbrev pub called_base : BaseValue → ℕ → Event → Activation → BaseValue
called_base b k e a = record (with_event b k (called b.time (b.last_adding + 1) a e)) {
  last_adding = b.last_adding + (cond (is_set_again e) 1 0);
}

pub call-ok : (b : BaseValue) (k : ℕ) (e : Event) (a : Activation) → is_past_numbers b.time (b.last_adding + 1) a.flags e ≡ false →
    call b k e a ≡ Ok (called_base b k e a)
call-ok b k e a fits = ap (λ t. cond t (Err Spent) (Ok (called_base b k e a))) fits

-- the events and what is kept beside them as a callback of one starts
pub called-kept : (events : List Event) (before after : DeadlinesValue) (ready : ReadyValue) (k : ℕ) (e : Event) (a : Activation)
    (timeout : Option Timeout) → AreKept events before ready → slice_get events k ≡ Some e → e.active ≡ Some a → after.moments ≡
    set before.moments k (option_map moment_at timeout)
    → AreKept (set events k (record e { pending = e.persist && e.pending; timeout = timeout; active = one_less a })) after
    (record ready { places = cond (is_some (one_less a)) ready.places (set ready.places k None) })
called-kept events before after ready k e a timeout kept is active moments = AreKept-as _
    (record before { moments = set before.moments k (option_map moment_at timeout) }) after _ moments (split (nat_le a.count 1) refl)
  where
    low : e.priority < ready.priorities
    low = priority-within events before ready k e kept is

    place : Activation → Place
    place x = record { priority = e.priority; order = x.order }

    left : Option Activation → Event
    left o = record e { pending = e.persist && e.pending; timeout = timeout; active = o }

    split : (b : Bool) → nat_le a.count 1 ≡ b → AreKept
        (set events k (left (cond b None (Some (record a { count = a.count - 1 })))))
        (record before { moments = set before.moments k (option_map moment_at timeout) })
        (record ready {
          places = cond (is_some (cond b None (Some (record a { count = a.count - 1 })))) ready.places
              (set ready.places k None);
        })
    split true h = AreKept-set events before ready k e (left None) (option_map moment_at timeout) None kept is refl refl low
    split false h = AreKept-moment events before ready k e (left (Some (record a { count = a.count - 1 })))
        (option_map moment_at timeout) kept is refl
        (ap (option_map (λ (x : Activation). record { priority = e.priority; order = x.order })) (sym active)) low
