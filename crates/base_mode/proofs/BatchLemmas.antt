-- A fire takes one from what the batch of a turn owes.
use Rattle.std.proofs.Common.{◌≡◌, ap, refl, ℕ, ◌+◌, ◌^◌, ◌≤◌, ◌&&◌, ◌==◌, not, Bool, true, false, cond, nat_lt, length, count_by, get_or}
use Rattle.std.proofs.Common.{arith, Option, Some, None, option_map, slice_get, slice_index, slice_set, Ok, Err}
use Rattle.std.specs.Option.{option_map_or}
use Rattle.std.specs.List.{list_any}
use Rattle.std.proofs.lemmas.Bool.{and_parts}
use Rattle.std.proofs.lemmas.List.Quantifiers.{position-Some}
use Rattle.std.proofs.lemmas.Option.{get_or_from_slice_get}
use Rattle.event_base.specs.declared.event.Event.{Event}
use Rattle.event_base.specs.declared.event.Activation.{Activation}
use Rattle.event_base.specs.declared.fault.BaseFault.{BaseFault}
use Rattle.event_base.specs.declared.fault.BaseFault.TheVariants as base
use Rattle.event_base.specs.Base.{BaseValue}
use Rattle.event_base.specs.Turns.{time_at, wakes, in_batch, made_earlier, is_first, next_event}
use Rattle.event_base.specs.Events.{called}
use Rattle.event_base.specs.Calls as call
use Rattle.event_base.specs.Fires.{is_past_numbers, is_set_again}
use Rattle.base_mode.specs.Order.{made}
use Rattle.base_mode.specs.Run.{RunValue, Outcome, Fired, fired, next_fired, called_back, after_call, after_fire, after_acts, acts_at}
use Rattle.base_mode.specs.Run.{with_text, fired_text}
use Rattle.base_mode.specs.Turned.{owed_by, IsClosed}
use Rattle.base_mode.proofs.OwedLemmas.{Falls, Falls-then, Falls-refl, owed-set, weight-called, fire_found, if-Ok, if-not-Ok}
use Rattle.base_mode.proofs.OwedLemmas.{after_acts-falls}

-- a batch has what was active as the turn began, and nothing that comes later
ended-closed : (over : Bool) (next : ℕ) → cond over 0 next ≤ next
ended-closed true next = omega arith
ended-closed false next = omega arith

-- where a step goes on from a test, what holds of the base that it goes on to holds of this one
if-holds : (P : BaseValue → Type 0) (t : Bool) (x b : BaseValue) (why : BaseFault) → P x →
    cond {A = call.Step} t (Ok x) (Err why) ≡ Ok b → P b
if-holds P t x b why holds is = rw (← if-Ok t x b why is) holds

pub begun-closed : (b next : BaseValue) (now : ℕ) → call.begin_turn b now ≡ Ok next → IsClosed next
begun-closed b next now is =
    if-holds IsClosed _ _ next base.Spent
    (ended-closed (call.ended b) (b.next_activation + count_by (wakes (time_at b.time now)) b.events)) is

-- an event that is in the batch is active
batch_active : (o : Option Activation) (p : Bool) (end : ℕ) → (p && option_map_or (λ a. nat_lt a.order end) o false) ≡ true →
    (a : Activation) × (o ≡ Some a)
batch_active None p end is = let parts = and_parts p false is in cc (parts.1)
batch_active (Some a) p end is = (a, refl)

-- the event whose callback is next was found in the batch
next_call-event : (t : Bool) (o : Option ℕ) (number : ℕ) → cond t None o ≡ Some number → o ≡ Some number
next_call-event true o number is = cc
next_call-event false o number is = is

-- a callback starts
call-falls : (b : BaseValue) (number : ℕ) (e : Event) (o : Option Activation) (next : BaseValue) → IsClosed b →
    slice_get b.events number ≡ Some e → e.active ≡ o
    → in_batch b e ≡ true → option_map_or (call.call b number e) o (Ok b) ≡ Ok next → Falls 1 b next
call-falls b number e None next closed is active batch goes =
    let off : (e.priority == b.batch_priority && false) ≡ true = rw active at batch in
    let parts = and_parts (e.priority == b.batch_priority) false off in
    cc (parts.1)
call-falls b number e (Some a) next closed is active batch goes =
    let then : BaseValue =
    record (call.with_event b number (called b.time (b.last_adding + 1) a e))
    { last_adding = b.last_adding + cond (is_set_again e) 1 0 } in
    let on : (e.priority == b.batch_priority && nat_lt a.order b.batch_end) ≡ true = rw active at batch in
    let fewer : owed_by b (called b.time (b.last_adding + 1) a e) + 1 ≤ owed_by b e =
    rw active (weight-called b.batch_priority b.batch_end e.priority a on) in
    rw (← if-not-Ok (is_past_numbers b.time (b.last_adding + 1) a.flags e) then next base.Spent goes) (record {
      closed = closed;
      less = owed-set 1 b number e (called b.time (b.last_adding + 1) a e) is fewer;
    })

-- the next callback of the batch starts
starts-falls : (b : BaseValue) (o : Option ℕ) (next : BaseValue) (fire : ℕ × ℕ) → IsClosed b → call.next_call b ≡ o
    → option_map_or (λ number. option_map_or (λ e. option_map_or (call.call b number e) e.active (Ok b))
    (slice_get b.events number) (Err base.NoEvent)) o (Ok b) ≡ Ok next
    → option_map_or (λ number. option_map_or (λ e. option_map (λ a. (number, a.flags)) e.active) (slice_get b.events number) None) o
    None ≡ Some fire
    → Falls 1 b next
starts-falls b None next fire closed from goes fires = cc
starts-falls b (Some number) next fire closed from goes fires =
    let found = fire_found (slice_get b.events number) (λ (e : Event). option_map_or (call.call b number e) e.active (Ok b)) next goes in
    let first = position-Some (is_first b) b.events number found.0 (next_call-event b.broken (next_event b) number from) in
    let here : get_or b.events number found.0 ≡ found.0 = get_or_from_slice_get b.events number found.0 found.0 found.1 in
    let passes : is_first b found.0 ≡ true = rw here at first.1 in
    let batch = and_parts (in_batch b found.0) (not (list_any (λ other. in_batch b other && made_earlier other found.0) b.events)) passes in
    call-falls b number found.0 found.0.active next closed found.1 refl batch.0 found.2

-- what a callback does
after_fire-falls : (r : RunValue) (event nth : ℕ) (next : BaseValue) → IsClosed r.base → after_fire r event nth ≡ Some next →
    Falls 0 r.base next
after_fire-falls r event nth next closed is =
    elim (nat_lt nth (2 ^ 64)) as
    (λ t. cond t (after_acts r.base (made r.before) (acts_at event nth r.before)) None ≡ Some next → Falls 0 r.base next) [
      | true ↦ λ went. after_acts-falls r.base (made r.before) (acts_at event nth r.before) next closed went
      | false ↦ λ none. cc
    ] is

after_call-falls : (r : RunValue) (number nth : ℕ) (o : Option BaseValue) (next : RunValue) →
    ((b : BaseValue) → o ≡ Some b → Falls 0 r.base b)
    → after_call r number nth o ≡ Ok next → Falls 0 r.base next.base
after_call-falls r number nth None next falls is = cc
after_call-falls r number nth (Some b) next falls is =
    let whole : record r { base = b; fires = slice_set r.fires number nth } ≡ next = cc in
    let same : b ≡ next.base = ap (λ (run : RunValue). run.base) whole in
    rw (← same) (falls b refl)

called_back-falls : (r : RunValue) (number flags : ℕ) (next : RunValue) → IsClosed r.base → called_back r number flags ≡ Ok next →
    Falls 0 r.base next.base
called_back-falls r number flags next closed is =
    let event = slice_index (made r.before) number in
    let nth = slice_index r.fires number + 1 in
    let told = with_text r (fired_text event flags) in
    elim (nat_lt number (length r.fires)) as
    (λ t. cond {A = Outcome} t (after_call told number nth (after_fire r event nth)) (Ok r) ≡ Ok next → Falls 0 r.base next.base) [
      | true ↦ λ went. after_call-falls told number nth (after_fire r event nth) next
          (λ b done. after_fire-falls r event nth b closed done) went
      | false ↦ λ went.
          let whole : r ≡ next = cc in
          let same : r.base ≡ next.base = ap (λ (run : RunValue). run.base) whole in
          rw (← same) (Falls-refl r.base closed)
    ] is

-- a fire
fired-falls : (r : RunValue) (step : call.Step) (fire : Option (ℕ × ℕ)) (next : RunValue) → IsClosed r.base →
    ((b : BaseValue) (f : ℕ × ℕ) → step ≡ Ok b → fire ≡ Some f → Falls 1 r.base b)
    → fired r step fire ≡ Fired.Called (Ok next) → Falls 1 r.base next.base
fired-falls r (Err why) fire next closed falls is = cc
fired-falls r (Ok b) None next closed falls is = cc
fired-falls r (Ok b) (Some f) next closed falls is =
    let one = falls b f refl refl in
    let went : called_back (record r { base = b }) f.0 f.1 ≡ Ok next = cc in
    Falls-then 1 r.base b next.base one (called_back-falls (record r { base = b }) f.0 f.1 next one.closed went)

pub next_fired-falls : (r next : RunValue) → IsClosed r.base → next_fired r ≡ Fired.Called (Ok next) → Falls 1 r.base next.base
next_fired-falls r next closed is =
    fired-falls r (call.next_active r.base) (call.next_fire r.base) next closed
    (λ b f goes fires. starts-falls r.base (call.next_call r.base) b f closed refl goes fires) is
