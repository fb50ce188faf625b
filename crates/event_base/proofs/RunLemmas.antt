-- What calls in a row leave of an event that is neither pending nor active, and of a freed one.
use Rattle.std.proofs.Common.{◌⊎◌, inl, inr, suc, zero, ◌≡◌, ◌≢◌, ℕ, ◌+◌, ◌-◌, ◌<◌, ◌≤◌, ◌==◌, ◌^◌, Bool, true, false, not, ◌&&◌, ◌||◌}
use Rattle.std.proofs.Common.{cond, List, [], ◌∷◌, ◌++◌, length, set, map, slice_get, nat_lt, count_by, Option, Some, None, option_map}
use Rattle.std.proofs.Common.{Result, Ok, Err, refl, sym, ◌∙◌, ap, subst, ⊎_elim, arith}
use Rattle.std.proofs.lemmas.Bool.{cases_eq, eq-eqb, le-ltb, lt-ltb, or_parts}
use Rattle.std.proofs.lemmas.Option.{slice_get-map}
use Rattle.std.specs.List.{list_any}
use Rattle.std.specs.Option.{option_map_or}
use Rattle.event_base.specs.declared.event.Event.{Event}
use Rattle.event_base.specs.declared.event.Activation.{Activation}
use Rattle.event_base.specs.declared.event.Timeout.{Timeout}
use Rattle.event_base.specs.declared.fault.BaseFault.{BaseFault}
use Rattle.event_base.specs.declared.fault.BaseFault.TheVariants.{NoEvent, BadPriority, IsActive, Spent, TooManyDelays}
use Rattle.event_base.specs.Base.{BaseValue}
use Rattle.event_base.specs.Events.{made, is_active, activated, added, deleted, freed_event, unless_freed, called, set_again}
use Rattle.event_base.specs.Turns.{time_at, wakes, timed_out}
use Rattle.event_base.specs.Fires.{hears, is_woken_by, signalled, overflows, is_past_numbers}
use Rattle.event_base.specs.Calls.{Step, fit, with_event, add_event, call, next_call, next_fire, next_active, loop_break, loop_exit}
use Rattle.event_base.specs.Freeing.{is_pending}
use Rattle.min_timer.specs.Queue.{with_delay, are_too_many}
use Rattle.event_base.specs.BaseLaws.{HasNoCallback, IsUnknown, DeletedIsQuiet, FreedIsGone, IsSetAgain, PersistentIsSetAgain}
use Rattle.event_base.specs.CallsInARow.{BaseCall, done, LeadsTo, rouses}
use Rattle.event_base.proofs.TiedLemmas.{slice_get-set_same, slice_get-set_other, slice_get-within, slice_get-push}
use Rattle.event_base.proofs.CallLemmas.{called_base}

-- where a step goes on from a test, it is this one
pub if-Ok : (t : Bool) (x b : BaseValue) (why : BaseFault) → cond {A = Step} t (Ok x) (Err why) ≡ Ok b → x ≡ b
if-Ok true x b why is = cc
if-Ok false x b why is = cc

pub if-not-Ok : (t : Bool) (step : Step) (b : BaseValue) (why : BaseFault) → cond {A = Step} t (Err why) step ≡ Ok b → step ≡ Ok b
if-not-Ok true step b why is = cc
if-not-Ok false step b why is = is

abbrev good : BaseValue → Step
good b = Ok b

Ok-same : (x b : BaseValue) → good x ≡ Ok b → x ≡ b
Ok-same x b is = cc

-- a call on an event found it
pub record Found (o : Option Event) (step : Event → Step) (b : BaseValue) : Type 0 where
  pub event : Event
  pub there : o ≡ Some event
  pub live : event.freed ≡ false
  pub goes : step event ≡ Ok b

pub found : (o : Option Event) (step : Event → Step) (b : BaseValue) → option_map_or step (unless_freed o) (Err NoEvent) ≡ Ok b
    → Found o step b
found None step b is = cc
found (Some e) step b is = split e.freed refl
  where
    split : (t : Bool) → e.freed ≡ t → Found (Some e) step b
    split true h = (let bad : Err NoEvent ≡ Ok b = subst (λ t. option_map_or step (cond t None (Some e)) (Err NoEvent) ≡ Ok b) h is in cc)
    split false h = record {
      event = e;
      there = refl;
      live = h;
      goes = subst (λ t. option_map_or step (cond t None (Some e)) (Err NoEvent) ≡ Ok b) h is;
    }

-- the event is neither pending nor active, and was freed where that is asked
pub record Rests (gone : Bool) (e : Event) : Type 0 where
  pub pending : e.pending ≡ false
  pub timeout : e.timeout ≡ None
  pub active : e.active ≡ None
  pub freed : gone ≡ true → e.freed ≡ true

-- so is the event with a number
pub record RestsAt (gone : Bool) (k : ℕ) (events : List Event) : Type 0 where
  pub event : Event
  pub there : slice_get events k ≡ Some event
  pub rests : Rests gone event

-- an event changes: the one that rests does so still, or it is another
rests-set : (gone : Bool) (k j : ℕ) (events : List Event) (x : Event) → RestsAt gone k events
    → ((e : Event) → slice_get events j ≡ Some e → Rests gone e → j ≡ k → Rests gone x) → RestsAt gone k (set events j x)
rests-set gone k j events x r same = ⊎_elim
    (λ q. (let here : slice_get events j ≡ Some r.event = ap (slice_get events) q ∙ r.there in record {
      event = x;
      there = ap (slice_get (set events j x)) (sym q) ∙ slice_get-set_same events j r.event x here;
      rests = same r.event here r.rests q;
    }))
    (λ n. record {
      event = r.event;
      there = slice_get-set_other events j k x (λ q. n (sym q)) ∙ r.there;
      rests = r.rests;
    })
    (cases_eq j k)

-- a signal leaves an event that does not hear it
signalled-still : (number count : ℕ) (events : List Event) (next k : ℕ) (e : Event) → slice_get events k ≡ Some e → e.pending ≡ false
    → slice_get (signalled number count next events) k ≡ Some e
signalled-still number count [] next k e is still = cc
signalled-still number count (x ∷ xs) next zero e is still =
    let same : x ≡ e = cc in
    let deaf : hears number e ≡ false = ap (λ t. t && option_map_or (λ s. s == number) e.signal false) still in
    rw (same, deaf) refl
signalled-still number count (x ∷ xs) next (suc k) e is still =
    signalled-still number count xs (next + cond (is_woken_by number x) 1 0) k e is still

-- a turn leaves an event without a timeout
timed_out-still : (time next : ℕ) (events : List Event) (e : Event) → e.timeout ≡ None → timed_out time next events e ≡ e
timed_out-still time next events e none = rw none refl

-- the callback that starts is not that of an event that rests
next-rests : (gone : Bool) (k : ℕ) (b next : BaseValue) (o : Option ℕ) → RestsAt gone k b.events
    → option_map_or (λ number. option_map_or (λ e. option_map_or (call b number e) e.active (Ok b)) (slice_get b.events number) (Err
    NoEvent)) o (Ok b) ≡ Ok next → RestsAt gone k next.events
next-rests gone k b next None r is = (let same : b ≡ next = cc in subst (λ (x : BaseValue). RestsAt gone k x.events) same r)
next-rests gone k b next (Some j) r is = at_number (slice_get b.events j) refl is
  where
    at_active : (e : Event) (a : Option Activation) → slice_get b.events j ≡ Some e → e.active ≡ a → option_map_or (call b j e) a (Ok b) ≡
        Ok next → RestsAt gone k next.events
    at_active e None there active went = (let same : b ≡ next = cc in subst (λ (x : BaseValue). RestsAt gone k x.events) same r)
    at_active e (Some a) there active went =
        let same : called_base b j e a ≡ next = Ok-same (called_base b j e a) next (if-not-Ok
        (is_past_numbers b.time (b.last_adding + 1) a.flags e) (Ok (called_base b j e a)) next Spent went) in
        subst (λ (x : BaseValue). RestsAt gone k x.events) same (rests-set gone k j b.events _ r
        (λ x is_x rests q. (let one : x ≡ e = cc in let none : e.active ≡ None = rw (← one) rests.active in cc)))

    at_number : (o : Option Event) → slice_get b.events j ≡ o → option_map_or
        (λ (e : Event). option_map_or (call b j e) e.active (Ok b)) o (Err NoEvent) ≡ Ok next → RestsAt gone k next.events
    at_number None there went = cc
    at_number (Some e) there went = at_active e e.active there refl went

-- a call on an event that rests was neither refused nor one that rouses it
roused : (gone : Bool) (k event : ℕ) → ((event == k) ≡ false) ⊎ (gone ≡ true) → event ≡ k → (live e : Event) → e ≡ live → live.freed ≡
    false → Rests gone e → ⊥
roused gone k event (inl other) q live e one is_live rests = (let yes : (event == k) ≡ true = eq-eqb event k q in cc)
roused gone k event (inr g) q live e one is_live rests = (let was = rests.freed g in cc)

-- an event that rests goes on resting over a call that doesn't rouse it, and a freed one over any call
pub rests-done : (gone : Bool) (k : ℕ) (c : BaseCall) (b next : BaseValue) → (rouses k c ≡ false) ⊎ (gone ≡ true) → done c b ≡ Ok next →
    RestsAt gone k b.events → RestsAt gone k next.events
rests-done gone k (BaseCall.NewEvent persist number) b next may is r =
    let new = made persist number _ in
    let same : record b { events = b.events ++ new ∷ [] } ≡ next = if-Ok (nat_lt (length b.events) (2 ^ 32))
    (record b { events = b.events ++ new ∷ [] }) next Spent is in
    subst (λ (x : BaseValue). RestsAt gone k x.events) same (record {
      event = r.event;
      there = slice_get-push b.events new k (λ q. (let low = slice_get-within b.events k r.event r.there in omega (arith, low, q)))
          ∙ r.there;
      rests = r.rests;
    })
rests-done gone k (BaseCall.SetPriority event priority) b next may is r =
    let f = found (slice_get b.events event) _ next is in
    let x : Event = record (f.event) { priority = priority } in
    let same : with_event b event x ≡ next = Ok-same (with_event b event x) next (if-not-Ok (is_active f.event)
    (Ok (with_event b event x)) next IsActive (if-not-Ok (not (nat_lt priority b.priorities)) _ next BadPriority f.goes)) in
    subst (λ (y : BaseValue). RestsAt gone k y.events) same (rests-set gone k event b.events x r
    (λ e there rests q. (let one : e ≡ f.event = cc (there, f.there) in record {
      pending = ap (λ (y : Event). y.pending) (sym one) ∙ rests.pending;
      timeout = ap (λ (y : Event). y.timeout) (sym one) ∙ rests.timeout;
      active = ap (λ (y : Event). y.active) (sym one) ∙ rests.active;
      freed = λ g. ap (λ (y : Event). y.freed) (sym one) ∙ rests.freed g;
    })))
rests-done gone k (BaseCall.AddEvent event None) b next may is r =
    let f = found (slice_get b.events event) _ next is in
    let same : with_event b event (added None f.event) ≡ next = Ok-same _ next f.goes in
    subst (λ (y : BaseValue). RestsAt gone k y.events) same (rests-set gone k event b.events (added None f.event) r
    (λ e there rests q. absurd (roused gone k event may q f.event e (cc (there, f.there)) f.live rests)))
rests-done gone k (BaseCall.AddEvent event (Some delay)) b next may is r =
    let f = found (slice_get b.events event) _ next is in
    let timeout : Timeout = record { deadline = b.time + delay; delay = delay; order = b.last_adding + 1 } in
    let then : BaseValue = record (with_event b event (added (Some timeout) f.event)) { last_adding = b.last_adding + 1 } in
    let same : then ≡ next = if-Ok (fit b.last_adding 1) then next Spent f.goes in
    subst (λ (y : BaseValue). RestsAt gone k y.events) same (rests-set gone k event b.events (added (Some timeout) f.event) r
    (λ e there rests q. absurd (roused gone k event may q f.event e (cc (there, f.there)) f.live rests)))
rests-done gone k (BaseCall.DelEvent event) b next may is r =
    let f = found (slice_get b.events event) _ next is in
    let same : with_event b event (deleted f.event) ≡ next = Ok-same _ next f.goes in
    subst (λ (y : BaseValue). RestsAt gone k y.events) same (rests-set gone k event b.events (deleted f.event) r
    (λ e there rests q. (let one : e ≡ f.event = cc (there, f.there) in record {
      pending = refl;
      timeout = refl;
      active = refl;
      freed = λ g. ap (λ (x : Event). x.freed) (sym one) ∙ rests.freed g;
    })))
rests-done gone k (BaseCall.FreeEvent event) b next may is r =
    let f = found (slice_get b.events event) _ next is in
    let same : with_event b event (freed_event f.event) ≡ next = Ok-same _ next f.goes in
    subst (λ (y : BaseValue). RestsAt gone k y.events) same (rests-set gone k event b.events (freed_event f.event) r
    (λ e there rests q. record {
      pending = refl;
      timeout = refl;
      active = refl;
      freed = λ g. refl;
    }))
rests-done gone k (BaseCall.Activate event what) b next may is r =
    let f = found (slice_get b.events event) _ next is in
    let woken = cond (is_active f.event) 0 1 in
    let x = activated what b.next_activation 1 0 f.event in
    let then : BaseValue = record (with_event b event x) { next_activation = b.next_activation + woken } in
    let same : then ≡ next = if-Ok (fit b.next_activation woken) then next Spent f.goes in
    subst (λ (y : BaseValue). RestsAt gone k y.events) same (rests-set gone k event b.events x r
    (λ e there rests q. absurd (roused gone k event may q f.event e (cc (there, f.there)) f.live rests)))
rests-done gone k (BaseCall.Signal number count) b next may is r = split (count == 0) refl
  where
    woken : ℕ
    woken = count_by (is_woken_by number) b.events

    then : BaseValue
    then = record b { events = signalled number count b.next_activation b.events; next_activation = b.next_activation + woken }

    split : (t : Bool) → (count == 0) ≡ t → RestsAt gone k next.events
    split true h =
        let same : b ≡ next = Ok-same b next (subst (λ t. cond {A = Step} t (Ok b) (cond
        (fit b.next_activation woken && not (list_any (overflows number count) b.events)) (Ok then) (Err Spent)) ≡ Ok next) h is) in
        subst (λ (y : BaseValue). RestsAt gone k y.events) same r
    split false h =
        let same : then ≡ next = if-Ok (fit b.next_activation woken && not (list_any (overflows number count) b.events)) then next
        Spent (subst (λ t. cond {A = Step} t (Ok b) (cond
        (fit b.next_activation woken && not (list_any (overflows number count) b.events)) (Ok then) (Err Spent)) ≡ Ok next) h is) in
        subst (λ (y : BaseValue). RestsAt gone k y.events) same (record {
          event = r.event;
          there = signalled-still number count b.events b.next_activation k r.event r.there r.rests.pending;
          rests = r.rests;
        })
rests-done gone k (BaseCall.BeginTurn now) b next may is r =
    let time = time_at b.time now in
    let events = map (timed_out time b.next_activation b.events) b.events in
    let same = if-Ok (fit b.next_activation (count_by (wakes time) b.events)) _ next Spent is in
    subst (λ (y : BaseValue). RestsAt gone k y.events) same (record {
      event = r.event;
      there = slice_get-map (timed_out time b.next_activation b.events) b.events k
          ∙ ap (option_map (timed_out time b.next_activation b.events)) r.there
          ∙ ap Some (timed_out-still time b.next_activation b.events r.event r.rests.timeout);
      rests = r.rests;
    })
rests-done gone k BaseCall.NextActive b next may is r = next-rests gone k b next (next_call b) r is
rests-done gone k BaseCall.LoopBreak b next may is r =
    (let same = Ok-same (loop_break b) next is in subst (λ (y : BaseValue). RestsAt gone k y.events) same r)
rests-done gone k BaseCall.LoopExit b next may is r =
    (let same = Ok-same (loop_exit b) next is in subst (λ (y : BaseValue). RestsAt gone k y.events) same r)
rests-done gone k (BaseCall.Common delay) b next may is r =
    (let same = if-not-Ok (are_too_many delay b.delays) (Ok (record b { delays = with_delay delay b.delays })) next TooManyDelays is in
    let one = Ok-same (record b { delays = with_delay delay b.delays }) next same in
    subst (λ (y : BaseValue). RestsAt gone k y.events) one r)

-- none of the calls rouses it, or it was freed
pub rests-led : (gone : Bool) (k : ℕ) (calls : List BaseCall) (b last : BaseValue) → (list_any (rouses k) calls ≡ false) ⊎ (gone ≡ true)
    → LeadsTo b calls last → RestsAt gone k b.events → RestsAt gone k last.events
rests-led gone k [] b last may led r = subst (λ (x : BaseValue). RestsAt gone k x.events) led r
rests-led gone k (c ∷ cs) b last may led r =
    rests-led gone k cs led.0 last (⊎_elim (λ h. inl (or_parts (rouses k c) (list_any (rouses k) cs) h).1) (λ g. inr g) may) led.2
    (rests-done gone k c b led.0 (⊎_elim (λ h. inl (or_parts (rouses k c) (list_any (rouses k) cs) h).0) (λ g. inr g) may) led.1 r)

-- an event that is next is active
pub record Firing (b : BaseValue) (k flags : ℕ) : Type 0 where
  pub next : next_call b ≡ Some k
  pub event : Event
  pub there : slice_get b.events k ≡ Some event
  pub activation : Activation
  pub active : event.active ≡ Some activation
  pub flags_are : activation.flags ≡ flags

Some-pair : (x y : ℕ × ℕ) → Some x ≡ Some y → x ≡ y
Some-pair x y h = cc

pub firing : (b : BaseValue) (k flags : ℕ) → next_fire b ≡ Some (k, flags) → Firing b k flags
firing b k flags is = at_call (next_call b) refl is
  where
    fire_of : Option ℕ → Option (ℕ × ℕ)
    fire_of o = option_map_or (λ number. option_map_or (λ (e : Event). option_map {U = ℕ × ℕ} (λ (a : Activation). (number, a.flags)) e.active)
        (slice_get b.events number) None) o None

    at_active : (j : ℕ) (e : Event) (a : Option Activation) → next_call b ≡ Some j → slice_get b.events j ≡ Some e → e.active ≡ a →
        option_map {U = ℕ × ℕ} (λ (a : Activation). (j, a.flags)) a ≡ Some (k, flags) → Firing b k flags
    at_active j e None is_next there active h = cc
    at_active j e (Some a) is_next there active h =
        let pair = Some-pair (j, a.flags) (k, flags) h in
        let number : j ≡ k = ap (λ (x : ℕ × ℕ). x.0) pair in record {
          next = is_next ∙ ap Some number;
          event = e;
          there = ap (slice_get b.events) (sym number) ∙ there;
          activation = a;
          active = active;
          flags_are = ap (λ (x : ℕ × ℕ). x.1) pair;
        }

    at_event : (j : ℕ) (o : Option Event) → next_call b ≡ Some j → slice_get b.events j ≡ o → option_map_or
        (λ (e : Event). option_map {U = ℕ × ℕ} (λ (a : Activation). (j, a.flags)) e.active) o None ≡ Some (k, flags) → Firing b k flags
    at_event j None is_next there h = cc
    at_event j (Some e) is_next there h = at_active j e e.active is_next there refl h

    at_call : (o : Option ℕ) → next_call b ≡ o → fire_of o ≡ Some (k, flags) → Firing b k flags
    at_call None is_next h = cc
    at_call (Some j) is_next h = at_event j (slice_get b.events j) is_next refl h

rests-quiet : (gone : Bool) (k : ℕ) (b : BaseValue) → RestsAt gone k b.events → HasNoCallback k b
rests-quiet gone k b r flags is =
    let f = firing b k flags is in
    let none = r.rests.active in
    let some = f.active in
    let one : r.event ≡ f.event = cc (r.there, f.there) in cc (none, some, one)

rests-unknown : (k : ℕ) (b : BaseValue) → RestsAt true k b.events → IsUnknown k b
rests-unknown k b r =
    let gone : unless_freed (slice_get b.events k) ≡ None = ap unless_freed r.there ∙ ap
    (λ t. cond {A = Option Event} t None (Some r.event)) (r.rests.freed refl) in
    record {
      set = λ priority. rw gone refl;
      added = λ timeout. unknown-added timeout gone;
      deleted = rw gone refl;
      freed = rw gone refl;
      activated = λ what. rw gone refl;
      pending = rw gone refl;
    }
  where
    unknown-added : (timeout : Option ℕ) → unless_freed (slice_get b.events k) ≡ None → add_event b k timeout ≡ Err NoEvent
    unknown-added None gone = rw gone refl
    unknown-added (Some delay) gone = rw gone refl

abbrev pends : Event → Result Bool BaseFault
pends e = Ok e.pending

pub deleted-is_quiet : DeletedIsQuiet
deleted-is_quiet before after last k calls is led calm =
    let f = found (slice_get before.events k) _ after is in
    let same : with_event before k (deleted f.event) ≡ after = Ok-same _ after f.goes in
    let at_once : RestsAt false k after.events = subst (λ (x : BaseValue). RestsAt false k x.events) same (record {
      event = deleted f.event;
      there = slice_get-set_same before.events k f.event (deleted f.event) f.there;
      rests = record { pending = refl; timeout = refl; active = refl; freed = λ g. cc };
    }) in
    let r = rests-led false k calls after last (inl calm) led at_once in
    (rests-quiet false k last r, λ says. not-pending r says)
  where
    is_pending-at : (r : RestsAt false k last.events) (o : Option Event) → unless_freed (Some r.event) ≡ o → is_pending last k ≡
        option_map_or pends o (Err NoEvent)
    is_pending-at r o h = ap (λ x. option_map_or pends (unless_freed x) (Err NoEvent)) r.there ∙ ap
        (λ x. option_map_or pends x (Err NoEvent)) h

    not-pending : RestsAt false k last.events → is_pending last k ≡ Ok true → ⊥
    not-pending r says = split r.event.freed refl
      where
        split : (t : Bool) → r.event.freed ≡ t → ⊥
        split true h =
            let bad : Err NoEvent ≡ Ok true = sym (is_pending-at r (cond true None (Some r.event)) (ap
            (λ t. cond {A = Option Event} t None (Some r.event)) h)) ∙ says in cc
        split false h =
            let bad : pends r.event ≡ Ok true = sym (is_pending-at r (cond false None (Some r.event)) (ap
            (λ t. cond {A = Option Event} t None (Some r.event)) h)) ∙ says in
            let still = r.rests.pending in cc

pub freed-is_gone : FreedIsGone
freed-is_gone before after last k calls is led =
    let f = found (slice_get before.events k) _ after is in
    let same : with_event before k (freed_event f.event) ≡ after = Ok-same _ after f.goes in
    let at_once : RestsAt true k after.events = subst (λ (x : BaseValue). RestsAt true k x.events) same (record {
      event = freed_event f.event;
      there = slice_get-set_same before.events k f.event (freed_event f.event) f.there;
      rests = record { pending = refl; timeout = refl; active = refl; freed = λ g. refl };
    }) in
    let r = rests-led true k calls after last (inr refl) led at_once in
    (rests-quiet true k last r, rests-unknown k last r)

set_again-is : (time order flags : ℕ) (t : Timeout) → IsSetAgain time order flags t (set_again time order flags t)
set_again-is time order flags t = record {
  beat = λ fired in_time. ap from fired ∙ ap (λ c. cond c (time + t.delay) (t.deadline + t.delay))
      (le-ltb (t.deadline + t.delay) time in_time);
  late = λ fired past. ap from fired ∙ ap (λ c. cond c (time + t.delay) (t.deadline + t.delay))
      (lt-ltb (t.deadline + t.delay) time past);
  early = λ other. ap from other ∙ ap (λ c. cond c (time + t.delay) (time + t.delay)) (le-ltb (time + t.delay) time (omega arith));
  delay = refl;
  order = refl;
}
  where
    from : Bool → ℕ
    from c = cond (nat_lt (cond c t.deadline time + t.delay) time) (time + t.delay) (cond c t.deadline time + t.delay)

pub persistent-is_set_again : PersistentIsSetAgain
persistent-is_set_again b next k flags e t fires went there persists timed =
    let f = firing b k flags fires in
    let a = f.activation in
    let order = b.last_adding + 1 in
    let one : e ≡ f.event = cc (f.there, there) in
    let active : e.active ≡ Some a = ap (λ (x : Event). x.active) one ∙ f.active in
    let starts : next_active b ≡ call b k e a = ap (λ o. option_map_or (λ number. option_map_or
    (λ (e : Event). option_map_or (call b number e) e.active (Ok b)) (slice_get b.events number) (Err NoEvent)) o (Ok b)) f.next
    ∙ ap (λ o. option_map_or (λ (e : Event). option_map_or (call b k e) e.active (Ok b)) o (Err NoEvent)) there
    ∙ ap (λ o. option_map_or (call b k e) o (Ok b)) active in
    let same : called_base b k e a ≡ next = Ok-same (called_base b k e a) next (if-not-Ok
    (is_past_numbers b.time order a.flags e) (good (called_base b k e a)) next Spent (sym starts ∙ went)) in
    let after = called b.time order a e in
    let u = set_again b.time order a.flags t in
    let is : slice_get next.events k ≡ Some after = ap (λ (x : BaseValue). slice_get x.events k) (sym same) ∙ slice_get-set_same
    b.events k e after there in
    let waits : after.timeout ≡ Some u = ap (λ c. option_map (set_again b.time order a.flags) (cond c e.timeout None)) persists ∙ ap
    (option_map (set_again b.time order a.flags)) timed in (
      after,
      u,
      is,
      (ap (λ c. c && e.pending) persists, waits),
      subst (λ n. IsSetAgain b.time order n t u) f.flags_are (set_again-is b.time order a.flags t),
    )
