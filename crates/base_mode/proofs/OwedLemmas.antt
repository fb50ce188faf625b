-- No callback adds to what the batch of a turn owes, and each fire takes one from it.
use Rattle.std.proofs.Common.{◌≡◌, ap, refl, ℕ, ◌+◌, ◌-◌, ◌<◌, ◌≤◌, ◌&&◌, ◌==◌, Bool, true, false, cond, max, nat_lt, nat_le, List, [], ◌∷◌}
use Rattle.std.proofs.Common.{length, get_or, set, sum_by, arith, Option, Some, None, option_and_then, slice_get, Ok, Err}
use Rattle.std.specs.Option.{option_map_or}
use Rattle.std.proofs.lemmas.List.Sums.{sum_by-set}
use Rattle.std.proofs.lemmas.Option.{get_or_from_slice_get, slice_get_within}
use Rattle.std.proofs.lemmas.Bool.Decides.{nat_tests}
use Rattle.event_base.specs.declared.event.Event.{Event}
use Rattle.event_base.specs.declared.event.Activation.{Activation}
use Rattle.event_base.specs.declared.fault.BaseFault.{BaseFault}
use Rattle.event_base.specs.declared.fault.BaseFault.TheVariants as base
use Rattle.event_base.specs.Base.{BaseValue}
use Rattle.event_base.specs.Events.{one_less, added, deleted, activated, joined, not_by_timeout, has_timed_out, is_active, unless_freed}
use Rattle.event_base.specs.declared.event.Timeout.{Timeout}
use Rattle.event_base.specs.Calls as call
use Rattle.base_mode.specs.declared.command.Reaction.{Reaction}
use Rattle.base_mode.specs.declared.command.Reaction.TheVariants as act
use Rattle.base_mode.specs.Run.{number_of, act_step, kept, after_acts}
use Rattle.base_mode.specs.Turned.{owed_by, owed, IsClosed}

-- what the batch owes for an event of a priority that is active so
abbrev weight : ℕ → ℕ → ℕ → Option Activation → ℕ
weight first end priority active =
    cond (priority == first && option_map_or (λ a. nat_lt a.order end) active false) (option_map_or (λ a. max a.count 1) active 0) 0

weight-none : (first end priority : ℕ) → weight first end priority None ≡ 0
weight-none first end priority = elim (priority == first && false) as (λ b. cond {A = ℕ} b 0 0 ≡ 0) [ true ↦ refl | false ↦ refl ]

-- one call less is owed
pub weight-called : (first end priority : ℕ) (a : Activation) → (priority == first && nat_lt a.order end) ≡ true
    → weight first end priority (one_less a) + 1 ≤ weight first end priority (Some a)
weight-called first end priority a batch =
    elim (nat_le a.count 1) as
    (λ b. nat_le a.count 1 ≡ b →
    weight first end priority (cond b None (Some (record a { count = a.count - 1 }))) + 1 ≤ weight first end priority (Some a)) [
      | true ↦ λ few. rw (weight-none first end priority, batch) (omega arith)
      | false ↦ λ many. let more : 1 < a.count = grind (arith, nat_tests, many) in rw batch (omega arith)
    ] refl

-- the batch after a step owes no more than before, but for so many, and it stays closed
pub record Falls (taken : ℕ) (old new : BaseValue) : Type 0 where
  pub closed : IsClosed new
  pub less : owed new + taken ≤ owed old

pub Falls-refl : (b : BaseValue) → IsClosed b → Falls 0 b b
Falls-refl b closed = record { closed = closed; less = omega arith }

pub Falls-then : (taken : ℕ) (a b c : BaseValue) → Falls taken a b → Falls 0 b c → Falls taken a c
Falls-then taken a b c one two = record { closed = two.closed; less = omega (arith, one.less, two.less) }

-- an event that takes the place of another, and owes no more but for so many, leaves the batch owing no more but for so many
pub owed-set : (taken : ℕ) (b : BaseValue) (number : ℕ) (old new : Event) → slice_get b.events number ≡ Some old
    → owed_by b new + taken ≤ owed_by b old → sum_by (owed_by b) (set b.events number new) + taken ≤ owed b
owed-set taken b number old new is less =
    let within : number < length b.events = slice_get_within b.events number old is in
    let here : get_or b.events number old ≡ old = get_or_from_slice_get b.events number old old is in
    let same : owed_by b (get_or b.events number old) ≡ owed_by b old = ap (owed_by b) here in
    omega (arith, sum_by-set (owed_by b) b.events number new old within, same)

-- where a step goes on from a test, it is this one
pub if-Ok : (t : Bool) (x b : BaseValue) (why : BaseFault) → cond {A = call.Step} t (Ok x) (Err why) ≡ Ok b → x ≡ b
if-Ok true x b why is = cc
if-Ok false x b why is = cc

pub if-not-Ok : (t : Bool) (x b : BaseValue) (why : BaseFault) → cond {A = call.Step} t (Err why) (Ok x) ≡ Ok b → x ≡ b
if-not-Ok true x b why is = cc
if-not-Ok false x b why is = cc

-- the start of a callback found its event
pub fire_found : (o : Option Event) (step : Event → call.Step) (b : BaseValue) → option_map_or step o (Err base.NoEvent) ≡ Ok b
    → (e : Event) × (o ≡ Some e) × (step e ≡ Ok b)
fire_found None step b is = cc
fire_found (Some e) step b is = (e, refl, is)

-- a call on an event found it, and not freed
at_found : (o : Option Event) (step : Event → call.Step) (b : BaseValue) → option_map_or step (unless_freed o) (Err base.NoEvent) ≡ Ok b
    → (e : Event) × (o ≡ Some e) × (step e ≡ Ok b)
at_found None step b is = cc
at_found (Some e) step b is = split e.freed is
  where
    split : (t : Bool) → option_map_or step (cond t None (Some e)) (Err base.NoEvent) ≡ Ok b
        → (x : Event) × (Some e ≡ Some x) × (step x ≡ Ok b)
    split true h = cc
    split false h = (e, refl, h)

-- an event that is added with a timeout owes no more
added-weight : (first end priority : ℕ) (active : Option Activation) →
    weight first end priority (not_by_timeout active) + 0 ≤ weight first end priority active
added-weight first end priority None = omega arith
added-weight first end priority (Some a) =
    elim (has_timed_out a.flags) as
    (λ b. weight first end priority (cond b None (Some a)) + 0 ≤ weight first end priority (Some a))
    [ true ↦ rw (weight-none first end priority) (omega arith) | false ↦ omega arith ]

-- an event that becomes active behind the batch, or anew, owes no more
activated-weight : (first end priority flag next : ℕ) (active : Option Activation) → end ≤ next
    → weight first end priority (Some (joined flag next 1 0 active)) + 0 ≤ weight first end priority active
activated-weight first end priority flag next None behind =
    elim (nat_lt next end) as (λ b. nat_lt next end ≡ b → cond (priority == first && b) (max 1 1) 0 + 0 ≤ weight first end priority None) [
      | true ↦ λ low. absurd (grind arith)
      | false ↦ λ high. elim (priority == first) as
          (λ b. cond (b && false) (max 1 1) 0 + 0 ≤ weight first end priority None) [ true ↦ omega arith | false ↦ omega arith ]
    ] refl
activated-weight first end priority flag next (Some a) behind =
    elim (priority == first && nat_lt a.order end) as
    (λ b. cond b (max (a.count + 0) 1) 0 + 0 ≤ cond b (max a.count 1) 0) [ true ↦ omega arith | false ↦ omega arith ]

-- the call of an act
act_step-falls : (b : BaseValue) (names : List ℕ) (what : Reaction) (next : BaseValue) → IsClosed b → act_step b names what ≡ Ok next →
    Falls 0 b next
act_step-falls b names (act.Delete event) next closed is =
    let found = at_found (slice_get b.events (number_of event names))
    (λ (e : Event). Ok (call.with_event b (number_of event names) (deleted e))) next is in
    let same : call.with_event b (number_of event names) (deleted found.0) ≡ next = cc (found.2) in
    rw (← same) (record {
      closed = closed;
      less = owed-set 0 b (number_of event names) found.0 (deleted found.0) found.1
          (rw (weight-none b.batch_priority b.batch_end found.0.priority) (omega arith));
    })
act_step-falls b names (act.Add event delay) next closed is =
    let number = number_of event names in
    let timeout : Timeout = record { deadline = b.time + delay; delay = delay; order = b.last_adding + 1 } in
    let then = λ (e : Event). record (call.with_event b number (added (Some timeout) e)) { last_adding = b.last_adding + 1 } in
    let found = at_found (slice_get b.events number)
    (λ (e : Event). cond {A = call.Step} (call.fit b.last_adding 1) (Ok (then e)) (Err base.Spent)) next is in
    rw (← if-Ok (call.fit b.last_adding 1) (then found.0) next base.Spent found.2) (record {
      closed = closed;
      less = owed-set 0 b number found.0 (added (Some timeout) found.0) found.1
          (added-weight b.batch_priority b.batch_end found.0.priority found.0.active);
    })
act_step-falls b names (act.Activate event) next closed is =
    let number = number_of event names in
    let then = λ (e : Event). record
    (call.with_event b number (activated 2 b.next_activation 1 0 e)) { next_activation = b.next_activation + cond (is_active e) 0 1 } in
    let found = at_found (slice_get b.events number)
    (λ (e : Event). cond {A = call.Step} (call.fit b.next_activation (cond (is_active e) 0 1)) (Ok (then e)) (Err base.Spent)) next
    is in
    rw (← if-Ok (call.fit b.next_activation (cond (is_active found.0) 0 1)) (then found.0) next base.Spent found.2) (record {
      closed = omega (arith, closed);
      less = owed-set 0 b number found.0 (activated 2 b.next_activation 1 0 found.0) found.1
          (activated-weight b.batch_priority b.batch_end found.0.priority 2 b.next_activation found.0.active closed);
    })
act_step-falls b names act.Break next closed is =
    let same : call.loop_break b ≡ next = cc (is) in
    rw (← same) (record { closed = closed; less = omega arith })
act_step-falls b names act.Exit next closed is =
    let same : call.loop_exit b ≡ next = cc (is) in
    rw (← same) (record { closed = closed; less = omega arith })

kept-falls : (b : BaseValue) (step : call.Step) (next : BaseValue) → IsClosed b → ((c : BaseValue) → step ≡ Ok c → Falls 0 b c) →
    kept b step ≡ Some next → Falls 0 b next
kept-falls b (Ok c) next closed falls is = let same : c ≡ next = cc in rw (← same) (falls c refl)
kept-falls b (Err base.Spent) next closed falls is = cc
kept-falls b (Err base.Memory) next closed falls is = let same : b ≡ next = cc in rw (← same) (Falls-refl b closed)
kept-falls b (Err base.BadPriority) next closed falls is = let same : b ≡ next = cc in rw (← same) (Falls-refl b closed)
kept-falls b (Err base.NoEvent) next closed falls is = let same : b ≡ next = cc in rw (← same) (Falls-refl b closed)
kept-falls b (Err base.IsActive) next closed falls is = let same : b ≡ next = cc in rw (← same) (Falls-refl b closed)
kept-falls b (Err base.TooManyDelays) next closed falls is = let same : b ≡ next = cc in rw (← same) (Falls-refl b closed)

-- where some step goes on to another, both were taken
both_steps : {X Y : Type 0} (o : Option X) (on : X → Option Y) (y : Y) → option_and_then on o ≡ Some y →
    (x : X) × (o ≡ Some x) × (on x ≡ Some y)
both_steps None on y is = cc
both_steps (Some x) on y is = (x, refl, is)

-- all that a callback does
pub after_acts-falls : (b : BaseValue) (names : List ℕ) (acts : List Reaction) (next : BaseValue) → IsClosed b →
    after_acts b names acts ≡ Some next → Falls 0 b next
after_acts-falls b names [] next closed is = let same : b ≡ next = cc in rw (← same) (Falls-refl b closed)
after_acts-falls b names (what ∷ more) next closed is =
    let both = both_steps (kept b (act_step b names what)) (λ (c : BaseValue). after_acts c names more) next is in
    let one = kept-falls b (act_step b names what) both.0 closed (λ c went. act_step-falls b names what c closed went) both.1 in
    Falls-then 0 b both.0 next one (after_acts-falls both.0 names more next one.closed both.2)
