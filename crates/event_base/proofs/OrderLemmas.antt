-- Timers that a turn makes active have their calls in the order of their timeouts.
use Rattle.std.proofs.Common.{◌≡◌, ◌≢◌, ℕ, ◌+◌, ◌<◌, ◌≤◌, ◌==◌, zero, suc, nat_eq, nat_lt, nat_le, Bool, true, false, not, ◌&&◌, ◌||◌, cond}
use Rattle.std.proofs.Common.{List, [], ◌∷◌, length, map, get_or, slice_get, Option, Some, None, option_map, is_some, Ok, Err, refl, sym}
use Rattle.std.proofs.Common.{◌∙◌, ap, subst, count_by, arith}
use Rattle.std.proofs.lemmas.Bool.{lt-ltb, ltb-true, and_parts, and_from}
use Rattle.std.proofs.lemmas.Bool.Decides.{nat_tests}
use Rattle.std.proofs.lemmas.List.Sums.{sum_by-cons}
use Rattle.std.proofs.lemmas.List.Quantifiers.{position-Some}
use Rattle.std.proofs.lemmas.Option.{slice_get-map, get_or_from_slice_get}
use Rattle.std.specs.List.{list_any, position}
use Rattle.std.specs.Option.{option_map_or, option_and_then}
use Rattle.event_base.specs.declared.event.Event.{Event}
use Rattle.event_base.specs.declared.event.Activation.{Activation}
use Rattle.event_base.specs.declared.event.Timeout.{Timeout}
use Rattle.event_base.specs.declared.ready.Place.{Place}
use Rattle.event_base.specs.declared.fault.BaseFault.TheVariants.{Spent}
use Rattle.event_base.specs.Base.{BaseValue}
use Rattle.event_base.specs.Events.{is_active, activated}
use Rattle.event_base.specs.Turns.{time_at, is_due, wakes, comes_before, wakes_before, timed_out, in_batch, made_earlier, is_first}
use Rattle.event_base.specs.Turns.{next_event}
use Rattle.event_base.specs.Tied.{value_at, place_of}
use Rattle.event_base.specs.Calls.{fit, next_call, next_fire}
use Rattle.event_base.specs.BaseLaws.{KeepsPlace, HasNoCallback, TimersFireInOrder}
use Rattle.event_base.proofs.FireLemmas.{any_from}
use Rattle.event_base.proofs.RunLemmas.{if-Ok, firing}

one-most : (x y : Bool) → (x ≡ true → y ≡ true) → cond {A = ℕ} x 1 0 ≤ cond y 1 0
one-most true true weaker = omega arith
one-most true false weaker = absurd (let bad = weaker refl in cc)
one-most false true weaker = omega arith
one-most false false weaker = omega arith

-- no fewer pass the weaker test
count-most : (p q : Event → Bool) → ((e : Event) → p e ≡ true → q e ≡ true) → (es : List Event) → count_by p es ≤ count_by q es
count-most p q weaker [] = omega arith
count-most p q weaker (x ∷ xs) =
    let rest = count-most p q weaker xs in
    let one = one-most (p x) (q x) (weaker x) in
    let left = sum_by-cons (λ x. cond (p x) 1 0) x xs in
    let right = sum_by-cons (λ x. cond (q x) 1 0) x xs in
    omega (arith, rest, one, left, right)

-- more pass the weaker test, where one does that does not pass the other
count-less : (p q : Event → Bool) → ((e : Event) → p e ≡ true → q e ≡ true) → (es : List Event) (j : ℕ) (e : Event) → slice_get es j ≡
    Some e → p e ≡ false → q e ≡ true → count_by p es < count_by q es
count-less p q weaker [] j e is fails passes = cc
count-less p q weaker (x ∷ xs) zero e is fails passes =
    let same : x ≡ e = cc in
    let rest = count-most p q weaker xs in
    let left : count_by p (x ∷ xs) ≡ 0 + count_by p xs = sum_by-cons (λ x. cond (p x) 1 0) x xs ∙ ap (λ b. cond b 1 0 + count_by p xs)
    (ap p same ∙ fails) in
    let right : count_by q (x ∷ xs) ≡ 1 + count_by q xs = sum_by-cons (λ x. cond (q x) 1 0) x xs ∙ ap (λ b. cond b 1 0 + count_by q xs)
    (ap q same ∙ passes) in
    omega (arith, rest, left, right)
count-less p q weaker (x ∷ xs) (suc j) e is fails passes =
    let rest = count-less p q weaker xs j e is fails passes in
    let one = one-most (p x) (q x) (weaker x) in
    let left = sum_by-cons (λ x. cond (p x) 1 0) x xs in
    let right = sum_by-cons (λ x. cond (q x) 1 0) x xs in
    omega (arith, rest, one, left, right)

not-itself : (t : Timeout) → comes_before t t ≡ false
not-itself t = grind (arith, nat_tests)

before-before : (a t u : Timeout) → comes_before a t ≡ true → comes_before t u ≡ true → comes_before a u ≡ true
before-before a t u h k = grind (arith, nat_tests)

-- what wakes before the first wakes before the second
wakes-sooner : (time : ℕ) (t u : Timeout) → comes_before t u ≡ true → (x : Event) → wakes_before time t x ≡ true → wakes_before time u x ≡ true
wakes-sooner time t u first x h =
    let parts = and_parts (wakes time x) (option_map_or (λ a. comes_before a t) x.timeout false) h in
    and_from (wakes time x) (option_map_or (λ a. comes_before a u) x.timeout false) parts.0 (by_timeout x.timeout parts.1)
  where
    by_timeout : (o : Option Timeout) → option_map_or (λ a. comes_before a t) o false ≡ true → option_map_or (λ a. comes_before a u) o
        false ≡ true
    by_timeout None h = cc
    by_timeout (Some a) h = before-before a t u h first

-- so the first gets the lesser order number
sooner-less : (time : ℕ) (t u : Timeout) (events : List Event) (j : ℕ) (e : Event) → comes_before t u ≡ true → slice_get events j ≡
    Some e → wakes time e ≡ true → e.timeout ≡ Some t → count_by (wakes_before time t) events < count_by (wakes_before time u) events
sooner-less time t u events j e first there wakes_e timed =
    count-less (wakes_before time t) (wakes_before time u) (wakes-sooner time t u first) events j e there
    (ap (λ b. b && option_map_or (λ a. comes_before a t) e.timeout false) wakes_e ∙ ap
    (λ o. option_map_or (λ a. comes_before a t) o false) timed ∙ not-itself t)
    (ap (λ b. b && option_map_or (λ a. comes_before a u) e.timeout false) wakes_e ∙ ap
    (λ o. option_map_or (λ a. comes_before a u) o false) timed ∙ first)

abbrev place : ℕ → ℕ → Place
place priority order = record { priority = priority; order = order }

not-active : (o : Option Activation) → not (is_some o) ≡ true → o ≡ None
not-active None h = refl
not-active (Some a) h = cc

-- the place that a turn gives to an event that it makes active by its timeout
woken-place : (time next : ℕ) (events : List Event) (e : Event) (t : Timeout) → wakes time e ≡ true → e.timeout ≡ Some t → place_of
    (timed_out time next events e) ≡ Some (place e.priority (next + count_by (wakes_before time t) events))
woken-place time next events e t wakes_e timed =
    let parts = and_parts (is_due time e) (not (is_active e)) wakes_e in
    let due : nat_le t.deadline time ≡ true = sym (ap (λ o. option_map_or (λ (t : Timeout). nat_le t.deadline time) o false) timed) ∙
    parts.0 in
    let none : e.active ≡ None = not-active e.active parts.1 in
    ap (λ o. place_of (option_map_or (λ (t : Timeout). cond (nat_le t.deadline time)
    (activated 1 (next + count_by (wakes_before time t) events) 1 0 e) e) o e)) timed
    ∙ ap (λ b. place_of (cond b (activated 1 (next + count_by (wakes_before time t) events) 1 0 e) e)) due
    ∙ ap (λ o. place_of (activated 1 (next + count_by (wakes_before time t) events) 1 0 (record e { active = o }))) none

-- an event with a place is there and active
record Placed (events : List Event) (k : ℕ) (p : Place) : Type 0 where
  event : Event
  there : slice_get events k ≡ Some event
  activation : Activation
  active : event.active ≡ Some activation
  priority : event.priority ≡ p.priority
  order : activation.order ≡ p.order

placed-there : (events : List Event) (k : ℕ) (p : Place) → value_at place_of events k ≡ Some p → Placed events k p
placed-there events k p h = at_event (slice_get events k) refl h
  where
    at_active : (e : Event) (o : Option Activation) → slice_get events k ≡ Some e → e.active ≡ o → option_map
        (λ (a : Activation). place e.priority a.order) o ≡ Some p → Placed events k p
    at_active e None there active h = cc
    at_active e (Some a) there active h =
        let same : place e.priority a.order ≡ p = cc in record {
          event = e;
          there = there;
          activation = a;
          active = active;
          priority = ap (λ (x : Place). x.priority) same;
          order = ap (λ (x : Place). x.order) same;
        }

    at_event : (o : Option Event) → slice_get events k ≡ o → option_and_then place_of o ≡ Some p → Placed events k p
    at_event None there h = cc
    at_event (Some e) there h = at_active e e.active there refl h

in_batch-parts : (b : BaseValue) (e : Event) (a : Activation) → e.active ≡ Some a → in_batch b e ≡ true → ((e.priority ==
    b.batch_priority) ≡ true) × (nat_lt a.order b.batch_end ≡ true)
in_batch-parts b e a active h = and_parts (e.priority == b.batch_priority) (nat_lt a.order b.batch_end)
    (sym (ap (λ o. (e.priority == b.batch_priority) && option_map_or (λ (a : Activation). nat_lt a.order b.batch_end) o false) active) ∙ h)

in_batch-from : (b : BaseValue) (e : Event) (a : Activation) → e.active ≡ Some a → (e.priority == b.batch_priority) ≡ true → nat_lt
    a.order b.batch_end ≡ true → in_batch b e ≡ true
in_batch-from b e a active priority low =
    ap (λ o. (e.priority == b.batch_priority) && option_map_or (λ (a : Activation). nat_lt a.order b.batch_end) o false) active
    ∙ and_from (e.priority == b.batch_priority) (nat_lt a.order b.batch_end) priority low

earlier-from : (e o : Event) (a c : Activation) → e.active ≡ Some a → o.active ≡ Some c → a.order < c.order → made_earlier e o ≡ true
earlier-from e o a c active other lt =
    ap (λ x. option_map_or (λ (a : Activation). option_map_or (λ (c : Activation). nat_lt a.order c.order) o.active false) x false) active
    ∙ ap (λ x. option_map_or (λ (c : Activation). nat_lt a.order c.order) x false) other ∙ lt-ltb a.order c.order lt

called-event : (t : Bool) (o : Option ℕ) (number : ℕ) → cond t None o ≡ Some number → o ≡ Some number
called-event true o number is = cc
called-event false o number is = is

-- where an event of the batch was made active before another, that other is not next
not-first : (b : BaseValue) (j k flags : ℕ) (e o : Event) (a c : Activation) → slice_get b.events j ≡ Some e → slice_get b.events k ≡
    Some o → e.active ≡ Some a → o.active ≡ Some c → e.priority ≡ o.priority → a.order < c.order → next_fire b ≢ Some (k, flags)
not-first b j k flags e o a c there other active active_too same lt is =
    let f = firing b k flags is in
    let first = position-Some (is_first b) b.events k o (called-event b.broken (next_event b) k f.next) in
    let here : get_or b.events k o ≡ o = get_or_from_slice_get b.events k o o other in
    let passes : is_first b o ≡ true = rw here at first.1 in
    let parts = and_parts (in_batch b o) (not (list_any (λ x. in_batch b x && made_earlier x o) b.events)) passes in
    let late = in_batch-parts b o c active_too parts.0 in
    let low = ltb-true c.order b.batch_end late.1 in
    let batch = in_batch-from b e a active (ap (λ p. p == b.batch_priority) same ∙ late.0) (lt-ltb a.order b.batch_end
    (omega (arith, lt, low))) in
    let any : list_any (λ x. in_batch b x && made_earlier x o) b.events ≡ true = any_from
    (λ x. in_batch b x && made_earlier x o) b.events j e there (and_from (in_batch b e) (made_earlier e o) batch (earlier-from e o a
    c active active_too lt)) in
    let none = parts.1 in cc (any, none)

pub timers-fire_in_order : TimersFireInOrder
timers-fire_in_order b begun last now first second e o t u is there wakes_e timed other wakes_o timed_o before priority keeps keeps_too
    flags fires =
    let time = time_at b.time now in
    let next = b.next_activation in
    let turned = map (timed_out time next b.events) b.events in
    let same = if-Ok (fit next (count_by (wakes time) b.events)) _ begun Spent is in
    let events : begun.events ≡ turned = ap (λ (x : BaseValue). x.events) (sym same) in
    let n = next + count_by (wakes_before time t) b.events in
    let m = next + count_by (wakes_before time u) b.events in
    let less = sooner-less time t u b.events first e before there wakes_e timed in
    let at_first : value_at place_of begun.events first ≡ Some (place e.priority n) = ap (λ es. value_at place_of es first) events
    ∙ ap (option_and_then place_of) (slice_get-map (timed_out time next b.events) b.events first
    ∙ ap (option_map (timed_out time next b.events)) there) ∙ woken-place time next b.events e t wakes_e timed in
    let at_second : value_at place_of begun.events second ≡ Some (place o.priority m) = ap (λ es. value_at place_of es second) events
    ∙ ap (option_and_then place_of) (slice_get-map (timed_out time next b.events) b.events second
    ∙ ap (option_map (timed_out time next b.events)) other) ∙ woken-place time next b.events o u wakes_o timed_o in
    let x = placed-there last.events first (place e.priority n) (keeps ∙ at_first) in
    let y = placed-there last.events second (place o.priority m) (keeps_too ∙ at_second) in
    let low = x.order in
    let high = y.order in
    not-first last first second flags x.event y.event x.activation y.activation x.there y.there x.active y.active
    (x.priority ∙ priority ∙ sym y.priority) (omega (arith, less, low, high)) fires
