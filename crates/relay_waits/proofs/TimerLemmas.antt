-- The timers that wait by number, call by call.
use Rattle.std.proofs.Common.{◌≡◌, ℕ, ◌<◌, ◌≤◌, min, Bool, true, false, not, cond, nat_le, nat_lt, List, [], ◌∷◌, map, Some, None, refl}
use Rattle.std.proofs.Common.{sym, ◌∙◌, ap, arith}
use Rattle.std.specs.Prelude.{nat_eq, filter}
use Rattle.std.specs.List.{AllByRecursion}
use Rattle.std.proofs.lemmas.Bool.{leb-true, leb-false, lt-leb, ltb-true, ltb-false, lt-ltb, le-ltb}
use Rattle.std.proofs.lemmas.List.Elements.{All-head, All-tail}
use Rattle.ev_types.specs.declared.side.SideId.{SideId}
use Rattle.ev_types.specs.Sides.{number, same_end}
use Rattle.min_timer.specs.declared.key.TimerKey.{TimerKey}
use Rattle.min_timer.specs.declared.timer.Timer as by_number
use Rattle.min_timer.specs.Queue.{is_timer_of, without, with_timer, after_due, due_keys}
use Rattle.relay_model.specs.Plain.{Timer, placed, without_timer}
use Rattle.token_bucket.specs.Spells.{least_with}
use Rattle.relay_waits.specs.Numbered.{side_numbered}
use Rattle.relay_waits.specs.TimerSides.{timer_of_side, timers_of}
use Rattle.relay_waits.specs.TimerLaws.{TimersArePlaced, IsHandleOf, HasNone, TimersAreCancelled, DeadlinesRise, after_all_due}
use Rattle.relay_waits.specs.TimerLaws.{DueTimersAreTaken, DueAreTheModels, RisingStays, FirstIsEarliest}
use Rattle.relay_waits.proofs.NumberLemmas.{same-number}

pub timers-are_placed : TimersArePlaced
timers-are_placed t [] = refl
timers-are_placed t (x ∷ xs) = split (timers-are_placed t xs) (nat_lt t.deadline x.deadline)
  where
    split : timers_of (with_timer t xs) ≡ placed (timer_of_side t) (timers_of xs) → (b : Bool) →
        timers_of (cond b (t ∷ x ∷ xs) (x ∷ with_timer t xs)) ≡
        cond b (timer_of_side t ∷ timer_of_side x ∷ timers_of xs) (timer_of_side x ∷ placed (timer_of_side t) (timers_of xs))
    split rest true = refl
    split rest false = ap (λ ys. timer_of_side x ∷ ys) rest

-- a timer stays by its handle exactly where it stays by its side
stays : (handle : TimerKey) (e : SideId) (t : by_number.Timer) → is_timer_of handle t ≡ nat_eq (number e) t.key →
    not (same_end (side_numbered t.key) e) ≡ not (is_timer_of handle t)
stays handle e t is = ap not (same-number e t.key ∙ sym is)

cancelled : (handle : TimerKey) (e : SideId) (ts : List by_number.Timer) → IsHandleOf handle e ts →
    timers_of (without handle ts) ≡ without_timer e (timers_of ts)
cancelled handle e [] is = refl
cancelled handle e (t ∷ ts) is =
    split (cancelled handle e ts (All-tail (λ t. is_timer_of handle t ≡ nat_eq (number e) t.key) t ts is)) (not (is_timer_of handle t)) ∙ ap
    (λ b. cond b (timer_of_side t ∷ without_timer e (timers_of ts)) (without_timer e (timers_of ts)))
    (sym (stays handle e t (All-head (λ t. is_timer_of handle t ≡ nat_eq (number e) t.key) t ts is)))
  where
    split : timers_of (without handle ts) ≡ without_timer e (timers_of ts) → (b : Bool) →
        timers_of (cond b (t ∷ without handle ts) (without handle ts)) ≡
        cond b (timer_of_side t ∷ without_timer e (timers_of ts)) (without_timer e (timers_of ts))
    split rest true = ap (λ ys. timer_of_side t ∷ ys) rest
    split rest false = rest

none-of : (e : SideId) (ts : List by_number.Timer) → HasNone e ts → without_timer e (timers_of ts) ≡ timers_of ts
none-of e [] none = refl
none-of e (t ∷ ts) none =
    ap (λ b. cond (not b) (timer_of_side t ∷ without_timer e (timers_of ts)) (without_timer e (timers_of ts)))
    (same-number e t.key ∙ All-head (λ (t : by_number.Timer). nat_eq (number e) t.key ≡ false) t ts none)
    ∙ ap (λ ys. timer_of_side t ∷ ys) (none-of e ts (All-tail (λ (t : by_number.Timer). nat_eq (number e) t.key ≡ false) t ts none))

pub timers-are_cancelled : TimersAreCancelled
timers-are_cancelled = record { one = cancelled; none = none-of }

-- where the first isn't due, none is
pub none-due : (now d : ℕ) (ts : List by_number.Timer) → now < d → AllByRecursion (λ (u : by_number.Timer). d ≤ u.deadline) ts →
    (filter (λ x. nat_le x.deadline now) (timers_of ts) ≡ []) × (filter (λ x. nat_lt now x.deadline) (timers_of ts) ≡ timers_of ts)
none-due now d [] late all = (refl, refl)
none-due now d (t ∷ ts) late all =
    let rest = none-due now d ts late all.1 in
    let low = all.0 in
    let later : nat_lt now t.deadline ≡ true = lt-ltb now t.deadline (omega (arith, late, low)) in
    let not_due = lt-leb t.deadline now (omega (arith, late, low)) in (
      ap (λ b. cond b (timer_of_side t ∷ filter (λ x. nat_le x.deadline now) (timers_of ts)) (filter (λ x. nat_le x.deadline now)
          (timers_of ts))) not_due ∙ rest.0,
      ap (λ b. cond b (timer_of_side t ∷ filter (λ x. nat_lt now x.deadline) (timers_of ts)) (filter (λ x. nat_lt now x.deadline)
          (timers_of ts))) later ∙ ap (λ ys. timer_of_side t ∷ ys) rest.1,
    )

pub due-are_the_models : DueAreTheModels
due-are_the_models now [] rises = record { taken = refl; left = refl; over = λ none. refl; next = refl }
due-are_the_models now (t ∷ ts) rises = split (due-are_the_models now ts rises.1) (nat_le t.deadline now) refl
  where
    due : Bool → List Timer
    due b = cond b (timer_of_side t ∷ filter (λ x. nat_le x.deadline now) (timers_of ts)) (filter (λ x. nat_le x.deadline now) (timers_of ts))

    later : Bool → List Timer
    later b = cond b (timer_of_side t ∷ filter (λ x. nat_lt now x.deadline) (timers_of ts)) (filter (λ x. nat_lt now x.deadline)
        (timers_of ts))

    split : DueTimersAreTaken now ts → (b : Bool) → nat_le t.deadline now ≡ b → DueTimersAreTaken now (t ∷ ts)
    split rest true h =
        let le = leb-true t.deadline now h in
        let not_later : nat_lt now t.deadline ≡ false = le-ltb now t.deadline le in
        record {
          taken = ap (λ b. map side_numbered (cond b (t.key ∷ due_keys now ts) [])) h
              ∙ ap (λ ys. side_numbered t.key ∷ ys) rest.taken
              ∙ ap (λ b. map (λ x. x.side) (due b)) (sym h);
          left = ap (λ b. timers_of (cond b (after_all_due now ts) (t ∷ ts))) h ∙ rest.left ∙ ap later (sym not_later);
          over = λ none. absurd (
              let bad : Some (t.key, t.deadline) ≡ None = sym (ap (λ b. cond b (Some (t.key, t.deadline)) None) h) ∙ none in cc);
          next = ap (λ b. after_all_due now (cond b ts (t ∷ ts))) h ∙ sym (ap (λ b. cond b (after_all_due now ts) (t ∷ ts)) h);
        }
    split rest false h =
        let none = none-due now t.deadline ts (leb-false t.deadline now h) rises.0 in
        let is_later : nat_lt now t.deadline ≡ true = lt-ltb now t.deadline (leb-false t.deadline now h) in
        record {
          taken = ap (λ b. map side_numbered (cond b (t.key ∷ due_keys now ts) [])) h
              ∙ sym (ap (λ b. map (λ x. x.side) (due b)) h ∙ ap (λ ys. map (λ x. x.side) ys) none.0);
          left = ap (λ b. timers_of (cond b (after_all_due now ts) (t ∷ ts))) h
              ∙ sym (ap later is_later ∙ ap (λ ys. timer_of_side t ∷ ys) none.1);
          over = λ _. ap (λ b. cond b (after_all_due now ts) (t ∷ ts)) h;
          next = ap (λ b. after_all_due now (cond b ts (t ∷ ts))) h;
        }

-- what holds of the timer and of the others holds of all
all-with : (d : ℕ) (t : by_number.Timer) (ts : List by_number.Timer) → d ≤ t.deadline → AllByRecursion
    (λ (u : by_number.Timer). d ≤ u.deadline) ts → AllByRecursion (λ (u : by_number.Timer). d ≤ u.deadline) (with_timer t ts)
all-with d t [] here all = (here, tt)
all-with d t (x ∷ xs) here all = split (all-with d t xs here all.1) (nat_lt t.deadline x.deadline)
  where
    split : AllByRecursion (λ (u : by_number.Timer). d ≤ u.deadline) (with_timer t xs) → (b : Bool) →
        AllByRecursion (λ (u : by_number.Timer). d ≤ u.deadline) (cond b (t ∷ x ∷ xs) (x ∷ with_timer t xs))
    split rest true = (here, all)
    split rest false = (all.0, rest)

all-lower : (c d : ℕ) (ts : List by_number.Timer) → c ≤ d → AllByRecursion (λ (u : by_number.Timer). d ≤ u.deadline) ts →
    AllByRecursion (λ (u : by_number.Timer). c ≤ u.deadline) ts
all-lower c d [] le all = tt
all-lower c d (t ∷ ts) le all = (let here = all.0 in (omega (arith, le, here), all-lower c d ts le all.1))

rises-placed : (t : by_number.Timer) (ts : List by_number.Timer) → DeadlinesRise ts → DeadlinesRise (with_timer t ts)
rises-placed t [] rises = (tt, tt)
rises-placed t (x ∷ xs) rises = split (rises-placed t xs rises.1) (nat_lt t.deadline x.deadline) refl
  where
    split : DeadlinesRise (with_timer t xs) → (b : Bool) → nat_lt t.deadline x.deadline ≡ b → DeadlinesRise (cond b (t ∷ x ∷ xs) (x ∷ with_timer t xs))
    split rest true h =
        let lt = ltb-true t.deadline x.deadline h in
        ((omega (arith, lt), all-lower t.deadline x.deadline xs (omega (arith, lt)) rises.0), rises)
    split rest false h = (all-with x.deadline t xs (ltb-false t.deadline x.deadline h) rises.0, rest)

all-without : (d : ℕ) (handle : TimerKey) (ts : List by_number.Timer) → AllByRecursion (λ (u : by_number.Timer). d ≤ u.deadline) ts →
    AllByRecursion (λ (u : by_number.Timer). d ≤ u.deadline) (without handle ts)
all-without d handle [] all = tt
all-without d handle (t ∷ ts) all = split (all-without d handle ts all.1) (not (is_timer_of handle t))
  where
    split : AllByRecursion (λ (u : by_number.Timer). d ≤ u.deadline) (without handle ts) → (b : Bool) →
        AllByRecursion (λ (u : by_number.Timer). d ≤ u.deadline) (cond b (t ∷ without handle ts) (without handle ts))
    split rest true = (all.0, rest)
    split rest false = rest

rises-cancelled : (handle : TimerKey) (ts : List by_number.Timer) → DeadlinesRise ts → DeadlinesRise (without handle ts)
rises-cancelled handle [] rises = tt
rises-cancelled handle (t ∷ ts) rises = split (rises-cancelled handle ts rises.1) (not (is_timer_of handle t))
  where
    split : DeadlinesRise (without handle ts) → (b : Bool) → DeadlinesRise (cond b (t ∷ without handle ts) (without handle ts))
    split rest true = (all-without t.deadline handle ts rises.0, rest)
    split rest false = rest

rises-taken : (now : ℕ) (ts : List by_number.Timer) → DeadlinesRise ts → DeadlinesRise (after_due now ts)
rises-taken now [] rises = tt
rises-taken now (t ∷ ts) rises = split (nat_le t.deadline now)
  where
    split : (b : Bool) → DeadlinesRise (cond b ts (t ∷ ts))
    split true = rises.1
    split false = rises

pub rising-stays : RisingStays
rising-stays = record { placed = rises-placed; cancelled = rises-cancelled; taken = rises-taken }

-- the least of numbers that do not fall below the first is the first
least-first : (n : ℕ) (ts : List by_number.Timer) → AllByRecursion (λ (u : by_number.Timer). n ≤ u.deadline) ts →
    least_with n (map (λ x. x.deadline) (timers_of ts)) ≡ n
least-first n [] all = refl
least-first n (t ∷ ts) all =
    let low = all.0 in
    let same : min n t.deadline ≡ n = omega (arith, low) in
    ap (λ m. least_with m (map (λ x. x.deadline) (timers_of ts))) same ∙ least-first n ts all.1

pub first-is_earliest : FirstIsEarliest
first-is_earliest [] rises = refl
first-is_earliest (t ∷ ts) rises = ap Some (sym (least-first t.deadline ts rises.0))
