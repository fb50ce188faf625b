-- A step that runs, and then stops or finishes or neither.
use Rattle.std.proofs.Common.{◌≡◌, ℕ, ◌+◌, ◌-◌, ◌≤◌, Bool, true, false, min, nat_le, leb-true, leb-false, refl, ◌||◌, ◌==◌, if◌then◌else◌}
use Rattle.std.proofs.Common.{List, [], ◌++◌, length, take, Option, None, sym, ◌∙◌, ap, arith, append_assoc, length-append}
use Rattle.std.specs.Prelude.{nat_lt, is_some, max}
use Rattle.ev_types.specs.declared.filter.FilterKind.{FilterKind}
use Rattle.filter_model.specs.Running.{Running}
use Rattle.filter_model.specs.FilterRun.{Ran, run, end_adds}
use Rattle.filter_model.specs.FilterStep.{run_of, after_bytes, stop_place, is_finished, Stepped, ending, stepped, most_made}
use Rattle.filter_model.proofs.FilterFitLemmas.{step_fits}
use Rattle.stream_filters.specs.declared.knowledge.Knowledge.{Knowledge}
use Rattle.stream_filters.specs.Knowledge.{running_of}
use Rattle.stream_filters.specs.Parts.{HasRoom, RanOver}
use Rattle.stream_filters.specs.StepAnswers.{most_by_step}

-- a step makes no more than it makes at most
pub most-enough : (k : FilterKind) (count held limit n : ℕ) → n ≤ most_made k count → (limit ≤ held → n ≡ 0) →
    held + n ≤ max held (limit + 1) → n ≤ most_by_step k count held limit
most-enough k count held limit n a b d = go (nat_le limit held) refl
  where
    go : (t : Bool) → nat_le limit held ≡ t → n ≤ (if t then 0 else min (limit - held + 1) (most_made k count))
    go true e = omega (arith, b (leb-true limit held e))
    go false e = omega (arith, leb-false limit held e, a, d)

-- of any filter
pub step-most : (x : Running) (over : Bool) (limit n : ℕ) (src : List ℕ) →
    length (stepped x over limit n src).made ≤ most_by_step x.kind (length src) n limit
step-most x over limit n src =
    let fits = step_fits x over limit n src in
    most-enough x.kind (length src) n limit (length (stepped x over limit n src).made) fits.most
    (λ le. ap length (fits.unchanged le)) fits.passes_by_one

module _ (k : FilterKind) (limit : ℕ) (over : Bool) (before : Knowledge) (src old : List ℕ) (going : before.finished ≡ false)
    (unstopped : before.stopped ≡ None) where
  abbrev x : Running
  x = running_of k before

  abbrev r : Ran
  r = run k limit (length old) before.used before.last src

  abbrev running : Ran → Stepped
  running ran = ending (after_bytes (running_of k before) (take ran.used src)) ran (ran.used == length src) over
      (nat_lt (length old + length ran.made) limit)

  goes : stepped x over limit (length old) src ≡ running r
  goes =
      let idle : (x.finished || is_some x.stopped) ≡ false = λ i. going i || is_some (unstopped i) in
      let count : before.used - 0 ≡ before.used = omega arith in
      (λ i. if idle i then record { used = 0; made = []; after = x } else running (run_of x limit (length old) src))
      ∙ (λ i. running (run k limit (length old) (count i) before.last src))

  abbrev output : List ℕ
  output = (stepped (running_of k before) over limit (length old) src).made

  made_is : output ≡ (running r).made
  made_is = ap (λ (s : Stepped). s.made) goes

  -- room for all that the step makes
  pub room-all : (capacity : ℕ) → length old + most_by_step k (length src) (length old) limit ≤ capacity →
      length old + length output ≤ capacity
  room-all capacity there =
      let fits = step_fits x over limit (length old) src in
      let n = most-enough k (length src) (length old) limit (length output) fits.most (λ le. ap length (fits.unchanged le))
      fits.passes_by_one in
      omega (arith, n, there)

  pub room-run : (capacity : ℕ) → length old + length output ≤ capacity → HasRoom k limit before.used before.last src old capacity
  room-run capacity there =
      let e = ap length made_is in
      let f = length-append r.made (if is_finished (after_bytes x (take r.used src)) (r.used == length src) over
      (nat_lt (length old + length r.made) limit) then end_adds k (after_bytes x (take r.used src)).last else []) in
      omega (arith, there, e, f)

  module _ (after : Knowledge) (mid : List ℕ) (used : ℕ) (ran : RanOver k limit before src old after mid used) where
    abbrev room : Bool
    room = nat_lt (length mid) limit

    abbrev end_output : List ℕ
    end_output = if is_finished (running_of k after) (used == length src) over
        (nat_lt (length mid) limit) then end_adds k after.last else []

    abbrev result : Stepped
    result = ending (running_of k after) (run k limit (length old) before.used before.last src) (used == length src) over
        (nat_lt (length mid) limit)

    room_is : nat_lt (length old + length r.made) limit ≡ room
    room_is = ap (λ n. nat_lt n limit) (sym (ap length ran.filled ∙ length-append old r.made))

    step-is : stepped x over limit (length old) src ≡ result
    step-is =
        goes
        ∙ (λ i. ending (after_bytes x (take (sym ran.used_is i) src)) r (sym ran.used_is i == length src) over (room_is i))
        ∙ (λ i. ending (running_of k (sym ran.known i)) r (used == length src) over room)

    pub used-is : used ≡ (stepped x over limit (length old) src).used
    used-is = ran.used_is ∙ ap (λ (s : Stepped). s.used) (sym step-is)

    pub stopped-is : (stepped x over limit (length old) src).after.stopped ≡ stop_place (running_of k after) (used == length src) over room
    stopped-is = ap (λ (s : Stepped). s.after.stopped) step-is

    pub finished-is : (stepped x over limit (length old) src).after.finished ≡ is_finished (running_of k after)
        (used == length src) over room
    finished-is = ap (λ (s : Stepped). s.after.finished) step-is

    pub after-is : (fin : Bool) (stop : Option ℕ) → fin ≡ is_finished (running_of k after) (used == length src) over room →
        stop ≡ stop_place (running_of k after) (used == length src) over room →
        running_of k (record after { finished = fin; stopped = stop }) ≡ (stepped x over limit (length old) src).after
    after-is fin stop f s = (λ i. running_of k (record after { finished = f i; stopped = s i }))
        ∙ sym (ap (λ (z : Stepped). z.after) step-is)

    pub filled-is : (fin : Bool) → fin ≡ is_finished (running_of k after) (used == length src) over room →
        mid ++ (if fin then end_adds k after.last else []) ≡ old ++ output
    filled-is fin f =
        (λ i. ran.filled i ++ (if f i then end_adds k after.last else []))
        ∙ append_assoc old r.made end_output
        ∙ (λ i. old ++ sym (ap (λ (z : Stepped). z.made) step-is) i)

    pub room-end : (capacity : ℕ) (fin : Bool) → fin ≡ is_finished (running_of k after) (used == length src) over room →
        length old + length output ≤ capacity → length mid + length (if fin then end_adds k after.last else []) ≤ capacity
    room-end capacity fin f there =
        let e = ap length (filled-is fin f) in
        omega (arith, e, there, length-append mid (if fin then end_adds k after.last else []), length-append old output)
