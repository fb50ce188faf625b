-- A step into a target that holds bytes is the step into an empty one, with what the limit leaves.
use Rattle.std.proofs.Common.{◌≡◌, ℕ, ◌+◌, ◌-◌, Bool, true, false, ◌==◌, ◌||◌, if◌then◌else◌, List, [], ◌∷◌, length, take, min, Option}
use Rattle.std.proofs.Common.{Some, refl, ◌∙◌, arith}
use Rattle.std.specs.Prelude.{nat_le, nat_lt, is_some}
use Rattle.std.proofs.lemmas.Bool.Decides.{nat_tests}
use Rattle.ev_types.specs.declared.filter.FilterKind.{FilterKind}
use Rattle.filter_model.specs.Running.{Running}
use Rattle.filter_model.specs.FilterRun.{Ran, goes_on, run, adds, is_bad_byte}
use Rattle.filter_model.specs.FilterStep.{count_of, after_bytes, Stepped, ending, stepped, most_made}
use Rattle.stream_filters.specs.StepAnswers.{most_by_step}

pub le-shift : (limit n m : ℕ) → nat_le (limit - n) m ≡ nat_le limit (n + m)
le-shift limit n m = by_test (nat_le (limit - n) m) (nat_le limit (n + m)) refl refl
  where
    by_test : (b c : Bool) → nat_le (limit - n) m ≡ b → nat_le limit (n + m) ≡ c → b ≡ c
    by_test true true e f = refl
    by_test false false e f = refl
    by_test true false e f = absurd (grind (arith, nat_tests, e, f))
    by_test false true e f = absurd (grind (arith, nat_tests, e, f))

pub lt-shift : (limit n m : ℕ) → nat_lt m (limit - n) ≡ nat_lt (n + m) limit
lt-shift limit n m = by_test (nat_lt m (limit - n)) (nat_lt (n + m) limit) refl refl
  where
    by_test : (b c : Bool) → nat_lt m (limit - n) ≡ b → nat_lt (n + m) limit ≡ c → b ≡ c
    by_test true true e f = refl
    by_test false false e f = refl
    by_test true false e f = absurd (grind (arith, nat_tests, e, f))
    by_test false true e f = absurd (grind (arith, nat_tests, e, f))

run-shift : (k : FilterKind) (limit n m count : ℕ) (last : Option ℕ) (src : List ℕ) →
    run k (limit - n) m count last src ≡ run k limit (n + m) count last src
run-shift k limit n m count last [] = refl
run-shift k limit n m count last (x ∷ src) =
    let out : List ℕ = adds k count last x in
    let ih = run-shift k limit n (m + length out) (count + 1) (Some x) src in
    let a : n + (m + length out) ≡ n + m + length out = omega arith in
    (λ i. goes_on (le-shift limit n m i || is_bad_byte k x) out (ih i))
    ∙ (λ i. goes_on (nat_le limit (n + m) || is_bad_byte k x) out (run k limit (a i) (count + 1) (Some x) src))

pub step-shift : (x : Running) (over : Bool) (limit n : ℕ) (src : List ℕ) →
    stepped x over (limit - n) 0 src ≡ stepped x over limit n src
step-shift x over limit n src =
    let go : Ran → Bool → Stepped = λ (ran : Ran) (room : Bool). if x.finished || is_some x.stopped
    then record { used = 0; made = []; after = x }
    else ending (after_bytes x (take ran.used src)) ran (ran.used == length src) over room in
    let zero_more : n + 0 ≡ n = omega arith in
    let ran = run-shift x.kind limit n 0 (count_of x) x.last src ∙ (λ i. run x.kind limit (zero_more i) (count_of x) x.last src) in
    let r : Ran = run x.kind limit n (count_of x) x.last src in
    (let plus : (m : ℕ) → 0 + m ≡ m = λ (m : ℕ). omega arith in
    λ i. go (run x.kind (limit - n) 0 (count_of x) x.last src)
    (nat_lt (plus (length (run x.kind (limit - n) 0 (count_of x) x.last src).made) i) (limit - n)))
    ∙ (λ i. go (ran i) (nat_lt (length (ran i).made) (limit - n)))
    ∙ (λ i. go r (lt-shift limit n (length r.made) i))

-- and it needs no more room then
pub most-shift : (k : FilterKind) (count n limit : ℕ) → most_by_step k count 0 (limit - n) ≡ most_by_step k count n limit
most-shift k count n limit = by_test (nat_le (limit - n) 0) (nat_le limit n) refl refl
  where
    by_test : (a b : Bool) → nat_le (limit - n) 0 ≡ a → nat_le limit n ≡ b →
        (if a then 0 else min (limit - n - 0 + 1) (most_made k count)) ≡ (if b then 0 else min (limit - n + 1) (most_made k count))
    by_test true true e f = refl
    by_test false false e f = omega arith
    by_test true false e f = absurd (grind (arith, nat_tests, e, f))
    by_test false true e f = absurd (grind (arith, nat_tests, e, f))
