-- A step of the filter that gives every byte as it is.
use Rattle.std.proofs.Common.{◌≡◌, ℕ, zero, suc, ◌+◌, ◌-◌, ◌≤◌, Bool, true, false, not, ◌==◌, ◌&&◌, ◌||◌, if◌then◌else◌, List, [], ◌∷◌}
use Rattle.std.proofs.Common.{◌++◌, length, take, Option, Some, None, refl, ◌∙◌, ap, arith, append-nil, min}
use Rattle.std.specs.Prelude.{nat_le, nat_lt, is_some}
use Rattle.std.specs.List.{last_or}
use Rattle.std.proofs.lemmas.Bool.Decides.{nat_tests}
use Rattle.std.proofs.lemmas.List.{length-take-le}
use Rattle.ev_types.specs.declared.filter.FilterKind.TheVariants as kind
use Rattle.filter_model.specs.Running.{Running}
use Rattle.filter_model.specs.FilterRun.{Ran, goes_on, run}
use Rattle.filter_model.specs.FilterStep.{run_of, after_bytes, Stepped, ending, stepped}
use Rattle.stream_filters.specs.declared.knowledge.Knowledge.{Knowledge}
use Rattle.stream_filters.specs.Knowledge.{running_of}

run-in-place : (limit n count : ℕ) (last : Option ℕ) (src : List ℕ) (used : ℕ) → used ≡ min (length src) (limit - n) →
    run kind.None limit n count last src ≡ record { used = used; made = take used src }
run-in-place limit n count last [] zero e = refl
run-in-place limit n count last [] (suc used) e = absurd (omega (arith, e))
run-in-place limit n count last (x ∷ src) zero e =
    let full : nat_le limit n ≡ true = grind (arith, nat_tests, e) in
    λ i. goes_on (full i || false) (x ∷ []) (run kind.None limit (n + 1) (count + 1) (Some x) src)
run-in-place limit n count last (x ∷ src) (suc used) e =
    let below : nat_le limit n ≡ false = grind (arith, nat_tests, e) in
    let ih = run-in-place limit (n + 1) (count + 1) (Some x) src used (omega (arith, e)) in
    (λ i. goes_on (below i || false) (x ∷ []) (run kind.None limit (n + 1) (count + 1) (Some x) src))
    ∙ (λ i. goes_on false (x ∷ []) (ih i))

-- it doesn't stop, since it goes on up to its limit
no-stop : (m : ℕ) (all over room : Bool) → (room ≡ true → all ≡ true) → (if room && (not all || (over && false)) then Some m
    else None) ≡ None
no-stop m all over false h = refl
no-stop m true true true h = refl
no-stop m true false true h = refl
no-stop m false over true h = absurd (let e : false ≡ true = h refl in cc)

over-at-end : (all over room : Bool) → (all && over && not false && (not false || room)) ≡ (all && over)
over-at-end true true room = refl
over-at-end true false room = refl
over-at-end false over room = refl

abbrev nothing : List ℕ
nothing = []

no-end : (b : Bool) → (if b then nothing else nothing) ≡ nothing
no-end true = refl
no-end false = refl

-- where it goes on, it uses all up to the limit, and gives it
pub step-in-place : (before : Knowledge) → before.finished ≡ false → before.stopped ≡ None → (over : Bool) (limit n : ℕ) (src : List ℕ)
    (used : ℕ) → used ≡ min (length src) (limit - n) →
    stepped (running_of kind.None before) over limit n src ≡ record {
      used = used;
      made = take used src;
      after = running_of kind.None (record {
        used = before.used + length (take used src);
        last = last_or before.last (take used src);
        finished = (used == length src) && over;
        stopped = None;
      });
    }
step-in-place before going unstopped over limit n src used e =
    let x : Running = running_of kind.None before in
    let running : Ran → Stepped = λ (ran : Ran). ending (after_bytes x (take ran.used src)) ran (ran.used == length src) over
    (nat_lt (n + length ran.made) limit) in
    let idle : (x.finished || is_some x.stopped) ≡ false = λ i. going i || is_some (unstopped i) in
    let count : before.used - 0 ≡ before.used = omega arith in
    let ran = run-in-place limit n before.used before.last src used e in
    let y : Running = after_bytes x (take used src) in
    let room : Bool = nat_lt (n + length (take used src)) limit in
    let len : length (take used src) ≡ used = length-take-le used src (omega (arith, e)) in
    let all : nat_lt (n + length (take used src)) limit ≡ true → (used == length src) ≡ true = λ h.
    (let lt : n + used + 1 ≤ limit = grind (arith, nat_tests, h, len) in
    let same : used ≡ length src = omega (arith, e, lt) in grind (arith, nat_tests, same)) in
    (λ i. if idle i then record { used = 0; made = []; after = x } else running (run_of x limit n src))
    ∙ (λ i. running (run kind.None limit n (count i) before.last src))
    ∙ ap running ran
    ∙ (λ i. record {
      used = used;
      made = (ap (λ z. take used src ++ z) (no-end ((used == length src) && over && not false && (not false || room))) ∙ append-nil
          (take used src)) i;
      after = record y {
        finished = over-at-end (used == length src) over room i;
        stopped = no-stop y.used (used == length src) over room all i;
      };
    })
