-- A step of a filter that gives for each byte something of its own, for the proof of one's own.
use Rattle.std.proofs.Common.{◌≡◌, ℕ, zero, suc, ◌+◌, ◌<◌, ◌≤◌, Bool, true, false, not, ◌==◌, ◌&&◌, ◌||◌, if◌then◌else◌, List, []}
use Rattle.std.proofs.Common.{◌++◌}
use Rattle.std.proofs.Common.{length, take, Option, None, Ok, refl, sym, ◌∙◌, ap, subst, arith, length-append, append-nil}
use Rattle.std.specs.Prelude.{is_some, nat_le, nat_lt, ◌^◌}
use Rattle.std.specs.List.{flat_map}
use Rattle.std.proofs.lemmas.Bool.Decides.{nat_tests}
use Rattle.ev_types.specs.declared.filter.Mode.{Mode}
use Rattle.filter_model.specs.Filter.{Filter, met}
use Rattle.filter_model.specs.FilterLaws.{more, more_at_end}
use Rattle.filter_model.specs.Stopping.{first_from, is_over}
use Rattle.filter_model.proofs.RunningLemmas.{holds-none}
use Rattle.stream_filters.specs.declared.stream_filter.Step.{Step}
use Rattle.stream_filters.specs.StepAnswers.{is_last}
use Rattle.stream_filters.specs.Bytewise.{bytewise, more-bytewise, GivesBytes}
use Rattle.stream_filters.specs.StreamSteps.{Reached, held_after, must_end, use_count, taking, taken, Tells, MakesStep}

-- the first place at which a test holds
pub first-at : (stop : ℕ → Bool) (n left m : ℕ) → m ≤ left → ((j : ℕ) → j < m → stop (n + j) ≡ false) → (m < left → stop (n + m) ≡ true) →
    first_from stop n left ≡ n + m
first-at stop n zero m within before there = omega (arith, within)
first-at stop n (suc left) zero within before there =
    let z : n + 0 ≡ n = omega arith in
    let e : stop n ≡ true = ap stop (sym z) ∙ there (omega arith) in
    ap (λ b. if b then n else first_from stop (n + 1) left) e ∙ sym z
first-at stop n (suc left) (suc m) within before there =
    let z : n + 0 ≡ n = omega arith in
    let e : stop n ≡ false = ap stop (sym z) ∙ before 0 (omega arith) in
    let ih = first-at stop (n + 1) left m (omega (arith, within))
    (λ j lt. (let a : n + 1 + j ≡ n + suc j = omega arith in ap stop a) ∙ before (suc j) (omega (arith, lt)))
    (λ lt. (let a : n + 1 + m ≡ n + suc m = omega arith in ap stop a) ∙ there (omega (arith, lt))) in
    ap (λ b. if b then n else first_from stop (n + 1) left) e ∙ ih ∙ (let a : n + 1 + m ≡ n + suc m = omega arith in a)

module _ (give : ℕ → List ℕ) (limit : ℕ) (past src target filled : List ℕ) (used : ℕ) (over : Bool)
    (gives : GivesBytes give limit src target filled used) where
  abbrev f : Filter
  f = bytewise give

  abbrev test_at : ℕ → Bool
  test_at j = nat_le limit (length target + length (flat_map give (take j src)))

  end-is : (j : ℕ) → must_end f past src limit (length target) j ≡ test_at j
  end-is j = (λ i. nat_le limit (length target + length (more-bytewise give past (take j src) i)) || false) ∙ or-false (test_at j)
    where
      or-false : (b : Bool) → (b || false) ≡ b
      or-false true = refl
      or-false false = refl

  count-is : use_count f past src limit (length target) ≡ used
  count-is =
      let below : (j : ℕ) → j < used → test_at (0 + j) ≡ false = λ j lt.
      (let z : 0 + j ≡ j = omega arith in let b = gives.below j lt in
      let e : test_at j ≡ false = grind (arith, nat_tests, b) in ap test_at z ∙ e) in
      let stop : used < length src → test_at (0 + used) ≡ true = λ lt.
      (let z : 0 + used ≡ used = omega arith in let s = gives.stops lt in let a = ap length gives.appended in
      let l = length-append target (flat_map give (take used src)) in
      let le : limit ≤ length target + length (flat_map give (take used src)) = omega (arith, s, a, l) in
      let e : test_at used ≡ true = grind (arith, nat_tests, le) in ap test_at z ∙ e) in
      (λ i. first_from (λ j. end-is j i) 0 (length src))
      ∙ first-at test_at 0 (length src) used gives.within below stop
      ∙ omega arith

  over-is : (room : Bool) → is_over f (past ++ src) room ≡ true
  over-is room = ap (λ b. not b || room) (holds-none f (past ++ src) refl refl)

  never-met : (n : ℕ) (room : Bool) → met f (past ++ src) n over room ≡ None
  never-met n room = by room (nat_lt n (length (past ++ src))) over
    where
      no_place : Option ℕ
      no_place = None

      by : (a b c : Bool) → (if a then (if b then None else (if c then None else None)) else None) ≡ no_place
      by true true c = refl
      by true false true = refl
      by true false false = refl
      by false b c = refl

  finished-is : (room : Bool) → (over && (used == length src) && is_over f (past ++ src) room) ≡ (over && (used == length src))
  finished-is room = (λ i. over && (used == length src) && over-is room i) ∙ by over (used == length src)
    where
      by : (a b : Bool) → (a && b && true) ≡ (a && b)
      by true true = refl
      by true false = refl
      by false b = refl

  made-is : (b : Bool) → (if b then more_at_end f past (take used src) else more f past (take used src)) ≡ flat_map give (take used src)
  made-is true = more-bytewise give past (take used src)
  made-is false = more-bytewise give past (take used src)

  pub bytewise-taken : (was : Reached) → was.finished ≡ false → was.stopped ≡ None →
      taken f past was over limit (length target) src ≡ record {
        used = used;
        made = flat_map give (take used src);
        reached = record { used = length past + used; finished = over && (used == length src); stopped = None };
      }
  bytewise-taken was going unstopped =
      let room : Bool = nat_lt (held_after f past src (length target) used) limit in
      let idle : (was.finished || is_some was.stopped) ≡ false = λ i. going i || is_some (unstopped i) in
      ap (λ b. if b then record { used = 0; made = []; reached = was }
      else taking f past src over limit (length target) (use_count f past src limit (length target))) idle
      ∙ ap (taking f past src over limit (length target)) count-is
      ∙ (λ i. record {
        used = used;
        made = made-is (over && (used == length src) && is_over f (past ++ src) room) i;
        reached = record { used = length past + used; finished = finished-is room i; stopped = never-met (length past + used) room i };
      })

module _ {S : Type 0} (give : ℕ → List ℕ) (reached : S → Reached) (known : S → List ℕ → Type 0) (mode : Mode) (limit : ℕ)
    (src target filled : List ℕ) (before after : S)
    (counted : (past : List ℕ) → known before past → (reached before).used ≡ length past) where
  -- A step that went on. It used what it says and gave what these bytes give; the filter counts them, and is finished where all were
  -- used and the stream ends behind them.
  pub bytewise-steps : (step : Step) → (reached before).finished ≡ false → (reached before).stopped ≡ None →
      GivesBytes give limit src target filled step.used →
      reached after ≡ record {
        used = (reached before).used + step.used;
        finished = is_last mode
            && (step.used == length src);
        stopped = None;
      } →
      step.finished ≡ (is_last mode && (step.used == length src)) →
      ((past : List ℕ) → known before past → known after (past ++ take step.used src)) → (reached before).used + length src < 2 ^ 64 →
      MakesStep (λ _. bytewise give) reached known mode limit src (Ok step) before after target filled
  bytewise-steps step going unstopped gives came finished knows fits = record {
    same = refl;
    tells = λ past k.
        let t = bytewise-taken give limit past src target filled step.used (is_last mode) gives (reached before) going unstopped in
        subst (λ t. Tells (Ok step) (known after) t past src (reached after) target filled) (sym t) (
          record { used = refl; finished = finished; unstopped = refl },
          record {
            knows = knows past k;
            reached = came ∙ (λ i. record {
              used = counted past k i + step.used;
              finished = is_last mode && (step.used == length src);
              stopped = None;
            });
            filled_by = gives.appended;
          },
        );
    refused = _;
    spent =
        (let idle : ((reached before).finished || is_some (reached before).stopped) ≡ false = λ i. going i || is_some (unstopped i) in
        let few : nat_lt ((reached before).used + length src) (2 ^ 64) ≡ true = grind (arith, nat_tests, fits) in
        λ i. not (sym idle i) && not (sym few i));
  }

-- a step of a filter that is finished
pub finished-steps : {S : Type 0} (filter : S → Filter) (reached : S → Reached) (known : S → List ℕ → Type 0) (mode : Mode) (limit : ℕ)
    (src target : List ℕ) (x : S) (step : Step) → (reached x).finished ≡ true → (reached x).stopped ≡ None → step.used ≡ 0 →
    step.finished ≡ true → MakesStep filter reached known mode limit src (Ok step) x x target target
finished-steps filter reached known mode limit src target x step done unstopped none says = record {
  same = refl;
  tells = λ past k.
      let t : taken (filter x) past (reached x) (is_last mode) limit (length target) src
      ≡ record { used = 0; made = []; reached = reached x } =
      ap (λ b. if b || is_some (reached x).stopped then record { used = 0; made = []; reached = reached x }
      else taking (filter x) past src (is_last mode) limit (length target) (use_count (filter x) past src limit (length target))) done in
      subst (λ t. Tells (Ok step) (known x) t past src (reached x) target target) (sym t) (
        record { used = none; finished = says ∙ sym done; unstopped = unstopped },
        record { knows = subst (known x) (sym (append-nil past)) k; reached = refl; filled_by = sym (append-nil target) },
      );
  refused = _;
  spent = (λ i. not (sym done i || is_some (reached x).stopped) && not (nat_lt ((reached x).used + length src) (2 ^ 64)));
}
