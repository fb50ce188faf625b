-- A step of one of the five filters is a step of a filter of a byte stream.
use Rattle.std.proofs.Common.{◌≡◌, ℕ, zero, suc, ◌+◌, ◌-◌, ◌≤◌, Bool, true, false, ◌==◌, ◌&&◌, ◌||◌, if◌then◌else◌, List, [], ◌∷◌, ◌++◌}
use Rattle.std.proofs.Common.{length, take, drop, Option, Some, None, refl, sym, ◌∙◌, ap, subst, arith, length-append, append-nil}
use Rattle.std.specs.Prelude.{is_some, nat_le, nat_lt, ⊤, MatchOption, Result, Ok, Err}
use Rattle.std.proofs.lemmas.Bool.Decides.{nat_tests}
use Rattle.std.proofs.lemmas.List.{length-take}
use Rattle.ev_types.specs.declared.filter.Mode.{Mode}
use Rattle.filter_model.specs.Filter.{Filter, filter_of, met}
use Rattle.filter_model.specs.FilterLaws.{last_of, more, more_at_end}
use Rattle.filter_model.specs.FilterStep.{run_of, after_bytes, Stepped, ending, stepped}
use Rattle.filter_model.specs.FilterCuts.{target_length, must_stop, IsStep, made_of}
use Rattle.filter_model.specs.Running.{Running, StandsAt}
use Rattle.filter_model.specs.Stopping.{first_from, is_over}
use Rattle.filter_model.proofs.EveryFilter.{begins_with_input}
use Rattle.filter_model.proofs.FilterStepLemmas.{step_is_function}
use Rattle.stream_filters.specs.declared.stream_filter.Step.{Step}
use Rattle.stream_filters.specs.declared.fault.FilterFault.{FilterFault}
use Rattle.stream_filters.specs.declared.fault.FilterFault.TheVariants.{Memory, BadByte, Spent}
use Rattle.stream_filters.specs.House.{MayHaveUsed, definition, reach}
use Rattle.stream_filters.specs.StepAnswers.{Answers, is_last, is_spent, says_spent}
use Rattle.stream_filters.specs.StreamSteps.{held_after, must_end, use_count, Taken, taking, taken, Tells, KeptIfRefused, MakesStep}

-- a place that is counted from a later one on
first_from-shift : (stop : ℕ → Bool) (n m left : ℕ) → first_from stop (n + m) left ≡ n + first_from (λ j. stop (n + j)) m left
first_from-shift stop n m zero = refl
first_from-shift stop n m (suc left) =
    let a : n + m + 1 ≡ n + (m + 1) = omega arith in
    (λ i. if stop (n + m) then n + m else (ap (λ z. first_from stop z left) a ∙ first_from-shift stop n (m + 1) left) i)
    ∙ pick (stop (n + m))
  where
    pick : (b : Bool) → (if b then n + m else n + first_from (λ j. stop (n + j)) (m + 1) left)
        ≡ n + (if b then m else first_from (λ j. stop (n + j)) (m + 1) left)
    pick true = refl
    pick false = refl

pub take-past : (past src : List ℕ) (j : ℕ) → take (length past + j) (past ++ src) ≡ past ++ take j src
take-past [] src j = ap (λ n. take n src) (omega arith)
take-past (x ∷ past) src j =
    let e : length (x ∷ past) + j ≡ suc (length past + j) = omega arith in
    ap (λ n. take n (x ∷ past ++ src)) e ∙ ap (λ z. x ∷ z) (take-past past src j)

drop-past : (past src : List ℕ) → drop (length past) (past ++ src) ≡ src
drop-past [] src = refl
drop-past (x ∷ past) src = drop-past past src

-- the whole past is in front
take-whole : (past src : List ℕ) → take (length past) (past ++ src) ≡ past
take-whole [] src = refl
take-whole (x ∷ past) src = ap (λ z. x ∷ z) (take-whole past src)

drop-whole : (xs : List ℕ) → drop (length xs) xs ≡ []
drop-whole [] = refl
drop-whole (x ∷ xs) = drop-whole xs

eq-shift : (n a b : ℕ) → (n + a == n + b) ≡ (a == b)
eq-shift n a b = by_test (n + a == n + b) (a == b) refl refl
  where
    by_test : (p q : Bool) → (n + a == n + b) ≡ p → (a == b) ≡ q → p ≡ q
    by_test true true e f = refl
    by_test false false e f = refl
    by_test true false e f = absurd (grind (arith, nat_tests, e, f))
    by_test false true e f = absurd (grind (arith, nat_tests, e, f))

module _ (x : Running) (past src : List ℕ) (over : Bool) (limit held : ℕ) (a : MayHaveUsed x past) (going : x.finished ≡ false)
    (unstopped : x.stopped ≡ None) where
  abbrev f : Filter
  f = filter_of x.kind

  abbrev xs : List ℕ
  xs = past ++ src

  abbrev gone : ℕ
  gone = length (f.before past)

  abbrev s : Stepped
  s = stepped x over limit held src

  front : take x.used xs ≡ past
  front = ap (λ n. take n xs) a.used ∙ take-whole past src

  stands : StandsAt x.kind f xs x.used over false x
  stands =
      let z = begins_with_input x.kind in
      record {
        kind = refl;
        since = a.begun ∙ sym z;
        begun = omega (arith, z);
        used = refl;
        good = ap f.bad front ∙ a.good;
        last = a.last ∙ (λ i. last_of (drop (sym z i) (sym front i)));
        finished = going;
        stopped = subst (λ o. MatchOption o ⊤ (λ place. met f xs x.used over true ≡ Some place)) (sym unstopped) _;
      }

  is-step : IsStep f xs limit held gone over x s
  is-step =
      let at : target_length f xs held gone x.used ≡ held =
      (λ i. length (drop gone (f.before (front i))) + held) ∙ ap (λ z. length z + held) (drop-whole (f.before past)) ∙ omega arith in
      let rest : drop x.used xs ≡ src = ap (λ n. drop n xs) a.used ∙ drop-past past src in
      let within : x.used ≤ length xs = (let u = a.used in omega (arith, u, length-append past src)) in
      let less : gone ≤ length (f.before (take x.used xs)) = (let e = ap (λ z. length (f.before z)) front in omega (arith, e)) in
      subst (λ n. IsStep f xs limit held gone over x (stepped x over limit n src)) at
      (subst (λ z. IsStep f xs limit held gone over x (stepped x over limit (target_length f xs held gone x.used) z)) rest
      (step_is_function x.kind xs limit held gone over x stands unstopped within less))

  -- the bytes that are used by then
  by-then : (j : ℕ) → take (x.used + j) xs ≡ past ++ take j src
  by-then j = ap (λ n. take (n + j) xs) a.used ∙ take-past past src j

  held-is : (j : ℕ) → target_length f xs held gone (x.used + j) ≡ held_after f past src held j
  held-is j = ap (λ z. length (drop gone (f.before z)) + held) (by-then j) ∙ omega arith

  stop-is : (j : ℕ) → must_stop f xs limit held gone (x.used + j) ≡ must_end f past src limit held j
  stop-is j =
      let next : take (x.used + j + 1) xs ≡ past ++ take (j + 1) src = ap (λ n. take n xs) (omega arith) ∙ by-then (j + 1) in
      λ i. nat_le limit (held-is j i) || is_some (f.bad (next i))

  used-is : use_count f past src limit held ≡ s.used
  used-is =
      let left : length xs - x.used ≡ length src = (let u = a.used in omega (arith, u, length-append past src)) in
      let z : x.used ≡ x.used + 0 = omega arith in
      let shift = (λ i. first_from (must_stop f xs limit held gone) (z i) (left i))
      ∙ first_from-shift (must_stop f xs limit held gone) x.used 0 (length src)
      ∙ (λ i. x.used + first_from (λ j. stop-is j i) 0 (length src)) in
      let u = is-step.used in
      omega (arith, shift, u)

  room-is : nat_lt (target_length f xs held gone (x.used + s.used)) limit ≡ nat_lt (held_after f past src held s.used) limit
  room-is = ap (λ n. nat_lt n limit) (held-is s.used)

  all-is : (x.used + s.used == length xs) ≡ (s.used == length src)
  all-is =
      let m : x.used + s.used ≡ length past + s.used = ap (λ n. n + s.used) a.used in
      (λ i. m i == length-append past src i) ∙ eq-shift (length past) s.used (length src)

  abbrev t : Taken
  t = taking f past src over limit held s.used

  finished-is : s.after.finished ≡ t.reached.finished
  finished-is = is-step.finished ∙ (λ i. over && all-is i && is_over f xs (room-is i))

  stopped-is : s.after.stopped ≡ t.reached.stopped
  stopped-is = is-step.stopped ∙ (λ i. met f xs (a.used i + s.used) over (room-is i))

  made-is : s.made ≡ t.made
  made-is =
      let bytes : take s.after.used xs ≡ past ++ take s.used src = ap (λ n. take n xs) is-step.stands.used ∙ by-then s.used in
      let front_made : f.before past ++ s.made ≡ made_of f xs s.after = ap (λ z. f.before z ++ s.made) (sym front) ∙ is-step.made in
      sym (drop-past (f.before past) s.made) ∙ ap (drop gone) front_made
      ∙ (λ i. drop gone (if finished-is i then f.at_end (bytes i) else f.before (bytes i)))
      ∙ split t.reached.finished
    where
      split : (b : Bool) → drop gone (if b then f.at_end (past ++ take s.used src) else f.before (past ++ take s.used src))
          ≡ (if b then more_at_end f past (take s.used src) else more f past (take s.used src))
      split true = refl
      split false = refl

  pub goes-taken : taking f past src over limit held (use_count f past src limit held)
      ≡ record { used = s.used; made = s.made; reached = reach s.after }
  goes-taken =
      ap (λ u. taking f past src over limit held u) used-is
      ∙ (let n : length past + s.used ≡ s.after.used = (let u = a.used in let v = is-step.stands.used in omega (arith, u, v)) in
      λ i. record {
        used = s.used;
        made = sym made-is i;
        reached = record { used = n i; finished = sym finished-is i; stopped = sym stopped-is i };
      })

  pub goes-kind : s.after.kind ≡ x.kind
  goes-kind = is-step.stands.kind

  pub goes-used : MayHaveUsed s.after (past ++ take s.used src)
  goes-used =
      let z = begins_with_input x.kind in
      let w = is-step.stands in
      let kinds : filter_of s.after.kind ≡ f = ap filter_of w.kind in
      record {
        begun = w.since ∙ z;
        used =
            (let u = w.used in let v = a.used in let e = ap length (by-then s.used) in let i = is-step.within in
            omega (arith, u, v, i, length-append past src, length-append past (take s.used src), length-take s.used src));
        good = (λ i. (kinds i).bad (sym (by-then s.used) i)) ∙ w.good;
        last = w.last ∙ (λ i. last_of (drop (z i) (by-then s.used i)));
      }

-- a step as its definition says it
record IsTaken (x : Running) (past src : List ℕ) (t : Taken) (s : Stepped) : Type 0 where
  taken_is : t ≡ record { used = s.used; made = s.made; reached = reach s.after }
  uses : MayHaveUsed s.after (past ++ take s.used src)
  kind : filter_of s.after.kind ≡ filter_of x.kind

module _ (x : Running) (past src : List ℕ) (over : Bool) (limit held : ℕ) (a : MayHaveUsed x past) where
  abbrev definition_step : Bool → Taken
  definition_step idle = if idle then record { used = 0; made = []; reached = reach x }
      else taking (filter_of x.kind) past src over limit held (use_count (filter_of x.kind) past src limit held)

  abbrev going_step : Stepped
  going_step =
      let ran = run_of x limit held src in
      ending (after_bytes x (take ran.used src)) ran (ran.used == length src) over (nat_lt (held + length ran.made) limit)

  -- a filter that is finished or has stopped does nothing
  idle-taken : (x.finished || is_some x.stopped) ≡ true → IsTaken x past src (taken (definition x) past (reach x) over limit held src)
      (stepped x over limit held src)
  idle-taken idle =
      subst (λ t. IsTaken x past src t (stepped x over limit held src)) (sym (ap definition_step idle))
      (subst (λ s. IsTaken x past src (record { used = 0; made = []; reached = reach x }) s) (sym step) (record {
        taken_is = refl;
        uses = subst (MayHaveUsed x) (sym (append-nil past)) a;
        kind = refl;
      }))
    where
      step : stepped x over limit held src ≡ record { used = 0; made = []; after = x }
      step = ap (λ b. if b then record { used = 0; made = []; after = x } else going_step) idle

  busy-taken : x.finished ≡ false → x.stopped ≡ None → IsTaken x past src (taken (definition x) past (reach x) over limit held src)
      (stepped x over limit held src)
  busy-taken going unstopped =
      let idle : (x.finished || is_some x.stopped) ≡ false = λ i. going i || is_some (unstopped i) in
      record {
        taken_is = ap definition_step idle ∙ goes-taken x past src over limit held a going unstopped;
        uses = goes-used x past src over limit held a going unstopped;
        kind = ap filter_of (goes-kind x past src over limit held a going unstopped);
      }

  is-taken : IsTaken x past src (taken (definition x) past (reach x) over limit held src) (stepped x over limit held src)
  is-taken = by x.finished x.stopped refl refl
    where
      by : (fin : Bool) (stop : Option ℕ) → x.finished ≡ fin → x.stopped ≡ stop →
          IsTaken x past src (taken (definition x) past (reach x) over limit held src) (stepped x over limit held src)
      by true stop e h = idle-taken (λ i. e i || is_some x.stopped)
      by false (Some p) e h = idle-taken (λ i. e i || is_some (h i))
      by false None e h = busy-taken e h

-- an answer of a step tells what its definition says
module _ (x after : Running) (mode : Mode) (limit : ℕ) (src target filled : List ℕ) where
  abbrev step_made : Stepped
  step_made = stepped x (is_last mode) limit (length target) src

  answer-tells : (result : Result Step FilterFault) → Answers result step_made x after target filled →
      (past : List ℕ) → MayHaveUsed x past →
      Tells result (MayHaveUsed after) (taken (definition x) past (reach x) (is_last mode) limit (length target) src) past src
      (reach after) target filled
  answer-tells (Ok step) h past a =
      let z = is-taken x past src (is_last mode) limit (length target) a in
      subst (λ t. Tells (Ok step) (MayHaveUsed after) t past src (reach after) target filled) (sym z.taken_is) (
        record { used = h.0.used; finished = h.0.finished; unstopped = h.0.unstopped },
        record {
          knows = subst (λ y. MayHaveUsed y (past ++ take step_made.used src)) (sym h.1.after_it) z.uses;
          reached = ap reach h.1.after_it;
          filled_by = h.1.filled_by_it;
        },
      )
  answer-tells (Err (BadByte used place)) h past a =
      let z = is-taken x past src (is_last mode) limit (length target) a in
      subst (λ t. Tells (Err (BadByte used place)) (MayHaveUsed after) t past src (reach after) target filled) (sym z.taken_is) (
        h.0,
        h.1,
        record {
          knows = subst (λ y. MayHaveUsed y (past ++ take step_made.used src)) (sym h.2.after_it) z.uses;
          reached = ap reach h.2.after_it;
          filled_by = h.2.filled_by_it;
        },
      )
  answer-tells (Err Memory) h past a = _
  answer-tells (Err Spent) h past a = _

  answer-keeps : (result : Result Step FilterFault) → Answers result step_made x after target filled →
      KeptIfRefused result x after target filled
  answer-keeps (Ok step) h = _
  answer-keeps (Err (BadByte used place)) h = _
  answer-keeps (Err Memory) h = h
  answer-keeps (Err Spent) h = h

  pub house-steps : (result : Result Step FilterFault) → Answers result step_made x after target filled → after.kind ≡ x.kind →
      says_spent result ≡ is_spent x (length src) →
      MakesStep definition reach MayHaveUsed mode limit src result x after target filled
  house-steps result h kind spent = record {
    same = ap filter_of kind;
    tells = answer-tells result h;
    refused = answer-keeps result h;
    spent = spent;
  }
