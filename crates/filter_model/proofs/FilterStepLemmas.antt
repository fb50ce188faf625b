-- A step of a running filter is the definition's.
use Rattle.std.proofs.Common.{◌≡◌, ℕ, suc, zero, ◌+◌, ◌-◌, ◌<◌, ◌≤◌, Bool, true, false, not, ◌==◌, ◌&&◌, ◌||◌, if◌then◌else◌, List, []}
use Rattle.std.proofs.Common.{◌++◌, length, take, drop, Option, Some, None, is_none, refl, sym, ◌∙◌, ap, subst, arith, append_assoc}
use Rattle.std.proofs.Common.{append-nil, length-append}
use Rattle.std.specs.Prelude.{is_some, nat_le, nat_lt, ⊤, MatchOption}
use Rattle.std.specs.List.{last_or}
use Rattle.std.proofs.lemmas.Bool.{eqb-true}
use Rattle.std.proofs.lemmas.Bool.Decides.{nat_tests}
use Rattle.std.proofs.lemmas.List.{length-drop, length-take-le, take-append-drop}
use Rattle.std.proofs.Math.Seq.{take-length}
use Rattle.ev_types.specs.declared.filter.FilterKind.{FilterKind}
use Rattle.filter_model.specs.Filter.{Filter, filter_of, met, holds}
use Rattle.filter_model.specs.FilterLaws.{last_of}
use Rattle.filter_model.specs.FilterRun.{Ran, run, is_end_bad, holds_byte, end_adds}
use Rattle.filter_model.specs.FilterStep.{count_of, run_of, after_bytes, stop_place, is_finished, Stepped, ending, stepped}
use Rattle.filter_model.specs.FilterCuts.{target_length, must_stop, IsStep, StepIsFunction}
use Rattle.filter_model.specs.Running.{Running, StandsAt}
use Rattle.filter_model.specs.Stopping.{first_from, is_over}
use Rattle.filter_model.proofs.EveryFilter.{every_filter, begins_with_input}
use Rattle.filter_model.proofs.MetLemmas.{bad-next}
use Rattle.filter_model.proofs.RunningLemmas.{last-used}
use Rattle.filter_model.proofs.FilterRunLemmas.{run-within, run-is, Runs}
use Rattle.filter_model.proofs.FilterEndLemmas.{end-place, end-good, holds-byte, at_end-adds}

-- what is found before the last place passes
first_from-stops : (stop : ℕ → Bool) (n left : ℕ) → first_from stop n left < n + left → stop (first_from stop n left) ≡ true
first_from-stops stop n zero lt = absurd (omega arith)
first_from-stops stop n (suc left) lt = go (first_from-stops stop (n + 1) left) (stop n) refl lt
  where
    go : (first_from stop (n + 1) left < n + 1 + left → stop (first_from stop (n + 1) left) ≡ true) → (b : Bool) → stop n ≡ b →
        (if b then n else first_from stop (n + 1) left) < n + suc left → stop (if b then n else first_from stop (n + 1) left) ≡ true
    go next true e h = e
    go next false e h = next (omega arith)

some_of : (o : Option ℕ) (n : ℕ) → is_some o ≡ true → ((place : ℕ) → o ≡ Some place → place ≡ n) → o ≡ Some n
some_of None n h only = absurd (cc)
some_of (Some place) n h only = ap Some (only place refl)

-- of a sum whose parts are known
or_of : (a b : Bool) → (a || b) ≡ true → a ≡ false → b ≡ true
or_of true b h e = absurd (cc)
or_of false b h e = h

-- a filter meets the same place with room, where it meets one at all
met-room : (f : Filter) (xs : List ℕ) (used : ℕ) (over room : Bool) (o : Option ℕ) → o ≡ met f xs used over room →
    MatchOption o ⊤ (λ place. met f xs used over true ≡ Some place)
met-room f xs used over room None e = tt
met-room f xs used over true (Some place) e = sym e
met-room f xs used over false (Some place) e = absurd (cc)

module _ (k : FilterKind) (xs : List ℕ) (limit others gone : ℕ) (over : Bool) (x : Running)
    (stands : StandsAt k (filter_of k) xs x.used over false x)
    (there : x.used ≤ length xs) (within : gone ≤ length ((filter_of k).before (take x.used xs))) where
  abbrev f : Filter
  f = filter_of k

  abbrev ys : List ℕ
  ys = take x.used xs

  abbrev src : List ℕ
  src = drop x.used xs

  abbrev n : ℕ
  n = target_length (filter_of k) xs others gone x.used

  abbrev ran : Ran
  ran = run_of x limit (target_length (filter_of k) xs others gone x.used) (drop x.used xs)

  abbrev u : ℕ
  u = x.used + (run_of x limit (target_length (filter_of k) xs others gone x.used) (drop x.used xs)).used

  long : length (take x.used xs) ≡ x.used
  long = length-take-le x.used xs there

  since_zero : x.since ≡ 0
  since_zero = stands.since ∙ begins_with_input k

  last_is : x.last ≡ last_of (take x.used xs)
  last_is = stands.last ∙ ap (λ m. last_of (drop m (take x.used xs))) (begins_with_input k)

  count_is : count_of x ≡ x.used
  count_is = let e = since_zero in omega arith

  same : run_of x limit n src ≡ run k limit (length (f.before ys) - gone + others) (length ys) (last_of ys) src
  same =
      let a : n ≡ length (f.before ys) - gone + others = ap (λ m. m + others) (length-drop gone (f.before ys)) in
      let b : count_of x ≡ length ys = count_is ∙ sym long in
      let c = stands.kind in
      let d = last_is in
      λ i. run (c i) limit (a i) (b i) (d i) src

  ran_is : Runs k (must_stop f xs limit others gone) limit others gone ys src [] ran
  ran_is =
      let whole : ys ++ (src ++ []) ≡ xs = ap (λ z. ys ++ z) (append-nil src) ∙ take-append-drop x.used xs in
      subst (λ (z : Ran). Runs k (must_stop f xs limit others gone) limit others gone ys src [] z) (sym same)
      (run-is k (must_stop f xs limit others gone) limit others gone ys src [] (λ m. (let w = sym whole in
      λ i. must_stop f (w i) limit others gone m)) stands.good within)

  used_in : ran.used ≤ length src
  used_in = run-within x.kind limit n (count_of x) x.last src

  pub step-within : u ≤ length xs
  step-within = let a = used_in in let b = length-drop x.used xs in omega (arith, a, b, there)

  pub step-used : first_from (must_stop f xs limit others gone) x.used (length xs - x.used) ≡ u
  step-used =
      let a = long in
      let b = length-drop x.used xs in
      (λ i. first_from (must_stop f xs limit others gone) (sym a i) (sym b i)) ∙ ran_is.used ∙ ap (λ m. m + ran.used) a

  whole_is : take (length ys + ran.used) (ys ++ (src ++ [])) ≡ take u xs
  whole_is =
      let w : ys ++ (src ++ []) ≡ xs = ap (λ z. ys ++ z) (append-nil src) ∙ take-append-drop x.used xs in
      let a = long in
      λ i. take (a i + ran.used) (w i)

  made_is : f.before (take u xs) ≡ f.before ys ++ ran.made
  made_is = ap f.before (sym whole_is) ∙ ran_is.made

  good_is : f.bad (take u xs) ≡ None
  good_is = ap f.bad (sym whole_is) ∙ ran_is.good

  -- the filter after its run
  abbrev ran_on : Running
  ran_on = after_bytes x (take (run_of x limit (target_length (filter_of k) xs others gone x.used) (drop x.used xs)).used (drop x.used xs))

  used_is : ran_on.used ≡ u
  used_is = ap (λ m. x.used + m) (length-take-le ran.used src used_in)

  count_on : count_of ran_on ≡ length (take u xs)
  count_on = let a = since_zero in let b = used_is in let c = length-take-le u xs step-within in omega (arith, a, b, c)

  last_on : ran_on.last ≡ last_of (take u xs)
  last_on = ap (λ o. last_or o (take ran.used src)) last_is ∙ sym (last-used 0 x.used ran.used xs (omega arith) there)

  abbrev all : Bool
  all = (run_of x limit (target_length (filter_of k) xs others gone x.used) (drop x.used xs)).used == length (drop x.used xs)

  all_is : all ≡ (u == length xs)
  all_is = let a = length-drop x.used xs in let b = there in grind (arith, nat_tests, a, b)

  abbrev room : Bool
  room =
      let n = target_length (filter_of k) xs others gone x.used in
      nat_lt (n + length (run_of x limit n (drop x.used xs)).made) limit

  target_is : n + length ran.made ≡ target_length f xs others gone u
  target_is =
      let a = length-drop gone (f.before ys) in
      let b = length-drop gone (f.before (take u xs)) in
      let c = ap length made_is ∙ length-append (f.before ys) ran.made in
      omega (arith, a, b, c, within)

  room_is : room ≡ nat_lt (target_length f xs others gone u) limit
  room_is = ap (λ m. nat_lt m limit) target_is

  -- with all used, what the filter knows is what the definition says of the whole
  end_bad : all ≡ true → is_none (f.bad_at_end xs) ≡ not (is_end_bad x.kind (count_of ran_on))
  end_bad e =
      let w : take u xs ≡ xs = ap (λ m. take m xs) (eqb-true u (length xs) (sym all_is ∙ e)) ∙ take-length xs in
      ap (λ z. is_none (f.bad_at_end z)) (sym w) ∙ end-good k (take u xs) good_is
      ∙ (let a = stands.kind in let b = count_on in λ i. not (is_end_bad (sym a i) (sym b i)))

  end_holds : all ≡ true → holds f xs ≡ holds_byte x.kind (count_of ran_on) ran_on.last
  end_holds e =
      let w : take u xs ≡ xs = ap (λ m. take m xs) (eqb-true u (length xs) (sym all_is ∙ e)) ∙ take-length xs in
      ap (holds f) (sym w) ∙ holds-byte k (take u xs) good_is
      ∙ (let a = stands.kind in let b = count_on in let c = last_on in λ i. holds_byte (sym a i) (sym b i) (sym c i))

  finished_is : is_finished ran_on all over room
      ≡ (over && (u == length xs) && is_over f xs (nat_lt (target_length f xs others gone u) limit))
  finished_is = go all refl ∙ (let a = all_is in let b = room_is in λ i. over && a i && is_over f xs (b i))
    where
      last_three : (a b c : Bool) → (a && false && b && c) ≡ false
      last_three true b c = refl
      last_three false b c = refl

      none : (a c : Bool) → false ≡ (a && false && c)
      none true c = refl
      none false c = refl

      join : (a b c : Bool) → (true && a && b && c) ≡ (a && true && (b && c))
      join true true c = refl
      join true false c = refl
      join false b c = refl

      go : (b : Bool) → all ≡ b → is_finished ran_on b over room ≡ (over && b && is_over f xs room)
      go false e = none over (is_over f xs room)
      go true e =
          join over (not (is_end_bad x.kind (count_of ran_on))) (not (holds_byte x.kind (count_of ran_on) ran_on.last) || room)
          ∙ (let a = end_bad e in let b = end_holds e in λ i. over && true && (sym a i && (not (sym b i) || room)))

  next_bad : all ≡ false → room ≡ true → f.bad (take (u + 1) xs) ≡ Some u
  next_bad e r =
      let s = step-used in
      let a = all_is in
      let lt : u < length xs = let le = step-within in grind (arith, nat_tests, e, a, le) in
      let b = first_from-stops (must_stop f xs limit others gone) x.used (length xs - x.used) (omega (arith, s, lt, there)) in
      let c : must_stop f xs limit others gone u ≡ true = ap (must_stop f xs limit others gone) (sym s) ∙ b in
      let d : nat_le limit (target_length f xs others gone u) ≡ false = let q = sym room_is ∙ r in grind (arith, nat_tests, q) in
      some_of (f.bad (take (u + 1) xs)) u (or_of (nat_le limit (target_length f xs others gone u)) (is_some (f.bad (take (u + 1) xs))) c d)
      (λ place h. bad-next f (every_filter k).badness u xs place good_is h)

  bad_end : all ≡ true → f.bad_at_end xs ≡ (if is_end_bad x.kind (count_of ran_on) then Some ran_on.used else None)
  bad_end e =
      let w : take u xs ≡ xs = ap (λ m. take m xs) (eqb-true u (length xs) (sym all_is ∙ e)) ∙ take-length xs in
      let l : length (take u xs) ≡ ran_on.used = length-take-le u xs step-within ∙ sym used_is in
      ap f.bad_at_end (sym w) ∙ end-place k (take u xs) good_is
      ∙ (let a = stands.kind in let b = count_on in λ i. if is_end_bad (sym a i) (sym b i) then Some (l i) else None)

  stopped_is : stop_place ran_on all over room ≡ met f xs u over (nat_lt (target_length f xs others gone u) limit)
  stopped_is = go room refl ∙ (let b = room_is in λ i. met f xs u over (b i))
    where
      left_is : nat_lt u (length xs) ≡ not all
      left_is = let a = all_is in let le = step-within in grind (arith, nat_tests, a, le)

      by_end : (b : Bool) → (if (not true || (b && is_end_bad x.kind (count_of ran_on))) then Some ran_on.used else None)
          ≡ (if b then (if is_end_bad x.kind (count_of ran_on) then Some ran_on.used else None) else None)
      by_end true = refl
      by_end false = refl

      at : (b : Bool) → all ≡ b → room ≡ true →
          (if (not b || (over && is_end_bad x.kind (count_of ran_on))) then Some ran_on.used else None)
          ≡ (if not b then f.bad (take (u + 1) xs) else (if over then f.bad_at_end xs else None))
      at false e r = ap Some used_is ∙ sym (next_bad e r)
      at true e r = by_end over ∙ (let a = bad_end e in λ i. if over then sym a i else None)

      go : (r : Bool) → room ≡ r → stop_place ran_on all over r ≡ met f xs u over r
      go false e = refl
      go true e = at all refl e ∙ (let a = left_is in
          λ i. if sym a i then f.bad (take (u + 1) xs) else (if over then f.bad_at_end xs else None))

  abbrev s : Stepped
  s = ending ran_on ran all over room

  made_by_end : (b : Bool) → is_finished ran_on all over room ≡ b →
      f.before ys ++ (ran.made ++ (if b then end_adds x.kind ran_on.last else []))
      ≡ (if b then f.at_end (take ran_on.used xs) else f.before (take ran_on.used xs))
  made_by_end false e = ap (λ z. f.before ys ++ z) (append-nil ran.made) ∙ sym made_is
      ∙ (let a = used_is in λ i. f.before (take (sym a i) xs))
  made_by_end true e =
      sym (append_assoc (f.before ys) ran.made (end_adds x.kind ran_on.last))
      ∙ (let a = made_is in let b = stands.kind in let c = last_on in λ i. sym a i ++ end_adds (b i) (c i))
      ∙ sym (at_end-adds k (take u xs)) ∙ (let a = used_is in λ i. f.at_end (take (sym a i) xs))

  pub ending-is : IsStep f xs limit others gone over x s
  ending-is = record {
    used = step-used;
    within = step-within;
    made = made_by_end (is_finished ran_on all over room) refl;
    stopped = stopped_is;
    finished = finished_is;
    stands = record {
      kind = refl;
      since = stands.since;
      begun = (let a = stands.begun in omega (arith, a));
      used = used_is;
      good = good_is;
      last = last_on ∙ (let z = begins_with_input k in λ i. last_of (drop (sym z i) (take u xs)));
      finished = refl;
      stopped = met-room f xs u over (nat_lt (target_length f xs others gone u) limit) (stop_place ran_on all over room) stopped_is;
    };
  }

  stepped-is : x.stopped ≡ None → IsStep f xs limit others gone over x (stepped x over limit n src)
  stepped-is unstopped =
      let idle : (x.finished || is_some x.stopped) ≡ false = (let a = stands.finished in λ i. a i || is_some (unstopped i)) in
      subst (IsStep f xs limit others gone over x)
      (sym (ap (λ b. if b then record { used = 0; made = []; after = x } else s) idle)) ending-is

pub step_is_function : StepIsFunction
step_is_function k xs limit others gone over x stands unstopped there within =
    stepped-is k xs limit others gone over x stands there within unstopped
