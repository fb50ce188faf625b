-- However an input is cut into steps, they make the definition's function of it.
use Rattle.std.proofs.Common.{◌≡◌, ℕ, suc, ◌+◌, ◌-◌, ◌<◌, ◌≤◌, Bool, true, false, not, ◌==◌, ◌&&◌, ◌||◌, if◌then◌else◌, List, [], ◌∷◌, ◌++◌}
use Rattle.std.proofs.Common.{length, take, drop, Option, Some, None, is_none, refl, sym, ◌∙◌, ap, subst, arith, append_assoc, append-nil}
use Rattle.std.proofs.Common.{length-append}
use Rattle.std.specs.Prelude.{is_some, nat_le, nat_lt, ⊤, MatchOption}
use Rattle.std.specs.List.{last_or}
use Rattle.std.proofs.lemmas.Bool.{eqb-true, and_parts, leb-true}
use Rattle.std.proofs.lemmas.Bool.Decides.{nat_tests}
use Rattle.std.proofs.lemmas.List.{length-drop, length-take, take-take, drop-take, take_all}
use Rattle.ev_types.specs.declared.filter.FilterKind.{FilterKind}
use Rattle.filter_model.specs.Filter.{Filter, filter_of, met, holds}
use Rattle.filter_model.specs.FilterLaws.{IsMetPlace, last_of}
use Rattle.filter_model.specs.FilterRun.{Ran, nothing_ran, run, goes_on, adds, is_bad_byte}
use Rattle.filter_model.specs.FilterStep.{begun, run_of, after_bytes, Stepped, ending, stepped}
use Rattle.filter_model.specs.FilterCuts.{target_length, IsStep, Cut, cut_step, after_cuts, made_by, GivesFunction, CutsGiveFunction}
use Rattle.filter_model.specs.FilterCuts.{CutsAgree, joined, RunsJoin}
use Rattle.filter_model.specs.Running.{Running, StandsAt}
use Rattle.filter_model.specs.Stopping.{is_over}
use Rattle.filter_model.proofs.EveryFilter.{every_filter, begins_with_input}
use Rattle.filter_model.proofs.MetLemmas.{met_is_bad, bad-of_take}
use Rattle.filter_model.proofs.FilterStepLemmas.{step_is_function}

-- what holds between steps: also what the filter knows of the bytes that it used
record Kept (k : FilterKind) (ws output : List ℕ) (x : Running) : Type 0 where
  gives : GivesFunction (filter_of k) ws output x
  kind : x.kind ≡ k
  since : x.since ≡ 0
  last : x.last ≡ last_of (take x.used ws)

-- a place that is met in the first bytes of the input, the end being there only where they are all of it
lift-place : (k : FilterKind) (ws : List ℕ) (m : ℕ) (used place : ℕ) (over room : Bool) → (over ≡ true → take m ws ≡ ws) →
    met (filter_of k) (take m ws) used over room ≡ Some place →
    IsMetPlace (filter_of k) ws used place
lift-place k ws m used place true room whole h =
    met_is_bad (filter_of k) ws used true room place (every_filter k) ((let w = whole refl in
    λ i. met (filter_of k) (sym w i) used true room) ∙ h)
lift-place k ws m used place false true whole h =
    let f : Filter = filter_of k in
    let place_in = met_is_bad f (take m ws) used false true place (every_filter k) h in
    let inside : used < length (take m ws) = by_left (nat_lt used (length (take m ws))) refl h in
    let bad : f.bad ws ≡ Some place = bad-of_take f (every_filter k).badness m ws place (place_in.before inside) in
    let cut : take used (take m ws) ≡ take used ws = take-take used m ws (omega (arith, length-take m ws, inside)) in
    record {
      at_end = (every_filter k).badness.bad_at_end ws place bad;
      before = λ _. bad;
      next =
          λ _ good. place_in.next inside (ap f.bad cut ∙ good);
    }
  where
    by_left : (b : Bool) → nat_lt used (length (take m ws)) ≡ b →
        (if b then (filter_of k).bad (take (used + 1) (take m ws)) else None) ≡ Some place → used < length (take m ws)
    by_left true e h = grind (arith, nat_tests, e)
    by_left false e h = absurd (cc)
lift-place k ws m used place false false whole h = absurd (cc)

module _ (k : FilterKind) (ws output : List ℕ) (x : Running) (c : Cut) (kept : Kept k ws output x) where
  abbrev f : Filter
  f = filter_of k

  abbrev m : ℕ
  m = x.used + c.offered

  abbrev xs : List ℕ
  xs = take (x.used + c.offered) ws

  abbrev over : Bool
  over = c.over && nat_le (length ws - x.used) c.offered

  within : x.used ≤ length ws
  within = kept.gives.within

  in_xs : x.used ≤ length xs
  in_xs = let a = within in omega (arith, length-take m ws, a)

  front : take x.used xs ≡ take x.used ws
  front = take-take x.used m ws (omega arith)

  offered_is : drop x.used xs ≡ take c.offered (drop x.used ws)
  offered_is = drop-take x.used c.offered ws

  whole : over ≡ true → take m ws ≡ ws
  whole e = let h = leb-true (length ws - x.used) c.offered (and_parts c.over (nat_le (length ws - x.used) c.offered) e).1 in
      take_all m ws (omega (arith, h))

  stands : x.finished ≡ false → x.stopped ≡ None → StandsAt k f xs x.used over false x
  stands going unstopped = record {
    kind = kept.kind;
    since = kept.since ∙ sym (begins_with_input k);
    begun = (let a = begins_with_input k in omega (arith, a));
    used = refl;
    good = ap f.bad front ∙ kept.gives.good;
    last = kept.last ∙ (let a = sym front in let z = sym (begins_with_input k) in λ i. last_of (drop (z i) (a i)));
    finished = going;
    stopped = subst (λ o. MatchOption o ⊤ (λ place. met f xs x.used over true ≡ Some place)) (sym unstopped) tt;
  }

  abbrev gone : ℕ
  gone = length ((filter_of k).before (take x.used (take (x.used + c.offered) ws)))

  abbrev s : Stepped
  s = cut_step ws x c

  held_is : target_length f xs c.held gone x.used ≡ c.held
  held_is = let a = length-drop gone (f.before (take x.used xs)) in omega (arith, a)

  step : x.finished ≡ false → x.stopped ≡ None → IsStep f xs c.limit c.held gone over x (cut_step ws x c)
  step going unstopped =
      subst (IsStep f xs c.limit c.held gone over x) (let a = held_is in let b = offered_is in λ i. stepped x over c.limit (a i) (b i))
      (step_is_function k xs c.limit c.held gone over x (stands going unstopped) unstopped in_xs (omega arith))

  goes : x.finished ≡ false → x.stopped ≡ None → Kept k ws (output ++ (cut_step ws x c).made) (cut_step ws x c).after
  goes going unstopped =
      let st = step going unstopped in
      let u : ℕ = x.used + s.used in
      let after_used : s.after.used ≡ u = st.stands.used in
      let cut : take u xs ≡ take u ws = (let a = st.within in take-take u m ws (omega (arith, length-take m ws, a))) in
      let cut' : take s.after.used xs ≡ take s.after.used ws = (λ i. take (after_used i) xs) ∙ cut ∙ (λ i. take (sym after_used i) ws) in
      let z = begins_with_input k in
      record {
        gives = record {
          made =
              ap (λ o. o ++ s.made) (kept.gives.made ∙ (λ i. if going i then f.at_end (take x.used ws) else f.before (take x.used ws)))
              ∙ (let a = sym front in λ i. f.before (a i) ++ s.made)
              ∙ st.made
              ∙ (λ i. if s.after.finished then f.at_end (cut' i) else f.before (cut' i));
          within = (let a = st.within in omega (arith, length-take m ws, a, after_used));
          good = (λ i. f.bad (sym cut' i)) ∙ (λ i. f.bad (take (after_used i) xs)) ∙ st.stands.good;
          finished = λ h.
              let t = sym st.finished ∙ h in
              let p1 = and_parts (over && (u == length xs)) (is_over f xs (nat_lt (target_length f xs c.held gone u) c.limit)) t in
              let p2 = and_parts over (u == length xs) p1.0 in
              let w = whole p2.0 in
              let p3 = and_parts (is_none (f.bad_at_end xs))
              (not (holds f xs) || nat_lt (target_length f xs c.held gone u) c.limit) p1.1 in (
                after_used ∙ eqb-true u (length xs) p2.1
                    ∙ ap length w,
                none_where (f.bad_at_end ws) ((λ i. is_none (f.bad_at_end (sym w i))) ∙ p3.0),
              );
          stopped = λ place h.
              (let e = sym st.stopped ∙ h in
              subst (λ n. IsMetPlace f ws n place) (sym after_used)
              (lift-place k ws m u place over (nat_lt (target_length f xs c.held gone u) c.limit) whole e));
        };
        kind = st.stands.kind ∙ kept.kind;
        since = st.stands.since ∙ z;
        last = st.stands.last ∙ (λ i. last_of (drop (z i) (take (x.used + s.used) xs))) ∙ ap last_of cut
            ∙ (λ i. last_of (take (sym after_used i) ws));
      }
    where
      none_where : (o : Option ℕ) → is_none o ≡ true → o ≡ None
      none_where None h = refl
      none_where (Some place) h = absurd (cc)

  idle : (x.finished || is_some x.stopped) ≡ true → Kept k ws (output ++ (cut_step ws x c).made) (cut_step ws x c).after
  idle e =
      let same : cut_step ws x c ≡ record { used = 0; made = []; after = x } =
      ap (λ b. if b then record { used = 0; made = []; after = x } else going_on) e in
      subst (λ (z : Stepped). Kept k ws (output ++ z.made) z.after) (sym same) (subst (λ o. Kept k ws o x) (sym (append-nil output)) kept)
    where
      going_on : Stepped
      going_on =
          let src : List ℕ = take c.offered (drop x.used ws) in
          let ran : Ran = run_of x c.limit c.held src in
          ending (after_bytes x (take ran.used src)) ran (ran.used == length src)
          (c.over && nat_le (length ws - x.used) c.offered) (nat_lt (c.held + length ran.made) c.limit)

  kept-step : Kept k ws (output ++ (cut_step ws x c).made) (cut_step ws x c).after
  kept-step = by_state x.finished refl x.stopped refl
    where
      by_state : (b : Bool) → x.finished ≡ b → (o : Option ℕ) → x.stopped ≡ o →
          Kept k ws (output ++ (cut_step ws x c).made) (cut_step ws x c).after
      by_state true e o h = idle (λ i. e i || is_some x.stopped)
      by_state false e (Some place) h = idle (λ i. e i || is_some (h i))
      by_state false e None h = goes e h

kept-cuts : (k : FilterKind) (ws output : List ℕ) (x : Running) (cs : List Cut) → Kept k ws output x →
    Kept k ws (output ++ made_by ws x cs) (after_cuts ws x cs)
kept-cuts k ws output x [] kept = subst (λ o. Kept k ws o x) (sym (append-nil output)) kept
kept-cuts k ws output x (c ∷ cs) kept =
    subst (λ o. Kept k ws o (after_cuts ws (cut_step ws x c).after cs))
    (append_assoc output (cut_step ws x c).made (made_by ws (cut_step ws x c).after cs))
    (kept-cuts k ws (output ++ (cut_step ws x c).made) (cut_step ws x c).after cs (kept-step k ws output x c kept))

kept-begun : (k : FilterKind) (ws : List ℕ) → Kept k ws [] (begun k)
kept-begun k ws = record {
  gives = record {
    made = sym (every_filter k).prefix.empty;
    within = omega arith;
    good = good-nothing k;
    finished = λ h. absurd (cc);
    stopped = λ place h. absurd (cc);
  };
  kind = refl;
  since = refl;
  last = refl;
}
  where
    good-nothing : (k : FilterKind) → (filter_of k).bad [] ≡ None
    good-nothing k = go ((filter_of k).bad []) refl
      where
        go : (o : Option ℕ) → (filter_of k).bad [] ≡ o → (filter_of k).bad [] ≡ None
        go None e = e
        go (Some place) e = absurd (let lt = (every_filter k).badness.is_there [] place e in omega (arith, lt))

pub cuts_give_function : CutsGiveFunction
cuts_give_function k ws cs = (kept-cuts k ws [] (begun k) cs (kept-begun k ws)).gives

pub cuts_agree : CutsAgree
cuts_agree k ws cs ds same_used same_end =
    (cuts_give_function k ws cs).made
    ∙ (λ i. if same_end i then (filter_of k).at_end (take (same_used i) ws) else (filter_of k).before (take (same_used i) ws))
    ∙ sym (cuts_give_function k ws ds).made

pub runs_join : RunsJoin
runs_join k limit n count last [] ys =
    let a : n ≡ n + 0 = omega arith in
    let b : count ≡ count + 0 = omega arith in
    let r : Ran = run k limit (n + 0) (count + 0) last ys in
    let z : r.used ≡ 0 + r.used = omega arith in
    (λ i. run k limit (a i) (b i) last ys) ∙ (λ i. record { used = z i; made = r.made })
runs_join k limit n count last (x ∷ xs) ys =
    go (runs_join k limit (n + length (adds k count last x)) (count + 1) (Some x) xs ys) (nat_le limit n || is_bad_byte k x)
  where
    out : List ℕ
    out = adds k count last x

    first : Ran
    first = run k limit (n + length (adds k count last x)) (count + 1) (Some x) xs

    Joins : Bool → Type 0
    Joins b =
        goes_on b out (run k limit (n + length (adds k count last x)) (count + 1) (Some x) (xs ++ ys))
        ≡ (if (goes_on b out first).used == length (x ∷ xs)
        then joined (goes_on b out first)
        (run k limit (n + length (goes_on b out first).made) (count + length (x ∷ xs)) (last_or (Some x) xs) ys)
        else goes_on b out first)

    by_used : (b : Bool) → (first.used == length xs) ≡ b →
        goes_on false out (if b then joined first
        (run k limit (n + length out + length first.made) (count + 1 + length xs) (last_or (Some x) xs) ys) else first)
        ≡ (if b then joined (goes_on false out first) (run k limit (n + length (out
        ++ first.made)) (count + length (x ∷ xs)) (last_or (Some x) xs) ys) else goes_on false out first)
    by_used false e = refl
    by_used true e =
        let a : n + length out + length first.made ≡ n + length (out ++ first.made) = omega (arith, length-append out first.made) in
        let b : count + 1 + length xs ≡ count + length (x ∷ xs) = omega arith in
        let second : Ran = run k limit (n + length (out ++ first.made)) (count + length (x ∷ xs)) (last_or (Some x) xs) ys in
        let c : suc (first.used + second.used) ≡ suc first.used + second.used = omega arith in
        (λ i. record {
          used = suc (first.used + (run k limit (a i) (b i) (last_or (Some x) xs) ys).used);
          made = out ++ (first.made ++ (run k limit (a i) (b i) (last_or (Some x) xs) ys).made);
        })
        ∙ (λ i. record { used = c i; made = sym (append_assoc out first.made second.made) i })

    same_test : (first.used == length xs) ≡ (suc first.used == length (x ∷ xs))
    same_test = grind (arith, nat_tests)

    Next : Type 0
    Next =
        run k limit (n + length (adds k count last x)) (count + 1) (Some x) (xs ++ ys)
        ≡ (if first.used == length xs then joined first
        (run k limit (n + length (adds k count last x) + length first.made) (count + 1 + length xs) (last_or (Some x) xs) ys)
        else first)

    go : Next → (b : Bool) → Joins b
    go next true = (let e : (0 == length (x ∷ xs)) ≡ false = grind (arith, nat_tests) in
        λ i. if sym e i then joined nothing_ran (run k limit (n + 0) (count + length (x ∷ xs)) (last_or (Some x) xs) ys) else nothing_ran)
    go next false =
        ap (goes_on false out) next
        ∙ by_used (first.used == length xs) refl
        ∙ (let second : Ran = run k limit (n + length (out ++ first.made)) (count + length (x ∷ xs)) (last_or (Some x) xs) ys in
        let e = same_test in
        λ i. if e i then joined (goes_on false out first) second else goes_on false out first)
