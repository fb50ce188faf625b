-- One step of any running filter over all that is left of its input, whether it goes on, is finished or has stopped.
use Rattle.std.proofs.Common.{◌≡◌, ℕ, zero, suc, ◌+◌, ◌-◌, ◌<◌, ◌≤◌, Bool, true, false, ◌==◌, ◌&&◌, ◌||◌, not, if◌then◌else◌, List, []}
use Rattle.std.proofs.Common.{◌++◌, length, take, drop, Option, Some, None, is_none, refl, sym, ◌∙◌, ap, subst, arith, append-nil}
use Rattle.std.specs.Prelude.{is_some, nat_le, nat_lt, ⊤, MatchOption}
use Rattle.std.proofs.lemmas.Bool.{eqb-true}
use Rattle.std.proofs.lemmas.Bool.Decides.{nat_tests}
use Rattle.ev_types.specs.declared.filter.FilterKind.{FilterKind}
use Rattle.filter_model.specs.Filter.{Filter, filter_of, met, holds, or_else}
use Rattle.filter_model.specs.Running.{Running, StandsAt}
use Rattle.filter_model.specs.Stopping.{first_from, is_over}
use Rattle.filter_model.specs.FilterStep.{Stepped, stepped, run_of, after_bytes, ending}
use Rattle.filter_model.specs.FilterRun.{Ran}
use Rattle.filter_model.specs.FilterCuts.{must_stop, IsStep}
use Rattle.filter_model.proofs.FilterStepLemmas.{step_is_function}

-- Places that are met, and the first of them in time

-- a place that is met before the end is met at the end
pub met-later : (f : Filter) (xs : List ℕ) (used : ℕ) (a b : Bool) (place : ℕ) → (a ≡ true → b ≡ true) →
    met f xs used a true ≡ Some place →
    met f xs used b true ≡ Some place
met-later f xs used a b place h e = go (nat_lt used (length xs)) a b h e
  where
    go : (q a b : Bool) → (a ≡ true → b ≡ true) →
        (if q then f.bad (take (used + 1) xs) else (if a then f.bad_at_end xs else None)) ≡ Some place →
        (if q then f.bad (take (used + 1) xs) else (if b then f.bad_at_end xs else None)) ≡ Some place
    go true a b h e = e
    go false true true h e = e
    go false true false h e = absurd (let k = h refl in cc)
    go false false b h e = absurd (cc)

-- a filter that stands where no end has come stands there also where it has
pub stands-later : (k : FilterKind) (f : Filter) (xs : List ℕ) (n : ℕ) (a b done : Bool) (x : Running) → (a ≡ true → b ≡ true) →
    StandsAt k f xs n a done x → StandsAt k f xs n b done x
stands-later k f xs n a b done x h s = record {
  kind = s.kind;
  since = s.since;
  begun = s.begun;
  used = s.used;
  good = s.good;
  last = s.last;
  finished = s.finished;
  stopped = go x.stopped s.stopped;
}
  where
    go : (o : Option ℕ) → MatchOption o ⊤ (λ place. met f xs n a true ≡ Some place) →
        MatchOption o ⊤ (λ place. met f xs n b true ≡ Some place)
    go None m = tt
    go (Some place) m = met-later f xs n a b place h m

-- where there is a place already, it stays
pub or_else-marked : (o a b : Option ℕ) → is_some o ≡ true → or_else o a ≡ or_else o b
or_else-marked (Some x) a b h = refl
or_else-marked None a b h = absurd (cc)

pub or_else-some : (o a : Option ℕ) → is_some a ≡ true → is_some (or_else o a) ≡ true
or_else-some (Some x) a h = refl
or_else-some None a h = h

pub or_else-stays : (o a : Option ℕ) → is_some o ≡ true → is_some (or_else o a) ≡ true
or_else-stays (Some x) a h = refl
or_else-stays None a h = absurd (cc)

pub or_else-none : (o : Option ℕ) → or_else o None ≡ o
or_else-none (Some x) = refl
or_else-none None = refl

-- a place that is there as soon as one was met stays
pub or_else-known : (o a b : Option ℕ) → (is_some a ≡ true → is_some o ≡ true) → b ≡ None → or_else o b ≡ or_else o a
or_else-known (Some x) a b h e = refl
or_else-known None None b h e = e
or_else-known None (Some y) b h e = absurd (let k = h refl in cc)

-- Searches

pub first_from-here : (stop : ℕ → Bool) (n left : ℕ) → stop n ≡ true → first_from stop n left ≡ n
first_from-here stop n zero h = refl
first_from-here stop n (suc left) h = ap (λ b. if b then n else first_from stop (n + 1) left) h

-- two tests that agree where they are asked
pub first_from-same : (stop other : ℕ → Bool) (n left : ℕ) → ((m : ℕ) → m < n + left → stop m ≡ other m) →
    first_from stop n left ≡ first_from other n left
first_from-same stop other n zero h = refl
first_from-same stop other n (suc left) h =
    let a = h n (omega arith) in
    let b = first_from-same stop other (n + 1) left (λ m lt. h m (omega (arith, lt))) in
    λ i. if a i then n else b i

-- The step

-- what a filter makes of so many bytes, its end where it is finished
abbrev pub made_at : Filter → List ℕ → ℕ → Bool → List ℕ
made_at f xs n done = if done then f.at_end (take n xs) else f.before (take n xs)

-- how much of that is in its target, where so much is gone
abbrev pub left_at : Filter → List ℕ → ℕ → ℕ → Bool → ℕ
left_at f xs gone n done = length (drop gone (made_at f xs n done))

abbrev pub stops_at : Filter → List ℕ → ℕ → ℕ → Bool → ℕ → Bool
stops_at f xs limit gone done n = nat_le limit (left_at f xs gone n done) || is_some (f.bad (take (n + 1) xs))

-- What a step does to a filter that had used so many bytes, and then has used `reached`.
pub record Turned (k : FilterKind) (xs : List ℕ) (limit gone from : ℕ) (ended over was : Bool) (x : Running) (reached : ℕ)
    (s : Stepped) : Type 0 where
  pub count : first_from (stops_at (filter_of k) xs limit gone was) from (length xs - from) ≡ reached
  pub within : reached ≤ length xs
  pub place : (marked : Option ℕ) → (is_some x.stopped ≡ true → is_some marked ≡ true) →
      or_else marked (met (filter_of k) xs reached over (nat_lt (left_at (filter_of k) xs gone reached was) limit))
      ≡ or_else marked s.after.stopped
  pub done : (was || (over && (reached == length xs) && is_over (filter_of k) xs
      (nat_lt (left_at (filter_of k) xs gone reached was) limit))) ≡ s.after.finished
  pub made : made_at (filter_of k) xs reached s.after.finished ≡ made_at (filter_of k) xs from was ++ s.made
  pub stands : StandsAt k (filter_of k) xs reached ended s.after.finished s.after
  pub rests : was ≡ true → (s.made ≡ []) × (s.after.finished ≡ true)

plus_zero : (n : ℕ) → n + 0 ≡ n
plus_zero n = omega arith

module _ (k : FilterKind) (xs : List ℕ) (limit gone : ℕ) (ended over : Bool) (over_ended : over ≡ true → ended ≡ true) (x : Running) where
  abbrev f : Filter
  f = filter_of k

  abbrev nothing : Stepped
  nothing = record { used = 0; made = []; after = x }

  abbrev step : Bool → Stepped
  step was = stepped x over limit (left_at (filter_of k) xs gone x.used was) (drop x.used xs)

  abbrev Done : Bool → Type 0
  Done was = Turned k xs limit gone x.used ended over was x (x.used + (step was).used) (step was)

  -- a filter that does nothing more
  idles : (was : Bool) → (x.finished || is_some x.stopped) ≡ true → Turned k xs limit gone x.used ended over was x x.used nothing →
      Done was
  idles was h t =
      subst (λ (z : Stepped). Turned k xs limit gone x.used ended over was x (x.used + z.used) z) (sym same)
      (subst (λ n. Turned k xs limit gone x.used ended over was x n nothing) (sym (plus_zero x.used)) t)
    where
      going : Stepped
      going =
          let src : List ℕ = drop x.used xs in
          let n : ℕ = left_at f xs gone x.used was in
          let ran : Ran = run_of x limit n src in
          ending (after_bytes x (take ran.used src)) ran (ran.used == length src) over (nat_lt (n + length ran.made) limit)

      same : step was ≡ nothing
      same = ap (λ b. if b then nothing else going) h

  -- it is finished: all was used, at a good end
  finished-turned : StandsAt k f xs x.used ended true x → x.used ≡ length xs → f.bad_at_end xs ≡ None → Done true
  finished-turned stands all good = idles true (let a = stands.finished in λ i. a i || is_some x.stopped) (record {
    count = (let q = all in let none : length xs - x.used ≡ 0 = omega (arith, q) in
        ap (first_from (stops_at f xs limit gone true) x.used) none);
    within = let q = all in omega (arith, q);
    place = λ marked h. or_else-known marked x.stopped _ h meets_none;
    done = sym stands.finished;
    made = (λ i. made_at f xs x.used (stands.finished i)) ∙ sym (append-nil (f.at_end (take x.used xs)));
    stands = subst (λ b. StandsAt k f xs x.used ended b x) (sym stands.finished) stands;
    rests = λ h. (refl, stands.finished);
  })
    where
      none_left : nat_lt x.used (length xs) ≡ false
      none_left = let q = all in grind (arith, nat_tests, q)

      by_flags : (room b : Bool) → (if room then (if b then f.bad_at_end xs else None) else None) ≡ None
      by_flags true true = good
      by_flags true false = refl
      by_flags false b = refl

      meets_none : met f xs x.used over (nat_lt (left_at f xs gone x.used true) limit) ≡ None
      meets_none =
          let room : Bool = nat_lt (left_at f xs gone x.used true) limit in
          (λ i. if room then (if none_left i then f.bad (take (x.used + 1) xs) else (if over then f.bad_at_end xs else None)) else None)
          ∙ by_flags room over

  -- it has stopped at a place that is met where it stands
  stopped-turned : StandsAt k f xs x.used ended false x → (place : ℕ) → x.stopped ≡ Some place → x.used ≤ length xs → Done false
  stopped-turned stands place e there = idles false (let a = stands.finished in λ i. a i || is_some (e i)) (record {
    count = by_left (nat_lt x.used (length xs)) refl;
    within = there;
    place = λ marked h. or_else-marked marked _ x.stopped (h (ap is_some e));
    done = by_end over refl (x.used == length xs) refl ∙ sym stands.finished;
    made = (λ i. made_at f xs x.used (stands.finished i)) ∙ sym (append-nil (f.before (take x.used xs)));
    stands = subst (λ b. StandsAt k f xs x.used ended b x) (sym stands.finished) stands;
    rests = λ h. absurd (cc);
  })
    where
      is_met : met f xs x.used ended true ≡ Some place
      is_met = subst (λ o. MatchOption o ⊤ (λ p. met f xs x.used ended true ≡ Some p)) e stands.stopped

      next_bad : nat_lt x.used (length xs) ≡ true → f.bad (take (x.used + 1) xs) ≡ Some place
      next_bad h = (λ i. if sym h i then f.bad (take (x.used + 1) xs) else (if ended then f.bad_at_end xs else None)) ∙ is_met

      by_left : (b : Bool) → nat_lt x.used (length xs) ≡ b → first_from (stops_at f xs limit gone false) x.used (length xs - x.used)
          ≡ x.used
      by_left true h =
          first_from-here (stops_at f xs limit gone false) x.used (length xs - x.used)
          ((let a = next_bad h in λ i. nat_le limit (left_at f xs gone x.used false) || is_some (a i))
          ∙ or_true (nat_le limit (left_at f xs gone x.used false)))
        where
          or_true : (b : Bool) → (b || true) ≡ true
          or_true true = refl
          or_true false = refl
      by_left false h =
          let q : length xs ≤ x.used = grind (arith, nat_tests, h) in
          let none : length xs - x.used ≡ 0 = omega (arith, q) in
          ap (first_from (stops_at f xs limit gone false) x.used) none

      bad_end : over ≡ true → (x.used == length xs) ≡ true → f.bad_at_end xs ≡ Some place
      bad_end o h =
          let none_left : nat_lt x.used (length xs) ≡ false = (let q = eqb-true x.used (length xs) h in grind (arith, nat_tests, q)) in
          let en = over_ended o in
          (λ i. if sym none_left i then f.bad (take (x.used + 1) xs) else (if sym en i then f.bad_at_end xs else None)) ∙ is_met

      by_end : (o : Bool) → over ≡ o → (q : Bool) → (x.used == length xs) ≡ q →
          (over && (x.used == length xs) && is_over f xs (nat_lt (left_at f xs gone x.used false) limit)) ≡ false
      by_end false o q h = λ i. o i && (x.used == length xs) && is_over f xs (nat_lt (left_at f xs gone x.used false) limit)
      by_end true o false h = λ i. o i && h i && is_over f xs (nat_lt (left_at f xs gone x.used false) limit)
      by_end true o true h =
          let a = bad_end o h in
          λ i. o i && h i && (is_none (a i) && (not (holds f xs) || nat_lt (left_at f xs gone x.used false) limit))

  -- it goes on
  going-turned : StandsAt k f xs x.used ended false x → x.stopped ≡ None → x.used ≤ length xs →
      gone ≤ length (f.before (take x.used xs)) → Done false
  going-turned stands unstopped there within = record {
    count = (λ i. first_from (stops i) x.used (length xs - x.used)) ∙ is.used;
    within = is.within;
    place = λ marked h. ap (or_else marked)
        (sym (is.stopped ∙ (λ i. met f xs u over (nat_lt (plus_zero (left_at f xs gone u false) i) limit))));
    done = sym (is.finished ∙ (λ i. over && (u == length xs) && is_over f xs (nat_lt (plus_zero (left_at f xs gone u false) i) limit)));
    made = sym (is.made ∙ ap (λ n. made_at f xs n s.after.finished) is.stands.used);
    stands =
        subst (λ z. StandsAt z f xs u ended s.after.finished s.after) stands.kind
        (stands-later x.kind f xs u over ended s.after.finished s.after over_ended is.stands);
    rests = λ h. absurd (cc);
  }
    where
      s : Stepped
      s = step false

      u : ℕ
      u = x.used + (step false).used

      stops : stops_at f xs limit gone false ≡ must_stop f xs limit 0 gone
      stops = λ i n. nat_le limit (sym (plus_zero (left_at f xs gone n false)) i) || is_some (f.bad (take (n + 1) xs))

      sooner : StandsAt k f xs x.used over false x
      sooner = record {
        kind = stands.kind;
        since = stands.since;
        begun = stands.begun;
        used = stands.used;
        good = stands.good;
        last = stands.last;
        finished = stands.finished;
        stopped = subst (λ o. MatchOption o ⊤ (λ place. met f xs x.used over true ≡ Some place)) (sym unstopped) tt;
      }

      is : IsStep f xs limit 0 gone over x (step false)
      is =
          subst (λ n. IsStep f xs limit 0 gone over x (stepped x over limit n (drop x.used xs)))
          (plus_zero (left_at f xs gone x.used false))
          (step_is_function k xs limit 0 gone over x sooner unstopped there within)

  -- each of these
  pub turned-here : (was : Bool) → StandsAt k f xs x.used ended was x → x.used ≤ length xs →
      (was ≡ true → (x.used ≡ length xs) × (f.bad_at_end xs ≡ None)) → gone ≤ length (made_at f xs x.used was) → Done was
  turned-here true stands there all within = finished-turned stands (all refl).0 (all refl).1
  turned-here false stands there all within = go x.stopped refl
    where
      go : (o : Option ℕ) → x.stopped ≡ o → Done false
      go None e = going-turned stands e there within
      go (Some place) e = stopped-turned stands place e there

  abbrev At : Bool → ℕ → Type 0
  At was n =
      StandsAt k f xs n ended was x → n ≤ length xs → (was ≡ true → (n ≡ length xs) × (f.bad_at_end xs ≡ None)) →
      gone ≤ length (made_at f xs n was) →
      (let s = stepped x over limit (left_at f xs gone n was) (drop n xs) in Turned k xs limit gone n ended over was x (n + s.used) s)

  -- in the words of the count at which it stands
  pub turned : (was : Bool) (n : ℕ) → At was n
  turned was n stands = (subst (At was) stands.used (turned-here was)) stands
