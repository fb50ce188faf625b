-- What steps of a running filter come to: the definition's function of the whole input, however it is cut and whatever the
-- limits are.
use Rattle.std.specs.Prelude.{◌≡◌, ℕ, ◌+◌, ◌-◌, ◌≤◌, Bool, true, false, ◌==◌, ◌&&◌, ◌||◌, nat_lt, nat_le, if◌then◌else◌, List, [], ◌∷◌}
use Rattle.std.specs.Prelude.{◌++◌, length, take, drop, max, Option, Some, None, is_some}
use Rattle.std.specs.List.{last_or}
use Rattle.ev_types.specs.declared.filter.FilterKind.{FilterKind}
use Rattle.filter_model.specs.Filter.{Filter, filter_of, met}
use Rattle.filter_model.specs.FilterLaws.{IsMetPlace}
use Rattle.filter_model.specs.Running.{Running, StandsAt}
use Rattle.filter_model.specs.Stopping.{first_from, is_over}
use Rattle.filter_model.specs.FilterRun.{Ran, run}
use Rattle.filter_model.specs.FilterStep.{begun, Stepped, stepped, most_made}

-- what the definition makes of the bytes that a running filter used, its end where it is finished
abbrev pub made_of : Filter → List ℕ → Running → List ℕ
made_of f xs x = if x.finished then f.at_end (take x.used xs) else f.before (take x.used xs)

-- how much a target holds after so many bytes of xs: `others` in front, and of the output what is left without its first
-- `gone` bytes
abbrev pub target_length : Filter → List ℕ → ℕ → ℕ → ℕ → ℕ
target_length f xs others gone used = length (drop gone (f.before (take used xs))) + others

-- must a filter stop after so many bytes of xs: its target is at the limit or above, or the next byte is bad
abbrev pub must_stop : Filter → List ℕ → ℕ → ℕ → ℕ → ℕ → Bool
must_stop f xs limit others gone used = nat_le limit (target_length f xs others gone used) || is_some (f.bad (take (used + 1) xs))

-- A step with all the bytes of xs that are left, in the words of the definition. It uses bytes up to the first place at which
-- it must stop, or all. What it made is the function's next part. It stops at the place that is met there. It is finished
-- where all is used, the end has come and the definition is over.
pub record IsStep (f : Filter) (xs : List ℕ) (limit others gone : ℕ) (over : Bool) (x : Running) (s : Stepped) : Type 0 where
  pub used : first_from (must_stop f xs limit others gone) x.used (length xs - x.used) ≡ x.used + s.used
  pub within : x.used + s.used ≤ length xs
  pub made : f.before (take x.used xs) ++ s.made ≡ made_of f xs s.after
  pub stopped : s.after.stopped ≡ met f xs (x.used + s.used) over (nat_lt (target_length f xs others gone (x.used + s.used)) limit)
  pub finished : s.after.finished
      ≡ (over && (x.used + s.used == length xs) && is_over f xs (nat_lt (target_length f xs others gone (x.used + s.used)) limit))
  pub stands : StandsAt x.kind f xs (x.used + s.used) over s.after.finished s.after

-- each step of a filter that has not stopped and isn't finished is that
abbrev pub StepIsFunction : Type 0
StepIsFunction = (k : FilterKind) (xs : List ℕ) (limit others gone : ℕ) (over : Bool) (x : Running) →
    StandsAt k (filter_of k) xs x.used over false x → x.stopped ≡ None → x.used ≤ length xs →
    gone ≤ length ((filter_of k).before (take x.used xs)) →
    IsStep (filter_of k) xs limit others gone over x
    (stepped x over limit (target_length (filter_of k) xs others gone x.used) (drop x.used xs))

-- A step makes at most so much. It leaves its target at most one byte above the limit, and unchanged where that is at the
-- limit already.
pub record FitsTarget (k : FilterKind) (limit n offered : ℕ) (output : List ℕ) : Type 0 where
  pub most : length output ≤ most_made k offered
  pub passes_by_one : n + length output ≤ max n (limit + 1)
  pub unchanged : limit ≤ n → output ≡ []

abbrev pub StepFits : Type 0
StepFits = (x : Running) (over : Bool) (limit n : ℕ) (src : List ℕ) →
    FitsTarget x.kind limit n (length src) (stepped x over limit n src).made

-- one of several steps over an input
pub record Cut : Type 0 where
  pub offered : ℕ  -- how many bytes of what is left it is offered, or all where fewer are left
  pub over : Bool  -- is its mode Finished; it counts where all that is left is offered
  pub limit : ℕ
  pub held : ℕ  -- how many bytes its target holds by then

-- the step of a filter that runs over ws
abbrev pub cut_step : List ℕ → Running → Cut → Stepped
cut_step ws x c = stepped x (c.over && nat_le (length ws - x.used) c.offered) c.limit c.held (take c.offered (drop x.used ws))

-- the filter after some steps over ws
abbrev pub after_cuts : List ℕ → Running → List Cut → Running
after_cuts ws x [] = x
after_cuts ws x (c ∷ cs) = after_cuts ws (cut_step ws x c).after cs

-- all that these steps made
abbrev pub made_by : List ℕ → Running → List Cut → List ℕ
made_by ws x [] = []
made_by ws x (c ∷ cs) = (cut_step ws x c).made ++ made_by ws (cut_step ws x c).after cs

-- What was made is the function of the bytes that were used, at the end where it is finished, and these are good. It is
-- finished only at a good end of the whole input. Where it stopped, that is the input's first bad place, or its bad end.
pub record GivesFunction (f : Filter) (ws output : List ℕ) (x : Running) : Type 0 where
  pub made : output ≡ made_of f ws x
  pub within : x.used ≤ length ws
  pub good : f.bad (take x.used ws) ≡ None
  pub finished : x.finished ≡ true → (x.used ≡ length ws) × (f.bad_at_end ws ≡ None)
  pub stopped : (place : ℕ) → x.stopped ≡ Some place → IsMetPlace f ws x.used place

-- however the input is cut into steps
abbrev pub CutsGiveFunction : Type 0
CutsGiveFunction = (k : FilterKind) (ws : List ℕ) (cs : List Cut) →
    GivesFunction (filter_of k) ws (made_by ws (begun k) cs) (after_cuts ws (begun k) cs)

-- two ways to cut an input that used equally many bytes of it, both finished or neither, made the same
abbrev pub CutsAgree : Type 0
CutsAgree = (k : FilterKind) (ws : List ℕ) (cs ds : List Cut) → let x = after_cuts ws (begun k) cs in let y = after_cuts ws (begun k) ds in
    x.used ≡ y.used → x.finished ≡ y.finished → made_by ws (begun k) cs ≡ made_by ws (begun k) ds

-- a run, and one behind it
abbrev pub joined : Ran → Ran → Ran
joined a b = record { used = a.used + b.used; made = a.made ++ b.made }

-- a run over two pieces in a row is the run over the first, and where that uses all of it the run over the second
abbrev pub RunsJoin : Type 0
RunsJoin = (k : FilterKind) (limit n count : ℕ) (last : Option ℕ) (xs ys : List ℕ) →
    let first = run k limit n count last xs in
    run k limit n count last (xs ++ ys)
    ≡ (if first.used == length xs then joined first
    (run k limit (n + length first.made) (count + length xs) (last_or last xs) ys) else first)
