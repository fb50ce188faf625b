-- A filter that is another one from a place of its input on. Who may switch, and when, stands elsewhere.
use Rattle.std.specs.Prelude.{◌≡◌, ℕ, ◌+◌, ◌++◌, take, drop, Option, Some, None}
use Rattle.filter_model.specs.Filter.{Filter}
use Rattle.filter_model.specs.FilterLaws.{IsFilter}

-- a place that was counted from a later one on
abbrev pub behind : ℕ → Option ℕ → Option ℕ
behind first None = None
behind first (Some place) = Some (first + place)

-- Up to the place the first filter makes the output, and its end adds nothing. The other begins afresh there: it alone has
-- bad places and an end.
abbrev pub switched : Filter → ℕ → Filter → Filter
switched f place next = record {
  before = λ xs. f.before (take place xs) ++ next.before (drop place xs);
  at_end = λ xs. f.before (take place xs) ++ next.at_end (drop place xs);
  bad = λ xs. behind place (next.bad (drop place xs));
  bad_at_end = λ xs. behind place (next.bad_at_end (drop place xs));
  since = place;
}

-- a switched filter is one more filter
abbrev pub SwitchedIsFilter : Type 0
SwitchedIsFilter = (f next : Filter) (place : ℕ) → IsFilter f → IsFilter next → next.since ≡ 0 → IsFilter (switched f place next)
