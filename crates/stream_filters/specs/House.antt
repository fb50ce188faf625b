-- The five filters as filters of a byte stream.
use Rattle.std.specs.Prelude.{◌≡◌, ℕ, List, length, None}
use Rattle.filter_model.specs.Filter.{Filter, filter_of}
use Rattle.filter_model.specs.FilterLaws.{last_of}
use Rattle.filter_model.specs.Running.{Running}
use Rattle.stream_filters.specs.StreamSteps.{Reached, IsStreamFilter}

-- the definition of the filter that runs
abbrev pub definition : Running → Filter
definition x = filter_of x.kind

-- how far it has come
abbrev pub reach : Running → Reached
reach x = record { used = x.used; finished = x.finished; stopped = x.stopped }

-- The bytes that it used may be these: it began with them, they are good, and it knows their count and the last of them.
pub record MayHaveUsed (x : Running) (xs : List ℕ) : Type 0 where
  pub begun : x.since ≡ 0
  pub used : x.used ≡ length xs
  pub good : (filter_of x.kind).bad xs ≡ None
  pub last : x.last ≡ last_of xs

-- the five filters obey the laws
abbrev pub HouseIsLawful : Type 0
HouseIsLawful = IsStreamFilter definition reach MayHaveUsed
