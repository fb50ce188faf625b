-- What a running filter knows, and where one that runs over an input stands.
use Rattle.std.specs.Prelude.{◌≡◌, ℕ, ◌≤◌, Bool, true, ⊤, List, take, drop, length, Option, Some, None, MatchOption}
use Rattle.ev_types.specs.declared.filter.FilterKind.{FilterKind}
use Rattle.filter_model.specs.Filter.{Filter, met}
use Rattle.filter_model.specs.FilterLaws.{last_of, LookAlike}

-- all that a running filter knows
pub record Running : Type 0 where
  pub kind : FilterKind
  pub since : ℕ  -- the place of the input at which it began
  pub used : ℕ  -- bytes of the input before the next that it will use
  pub last : Option ℕ  -- the last byte that it used, none if it used none
  pub finished : Bool
  pub stopped : Option ℕ  -- the bad place at which it stopped

-- A filter of that name runs and used the first so many bytes of xs, none of them bad; `over` tells whether no more will
-- come, `done` whether it is finished. Where it has stopped, it did so at the place that is met there.
pub record StandsAt (name : FilterKind) (f : Filter) (xs : List ℕ) (count : ℕ) (over done : Bool) (x : Running) : Type 0 where
  pub kind : x.kind ≡ name
  pub since : x.since ≡ f.since
  pub begun : f.since ≤ count
  pub used : x.used ≡ count
  pub good : f.bad (take count xs) ≡ None
  pub last : x.last ≡ last_of (drop f.since (take count xs))
  pub finished : x.finished ≡ done
  pub stopped : MatchOption x.stopped ⊤ (λ place. met f xs count over true ≡ Some place)

-- Two inputs at which one running filter could stand look alike to it: so what it will make of the bytes to come is known.
abbrev pub RunningIsKnown : Type 0
RunningIsKnown = (name : FilterKind) (f : Filter) (xs zs : List ℕ) (m n : ℕ) (over done over' done' : Bool) (x : Running) → m ≤ length xs → n ≤ length zs →
    StandsAt name f xs m over done x → StandsAt name f zs n over' done' x → LookAlike f (take m xs) (take n zs)
