-- When groups that are suspended gain again.
use Rattle.std.specs.Prelude.{ℕ, ◌+◌, ◌*◌, ◌/◌, Bool, ◌&&◌, nat_le, if◌then◌else◌, List, [], ◌∷◌, ◌++◌, Option, Some, None}
use Rattle.std.specs.List.{list_any}
use Rattle.token_bucket.specs.declared.limit.Dir.{Dir}
use Rattle.token_bucket.specs.declared.limit.Dir.TheVariants as dir
use Rattle.token_bucket.specs.Spells.{least_with}
use Rattle.rate_group.specs.GroupValue.{GroupValue}
use Rattle.rate_group.specs.Steps.{lane_of, count_in}

abbrev pub two_ways : List Dir
two_ways = dir.Read ∷ dir.Write ∷ []

-- the moment at which the next tick begins
abbrev pub tick_behind : ℕ → ℕ → ℕ
tick_behind tick time = (time / tick + 1) * tick

-- one moment, where something holds
abbrev pub moment_if : Bool → ℕ → List ℕ
moment_if holds moment = if holds then moment ∷ [] else []

-- has a group of so many members one, and is it suspended in a direction
abbrev pub is_waiting : ℕ → GroupValue → Bool
is_waiting count x = nat_le 1 count && list_any (λ d. (lane_of x d).suspended) two_ways

-- when such a group gains again
abbrev pub waiting_gain : ℕ → ℕ → GroupValue → List ℕ
waiting_gain time count x = moment_if (is_waiting count x) (tick_behind x.cfg.tick_ms time)

-- when each suspended group with members gains again, the groups counted from a number on
abbrev pub waiting_gains : ℕ → ℕ → List (ℕ × ℕ) → List GroupValue → List ℕ
waiting_gains time n members [] = []
waiting_gains time n members (x ∷ xs) = waiting_gain time (count_in n members) x ++ waiting_gains time (n + 1) members xs

-- the first of some moments
abbrev pub first_moment : List ℕ → Option ℕ
first_moment [] = None
first_moment (x ∷ xs) = Some (least_with x xs)
