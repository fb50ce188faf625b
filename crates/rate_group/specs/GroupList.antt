-- How the code keeps one group, and a list of them.
use Rattle.std.specs.Prelude.{◌≡◌, ℕ, ◌+◌, ◌<◌, ◌≤◌, List, map, length, slice_get, slice_index_or, nat_eq, if◌then◌else◌, Option, Some}
use Rattle.std.specs.Prelude.{None}
use Rattle.std.specs.List.{AllByRecursion, flat_map}
use Rattle.token_bucket.specs.declared.limit.Dir.{Dir}
use Rattle.rate_group.specs.declared.group.Group.{Group}
use Rattle.rate_group.specs.GroupValue.{GroupValue}
use Rattle.rate_group.specs.Steps.{share_of, count_in}
use Rattle.rate_group.specs.Gains.{waiting_gain}

abbrev pub group_value : Group → GroupValue
group_value g = record {
  cfg = g.cfg;
  least = g.least;
  tick = g.bucket.tick;
  read = record { level = g.bucket.read; suspended = g.read_suspended };
  write = record { level = g.bucket.write; suspended = g.write_suspended };
}

abbrev pub group_values : List Group → List GroupValue
group_values gs = map group_value gs

-- how many members each group counts
abbrev pub counts_of : List Group → List ℕ
counts_of gs = map (λ g. g.count) gs

-- a group's members may move so many bytes each
abbrev pub IsWithinShare : List Group → ℕ → Dir → ℕ → Type 0
IsWithinShare gs at d n = (g : Group) → slice_get gs at ≡ Some g → n ≤ share_of (group_value g) d g.count

-- when each suspended group with members gains again, by how many it counts
abbrev pub gains_counted : ℕ → List Group → List ℕ
gains_counted time gs = flat_map (λ g. waiting_gain time g.count (group_value g)) gs

-- one, where two numbers are the same
abbrev pub one_at : ℕ → ℕ → ℕ
one_at k n = if nat_eq k n then 1 else 0

abbrev pub one_of : ℕ → Option ℕ → ℕ
one_of k None = 0
one_of k (Some n) = one_at k n

-- One member moves to a group out of another one, or out of none.
abbrev pub CountsMove : List Group → List Group → Option ℕ → ℕ → Type 0
CountsMove old new before n = (k : ℕ) →
    slice_index_or (counts_of new) k 0 + one_of k before ≡ slice_index_or (counts_of old) k 0 + one_at k n

-- a group that has a member
abbrev pub HasMember : List Group → Option ℕ → Type 0
HasMember gs before = (n : ℕ) → before ≡ Some n → (n < length gs) × (0 < slice_index_or (counts_of gs) n 0)

-- Each group counts its members, and each member is in one of the groups.
pub record Counted (gs : List Group) (members : List (ℕ × ℕ)) : Type 0 where
  pub counts : (n : ℕ) → slice_index_or (counts_of gs) n 0 ≡ count_in n members
  pub known : AllByRecursion (λ (e : ℕ × ℕ). e.1 < length gs) members
