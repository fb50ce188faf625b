-- Laws on groups over every list of calls: whoever joins, leaves and moves bytes, and however many groups there are.
use Rattle.std.specs.Prelude.{◌≡◌, ◌≢◌, ◌⊎◌, ◌↔◌, ℕ, ◌+◌, ◌-◌, ◌*◌, ◌/◌, ◌<◌, ◌≤◌, max, true, nat_eq, List, ◌++◌, length, slice_get}
use Rattle.std.specs.Prelude.{Contains, Option, Some, None}
use Rattle.std.specs.Option.{option_map}
use Rattle.std.specs.List.{IsDistinct}
use Rattle.std.specs.Map.{keys_of}
use Rattle.token_bucket.specs.declared.limit.Dir.{Dir}
use Rattle.token_bucket.specs.Levels.{limit_of, held}
use Rattle.token_bucket.specs.Spells.{ticks, moved_over}
use Rattle.rate_group.specs.GroupValue.{GroupsValue}
use Rattle.rate_group.specs.Steps.{lane_of, group_of, count_in, share_in}
use Rattle.rate_group.specs.GroupsCalls.{GroupsCall, CallsLead, no_groups}
use Rattle.rate_group.specs.ToldByCalls.{group_by_calls, AreMembers, Making, calls_with, IsMade, least_at, beats_since, beats_behind}
use Rattle.rate_group.specs.ToldByCalls.{latest_moment, left_since, IsSuspended}

-- who is a member of which group, and of how many, where these calls led to these groups
pub record MembersAre (cs : List GroupsCall) (x : GroupsValue) : Type 0 where
  pub group : (m : ℕ) → group_of m x.members ≡ group_by_calls m cs
  pub listed : (m n : ℕ) → Contains x.members (m, n) ↔ (group_by_calls m cs ≡ Some n)
  pub once : IsDistinct nat_eq (keys_of x.members)
  pub counted : (n : ℕ) (members : List ℕ) → AreMembers n cs members → count_in n x.members ≡ length members
  pub listing : (n : ℕ) → (members : List ℕ) × AreMembers n cs members
  pub made : (n : ℕ) → (n < length x.groups) ↔ IsMade n cs
  pub nobody : (n : ℕ) → (IsMade n cs → ⊥) → (m : ℕ) → group_by_calls m cs ≢ Some n

-- A member's group is the one that it went to by the last of its joins, changes and leaves that was answered Ok. A group that was
-- not made has no members.
abbrev pub MembersByCalls : Type 0
MembersByCalls = (cs : List GroupsCall) (x : GroupsValue) → CallsLead no_groups cs x → MembersAre cs x

-- What a group has left is the least over the refills since it was made, by what its members moved while they were members.
abbrev pub LevelsByCalls : Type 0
LevelsByCalls = (g : Making) (since : List GroupsCall) (x : GroupsValue) (d : Dir) → CallsLead no_groups (calls_with g since) x →
    option_map (λ v. held (lane_of v d).level) (slice_get x.groups g.number) ≡ Some (left_since g d since)

-- A group is suspended in a direction exactly where it once had nothing left, and had less than the least share at each refill since.
abbrev pub SuspensionsByCalls : Type 0
SuspensionsByCalls = (g : Making) (since : List GroupsCall) (x : GroupsValue) (d : Dir) → CallsLead no_groups (calls_with g since) x →
    (option_map (λ v. (lane_of v d).suspended) (slice_get x.groups g.number) ≡ Some true) ↔ IsSuspended g d since

-- a member's share in a group with so many members: nothing while it is suspended, else its part of what is left, or the least share
abbrev pub ShareIs : Making → Dir → List GroupsCall → ℕ → Option ℕ → Type 0
ShareIs g d since count share =
    (IsSuspended g d since × (share ≡ Some 0))
    ⊎ ((IsSuspended g d since → ⊥) × (share ≡ Some (max (left_since g d since / count) (least_at g))))

-- Who is no member has no share, and who is one has the share of a member of its group.
abbrev pub SharesByCalls : Type 0
SharesByCalls = (cs : List GroupsCall) (x : GroupsValue) (m : ℕ) (d : Dir) → CallsLead no_groups cs x →
    ((share_in m d x ≡ None) ↔ (group_by_calls m cs ≡ None))
    × ((g : Making) (since : List GroupsCall) (members : List ℕ) → cs ≡ calls_with g since → AreMembers g.number cs members →
    group_by_calls m cs ≡ Some g.number → ShareIs g d since (length members) (share_in m d x))

-- Over any stretch of calls, the members of a group together move at most one burst, what comes in the ticks that begin, and one byte
-- less than the least share.
abbrev pub RatesByCalls : Type 0
RatesByCalls = (g : Making) (until stretch : List GroupsCall) (x : GroupsValue) (d : Dir) →
    CallsLead no_groups (calls_with g (until ++ stretch)) x →
    let l = limit_of g.cfg d in
    let from = latest_moment g.moment (beats_since g d until) in
    let to = latest_moment g.moment (beats_since g d (until ++ stretch)) in
    moved_over (beats_behind g.number d (calls_with g until) stretch) ≤ l.burst + l.rate * ticks l.tick from to + (least_at g - 1)
