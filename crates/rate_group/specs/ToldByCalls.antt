-- What a list of calls on groups tells by itself: who is a member, what a group has left, and when it is suspended.
use Rattle.std.specs.Prelude.{◌≡◌, ℕ, ◌+◌, ◌-◌, ◌*◌, ◌<◌, ◌↔◌, max, Bool, true, false, ◌&&◌, nat_eq, if◌then◌else◌, List, [], ◌∷◌}
use Rattle.std.specs.Prelude.{◌++◌, Contains, filter_map, Option, Some, None, Ok}
use Rattle.std.specs.List.{IsDistinct, last_or, cons_option}
use Rattle.std.specs.Option.{option_flatten, option_map_or}
use Rattle.token_bucket.specs.declared.limit.Dir.{Dir}
use Rattle.token_bucket.specs.declared.limit.Dir.TheVariants as dir
use Rattle.token_bucket.specs.declared.limit.LimitCfg.{LimitCfg}
use Rattle.token_bucket.specs.Levels.{Limit, limit_of}
use Rattle.token_bucket.specs.Spells.{ticks, Beat, Begins, Moves, moved_over, since_each, least_with, spells}
use Rattle.rate_group.specs.Steps.{least_of}
use Rattle.rate_group.specs.GroupsCalls.{GroupsCall}

-- Members

-- where a call that was answered Ok takes a member: into a group, or out of its group
abbrev pub goes_by : ℕ → GroupsCall → Option (Option ℕ)
goes_by member (GroupsCall.Join group m (Ok done)) = if nat_eq member m then Some (Some group) else None
goes_by member (GroupsCall.Change group m (Ok done)) = if nat_eq member m then Some (Some group) else None
goes_by member (GroupsCall.Leave m (Ok done)) = if nat_eq member m then Some None else None
goes_by member c = None

-- the group of a member after these calls, by the last of them that took it anywhere
abbrev pub group_by_calls : ℕ → List GroupsCall → Option ℕ
group_by_calls member cs = option_flatten (last_or None (filter_map (goes_by member) cs))

-- the members of a group after these calls, each once
pub record AreMembers (group : ℕ) (cs : List GroupsCall) (members : List ℕ) : Type 0 where
  pub once : IsDistinct nat_eq members
  pub are : (m : ℕ) → Contains members m ↔ (group_by_calls m cs ≡ Some group)

-- A group from its making on

-- the making of a group: its number, the limit and the share that it was given, the moment, and the calls before
pub record Making : Type 0 where
  pub number : ℕ
  pub cfg : LimitCfg
  pub share : ℕ
  pub moment : ℕ
  pub before : List GroupsCall

-- all calls, given those since a group was made
abbrev pub calls_with : Making → List GroupsCall → List GroupsCall
calls_with g since = g.before ++ (GroupsCall.NewGroup g.cfg g.share g.moment (Ok g.number) ∷ since)

-- one of these calls made the group with this number
abbrev pub IsMade : ℕ → List GroupsCall → Type 0
IsMade n cs = (g : Making) × (since : List GroupsCall) × (g.number ≡ n) × (cs ≡ calls_with g since)

-- the share that each member has at least: the one that was given, lowered to the smaller of the two rates
abbrev pub least_at : Making → ℕ
least_at g = least_of g.cfg g.share

-- is it the same direction
abbrev pub same_dir : Dir → Dir → Bool
same_dir dir.Read dir.Read = true
same_dir dir.Write dir.Write = true
same_dir d e = false

-- is it a member of the group after these calls
abbrev pub is_in : ℕ → ℕ → List GroupsCall → Bool
is_in group member cs = option_map_or (nat_eq group) (group_by_calls member cs) false

-- what a call is to a group's bucket, behind others: a refill, or bytes that one who is a member then moved
abbrev pub beat_behind : ℕ → Dir → List GroupsCall → GroupsCall → Option Beat
beat_behind group d before (GroupsCall.Refill now) = Some (Begins now)
beat_behind group d before (GroupsCall.Spend member e n) =
    if is_in group member before && same_dir d e then Some (Moves n) else None
beat_behind group d before c = None

-- all that such calls are to it
abbrev pub beats_behind : ℕ → Dir → List GroupsCall → List GroupsCall → List Beat
beats_behind group d before [] = []
beats_behind group d before (c ∷ cs) = cons_option (beat_behind group d before c) (beats_behind group d (before ++ c ∷ []) cs)

-- all that the calls since its making are to it
abbrev pub beats_since : Making → Dir → List GroupsCall → List Beat
beats_since g d since = beats_behind g.number d (calls_with g []) since

-- the latest of a moment and of the moments of all refills
abbrev pub latest_moment : ℕ → List Beat → ℕ
latest_moment time [] = time
latest_moment time (Begins now ∷ bs) = latest_moment (max time now) bs
latest_moment time (Moves n ∷ bs) = latest_moment time bs

-- What a bucket has left that was made with the rate, or 0 where it is overdrawn. It is the least of these numbers: the rate and what came
-- since, less all that was moved; and for each refill a full bucket then and what came since, less what was moved from then on.
abbrev pub left_after : Limit → ℕ → List Beat → ℕ
left_after l made_at bs =
    let now = latest_moment made_at bs in
    least_with (l.rate + l.rate * ticks l.tick made_at now - moved_over bs) (since_each l now (spells bs))

-- what a group has left in a direction after the calls since it was made
abbrev pub left_since : Making → Dir → List GroupsCall → ℕ
left_since g d since = left_after (limit_of g.cfg d) g.moment (beats_since g d since)

-- A group is suspended where it once had nothing left, and had less than the least share at each refill since then.
pub record IsSuspended (g : Making) (d : Dir) (since : List GroupsCall) : Type 0 where
  pub until : List GroupsCall
  pub rest : List GroupsCall
  pub parts : since ≡ until ++ rest
  pub nothing_left : left_since g d until ≡ 0
  pub too_little : (first : List GroupsCall) (now : ℕ) (others : List GroupsCall) → rest ≡ first ++ (GroupsCall.Refill now ∷ others) →
      left_since g d (until ++ (first ++ GroupsCall.Refill now ∷ [])) < least_at g
