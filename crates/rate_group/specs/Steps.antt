-- What each call does to groups.
use Rattle.std.specs.Prelude.{ℕ, zero, suc, ◌-◌, ◌/◌, min, max, false, ◌==◌, ◌&&◌, ◌||◌, nat_lt, nat_eq, if◌then◌else◌}
use Rattle.std.specs.Prelude.{List, [], ◌∷◌, ◌++◌, map, count_by, Option, slice_get}
use Rattle.std.specs.Option.{option_map, option_map_or}
use Rattle.std.specs.Map.{lookup, remove_entry}
use Rattle.indexmap.specs.IndexMap.{insert_entry}
use Rattle.token_bucket.specs.declared.limit.Dir.{Dir}
use Rattle.token_bucket.specs.declared.limit.Dir.TheVariants as dir
use Rattle.token_bucket.specs.declared.limit.LimitCfg.{LimitCfg}
use Rattle.token_bucket.specs.Levels.{Limit, limit_of, at_rate, refilled, less, held}
use Rattle.rate_group.specs.declared.group_set.GroupSet.{GroupSet}
use Rattle.rate_group.specs.GroupValue.{Lane, GroupValue, GroupsValue}

-- One group

abbrev pub lane_of : GroupValue → Dir → Lane
lane_of g dir.Read = g.read
lane_of g dir.Write = g.write

-- a direction once bytes were moved: it is suspended where nothing is left
abbrev pub lane_less : ℕ → Lane → Lane
lane_less n x = record { level = less n x.level; suspended = x.suspended || (held (less n x.level) == 0) }

-- a direction at a refill since which so many ticks began: it stays suspended unless it has the least share
abbrev pub lane_refilled : Limit → ℕ → ℕ → Lane → Lane
lane_refilled l least n x =
    record { level = refilled l n x.level; suspended = x.suspended && nat_lt (held (refilled l n x.level)) least }

-- a direction of a new group
abbrev pub first_lane : Limit → Lane
first_lane l = record { level = at_rate l; suspended = false }

-- the least share: what was given, or the smaller of the two rates
abbrev pub least_of : LimitCfg → ℕ → ℕ
least_of cfg share = min (min share cfg.read_rate) cfg.write_rate

-- a group that is made at a moment
abbrev pub made : LimitCfg → ℕ → ℕ → GroupValue
made cfg share now = record {
  cfg = cfg;
  least = least_of cfg share;
  tick = now / cfg.tick_ms;
  read = first_lane (limit_of cfg dir.Read);
  write = first_lane (limit_of cfg dir.Write);
}

-- a group of which a member moved bytes
abbrev pub spent_in : Dir → ℕ → GroupValue → GroupValue
spent_in dir.Read n g = record g { read = lane_less n g.read }
spent_in dir.Write n g = record g { write = lane_less n g.write }

-- a group that is refilled at a moment
abbrev pub refilled_to : ℕ → GroupValue → GroupValue
refilled_to now g =
    let n = now / g.cfg.tick_ms - g.tick in
    record {
      cfg = g.cfg;
      least = g.least;
      tick = max g.tick (now / g.cfg.tick_ms);
      read = lane_refilled (limit_of g.cfg dir.Read) g.least n g.read;
      write = lane_refilled (limit_of g.cfg dir.Write) g.least n g.write;
    }

-- what each of so many members may move: nothing while the group is suspended, else its part, or the least share
abbrev pub share_of : GroupValue → Dir → ℕ → ℕ
share_of g d count = if (lane_of g d).suspended then 0 else max (held (lane_of g d).level / count) g.least

-- All groups

-- how many members a group has
abbrev pub count_in : ℕ → List (ℕ × ℕ) → ℕ
count_in n members = count_by (λ (e : ℕ × ℕ). nat_eq n e.1) members

-- the group of a member, where it is in one
abbrev pub group_of : ℕ → List (ℕ × ℕ) → Option ℕ
group_of member members = lookup (nat_eq member) members

-- the groups with one of them changed
abbrev pub changed_at : ℕ → (GroupValue → GroupValue) → List GroupValue → List GroupValue
changed_at n change [] = []
changed_at zero change (g ∷ gs) = change g ∷ gs
changed_at (suc n) change (g ∷ gs) = g ∷ changed_at n change gs

-- a group is made
abbrev pub with_group : LimitCfg → ℕ → ℕ → GroupsValue → GroupsValue
with_group cfg share now x = record x { groups = x.groups ++ made cfg share now ∷ [] }

-- groups that are made at a moment, in order
abbrev pub all_made : ℕ → List GroupSet → List GroupValue
all_made now sets = map (λ s. made s.cfg s.share now) sets

-- all these groups are made
abbrev pub with_groups : ℕ → List GroupSet → GroupsValue → GroupsValue
with_groups now sets x = record x { groups = x.groups ++ all_made now sets }

-- a member joins a group, or moves to it and keeps its place among the members
abbrev pub joined : ℕ → ℕ → GroupsValue → GroupsValue
joined n member x = record x { members = insert_entry nat_eq x.members member n }

-- a member leaves its group
abbrev pub left : ℕ → GroupsValue → GroupsValue
left member x = record x { members = remove_entry (nat_eq member) x.members }

-- what a member may move in a direction, where it is in a group
abbrev pub share_in : ℕ → Dir → GroupsValue → Option ℕ
share_in member d x =
    option_map (λ n. option_map_or (λ g. share_of g d (count_in n x.members)) (slice_get x.groups n) 0) (group_of member x.members)

-- a member's group, once the member moved bytes
abbrev pub spent : ℕ → Dir → ℕ → GroupsValue → GroupsValue
spent member d n x =
    record x { groups = option_map_or (λ group. changed_at group (spent_in d n) x.groups) (group_of member x.members) x.groups }

-- all groups are refilled
abbrev pub all_refilled : ℕ → GroupsValue → GroupsValue
all_refilled now x = record x { groups = map (refilled_to now) x.groups }
