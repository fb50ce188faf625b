-- What a contract sees of groups.
use Rattle.std.specs.Prelude.{ℕ, Bool, List}
use Rattle.token_bucket.specs.declared.limit.LimitCfg.{LimitCfg}
use Rattle.token_bucket.specs.declared.level.Level.{Level}

-- one direction of a group
pub record Lane : Type 0 where
  pub level : Level
  pub suspended : Bool

-- a group: its limit, the least share of a member, the tick up to which it has what came, and its two directions
pub record GroupValue : Type 0 where
  pub cfg : LimitCfg
  pub least : ℕ
  pub tick : ℕ
  pub read : Lane
  pub write : Lane

-- all groups by number, and each member with the number of its group, in the order of joining
pub record GroupsValue : Type 0 where
  pub groups : List GroupValue
  pub members : List (ℕ × ℕ)

-- the groups, and for how many members more there is room
pub record GroupsKept : Type 0 where
  pub value : GroupsValue
  pub spare : ℕ
