-- Laws on one direction of a group, whoever joins or leaves.
use Rattle.std.specs.Prelude.{◌≡◌, ℕ, ◌+◌, ◌-◌, ◌*◌, ◌/◌, ◌<◌, ◌≤◌, max, if◌then◌else◌, ⊤, List, [], ◌∷◌, ◌++◌}
use Rattle.token_bucket.specs.declared.limit.Dir.{Dir}
use Rattle.token_bucket.specs.declared.limit.LimitCfg.{LimitCfg}
use Rattle.token_bucket.specs.Levels.{Limit, limit_of, held}
use Rattle.token_bucket.specs.Spells.{Beat, Begins, Moves, moved_over, moved_first, moved_in, since_each, least_with, spells}
use Rattle.rate_group.specs.GroupValue.{Lane}
use Rattle.rate_group.specs.Steps.{lane_less, lane_refilled, first_lane, least_of}

-- one call as the group sees it: it is refilled at a moment, or a member, one of so many then, moved bytes
pub data GroupCall : Type 0 where
  Refills : ℕ → GroupCall
  Spends : ℕ → ℕ → GroupCall

-- one direction of a group, and the tick up to which it has what came
pub record KeptLane : Type 0 where
  pub tick : ℕ
  pub lane : Lane

abbrev pub after_step : Limit → ℕ → KeptLane → GroupCall → KeptLane
after_step l least x (Refills now) =
    record { tick = max x.tick (now / l.tick); lane = lane_refilled l least (now / l.tick - x.tick) x.lane }
after_step l least x (Spends count n) = record { tick = x.tick; lane = lane_less n x.lane }

abbrev pub after_steps : Limit → ℕ → KeptLane → List GroupCall → KeptLane
after_steps l least x [] = x
after_steps l least x (s ∷ ss) = after_steps l least (after_step l least x s) ss

-- a group that is made at a moment
abbrev pub made_lane : Limit → ℕ → KeptLane
made_lane l now = record { tick = now / l.tick; lane = first_lane l }

-- each time a member moves no more than its share
abbrev pub WithinShares : Limit → ℕ → KeptLane → List GroupCall → Type 0
WithinShares l least x [] = ⊤
WithinShares l least x (Refills now ∷ ss) = WithinShares l least (after_step l least x (Refills now)) ss
WithinShares l least x (Spends count n ∷ ss) =
    (n ≤ (if x.lane.suspended then 0 else max (held x.lane.level / count) least))
    × WithinShares l least (after_step l least x (Spends count n)) ss

-- the calls as a bucket sees them
abbrev pub beat_of_call : GroupCall → Beat
beat_of_call (Refills now) = Begins now
beat_of_call (Spends count n) = Moves n

abbrev pub beats_of : List GroupCall → List Beat
beats_of [] = []
beats_of (s ∷ ss) = beat_of_call s ∷ beats_of ss

-- What a group has left is the least of these numbers: the rate and what came since it was made, less what its members moved; and for each
-- refill a full bucket then and what came since, less what they moved from then on.
abbrev pub GroupLevelIsLeast : Type 0
GroupLevelIsLeast = (cfg : LimitCfg) (d : Dir) (least made_at : ℕ) (ss : List GroupCall) (time : ℕ) →
    let l = limit_of cfg d in
    time / l.tick ≡ (after_steps l least (made_lane l made_at) ss).tick →
    held (after_steps l least (made_lane l made_at) ss).lane.level
    ≡ least_with (l.rate + l.rate * (time / l.tick - made_at / l.tick) - (moved_first (beats_of ss) + moved_in (spells (beats_of ss))))
    (since_each l time (spells (beats_of ss)))

-- Over any stretch of calls, all members of a group together move at most one burst, what comes in the ticks that begin, and one byte less
-- than the least share.
abbrev pub GroupKeepsRate : Type 0
GroupKeepsRate = (cfg : LimitCfg) (d : Dir) (share made_at : ℕ) (before ss : List GroupCall) → 0 < share →
    let l = limit_of cfg d in
    let least = least_of cfg share in
    let start = after_steps l least (made_lane l made_at) before in
    WithinShares l least (made_lane l made_at) (before ++ ss) →
    moved_over (beats_of ss) ≤ l.burst + l.rate * ((after_steps l least start ss).tick - start.tick) + (least - 1)
