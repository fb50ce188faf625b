-- Limits of sides, as the code keeps them.
use Rattle.std.specs.Prelude.{◌≤◌, ◌==◌, ℕ, ⊤, List, [], Option, Some, None, option_map, Box}
use Rattle.std.specs.List.{list_any}
use Rattle.std.specs.declared.alloc.Global.{Global}
use Rattle.token_bucket.specs.declared.limit.LimitCfg.{LimitCfg}
use Rattle.relay_model.specs.Plain.{Standing}
use Rattle.relay_model.specs.Moments.{both_ways, moment_where}
use Rattle.relay_model.specs.Rates.{next_tick}
use Rattle.relay_state.specs.Running.{Gauge, held_at}
use Rattle.side_limit.specs.LimitValue.{LimitValue, first_value, with_cfg, next_gains}

-- no more than is allowed, where there is a limit
abbrev pub IsAllowed : ℕ → Option ℕ → Type 0
IsAllowed n None = ⊤
IsAllowed n (Some most) = n ≤ most

-- a limit in its memory
abbrev pub kept_value : Option (Box LimitValue Global) → Option LimitValue
kept_value limit = option_map (λ (b : Box LimitValue Global). b.value) limit

-- a limit that is set for the first time in a turn and at its time, where there is to be one
abbrev pub first_kept : ℕ → ℕ → Option LimitCfg → Option LimitValue
first_kept time turn cfg = option_map (λ limit. first_value limit turn time) cfg

-- when a bucket that holds nothing at a time gains again
abbrev pub limit_gains : ℕ → Gauge → Option Standing → List ℕ
limit_gains time x None = []
limit_gains time x (Some y) = moment_where (list_any (λ d. held_at y.cfg x d time == 0) both_ways) (next_tick y.cfg.tick_ms time)

-- a limit once another is set in its place in a turn and at its time, or none
abbrev pub set_kept : ℕ → ℕ → Option LimitValue → Option LimitCfg → Option LimitValue
set_kept time turn was None = None
set_kept time turn None (Some cfg) = Some (first_value cfg turn time)
set_kept time turn (Some was) (Some cfg) = Some (with_cfg cfg turn time was)

-- when a bucket of it that holds nothing at a time gains again
abbrev pub gains_kept : ℕ → Option LimitValue → List ℕ
gains_kept time None = []
gains_kept time (Some x) = next_gains x time
