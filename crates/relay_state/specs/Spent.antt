-- When a count of a link has come to 2^62.
use Rattle.std.specs.Prelude.{ℕ, Bool, ◌||◌}
use Rattle.ev_types.specs.declared.side.SideId.{SideId}
use Rattle.relay_model.specs.Plain.{flow_at}
use Rattle.relay_state.specs.State.{State, lane_at}
use Rattle.relay_state.specs.Counting.{has_flown_far, has_read_far}
use Rattle.relay_state.specs.Closing.{in_side, out_side}

-- a count of the direction that begins at this side has
abbrev pub has_spent_count_from : State → SideId → Bool
has_spent_count_from s e = has_flown_far (flow_at s.plain e) || has_read_far (lane_at s e)

-- a count of this link has
abbrev pub has_spent_count : State → ℕ → Bool
has_spent_count s k = has_spent_count_from s (in_side k) || has_spent_count_from s (out_side k)
