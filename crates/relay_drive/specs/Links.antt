-- What of the state belongs to one link, and when a link has nothing to be done. A step of a turn changes what belongs to one link
-- alone, so that what was found of another one is still so.
use Rattle.std.specs.Prelude.{◌≡◌, ℕ, ◌-◌, Bool, ◌&&◌, ◌||◌, not, nat_le, if◌then◌else◌, min, length, List}
use Rattle.token_bucket.specs.declared.limit.Dir.{Dir}
use Rattle.token_bucket.specs.declared.limit.Dir.TheVariants as dir
use Rattle.ev_types.specs.declared.side.SideId.{SideId}
use Rattle.relay_model.specs.Plain.{side_at, flow_at}
use Rattle.relay_model.specs.Rooms.{at_most, most_at_once, read_mark, may_read, may_write, is_connecting}
pub use Rattle.relay_state.specs.Spent.{has_spent_count_from, has_spent_count}
pub use Rattle.relay_core.specs.Pairs.{HasPairs}
use Rattle.relay_core.specs.Halts.{is_free}
use Rattle.relay_core.specs.Timeless.{IsStillSide}
use Rattle.relay_core.specs.declared.halts.Halts.{Halts}
pub use Rattle.relay_core.specs.Steps.{IsUncalled, IsSettled}
use Rattle.relay_state.specs.State.{State, lane_at, gauge_at, with_plain}
use Rattle.relay_state.specs.Rooms.{wants, allowance, input_length, waiting_for}
use Rattle.relay_state.specs.Passing.{passage_at, round_from}
use Rattle.relay_state.specs.Closing.{in_side, out_side}

-- What belongs to this link is as it was, the settings, and the time. What groups leave its sides to move is not kept: what is done at
-- another link changes that.
pub record SameLink (k : ℕ) (s new : State) : Type 0 where
  pub settings : new.settings ≡ s.settings
  pub time : new.plain.time ≡ s.plain.time
  pub side : (e : SideId) → e.link ≡ k → side_at new.plain e ≡ side_at s.plain e
  pub flow : (e : SideId) → e.link ≡ k → flow_at new.plain e ≡ flow_at s.plain e
  pub lane : (e : SideId) → e.link ≡ k → lane_at new e ≡ lane_at s e
  pub gauge : (e : SideId) → e.link ≡ k → gauge_at new e ≡ gauge_at s e

-- the state at another time
abbrev pub at_time : ℕ → State → State
at_time time s = with_plain (record (s.plain) { time = time }) s

-- a round of the direction that begins at this side changes nothing
abbrev pub IsStillFrom : State → SideId → Type 0
IsStillFrom s e = round_from s e (passage_at s e) ≡ passage_at s e

-- passing has nothing to do at this link
abbrev pub IsStill : State → ℕ → Type 0
IsStill s k = IsStillFrom s (in_side k) × IsStillFrom s (out_side k)

-- What a side would want, if groups were suspended as was noted.
abbrev pub would_want : List Halts → State → SideId → Dir → Bool
would_want seen s e dir.Read =
    is_free seen dir.Read (side_at s.plain e).group
    && nat_le 1 (if may_read s.plain e then at_most (allowance s e dir.Read)
    (min most_at_once (read_mark s.plain e - input_length s e)) else 0)
would_want seen s e dir.Write =
    (is_free seen dir.Write (side_at s.plain e).group
    && nat_le 1 (if may_write s.plain e then at_most (allowance s e dir.Write) (min most_at_once (length (waiting_for s e))) else 0))
    || (is_connecting s.plain e && not (side_at s.plain e).failed)

-- they are: each side wants that
abbrev pub WantsAsSeen : List Halts → State → Type 0
WantsAsSeen seen s = (e : SideId) (d : Dir) → wants s e d ≡ would_want seen s e d

-- time changes nothing at the sides of this link, but what their limits and groups leave them
abbrev pub IsTimelessLink : State → ℕ → Type 0
IsTimelessLink s k = (e : SideId) → e.link ≡ k → IsStillSide s e
