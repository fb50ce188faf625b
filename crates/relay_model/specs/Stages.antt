-- Where a turn stands: what it has still to go through.
use Rattle.std.specs.Prelude.{ℕ, Bool, true, false, List}
use Rattle.ev_types.specs.declared.side.SideId.{SideId}
use Rattle.ev_types.specs.declared.act.Act.{Act}
use Rattle.ev_types.specs.declared.act.Act.TheVariants as act
use Rattle.ev_types.specs.declared.answer.AskAnswer.{AskAnswer}
use Rattle.ev_types.specs.declared.answer.AskAnswer.TheVariants as ask
use Rattle.relay_model.specs.Due.{Reason, without_reasons}
use Rattle.relay_model.specs.Plain.{Plain, nothing_yet}
use Rattle.relay_model.specs.Rooms.{Want}
use Rattle.relay_model.specs.Round.{Part}
use Rattle.relay_model.specs.Close.{CloseStep}

-- a hook that runs: whose it is, whether it stopped the run, and how many asks it made
pub record Fire : Type 0 where
  pub side : SideId
  pub stopped : Bool
  pub asks : ℕ

-- why nothing follows: a poll failed, or a hook of this link stopped the run
pub data Halt : Type 0 where
  PollFailed : Halt
  StoppedBy : ℕ → Halt

pub data Stage : Type 0 where
  Between : Stage  -- no turn runs
  Polling : Stage  -- the poll comes next
  Wanting : List Want → Stage  -- these wants are to be named
  Marking : List Want → List Want → Stage  -- of these wants some may be marked; these marks were set
  Accepting : ℕ → List Want → Stage  -- so many links were opened in this turn; these marks are to be served
  Serving : List Want → Stage  -- these marks are to be served
  Filtering : SideId → List Want → Stage  -- this side just got bytes, over which its read filter is to run; then the same
  Dispatching : List Reason → Stage  -- these reasons are to be fired
  Firing : Fire → List Reason → Stage  -- a hook runs; then the same
  Freeing : SideId → Fire → List Reason → Stage  -- this side was freed by the hook that runs; then the same
  Passing : List Part → List SideId → Stage  -- these parts of a round are to be done of the first direction; these directions are to be passed
  Closing : List CloseStep → Stage  -- these things are to be looked at
  Over : Halt → Stage  -- nothing follows

pub record State : Type 0 where
  pub stage : Stage
  pub plain : Plain

abbrev pub at : Stage → Plain → State
at x s = record { stage = x; plain = s }

-- before the first turn
abbrev pub start : State
start = at Stage.Between nothing_yet

-- a hook of a side begins to run
abbrev pub begun : SideId → Fire
begun e = record { side = e; stopped = false; asks = 0 }

-- Where a hook stands after an ask. A free is recorded next, and no reason of the freed side is fired any more; what is
-- left of the fire goes on also where the run is to stop.
abbrev pub after_ask : Fire → List Reason → Act → AskAnswer → Stage
after_ask x rs (act.Free e) ask.Ok = Stage.Freeing e x (without_reasons e rs)
after_ask x rs act.Stop ask.Ok = Stage.Firing (record x { stopped = true }) rs
after_ask x rs _ _ = Stage.Firing x rs
