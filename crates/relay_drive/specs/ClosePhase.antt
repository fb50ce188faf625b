-- Closing as a relation of the relay's state, and where it can be cut off.
use Rattle.std.specs.Prelude.{◌≡◌, ℕ, [], ◌∷◌, if◌then◌else◌, MatchBool, is_some}
use Rattle.ev_types.specs.declared.side.SideId.{SideId}
use Rattle.ev_types.specs.declared.entry.Entry.TheVariants as entry
use Rattle.ev_types.specs.Sides.{same_end}
use Rattle.ev_types.specs.Trace.{Trace}
use Rattle.ev_port.specs.EndSteps.{EndStep, no_step}
use Rattle.ev_port.specs.Ends.{close_write_step, close_step}
use Rattle.relay_core.specs.declared.close.Closing.{Closing}
use Rattle.relay_core.specs.declared.close.Closing.TheVariants as closing
use Rattle.relay_state.specs.State.{State}
use Rattle.relay_state.specs.Closing.{closing_entry}
use Rattle.relay_core.specs.Steps as steps
use Rattle.relay_core.specs.Steps.{steps_of, after_closing}
pub use Rattle.relay_core.specs.Steps.{closing_events}
use Rattle.relay_drive.specs.Steps.{Nothing, Each, CutAt}

-- what the port hears of it
abbrev pub told_events : Closing → Trace
told_events (closing.EndWriting e) = (entry.CloseWrite e, []) ∷ []
told_events (closing.Shut e) = (entry.Close e, []) ∷ []
told_events _ = []

-- and what each end hears of it
abbrev pub told_step : Closing → SideId → EndStep
told_step (closing.EndWriting end) e = if same_end end e then close_write_step else no_step
told_step (closing.Shut end) e = if same_end end e then close_step else no_step
told_step _ e = no_step

pub record Closes (step : Closing) (s : State) (a : Trace) (new : State) : Type 0 where
  pub entries : a ≡ closing_events s step
  pub state : new ≡ after_closing s step

-- a step of closing is made where it is called for
abbrev pub LooksAt : Closing → State → Trace → State → Type 0
LooksAt step s a new = MatchBool (is_some (closing_entry s (steps.close_step step))) (Closes step s a new) (Nothing s a new)

abbrev pub ClosesLink : ℕ → State → Trace → State → Type 0
ClosesLink k s a new = Each LooksAt (steps_of k) s a new

abbrev pub CutClosingLink : ℕ → State → Trace → State → Type 0
CutClosingLink k s a new = CutAt LooksAt (λ _. Nothing) (steps_of k) s a new
