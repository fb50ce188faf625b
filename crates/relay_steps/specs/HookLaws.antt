-- Hooks: whatever they ask and however they are answered, the relay goes on standing for the trace with the entries of that.
use Rattle.std.specs.Prelude.{ℕ, ◌+◌, ◌<◌, Bool, ◌||◌, if◌then◌else◌, [], ◌++◌}
use Rattle.ev_types.specs.declared.act.Act.{Act}
use Rattle.ev_types.specs.declared.answer.AskAnswer.{AskAnswer}
use Rattle.ev_types.specs.Trace.{Trace}
use Rattle.relay_model.specs.Plain.{all_sides}
use Rattle.relay_model.specs.Asks.{most_asks}
use Rattle.relay_model.specs.Stages.{Fire, Halt, Serving, Dispatching, Firing, Passing, Over}
use Rattle.relay_model.specs.Answers.{TurnAnswer}
use Rattle.relay_state.specs.State.{State}
use Rattle.relay_state.specs.Asking.{AsksOne, stops, Fires, Dispatches, StopsAt}
use Rattle.relay_steps.specs.Meaning.{StandsFor, LeftFor}

-- where a fire stands behind an ask and its answer
abbrev pub fire_asked : Fire → Act × AskAnswer → Fire
fire_asked x y = record x { asks = x.asks + 1; stopped = x.stopped || stops y }

-- The hook that runs, which has made fewer than 256 asks, makes one more, of any side. However it is answered, the
-- relay stands for the trace with the entries of that ask, the fire being one ask further.
abbrev pub AsksAreStoodFor : Type 0
AsksAreStoodFor = (t : Trace) (s new : State) (x : Fire) (a : Act) (answer : AskAnswer) (added : Trace) →
    StandsFor t (Firing x s.batch) s → x.asks < most_asks → AsksOne x.side a answer s added new →
    StandsFor (t ++ added) (Firing (fire_asked x (a, answer)) new.batch) new

-- A reason is fired, and its hook asks what it asks. Behind that the next reason is to be fired; or the run is over, where the hook
-- stopped it.
abbrev pub FiresAreStoodFor : Type 0
FiresAreStoodFor = (stopped : Bool) (t : Trace) (s new : State) (added : Trace) → StandsFor t (Dispatching s.batch) s →
    (h : Fires stopped s added new) →
    StandsFor (t ++ added) (if stopped then Over (Halt.StoppedBy h.side.link) else Dispatching new.batch) new

-- Behind serving all that was due is fired, and passing follows.
abbrev pub DispatchesAreStoodFor : Type 0
DispatchesAreStoodFor = (t : Trace) (s new : State) (added : Trace) → StandsFor t (Serving []) s → Dispatches s added new →
    StandsFor (t ++ added) (Passing [] (all_sides new.plain)) new

-- Or a hook of this link stops the run, and the turn may answer so.
abbrev pub StopsAreLeft : Type 0
StopsAreLeft = (link : ℕ) (t : Trace) (s new : State) (added : Trace) → StandsFor t (Serving []) s → StopsAt link s added new →
    LeftFor (TurnAnswer.Stopped link) (t ++ added) new
