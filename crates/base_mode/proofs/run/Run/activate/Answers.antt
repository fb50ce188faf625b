-- The answer of the call was written.
use Rattle.event_base.specs.Calls as call
use Rattle.base_mode.specs.RunView.{run_of}
use Rattle.base_mode.proofs.RunLemmas.{Went-answered}
use Rattle.base_mode.proofs.run.Run.activate.Goals as goal

pub returns : goal.returns
returns c =
    rw (← c.number-number.ensures, ← c.self.view_is)
    (Went-answered c.activate-outcome.result c.put_answer.result
    (run_of c.self.inside) c.activate-outcome.new.self c.put_answer.new.text.items
    (call.activate c.self.inside.base c.number-number.result 2)
    c.activate-outcome.ensures.ok c.activate-outcome.ensures.refused c.activate-outcome.ensures.stays c.put_answer.ensures)
