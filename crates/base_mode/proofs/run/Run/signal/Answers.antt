-- The answer of the call was written.
use Rattle.event_base.specs.Calls as call
use Rattle.base_mode.specs.RunView.{run_of}
use Rattle.base_mode.proofs.RunLemmas.{Went-answered}
use Rattle.base_mode.proofs.run.Run.signal.Goals as goal

pub returns : goal.returns
returns c =
    rw (← c.self.view_is)
    (Went-answered c.signal-outcome.result c.put_answer.result
    (run_of c.self.inside) c.signal-outcome.new.self c.put_answer.new.text.items
    (call.signal c.self.inside.base c.args.number c.args.count)
    c.signal-outcome.ensures.ok c.signal-outcome.ensures.refused c.signal-outcome.ensures.stays c.put_answer.ensures)
