-- The answer of the call was written.
use Rattle.event_base.specs.Calls as call
use Rattle.base_mode.specs.RunView.{run_of}
use Rattle.base_mode.proofs.RunLemmas.{Went-answered, exactly}
use Rattle.base_mode.proofs.run.Run.prioritize.Goals as goal

pub returns : goal.returns
returns c =
    rw (← c.number-number.ensures, ← c.self.view_is)
    (Went-answered c.set_priority-outcome.result c.put_answer.result
    (run_of c.self.inside) c.set_priority-outcome.new.self c.put_answer.new.text.items
    (call.set_priority c.self.inside.base c.number-number.result c.args.priority)
    c.set_priority-outcome.ensures.ok
    (exactly c.set_priority-outcome.result
    (call.set_priority c.self.inside.base c.number-number.result c.args.priority) c.set_priority-outcome.ensures.refused)
    c.set_priority-outcome.ensures.stays c.put_answer.ensures)
