-- The answer of the call was written.
use Rattle.event_base.specs.Calls as call
use Rattle.base_mode.specs.RunView.{run_of}
use Rattle.base_mode.proofs.RunLemmas.{Went-answered, exactly}
use Rattle.base_mode.proofs.run.Run.delete.Goals as goal

pub returns : goal.returns
returns c =
    rw (← c.number-number.ensures, ← c.self.view_is)
    (Went-answered c.del_event-outcome.result c.put_answer.result
    (run_of c.self.inside) c.del_event-outcome.new.self c.put_answer.new.text.items
    (call.del_event c.self.inside.base c.number-number.result)
    c.del_event-outcome.ensures.ok
    (exactly c.del_event-outcome.result
    (call.del_event c.self.inside.base c.number-number.result) c.del_event-outcome.ensures.refused) c.del_event-outcome.ensures.stays
    c.put_answer.ensures)
