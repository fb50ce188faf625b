-- The answer of the call was written.
use Rattle.event_base.specs.Calls as call
use Rattle.base_mode.specs.RunView.{run_of}
use Rattle.base_mode.proofs.RunLemmas.{Went-answered}
use Rattle.base_mode.proofs.run.Run.make.Goals as goal

pub returns : goal.returns
returns c =
    rw (← c.self.view_is)
    (Went-answered c.new_event-outcome.result c.put_answer.result
    (run_of c.self.inside) c.new_event-outcome.new.base c.put_answer.new.text.items
    (call.new_event c.self.inside.base c.args.persist c.args.signal)
    c.new_event-outcome.ensures.ok c.new_event-outcome.ensures.refused c.new_event-outcome.ensures.stays c.put_answer.ensures)
