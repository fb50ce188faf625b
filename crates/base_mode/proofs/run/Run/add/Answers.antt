-- The answer of the call was written.
use Rattle.event_base.specs.Calls as call
use Rattle.base_mode.specs.RunView.{run_of}
use Rattle.base_mode.proofs.RunLemmas.{Went-answered}
use Rattle.base_mode.proofs.run.Run.add.Goals as goal

pub returns : goal.returns
returns c =
    rw (← c.number-number.ensures, ← c.self.view_is)
    (Went-answered c.add_event-outcome.result c.put_answer.result
    (run_of c.self.inside) c.add_event-outcome.new.self c.put_answer.new.text.items
    (call.add_event c.self.inside.base c.number-number.result c.args.delay)
    c.add_event-outcome.ensures.ok c.add_event-outcome.ensures.refused c.add_event-outcome.ensures.stays c.put_answer.ensures)
