-- The answer of the call was written.
use Rattle.event_base.specs.Delays.{common}
use Rattle.base_mode.specs.RunView.{run_of}
use Rattle.base_mode.proofs.RunLemmas.{Went-answered}
use Rattle.base_mode.proofs.run.Run.common.Goals as goal

pub returns : goal.returns
returns c =
    rw (← c.self.view_is)
    (Went-answered c.common-outcome.result c.put_answer.result
    (run_of c.self.inside) c.common-outcome.new.self c.put_answer.new.text.items
    (common c.self.inside.base c.args.delay)
    c.common-outcome.ensures.ok c.common-outcome.ensures.refused c.common-outcome.ensures.stays c.put_answer.ensures)
