use Rattle.buffers_mode.proofs.PlayedLemmas.{answers_of-some}
use Rattle.buffers_mode.proofs.laws.scripts_are_never_spent.Goals as goal

pub returns : goal.returns
returns c = answers_of-some
