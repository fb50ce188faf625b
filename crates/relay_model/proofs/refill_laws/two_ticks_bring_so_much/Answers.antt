use Rattle.relay_model.proofs.RefillLemmas.{two_ticks_bring}
use Rattle.relay_model.proofs.refill_laws.two_ticks_bring_so_much.Goals as goal

pub returns : goal.returns
returns c = two_ticks_bring
