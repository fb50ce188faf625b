use Rattle.relay_model.proofs.SoFarLemmas.{buffers_are_within_so_far}
use Rattle.relay_model.proofs.buffer_laws.buffers_are_within_so_far.Goals as goal

pub returns : goal.returns
returns c = buffers_are_within_so_far
