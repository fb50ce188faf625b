use Rattle.relay_model.proofs.BoundSteps.{buffers_are_within}
use Rattle.relay_model.proofs.buffer_laws.buffers_are_within.Goals as goal

pub returns : goal.returns
returns c = buffers_are_within
