use Rattle.relay_model.proofs.ReachLemmas.{shape-is_told}
use Rattle.relay_model.proofs.turn_laws.trace_tells_shape.Goals as goal

pub returns : goal.returns
returns c = shape-is_told
