use Rattle.std.proofs.Common.{refl}
use Rattle.bev_world.proofs.WentLemmas.{went_none}
use Rattle.library_uses.proofs.callbacks.EchoCallback.call.Goals as goal

pub returns-in_default : goal.returns-in_default
returns-in_default c = record { went = went_none _; did = went_none _; heard = refl }
