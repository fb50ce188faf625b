use Rattle.bev_world.proofs.WentLemmas.{went_none}
use Rattle.bev_world.proofs.world.World.new_socket.Goals as goal

pub returns-in_err-number-clause-went : goal.returns-in_err-number-clause-went
returns-in_err-number-clause-went c = went_none _
