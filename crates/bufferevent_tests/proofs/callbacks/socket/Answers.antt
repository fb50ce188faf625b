use Rattle.bev_world.proofs.WentLemmas.{went_idle}
use Rattle.bufferevent_tests.proofs.callbacks.socket.Goals as goal

pub returns : goal.returns
returns c = went_idle _ _ c.new_socket.ensures.went c.requires
