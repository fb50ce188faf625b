use Rattle.mio_port.proofs.TurnLemmas.{each_is_read_in_time}
use Rattle.mio_port.proofs.turn.each_is_read_in_time.Goals as goal

pub returns : goal.returns
returns c = each_is_read_in_time
