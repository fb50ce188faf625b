use Rattle.relay_model.proofs.PlayedReads.{reads_what_comes}
use Rattle.relay_model.proofs.played_laws.what_comes_is_read.Goals as goal

pub returns : goal.returns
returns c = reads_what_comes
