use Rattle.relay_model.proofs.StandsLawLemmas.{bytes_given_begin}
use Rattle.relay_model.proofs.played_laws.bytes_given_begin.Goals as goal

pub returns : goal.returns
returns c = bytes_given_begin
