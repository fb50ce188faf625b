use Rattle.relay_model.proofs.RefillLemmas.{tick_brings_byte}
use Rattle.relay_model.proofs.refill_laws.a_tick_brings_a_byte.Goals as goal

pub returns : goal.returns
returns c = tick_brings_byte
