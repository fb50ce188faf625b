use Rattle.relay_model.proofs.QuietLemmas.{links_in_order}
use Rattle.relay_model.proofs.legal_laws.links_in_order.Goals as goal

pub returns : goal.returns
returns c = links_in_order
