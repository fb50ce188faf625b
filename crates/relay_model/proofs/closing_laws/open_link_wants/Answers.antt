use Rattle.relay_model.proofs.OpenWants.{open_link_wants}
use Rattle.relay_model.proofs.closing_laws.open_link_wants.Goals as goal

pub returns : goal.returns
returns c = open_link_wants
