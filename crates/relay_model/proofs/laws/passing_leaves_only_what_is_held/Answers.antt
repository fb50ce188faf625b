use Rattle.relay_model.proofs.PassFinishes.{passing_ends}
use Rattle.relay_model.proofs.laws.passing_leaves_only_what_is_held.Goals as goal

pub returns : goal.returns
returns c = passing_ends
