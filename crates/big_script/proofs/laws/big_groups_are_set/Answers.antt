use Rattle.big_script.proofs.BigLemmas.{big_groups_are_set}
use Rattle.big_script.proofs.laws.big_groups_are_set.Goals as goal

pub returns : goal.returns
returns c = big_groups_are_set
