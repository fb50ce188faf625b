use Rattle.big_script.proofs.BigLemmas.{big_scripts_are_big}
use Rattle.big_script.proofs.laws.big_scripts_are_big.Goals as goal

pub returns : goal.returns
returns c = big_scripts_are_big
