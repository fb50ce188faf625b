use Rattle.big_script.proofs.DrainableLemmas.{big_scripts_are_drainable}
use Rattle.big_script.proofs.laws.big_scripts_are_drainable.Goals as goal

pub returns : goal.returns
returns c = big_scripts_are_drainable
