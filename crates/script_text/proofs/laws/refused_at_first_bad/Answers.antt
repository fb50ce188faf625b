use Rattle.script_text.proofs.LawLemmas.{script_of-bad}
use Rattle.script_text.proofs.laws.refused_at_first_bad.Goals as goal

pub returns : goal.returns
returns c = script_of-bad
