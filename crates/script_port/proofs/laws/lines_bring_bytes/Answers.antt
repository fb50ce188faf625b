use Rattle.script_port.proofs.LawLemmas.{lines_bring}
use Rattle.script_port.proofs.laws.lines_bring_bytes.Goals as goal

pub returns : goal.returns
returns c = λ lines l e s found. lines_bring lines l e s found
