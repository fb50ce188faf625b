use Rattle.std.proofs.Common.{arith}
use Rattle.ev_port.proofs.WantCountLemmas.{count-word}
use Rattle.ev_port.proofs.want_word.WantWord.count.Goals as goal

pub returns : goal.returns
returns c = count-word c.args.self.now (omega arith) (omega arith)
