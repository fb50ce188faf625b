use Rattle.std.proofs.Common.{arith}
use Rattle.ev_port.proofs.WantWordLemmas.{last-none, last-some}
use Rattle.ev_port.proofs.want_word.last_word.Goals as goal

pub returns-in_err-at : goal.returns-in_err-at
returns-in_err-at c = rw c.from_residual.ensures (last-none c.args.read.now.has c.args.write.now.has c.args.before c.in_err-at.ensures)

pub returns : goal.returns
returns c =
    last-some c.args.read.now.has c.args.write.now.has (record { at = c.in_ok-at.at; read = c.word.result; write = c.word-2.result })
    c.word.ensures c.word-2.ensures c.args.before c.in_ok-at.field-0-1 (omega arith) c.in_ok-at.ensures
