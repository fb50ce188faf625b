use Rattle.std.proofs.Common.{arith}
use Rattle.evbuf_chain.proofs.ChainLemmas.{marks-before}
use Rattle.evbuf_chain.proofs.ends.put_before.Goals as goal

pub returns-then-len-eq0-clause-marks : goal.returns-then-len-eq0-clause-marks
returns-then-len-eq0-clause-marks c =
    marks-before c.args.chunks.now.marks c.args.own.now.items c.prepend.new.self.items c.args.bytes.now
    (omega (arith, c.len.ensures.marked, c.len.ensures.len, c.if-len-eq0.true)) c.in_ok-prepend.ensures.items
