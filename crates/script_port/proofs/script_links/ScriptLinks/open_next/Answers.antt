use Rattle.std.proofs.Common.{arith}
use Rattle.script_port.proofs.EndLemmas.{part_grows, rest_shrinks}
use Rattle.script_port.proofs.script_links.ScriptLinks.open_next.Goals as goal

pub returns : goal.returns
returns c =
    let l = c.self.inside in
    let grown = part_grows l.waits.items l.accepted l.opened 1 c.min.result c.self.invariant.accepted (omega arith) (omega arith) in
    let shrunk = rest_shrinks l.waits.items l.opened 1 c.min.result (omega arith) in
    rw (← c.self.view_is, grown, shrunk)
