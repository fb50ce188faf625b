use Rattle.std.proofs.Common.{arith}
use Rattle.script_port.proofs.EndLemmas.{part_grows, rest_shrinks}
use Rattle.script_port.proofs.script_end.ScriptEnd.come_in.Goals as goal

pub returns-clause-state : goal.returns-clause-state
returns-clause-state c =
    let e = c.self.inside in
    let grown = part_grows e.bytes.items e.given e.came c.args.count c.min.result c.self.invariant.given (omega arith) (omega arith) in
    rw (← c.self.view_is, grown)

pub returns-clause-to_come : goal.returns-clause-to_come
returns-clause-to_come c =
    let e = c.self.inside in
    let shrunk = rest_shrinks e.bytes.items e.came c.args.count c.min.result (omega arith) in
    rw (← c.self.view_is, shrunk)
