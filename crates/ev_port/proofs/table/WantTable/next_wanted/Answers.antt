use Rattle.std.proofs.Common.{arith}
use Rattle.ev_port.proofs.TableViewLemmas.{kept-within, next-none_shown, next-some_shown}
use Rattle.ev_port.proofs.table.WantTable.next_wanted.Goals as goal

pub returns-in_err-number : goal.returns-in_err-number
returns-in_err-number c =
    rw c.from_residual.ensures
    (next-none_shown c.self.inside c.self.invariant c.args.self.now c.self.view_is c.args.from c.in_err-number.ensures.next)

pub row_of-requires : goal.row_of-requires
row_of-requires c =
    let a = c.self.inside in
    let l = kept-within a c.self.invariant a.read a.write c.in_ok-number.number c.in_ok-number.ensures.next.passes in
    let f = c.self.invariant.few in
    omega (arith, l, f)

pub returns : goal.returns
returns c =
    next-some_shown c.self.inside c.self.invariant c.args.self.now c.self.view_is c.args.from c.in_ok-number.number
    c.in_ok-number.ensures.next c.row_of.result c.row_of.ensures
