use Rattle.std.proofs.Common.{◌∙◌, length, ap, sym, refl, arith}
use Rattle.ev_port.specs.declared.table.WantTable.TheInside.{Inside}
use Rattle.ev_port.proofs.TableViewLemmas.{lengthened, on_err, shown-same}
use Rattle.ev_port.proofs.table.WantTable.push_link.Goals as goal

pub returns-in_err-lengthen-clause-refused : goal.returns-in_err-lengthen-clause-refused
returns-in_err-lengthen-clause-refused c =
    let b : Inside = record c.self.inside { read = c.lengthen.new.self } in
    on_err c.from_residual.result
    (shown-same c.self.inside b refl c.lengthen.ensures.members (λ n. refl) refl ∙ c.self.view_is)

pub returns-in_err-lengthen-2-clause-refused : goal.returns-in_err-lengthen-2-clause-refused
returns-in_err-lengthen-2-clause-refused c =
    let b : Inside = record c.self.inside { read = c.lengthen.new.self; write = c.lengthen-2.new.self } in
    on_err c.from_residual-in_err-lengthen-2.result
    (shown-same c.self.inside b refl c.lengthen.ensures.members c.lengthen-2.ensures.members refl ∙ c.self.view_is)

pub returns-in_err-reserve-clause-refused : goal.returns-in_err-reserve-clause-refused
returns-in_err-reserve-clause-refused c =
    let b : Inside = record c.self.inside { read = c.lengthen.new.self; write = c.lengthen-2.new.self; list = c.reserve.new.self } in
    on_err c.from_residual-in_err-reserve.result
    (shown-same c.self.inside b refl c.lengthen.ensures.members c.lengthen-2.ensures.members c.reserve.ensures.items ∙ c.self.view_is)

pub invariant_of-self-2 : goal.invariant_of-self-2
invariant_of-self-2 c =
    let a = c.self.inside in
    let kept = c.self.invariant in
    let read_long = c.in_ok-lengthen.ensures.long in
    let write_long = c.in_ok-lengthen-2.ensures.long in
    let room = c.in_ok-reserve.ensures.ok in
    let rows = ap length (lengthened a.read.has a.write.has c.lengthen.new.self.has c.lengthen-2.new.self.has a.links
    c.lengthen.ensures.members
    c.lengthen-2.ensures.members kept.read_end kept.write_end) in
    record {
      read_long = omega (arith, read_long);
      write_long = omega (arith, write_long);
      read_end = λ n l. c.lengthen.ensures.members n ∙ kept.read_end n (omega (arith, l));
      write_end = λ n l. c.lengthen-2.ensures.members n ∙ kept.write_end n (omega (arith, l));
      counted = kept.counted ∙ sym rows;
      room = omega (arith, room);
      few = omega arith;
    }
