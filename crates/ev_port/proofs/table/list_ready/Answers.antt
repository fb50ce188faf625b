use Rattle.std.proofs.Common.{◌∙◌, sym, arith}
use Rattle.std.proofs.lemmas.Grind.{common_steps}
use Rattle.ev_port.proofs.MarkLemmas.{either-within, marked-all, marked-found, walk-behind, walk-end, walk-from, walk-next}
use Rattle.ev_port.proofs.table.list_ready.Goals as goal

pub loop-number-preserved : goal.loop-number-preserved
loop-number-preserved c =
    let r = c.args.rows.0.now in
    let w = c.args.rows.1.now in
    let x = c.args.ready.0.now in
    let y = c.args.ready.1.now in
    let n = c.in-Some.number in
    let at = c.loop-number.walk.from in
    let least = walk-next c.loop-number.walk r x w y at n c.loop-number.invariant.walk c.in-Some.ensures.next in
    let found = marked-found r.has w.has x y at n least in
    let within = either-within r.has x.has w.has y.has c.args.sides n (c.requires.reads n) (c.requires.writes n) least.passes in
    let from = walk-from c.loop-number.walk _ n c.in-Some.ensures.after in
    record {
      walk = walk-behind c.loop-number.walk _ r x w y n c.loop-number.invariant.walk c.in-Some.ensures.after;
      list = grind (arith, common_steps, found, from);
      within = omega (arith, within, from);
      few = grind (arith, common_steps, from);
      room = omega arith;
    }

pub returns-clause-list : goal.returns-clause-list
returns-clause-list c =
    let r = c.args.rows.0.now in
    let w = c.args.rows.1.now in
    let x = c.args.ready.0.now in
    let y = c.args.ready.1.now in
    let at = c.loop-number.walk.from in
    c.loop-number.invariant.list
    ∙ sym (marked-all r.has w.has x y at c.args.sides c.loop-number.invariant.within
    (walk-end c.loop-number.walk r x w y at c.loop-number.invariant.walk c.in_default.ensures.next))
