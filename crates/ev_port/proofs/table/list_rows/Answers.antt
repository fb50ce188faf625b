use Rattle.std.proofs.Common.{◌∙◌, sym, arith}
use Rattle.std.proofs.lemmas.Grind.{common_steps}
use Rattle.ev_port.proofs.MarkLemmas.{either-within, rows-all, rows-found, walk-behind, walk-end, walk-from, walk-next}
use Rattle.ev_port.proofs.table.list_rows.Goals as goal

pub loop-number-preserved : goal.loop-number-preserved
loop-number-preserved c =
    let r = c.args.read.now in
    let w = c.args.write.now in
    let n = c.in-Some.number in
    let at = c.loop-number.walk.from in
    let least = walk-next c.loop-number.walk r r w w at n c.loop-number.invariant.walk c.in-Some.ensures.next in
    let found = rows-found r.has w.has at n least in
    let within = either-within r.has r.has w.has w.has c.args.sides n (c.requires.reads n) (c.requires.writes n) least.passes in
    let from = walk-from c.loop-number.walk _ n c.in-Some.ensures.after in
    record {
      walk = walk-behind c.loop-number.walk _ r r w w n c.loop-number.invariant.walk c.in-Some.ensures.after;
      list = grind (arith, common_steps, found, from);
      within = omega (arith, within, from);
      few = grind (arith, common_steps, from);
      room = omega arith;
    }

pub returns-clause-list : goal.returns-clause-list
returns-clause-list c =
    let r = c.args.read.now in
    let w = c.args.write.now in
    let at = c.loop-number.walk.from in
    c.loop-number.invariant.list
    ∙ sym (rows-all r.has w.has at c.args.sides c.loop-number.invariant.within
    (walk-end c.loop-number.walk r r w w at c.loop-number.invariant.walk c.in_default.ensures.next))
