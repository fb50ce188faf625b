use Rattle.std.proofs.Common.{◌≡◌, ◌++◌, ◌∷◌, [], List, length, ◌∙◌, sym, ap, ap₂, arith, length-append}
use Rattle.std.specs.Prelude.{filter}
use Rattle.std.proofs.lemmas.List.Elements.{filter-append}
use Rattle.ev_port.specs.declared.port.Want.{Want}
use Rattle.ev_port.specs.Marking.{marks_by, after_marks}
use Rattle.ev_port.specs.Table.{is_marked, row_by, rows_before}
use Rattle.ev_port.proofs.MarkLemmas.{after-more, either-within, length-one, marks-more, rows-all, rows-found, walk-behind, walk-end}
use Rattle.ev_port.proofs.MarkLemmas.{walk-from, walk-next}
use Rattle.ev_port.proofs.table.mark_rows.Goals as goal

pub row_of-requires : goal.row_of-requires
row_of-requires g c =
    let r = c.args.read.now in
    let w = c.args.write.now in
    let n = c.in-Some.number in
    let least = walk-next c.loop-number.walk r r w w c.loop-number.walk.from n c.loop-number.invariant.walk c.in-Some.ensures.next in
    let within = either-within r.has r.has w.has w.has c.args.sides n (c.requires.reads n) (c.requires.writes n) least.passes in
    omega (arith, within)

pub put_marked-requires : goal.put_marked-requires
put_marked-requires g c =
    let r = c.args.read.now in
    let w = c.args.write.now in
    let n = c.in-Some.number in
    let least = walk-next c.loop-number.walk r r w w c.loop-number.walk.from n c.loop-number.invariant.walk c.in-Some.ensures.next in
    let within = either-within r.has r.has w.has w.has c.args.sides n (c.requires.reads n) (c.requires.writes n) least.passes in
    let reached = least.reached in
    omega (arith, within, reached)

pub loop-number-preserved : goal.loop-number-preserved
loop-number-preserved g c =
    let marked = g.M.MarkWant.marked in
    let after = g.M.MarkWant.after in
    let m = c.args.marker.now in
    let r = c.args.read.now in
    let w = c.args.write.now in
    let n = c.in-Some.number in
    let at = c.loop-number.walk.from in
    let u = c.next.new.self in
    let least = walk-next c.loop-number.walk r r w w at n c.loop-number.invariant.walk c.in-Some.ensures.next in
    let within = either-within r.has r.has w.has w.has c.args.sides n (c.requires.reads n) (c.requires.writes n) least.passes in
    let reached = least.reached in
    let from = walk-from c.loop-number.walk u n c.in-Some.ensures.after in
    let row : Want = row_by r.has w.has n in
    let before = rows_before r.has w.has at in
    let rows : rows_before r.has w.has u.from ≡ before ++ row ∷ [] =
    ap (rows_before r.has w.has) from ∙ rows-found r.has w.has at n least in
    let is_one : c.mark.result ≡ marked (after_marks after m before) row =
    c.mark.ensures.marks ∙ ap₂ marked c.loop-number.invariant.after c.row_of.ensures in
    let longer = ap length c.put_marked.ensures.list
    ∙ length-append c.loop-number.list.items (filter is_marked (c.mark.result ∷ [])) in
    let one = length-one is_marked c.mark.result in
    record {
      walk = walk-behind c.loop-number.walk u r r w w n c.loop-number.invariant.walk c.in-Some.ensures.after;
      list = c.put_marked.ensures.list
          ∙ ap₂ (λ (xs : List Want) (x : Want). xs ++ filter is_marked (x ∷ [])) c.loop-number.invariant.list is_one
          ∙ sym (filter-append is_marked (marks_by marked after m before) (marked (after_marks after m before) row ∷ []))
          ∙ ap (filter is_marked) (sym (marks-more marked after m before row))
          ∙ ap (λ (ws : List Want). filter is_marked (marks_by marked after m ws)) (sym rows);
      after = c.mark.ensures.after ∙ ap₂ after c.loop-number.invariant.after c.row_of.ensures
          ∙ sym (after-more after m before row) ∙ ap (after_marks after m) (sym rows);
      within = omega (arith, within, from);
      few = omega (arith, longer, one, from, reached);
      room = omega arith;
    }

pub returns-clause-list : goal.returns-clause-list
returns-clause-list g c =
    let r = c.args.read.now in
    let w = c.args.write.now in
    let at = c.loop-number.walk.from in
    c.loop-number.invariant.list
    ∙ ap (λ (ws : List Want). filter is_marked (marks_by g.M.MarkWant.marked g.M.MarkWant.after c.args.marker.now ws))
    (sym (rows-all r.has w.has at c.args.sides c.loop-number.invariant.within
    (walk-end c.loop-number.walk r r w w at c.loop-number.invariant.walk c.in_default.ensures.next)))

pub returns-clause-after : goal.returns-clause-after
returns-clause-after g c =
    let r = c.args.read.now in
    let w = c.args.write.now in
    let at = c.loop-number.walk.from in
    c.loop-number.invariant.after
    ∙ ap (after_marks g.M.MarkWant.after c.args.marker.now)
    (sym (rows-all r.has w.has at c.args.sides c.loop-number.invariant.within
    (walk-end c.loop-number.walk r r w w at c.loop-number.invariant.walk c.in_default.ensures.next)))
