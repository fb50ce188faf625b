use Rattle.std.proofs.Common.{List, ◌++◌, ◌∷◌, [], ◌∙◌, not, if◌then◌else◌, sym, ap, arith}
use Rattle.std.specs.Prelude.{nat_eq}
use Rattle.std.specs.Map.{lookup}
use Rattle.std.proofs.lemmas.Option.{slice_get_read}
use Rattle.deferred_cb.specs.DueCalls.{Entry}
use Rattle.deferred_cb.proofs.EntryLemmas.{absent-before, without-more}
use Rattle.deferred_cb.proofs.due.put_others.Goals as goal

pub put_other-requires-clause-absent : goal.put_other-requires-clause-absent
put_other-requires-clause-absent c =
    let es : List Entry = c.args.entries.now.items in
    let there = slice_get_read es c.len-at-end.result c.loop-at.at c.index.result.now (omega (arith, c.len-at-end.ensures, c.args.entries.now.ok.0)) c.loop-at-test.true c.index.ensures in
    ap (lookup (nat_eq c.index.result.now.0)) c.loop-at.invariant.entries
    ∙ absent-before c.args.owner es c.loop-at.at c.index.result.now c.requires.distinct there

pub loop-at-preserved : goal.loop-at-preserved
loop-at-preserved c =
    let es : List Entry = c.args.entries.now.items in
    let e = c.index.result.now in
    let there = slice_get_read es c.len-at-end.result c.loop-at.at e (omega (arith, c.len-at-end.ensures, c.args.entries.now.ok.0)) c.loop-at-test.true c.index.ensures in
    let added : List Entry = if not (nat_eq c.args.owner e.0) then (e.0, e.1) ∷ [] else [] in
    record {
      entries =
          c.put_other.ensures.entries ∙ (λ i. c.loop-at.invariant.entries i ++ added)
          ∙ sym (without-more c.args.owner es c.loop-at.at e there);
      room = omega (arith, c.put_other.ensures.room, c.loop-at.invariant.room);
      kept = omega (arith, c.put_other.ensures.kept, c.loop-at.invariant.kept);
    }
