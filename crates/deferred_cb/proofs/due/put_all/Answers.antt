use Rattle.std.proofs.Common.{◌++◌, ◌∷◌, [], ◌∙◌, sym, arith}
use Rattle.deferred_cb.specs.DueCalls.{Entry}
use Rattle.deferred_cb.proofs.EntryLemmas.{pushed, take-more}
use Rattle.deferred_cb.proofs.due.put_all.Goals as goal

pub loop-at-preserved : goal.loop-at-preserved
loop-at-preserved c =
    let entry = rw c.unwrap.ensures at c.get_index.ensures.entry in
    let e : Entry = (c.unwrap.result.0.now, c.unwrap.result.1.now) in
    record {
      items =
          pushed c.loop-at.list.items c.push_back.new.self.items e c.push_back.result _ c.push_back.ensures.items c.unwrap-in-loop-at.ensures
          ∙ (λ i. c.loop-at.invariant.items i ++ e ∷ [])
          ∙ sym (take-more c.args.entries.now.entries c.loop-at.at e (sym entry));
      capacity = omega (arith, c.push_back.ensures.capacity, c.loop-at.invariant.capacity);
    }
