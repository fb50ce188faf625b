use Rattle.std.proofs.Common.{◌++◌, ◌∷◌, [], ◌∙◌, not, if◌then◌else◌, sym}
use Rattle.deferred_cb.proofs.EntryLemmas.{on_ok, insert-last, differs}
use Rattle.deferred_cb.proofs.due.put_other.Goals as goal

pub returns-then-key-owner-clause-entries : goal.returns-then-key-owner-clause-entries
returns-then-key-owner-clause-entries c =
    let old = c.args.others.now.entries in
    let apart = differs c.args.key c.args.owner c.if-key-owner.true in
    on_ok c.insert.result c.unwrap.result c.unwrap.ensures c.insert.ensures.entries
    ∙ insert-last c.args.key c.args.reasons old c.requires.absent
    ∙ (λ i. old ++ (if not (sym apart i) then (c.args.key, c.args.reasons) ∷ [] else []))
