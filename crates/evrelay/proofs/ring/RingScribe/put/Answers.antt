use Rattle.std.proofs.Common.{[], ◌∷◌, refl}
use Rattle.evrelay.specs.RingWants.{kept_last}
use Rattle.evrelay.proofs.RingKeptLemmas.{kept-more}
use Rattle.evrelay.proofs.ring.RingScribe.put.Goals as goal

pub invariant_of-self-clause-kept : goal.invariant_of-self-clause-kept
invariant_of-self-clause-kept c =
    let old = c.args.self.now.entries in
    let new = c.push.new.self in
    kept-more (kept_last old.words.items old.older.items old.newer.items) (kept_last new.words.items new.older.items new.newer.items)
    (c.args.entry ∷ []) c.args.self.now.told.trace ((c.args.entry, c.args.bytes.now) ∷ []) c.then-self.result.trace c.args.self.now.kept
    c.push.ensures refl c.then-self.ensures
