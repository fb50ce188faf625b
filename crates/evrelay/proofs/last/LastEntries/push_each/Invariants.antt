use Rattle.std.proofs.Common.{◌*◌, ◌-◌}
use Rattle.evrelay.specs.RingWants.{kept_last}
use Rattle.evrelay.proofs.RingWantsLemmas.{PutSoFar}
use Rattle.evrelay.proofs.last.LastEntries.push_each.Given as goal

-- The wants before this number are put.
abbrev pub invariant-loop-want : goal.invariant-loop-want
invariant-loop-want l = PutSoFar l.wants l.from (kept_last l.fn.self.words.items l.fn.self.older.items l.fn.self.newer.items)
    (kept_last l.self.words.items l.self.older.items l.self.newer.items)

abbrev pub decreases-loop-want : goal.decreases-loop-want
decreases-loop-want l = 2 * l.wants.links - l.from
