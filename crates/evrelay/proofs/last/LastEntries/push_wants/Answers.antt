use Rattle.std.proofs.Common.{◌≤◌, length, arith}
use Rattle.ev_port.specs.Table.{named}
use Rattle.evrelay.specs.RingWants.{kept_last}
use Rattle.evrelay.proofs.RingWantsLemmas.{many-kept}
use Rattle.evrelay.proofs.last.LastEntries.push_wants.Goals as goal

pub returns-then-count-ge-KEPT : goal.returns-then-count-ge-KEPT
returns-then-count-ge-KEPT c =
    let now = c.args.self.now in
    let many : 64 ≤ length (named c.args.wants.now) = omega (arith, c.if-count-ge-KEPT.true, c.count.ensures) in
    many-kept c.take_words-self.new.words.items c.clear.new.self.items c.clear-then-count-ge-KEPT.new.self.items
    (kept_last now.words.items now.older.items now.newer.items) c.args.wants.now c.clear.ensures.items
    c.clear-then-count-ge-KEPT.ensures.items c.take_words-self.ensures.last many
