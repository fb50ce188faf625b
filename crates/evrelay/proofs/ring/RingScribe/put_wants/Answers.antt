use Rattle.std.proofs.Common.{map}
use Rattle.ev_port.specs.Polling.{want_events}
use Rattle.ev_port.specs.Table.{named}
use Rattle.evrelay.specs.RingWants.{kept_last, want_entry}
use Rattle.evrelay.proofs.RingKeptLemmas.{kept-more, wants-entries}
use Rattle.evrelay.proofs.ring.RingScribe.put_wants.Goals as goal

pub invariant_of-self-clause-kept : goal.invariant_of-self-clause-kept
invariant_of-self-clause-kept c =
    kept-more (kept_last c.args.self.now.entries.words.items c.args.self.now.entries.older.items c.args.self.now.entries.newer.items)
    (kept_last c.push_wants.new.self.words.items c.push_wants.new.self.older.items c.push_wants.new.self.newer.items)
    (map want_entry (named c.args.wants.now)) c.args.self.now.told.trace (want_events (named c.args.wants.now))
    c.then_wants-self.result.trace c.args.self.now.kept c.push_wants.ensures
    (wants-entries (named c.args.wants.now)) c.then_wants-self.ensures
