use Rattle.evrelay.specs.RingWants.{kept_last}
use Rattle.evrelay.proofs.RingWantsLemmas.{put-more, put-all}
use Rattle.evrelay.proofs.last.LastEntries.push_each.Goals as goal

pub loop-want-preserved : goal.loop-want-preserved
loop-want-preserved c =
    let old = c.args.self.now in
    let now = c.loop-want.self in
    let new = c.push.new.self in
    put-more c.args.wants.now c.loop-want.from c.number-from.result (kept_last old.words.items old.older.items old.newer.items)
    (kept_last now.words.items now.older.items now.newer.items) (kept_last new.words.items new.older.items new.newer.items)
    c.in-Some.want c.want_entry.result c.loop-want.invariant c.in-Some.ensures c.number-from.ensures c.want_entry.ensures c.push.ensures

pub returns : goal.returns
returns c =
    let old = c.args.self.now in
    let now = c.loop-want.self in
    put-all c.args.wants.now c.loop-want.from (kept_last old.words.items old.older.items old.newer.items)
    (kept_last now.words.items now.older.items now.newer.items) c.loop-want.invariant c.in_default.ensures
