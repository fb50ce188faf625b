use Rattle.std.proofs.Common.{◌≡◌, ◌+◌, ◌-◌, ◌∷◌, ◌++◌, [], length, drop, arith}
use Rattle.std.specs.List.{swap}
use Rattle.min_timer.proofs.TakeLemmas.{exchanged_in_place, parts, but_there, heap_left, own_stamps_left}
use Rattle.min_timer.proofs.sift.take_out.Goals as goal

-- the last place
end : (c : goal.After-take_last) → c.len-last.result - 1 + 1 ≡ length c.args.timers.now.items
end c = omega (arith, c.requires.bounds, c.len-last.ensures, c.args.timers.now.ok.0)

-- the others, and behind them the one that is out
is : (c : goal.After-take_last) →
    c.take_last.new.timers.items ++ c.take_last.result ∷ [] ≡ swap c.args.timers.now.items c.args.at (c.len-last.result - 1)
is c =
    exchanged_in_place c.args.timers.now.items c.deref_mut.result.now c.exchange.new.timers
    (drop (length c.exchange.new.timers) c.args.timers.now.items) (c.take_last.new.timers.items ++ c.take_last.result ∷ [])
    c.args.at (c.len-last.result - 1) c.args.timers.now.len c.take_last.ensures.items c.exchange.ensures.after
    c.deref_mut.ensures.value (omega (arith, c.args.timers.now.ok.0))

pub returns-clause-rest : goal.returns-clause-rest
returns-clause-rest c =
    parts c.args.timers.now.items c.take_last.new.timers.items c.take_last.result c.args.at (c.len-last.result - 1)
    c.requires.bounds (end c) (is c)

pub returns-clause-own_stamps : goal.returns-clause-own_stamps
returns-clause-own_stamps c =
    own_stamps_left c.args.timers.now.items c.take_last.new.timers.items c.take_last.result c.args.at (c.len-last.result - 1)
    c.requires.bounds (end c) (is c) c.requires.kept.own_stamps

pub returns-clause-but : goal.returns-clause-but
returns-clause-but c =
    but_there c.args.timers.now.items c.take_last.new.timers.items c.take_last.result c.args.at (c.len-last.result - 1)
    c.requires.bounds (end c) (is c) c.requires.kept.heap

pub returns-clause-heap : goal.returns-clause-heap
returns-clause-heap c =
    heap_left c.args.timers.now.items c.take_last.new.timers.items c.take_last.result c.args.at (c.len-last.result - 1)
    c.requires.bounds (end c) (is c) c.requires.kept.heap
