use Rattle.std.proofs.Common.{◌≡◌, ◌++◌, map, take, drop}
use Rattle.evbuf.specs.Callbacks.{enabled_at}
use Rattle.evbuf.proofs.callback_list.enable_all.Given as goal

abbrev pub invariant-loop-callback : goal.invariant-loop-callback
invariant-loop-callback l =
    l.callback-items
    ≡ map (enabled_at l.fn.cb l.fn.on) (take l.callback-index l.fn.items.items) ++ drop l.callback-index l.fn.items.items
