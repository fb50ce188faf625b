use Rattle.std.proofs.Common.{◌≡◌, ◌++◌, map, take, drop}
use Rattle.evbuf.specs.Callbacks.{after_change}
use Rattle.evbuf.proofs.callback_list.change_all.Given as goal

abbrev pub invariant-loop-callback : goal.invariant-loop-callback
invariant-loop-callback l =
    l.callback-items
    ≡ map (after_change l.fn.before l.fn.came l.fn.went) (take l.callback-index l.fn.items.items)
    ++ drop l.callback-index l.fn.items.items
