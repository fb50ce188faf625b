use Rattle.evbuf.specs.Callbacks.{after_change}
use Rattle.std.proofs.Common.{arith}
use Rattle.evbuf.proofs.CallbackLemmas.{map-step}
use Rattle.evbuf.proofs.callback_list.change_all.Goals as goal

pub loop-callback-preserved : goal.loop-callback-preserved
loop-callback-preserved c =
    map-step (after_change c.args.before c.args.came c.args.went) c.loop-callback.callback-index c.loop-callback.callback-items
    c.args.items.now.items _ c.change.new.self c.loop-callback.invariant
    (omega (arith, c.loop-callback-test.true, c.loop-callback.auto.callback-items)) c.change.ensures
