use Rattle.evbuf.specs.Callbacks.{enabled_at}
use Rattle.std.proofs.Common.{arith}
use Rattle.evbuf.proofs.CallbackLemmas.{map-step}
use Rattle.evbuf.proofs.callback_list.enable_all.Goals as goal

pub loop-callback-preserved : goal.loop-callback-preserved
loop-callback-preserved c =
    map-step (enabled_at c.args.cb c.args.on) c.loop-callback.callback-index c.loop-callback.callback-items
    c.args.items.now.items _ c.enable_at.new.self c.loop-callback.invariant
    (omega (arith, c.loop-callback-test.true, c.loop-callback.auto.callback-items)) c.enable_at.ensures
