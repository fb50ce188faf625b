use Rattle.std.proofs.Common.{◌<◌, length, arith}
use Rattle.relay_sides.proofs.ReopenLemmas.{bevs_renewed}
use Rattle.relay_sides.proofs.opening.renew_bevs.Goals as goal

pub returns-clause-slots : goal.returns-clause-slots
returns-clause-slots c =
    let there : c.args.at < length c.args.world.now.slots = omega arith in
    bevs_renewed c.args.world.now c.args.at there c.renew_at.new.self c.enable_at.new.self c.set_watermark_at.new.self
    c.set_watermark_at-2.new.self c.set_timeouts_at.new.self c.renew_at-2.new.self c.args.time c.args.side
    c.renew_at.ensures c.enable_at.ensures c.set_watermark_at.ensures c.set_watermark_at-2.ensures c.set_timeouts_at.ensures
    c.renew_at-2.ensures
