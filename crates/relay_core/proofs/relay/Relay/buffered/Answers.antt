use Rattle.std.proofs.Common.{◌≡◌, ◌+◌, suc, ap, arith}
use Rattle.relay_state.specs.Counting.{buffered_at, buffered_below}
use Rattle.relay_core.proofs.relay.Relay.buffered.Goals as goal

pub loop-link-preserved : goal.loop-link-preserved
loop-link-preserved c =
    let s = c.args.self.now.state in
    let k = c.loop-link.link in
    let next : k + 1 ≡ suc k = omega arith in
    let more = ap (buffered_below s) next in
    let far = ap (buffered_at s) c.peer.ensures in
    omega (
      arith,
      more,
      far,
      c.buffered_at.ensures,
      c.saturating_add-total.ensures,
      c.buffered_at-in-loop-link.ensures,
      c.saturating_add-total-in-loop-link.ensures,
      c.loop-link.invariant,
    )
