use Rattle.std.proofs.Common.{◌≡◌, ◌∙◌, length, ap, arith}
use Rattle.relay_state.specs.Rooms.{waiting_for}
use Rattle.relay_core.specs.RelayValue.{RelayValue}
use Rattle.relay_core.specs.declared.relay.Relay.TheInside.{Inside}
use Rattle.relay_core.proofs.RelayLemmas.{write-within}
use Rattle.relay_core.proofs.relay.Relay.offer.Goals as goal

pub split_at-requires : goal.split_at-requires
split_at-requires c =
    let s = c.args.self.now.state in
    let e = c.args.side in
    let is = ap (λ (z : Inside). z.ctl) c.self-inside.view_is ∙ c.self.view_is in
    let room = c.write_room-room.ensures in
    let within = (write-within s e c.write_room-room.result (omega (arith, room))).2 in
    let same : length c.waiting_for.result.now ≡ length (waiting_for s e) = ap length c.waiting_for.ensures
    ∙ ap (λ (z : RelayValue). length (waiting_for z.state e)) is in
    omega (arith, within, same)
