use Rattle.relay_sides.proofs.OpenLemmas.{when_ok, known_ok, bevs_added, chunked_kept}
use Rattle.relay_sides.proofs.opening.add_bevs.Goals as goal

pub returns-clause-slots : goal.returns-clause-slots
returns-clause-slots c =
    let id = c.unwrap-id.result in
    bevs_added c.args.world.now c.new_socket.new.self c.enable.new.self c.set_watermark.new.self c.set_watermark-2.new.self
    c.set_timeouts.new.self c.new_filter.new.self c.args.time c.args.side id.0
    (known_ok _ c.new_socket.result id c.unwrap-id.ensures c.new_socket.ensures.id)
    (when_ok _ c.new_socket.result id c.unwrap-id.ensures c.new_socket.ensures.ok)
    (when_ok _ c.enable.result c.unwrap.result c.unwrap.ensures c.enable.ensures.ok)
    (when_ok _ c.set_watermark.result c.unwrap-2.result c.unwrap-2.ensures c.set_watermark.ensures.ok)
    (when_ok _ c.set_watermark-2.result c.unwrap-3.result c.unwrap-3.ensures c.set_watermark-2.ensures.ok)
    (when_ok _ c.set_timeouts.result c.unwrap-4.result c.unwrap-4.ensures c.set_timeouts.ensures.ok)
    (when_ok _ c.new_filter.result c.unwrap-over.result c.unwrap-over.ensures c.new_filter.ensures.ok)

pub returns-clause-chunked : goal.returns-clause-chunked
returns-clause-chunked c =
    chunked_kept c.args.world.now c.new_socket.new.self c.enable.new.self c.set_watermark.new.self c.set_watermark-2.new.self
    c.set_timeouts.new.self c.new_filter.new.self _ _ _ _ _ _ _
    (when_ok _ c.new_socket.result c.unwrap-id.result c.unwrap-id.ensures c.new_socket.ensures.ok)
    (when_ok _ c.enable.result c.unwrap.result c.unwrap.ensures c.enable.ensures.ok)
    (when_ok _ c.set_watermark.result c.unwrap-2.result c.unwrap-2.ensures c.set_watermark.ensures.ok)
    (when_ok _ c.set_watermark-2.result c.unwrap-3.result c.unwrap-3.ensures c.set_watermark-2.ensures.ok)
    (when_ok _ c.set_timeouts.result c.unwrap-4.result c.unwrap-4.ensures c.set_timeouts.ensures.ok)
    (when_ok _ c.new_filter.result c.unwrap-over.result c.unwrap-over.ensures c.new_filter.ensures.ok)
