use Rattle.relay_sides.proofs.OpenLemmas.{slots_reserved, chunked_reserved, sound_kept}
use Rattle.relay_sides.proofs.sides.Sides.reserve_link.Goals as goal

pub invariant_of-self-2 : goal.invariant_of-self-2
invariant_of-self-2 c =
    let r = c.self.inside in
    sound_kept r c.reserve-2.new.self c.reserve.new.self
    (slots_reserved 4 r.world c.reserve-2.new.self c.reserve-2.result c.reserve-2.ensures.ok c.reserve-2.ensures.err)
    (chunked_reserved 4 r.world c.reserve-2.new.self c.reserve-2.result c.reserve-2.ensures.ok c.reserve-2.ensures.err)
    c.reserve.ensures.items c.self.invariant
