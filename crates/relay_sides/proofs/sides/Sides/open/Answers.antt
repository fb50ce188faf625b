use Rattle.std.proofs.Common.{◌+◌, ap, ◌∙◌}
use Rattle.relay_sides.specs.Links.{with_link}
use Rattle.relay_sides.specs.SidesValue.{SidesValue}
use Rattle.relay_sides.specs.SideView.{new_state}
use Rattle.relay_sides.specs.SidesView.{links_of}
use Rattle.relay_sides.proofs.OpenLemmas.{pushed, slots_joined, states_joined, sound_more, links_more}
use Rattle.relay_sides.proofs.sides.Sides.open.Goals as goal

pub invariant_of-self : goal.invariant_of-self
invariant_of-self c =
    let r = c.self.inside in
    let near = c.args.near in
    let far = c.args.far in
    let a = c.take_first-near_limit.result in
    let b = c.take_first-far_limit.result in
    let slots = slots_joined r.world.slots c.add_bevs.new.world.slots c.add_bevs-2.new.world.slots r.world.chunked
    c.add_bevs.new.world.chunked r.opened c.args.time near far c.self.invariant.slots c.self.invariant.one_piece
    c.add_bevs.ensures.chunked c.add_bevs.ensures.slots c.add_bevs-2.ensures.slots in
    let states = states_joined r.sides.items c.push.new.self.items c.push-2.new.self.items c.new-near_state.result c.new-far_state.result
    (new_state near.connected a near.group) (new_state far.connected b far.group) c.new-near_state.ensures c.new-far_state.ensures
    (pushed c.push.result c.unwrap.result r.sides.items c.push.new.self.items c.new-near_state.result c.unwrap.ensures c.push.ensures.items)
    (pushed c.push-2.result c.unwrap-2.result c.push.new.self.items c.push-2.new.self.items c.new-far_state.result c.unwrap-2.ensures
    c.push-2.ensures.items) in
    sound_more r c.add_bevs-2.new.world c.push-2.new.self c.args.time c.args.turn near far a b
    c.take_first-near_limit.ensures.limit c.take_first-far_limit.ensures.limit c.self.invariant slots
    (c.add_bevs-2.ensures.chunked ∙ c.add_bevs.ensures.chunked) states

pub returns-clause-links : goal.returns-clause-links
returns-clause-links c =
    let r = c.self.inside in
    let near = c.args.near in
    let far = c.args.far in
    let a = c.take_first-near_limit.result in
    let b = c.take_first-far_limit.result in
    let slots = slots_joined r.world.slots c.add_bevs.new.world.slots c.add_bevs-2.new.world.slots r.world.chunked
    c.add_bevs.new.world.chunked r.opened c.args.time near far c.self.invariant.slots c.self.invariant.one_piece
    c.add_bevs.ensures.chunked c.add_bevs.ensures.slots c.add_bevs-2.ensures.slots in
    let states = states_joined r.sides.items c.push.new.self.items c.push-2.new.self.items c.new-near_state.result c.new-far_state.result
    (new_state near.connected a near.group) (new_state far.connected b far.group) c.new-near_state.ensures c.new-far_state.ensures
    (pushed c.push.result c.unwrap.result r.sides.items c.push.new.self.items c.new-near_state.result c.unwrap.ensures c.push.ensures.items)
    (pushed c.push-2.result c.unwrap-2.result c.push.new.self.items c.push-2.new.self.items c.new-far_state.result c.unwrap-2.ensures
    c.push-2.ensures.items) in
    (λ i. links_of (r.opened + 1) (slots i) (states i))
    ∙ links_more r.opened r.world.slots r.sides.items c.self.invariant.slots c.self.invariant.sides c.args.time c.args.turn near far a b
    c.take_first-near_limit.ensures.limit c.take_first-far_limit.ensures.limit
    ∙ ap (λ (z : SidesValue). with_link c.args.time c.args.turn near far z.links) c.self.view_is
