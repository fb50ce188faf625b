use Rattle.std.proofs.Common.{ap, ◌∙◌}
use Rattle.ev_types.specs.Sides.{number}
use Rattle.relay_state.specs.Closing.{in_side}
use Rattle.relay_sides.specs.Bevs.{lower_of}
use Rattle.relay_sides.specs.Links.{with_new_link}
use Rattle.relay_sides.specs.SidesValue.{SidesValue}
use Rattle.relay_sides.specs.SideView.{new_state}
use Rattle.relay_sides.specs.SidesView.{links_of}
use Rattle.relay_sides.proofs.SidesLemmas.{here}
use Rattle.relay_sides.proofs.ReopenLemmas.{slots_renewed, states_renewed, sound_renewed, links_renewed}
use Rattle.relay_sides.proofs.sides.Sides.reopen.Goals as goal

pub invariant_of-self : goal.invariant_of-self
invariant_of-self c =
    let r = c.self.inside in
    let near = c.args.near in
    let far = c.args.far in
    let link = c.args.link in
    let a = c.take_first-near_limit.result in
    let b = c.take_first-far_limit.result in
    let opened = here c.args.self.now r c.self.view_is (in_side link) c.requires.opened in
    let slots = slots_renewed r.world.slots c.renew_bevs.new.world.slots c.renew_bevs-2.new.world.slots r.world.chunked
    c.renew_bevs.new.world.chunked c.lower.result c.lower-2.result link c.args.time near far c.self.invariant.one_piece
    c.renew_bevs.ensures.chunked c.lower.ensures (c.lower-2.ensures ∙ ap (λ e. lower_of (number e)) c.peer.ensures)
    c.renew_bevs.ensures.slots c.renew_bevs-2.ensures.slots in
    let states = states_renewed r.sides.items c.number.result c.number-2.result link c.new.result c.new-2.result
    (new_state near.connected a near.group) (new_state far.connected b far.group) c.number.ensures
    (c.number-2.ensures ∙ ap number c.peer-2.ensures) c.new.ensures c.new-2.ensures in
    sound_renewed r c.renew_bevs-2.new.world _ link opened c.args.time c.args.turn near far a b
    c.take_first-near_limit.ensures.limit c.take_first-far_limit.ensures.limit c.self.invariant slots
    (c.renew_bevs-2.ensures.chunked ∙ c.renew_bevs.ensures.chunked) states

pub returns-clause-links : goal.returns-clause-links
returns-clause-links c =
    let r = c.self.inside in
    let near = c.args.near in
    let far = c.args.far in
    let link = c.args.link in
    let a = c.take_first-near_limit.result in
    let b = c.take_first-far_limit.result in
    let opened = here c.args.self.now r c.self.view_is (in_side link) c.requires.opened in
    let slots = slots_renewed r.world.slots c.renew_bevs.new.world.slots c.renew_bevs-2.new.world.slots r.world.chunked
    c.renew_bevs.new.world.chunked c.lower.result c.lower-2.result link c.args.time near far c.self.invariant.one_piece
    c.renew_bevs.ensures.chunked c.lower.ensures (c.lower-2.ensures ∙ ap (λ e. lower_of (number e)) c.peer.ensures)
    c.renew_bevs.ensures.slots c.renew_bevs-2.ensures.slots in
    let states = states_renewed r.sides.items c.number.result c.number-2.result link c.new.result c.new-2.result
    (new_state near.connected a near.group) (new_state far.connected b far.group) c.number.ensures
    (c.number-2.ensures ∙ ap number c.peer-2.ensures) c.new.ensures c.new-2.ensures in
    (λ i. links_of r.opened (slots i) (states i))
    ∙ links_renewed r.opened r.world.slots r.sides.items c.self.invariant.slots c.self.invariant.sides link opened c.args.time c.args.turn
    near far a b c.take_first-near_limit.ensures.limit c.take_first-far_limit.ensures.limit
    ∙ ap (λ (z : SidesValue). with_new_link link c.args.time c.args.turn near far z.links) c.self.view_is
