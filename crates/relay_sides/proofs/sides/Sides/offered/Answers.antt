use Rattle.std.proofs.Common.{◌*◌, ◌<◌, sym, subst, arith}
use Rattle.ev_types.specs.Sides.{number}
use Rattle.relay_state.specs.State.{Lane}
use Rattle.relay_sides.specs.Links as links
use Rattle.relay_sides.specs.SideView.{flow_at}
use Rattle.relay_sides.specs.SidesView.{IsCounted}
use Rattle.relay_sides.proofs.BevsLemmas.{number-lt}
use Rattle.relay_sides.proofs.SidesLemmas.{here, lane_seen}
use Rattle.relay_sides.proofs.sides.Sides.offered.Goals as goal

pub overflow_add-result : goal.overflow_add-result
overflow_add-result c =
    let v = c.args.self.now in
    let r = c.self.inside in
    let e = c.args.from in
    let lt : number e < 2 * r.opened = number-lt e r.opened (here v r c.self.view_is e c.requires.opened) in
    let k : IsCounted (flow_at r.world.slots r.sides.items (number e)) (links.lane_at v.links e) =
    subst (λ (l : Lane). IsCounted (flow_at r.world.slots r.sides.items (number e)) l)
    (sym (lane_seen v r c.self.view_is e c.requires.opened)) (c.self.invariant.counted (number e) lt) in
    omega (arith, k.moved, c.requires.most, c.requires.room.counted, c.own_input_len.ensures)

pub overflow_add-result-2 : goal.overflow_add-result-2
overflow_add-result-2 c =
    let v = c.args.self.now in
    let r = c.self.inside in
    let e = c.args.from in
    let lt : number e < 2 * r.opened = number-lt e r.opened (here v r c.self.view_is e c.requires.opened) in
    let k : IsCounted (flow_at r.world.slots r.sides.items (number e)) (links.lane_at v.links e) =
    subst (λ (l : Lane). IsCounted (flow_at r.world.slots r.sides.items (number e)) l)
    (sym (lane_seen v r c.self.view_is e c.requires.opened)) (c.self.invariant.counted (number e) lt) in
    omega (arith, k.moved, k.turned, c.requires.most, c.requires.room.counted, c.own_input_len.ensures, c.own_output_len.ensures)
