use Rattle.std.proofs.Common.{◌∙◌, ◌+◌, ◌-◌, ◌&&◌, not, if◌then◌else◌, length, ap, sym}
use Rattle.relay_model.specs.Plain.{PlainSide}
use Rattle.relay_model.specs.Rooms.{most_at_once, mark_or}
use Rattle.relay_state.specs.State.{Lane}
use Rattle.ev_types.specs.Sides.{peer}
use Rattle.relay_sides.specs.Links.{side_at, lane_at}
use Rattle.relay_pool.specs.declared.space.Space.{Space}
use Rattle.relay_pool.proofs.BayLemmas.{live_over, side_met, lane_met, peer_lane_met}
use Rattle.relay_pool.proofs.pool.LinkPool.space.Goals as goal

-- of the side, its peer and the directions that begin and end at it
abbrev space_by : PlainSide → PlainSide → Lane → Lane → Space
space_by x y own other = record {
  read = if x.live && not x.connecting && x.reads && not x.ended && not x.failed && y.live
      then mark_or x.marks.read_high most_at_once - (length own.buffers.raw_input + length own.buffers.input) else 0;
  write = if x.live && not x.connecting && x.writes && not x.failed && not x.write_ended then length other.buffers.raw_output else 0;
  connecting = x.live && x.connecting && not x.failed;
}

pub returns-in-Some : goal.returns-in-Some
returns-in-Some c =
    let v = c.args.self.now in
    let r = c.self.inside in
    let at = c.in-Some.ensures.1 in
    let there = c.in-Some.ensures.0 in
    let side = side_met v r c.self.view_is c.self.invariant c.args.side c.requires c.in-Some.at at there in
    let other = side_met v r c.self.view_is c.self.invariant (peer c.args.side) c.requires (peer c.in-Some.at) (ap peer at) there in
    let own = lane_met v r c.self.view_is c.self.invariant c.args.side c.requires c.in-Some.at at there in
    let back = peer_lane_met v r c.self.view_is c.self.invariant c.args.side c.requires c.in-Some.at at there in
    c.space_in.ensures ∙ (λ i. space_by (side i) (other i) (own i) (back i))

pub returns-in-None : goal.returns-in-None
returns-in-None c =
    let k = c.args.self.now.links in
    let x = side_at k c.args.side in
    let y = side_at k (peer c.args.side) in
    let live = live_over c.args.self.now c.self.inside c.self.view_is c.self.invariant c.args.side c.requires c.in-None.ensures in
    (λ i. space_by (record x { live = sym live i }) y (lane_at k c.args.side) (lane_at k (peer c.args.side)))
