use Rattle.std.proofs.Common.{ap, sym, ◌∙◌}
use Rattle.ev_types.specs.Sides.{number, peer}
use Rattle.relay_model.specs.Flow.{Flow}
use Rattle.relay_state.specs.State.{Lane}
use Rattle.relay_sides.specs.declared.side.SideState.{SideState}
use Rattle.relay_sides.proofs.SidesLemmas.{flow_seen, lane_seen}
use Rattle.relay_sides.proofs.ReaderLemmas.{own_state}
use Rattle.relay_sides.proofs.sides.Sides.counts.Goals as goal

pub returns-clause-read : goal.returns-clause-read
returns-clause-read c =
    let r = c.self.inside in
    let e = c.args.side in
    let s = own_state c.args.self.now r c.self.view_is c.self.invariant e c.requires c.number.result c.index-own.result.now
    c.number.ensures c.index-own.ensures in
    ap (λ (x : SideState). x.read) s ∙ ap (λ (x : Lane). x.read) (sym (lane_seen c.args.self.now r c.self.view_is e c.requires))

pub returns-clause-moved : goal.returns-clause-moved
returns-clause-moved c =
    let r = c.self.inside in
    let e = c.args.side in
    let s = own_state c.args.self.now r c.self.view_is c.self.invariant e c.requires c.number.result c.index-own.result.now
    c.number.ensures c.index-own.ensures in
    ap (λ (x : SideState). x.moved) s ∙ ap (λ (x : Flow). x.moved) (sym (flow_seen c.args.self.now r c.self.view_is e c.requires))

pub returns-clause-given : goal.returns-clause-given
returns-clause-given c =
    let r = c.self.inside in
    let p = peer c.args.side in
    let s = own_state c.args.self.now r c.self.view_is c.self.invariant p c.requires c.number-2.result c.index-from.result.now
    (c.number-2.ensures ∙ ap number c.peer.ensures) c.index-from.ensures in
    ap (λ (x : SideState). x.given) s ∙ ap (λ (x : Flow). x.given) (sym (flow_seen c.args.self.now r c.self.view_is p c.requires))
