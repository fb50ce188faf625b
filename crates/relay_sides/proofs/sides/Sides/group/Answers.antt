use Rattle.std.proofs.Common.{None, if◌then◌else◌, ap, sym, ◌∙◌}
use Rattle.ev_types.specs.Sides.{number}
use Rattle.relay_model.specs.Plain.{PlainSide}
use Rattle.relay_sides.specs.declared.side.SideState.{SideState}
use Rattle.relay_sides.specs.SideView.{state_at}
use Rattle.relay_sides.proofs.SidesLemmas.{side_seen}
use Rattle.relay_sides.proofs.ReaderLemmas.{own_state}
use Rattle.relay_sides.proofs.sides.Sides.group.Goals as goal

pub returns-then-is_live : goal.returns-then-is_live
returns-then-is_live c =
    let r = c.self.inside in
    let e = c.args.side in
    let s = own_state c.args.self.now r c.self.view_is c.self.invariant e c.requires c.number.result c.index.result.now c.number.ensures
    c.index.ensures in
    let seen = side_seen c.args.self.now r c.self.view_is e c.requires in
    let live = ap (λ (x : PlainSide). x.live) (sym seen) ∙ sym c.is_live.ensures ∙ c.if-is_live.true in
    ap (λ (x : SideState). x.group) s
    ∙ ap (λ b. if b then (state_at r.sides.items (number e)).group else None) (sym live)
    ∙ ap (λ (x : PlainSide). x.group) (sym seen)

pub returns-else-is_live : goal.returns-else-is_live
returns-else-is_live c =
    let r = c.self.inside in
    let e = c.args.side in
    let seen = side_seen c.args.self.now r c.self.view_is e c.requires in
    let live = ap (λ (x : PlainSide). x.live) (sym seen) ∙ sym c.is_live.ensures ∙ c.if-is_live.false in
    ap (λ b. if b then (state_at r.sides.items (number e)).group else None) (sym live)
    ∙ ap (λ (x : PlainSide). x.group) (sym seen)
