use Rattle.std.proofs.Common.{refl, ap, sym, ◌∙◌, ◌<◌, subst}
use Rattle.ev_types.specs.declared.side.Side.TheVariants.{In}
use Rattle.ev_types.specs.declared.side.SideId.{SideId}
use Rattle.ev_types.specs.Sides.{peer}
use Rattle.relay_model.specs.Plain.{side_at}
use Rattle.relay_state.specs.State.{gauge_at}
use Rattle.relay_core.specs.Timeless.{side_gains, IsStillSide}
use Rattle.relay_core.specs.RelayValue.{RelayValue}
use Rattle.relay_core.specs.declared.relay.Relay.TheInside.{Inside}
use Rattle.relay_core.proofs.RestLemmas.{resting_by}
use Rattle.relay_core.proofs.WatchLemmas.{watching-fewer}
use Rattle.relay_core.proofs.relay.Relay.forget_where_timeless.Goals as goal

pub invariant_of-self-inside : goal.invariant_of-self-inside
invariant_of-self-inside c =
    let r = c.self-inside.inside.0.0 in
    let h = c.self-inside.invariant in
    let v = c.forget_members.new.self in
    let is = ap (λ (z : Inside). z.ctl) c.self-inside.view_is in
    let near : SideId = record { link = c.args.link; side = In } in
    record {
      timed = h.timed;
      grouped = h.grouped;
      watching = watching-fewer r.resting r.time r.sides.links h.watching c.rest.new.self near c.gains_at-gain.result
          c.gains_at-far_gain.result refl
          (subst (λ (z : RelayValue). c.args.link < z.state.plain.opened)
          (sym (is ∙ c.forget_members.ensures ∙ c.self.view_is)) c.requires) c.rest.ensures
          (resting_by r h near c.gains_at-gain.result v is (c.if-is_timeless.ensures.still refl) c.gains_at-gain.ensures)
          (resting_by r h (peer near) c.gains_at-far_gain.result v is
          (subst (IsStillSide v.state) c.peer.ensures (c.if-is_timeless-2.ensures.still refl))
          (c.gains_at-far_gain.ensures ∙ ap (λ e. side_gains v.state.plain.time (side_at v.state.plain e) (gauge_at v.state e))
          c.peer-then-is_timeless-2.ensures));
      grouping = h.grouping;
      time = h.time;
      few = h.few;
      room = h.room;
      limits = h.limits;
    }
