use Rattle.std.proofs.Common.{◌≡◌, ℕ, ◌==◌, true, if◌then◌else◌, ◌∙◌, ap, sym, subst, arith, rules}
use Rattle.ev_types.specs.declared.side.SideId.{SideId}
use Rattle.ev_types.specs.declared.side.Side.TheVariants.{In}
use Rattle.relay_sides.specs.declared.opening.NewSide.{NewSide}
use Rattle.relay_sides.specs.Links.{Links, with_link}
use Rattle.relay_state.specs.Opening.{joined_where}
use Rattle.relay_core.proofs.RelayLemmas.{opened_sound, opened_groups_sound}
use Rattle.relay_core.proofs.WatchLemmas.{watching-opened, grouping-opened}
use Rattle.relay_core.proofs.relay.Relay.open.Goals as goal

pub invariant_of-ctl : goal.invariant_of-ctl
invariant_of-ctl c =
    let r = c.ctl.inside in
    let h = c.ctl.invariant in
    record {
      timed = opened_sound r.settings r.time r.untimed r.turns r.sides.links c.open.new.self.links r.given.in_group r.given.out_group
          c.args.connected h.timed
          (c.open.ensures.links ∙ (λ i. with_link r.time r.turns (c.near_side-near.ensures i) (c.far_side-far.ensures i) r.sides.links));
      grouped = opened_groups_sound r.given r.untimed r.groups.value c.join_where.new.groups.value c.join_where-2.new.groups.value
          (record { link = c.opened.result; side = In }) c.peer.result h.grouped
          (c.join_where.ensures.value ∙ ap (λ (n : NewSide). joined_where n.group
          (record { link = c.opened.result; side = In }) r.groups.value) c.near_side-near.ensures)
          (c.join_where-2.ensures.value ∙ ap (λ
          (n : NewSide). joined_where n.group c.peer.result c.join_where.new.groups.value) c.far_side-far.ensures);
      watching = watching-opened r.resting c.watch.new.self r.time r.turns r.sides.links c.open.new.self.links c.near_side-near.result
          c.far_side-far.result h.watching c.opened.ensures.pairs.sides c.opened.ensures.pairs.gauges (search rules)
          c.watch.ensures.more (ap c.watch.new.self.watched.has (sym c.opened.ensures.count) ∙ c.watch.ensures.there)
          c.open.ensures.links;
      grouping = grouping-opened r.grouped c.insert.new.self r.sides.links.opened c.open.new.self.links.opened
          (record { link = c.opened.result; side = In }) c.peer.result c.near_side-near.result.group c.far_side-far.result.group
          r.groups.value
          c.join_where.new.groups.value c.join_where-2.new.groups.value (ap (λ (z : Links). z.opened) c.open.ensures.links) (search rules)
          c.opened.ensures.count
          (ap (λ (e : SideId). e.link) c.peer.ensures ∙ c.opened.ensures.count) c.join_where.ensures.value c.join_where-2.ensures.value
          (subst (λ o. (n : ℕ) → c.insert.new.self.has n ≡ (if n == o then true else r.grouped.has n)) c.opened.ensures.count
          c.insert.ensures.members) c.insert.ensures.len h.grouping;
      time = h.time;
      few = omega arith;
      room = (let room = h.room in let few = h.few in omega (arith, room, few));
      limits = omega arith;
    }
