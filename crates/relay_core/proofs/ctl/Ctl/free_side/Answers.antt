use Rattle.std.proofs.Common.{◌∙◌, false, None, ap, sym}
use Rattle.std.proofs.lemmas.List.{set-get_or}
use Rattle.relay_state.specs.Running.{no_gauge}
use Rattle.relay_sides.specs.Links as links
use Rattle.ev_types.specs.Sides.{number}
use Rattle.rate_group.specs.GroupValue.{GroupsValue}
use Rattle.relay_sides.specs.Links.{Links}
use Rattle.relay_core.proofs.RelayLemmas.{still_sound, left_sound}
use Rattle.relay_core.proofs.WatchLemmas.{watching-more, grouping-left, grouping-at}
use Rattle.relay_core.proofs.ctl.Ctl.free_side.Goals as goal

pub invariant_of-self : goal.invariant_of-self
invariant_of-self c =
    let r = c.self.inside in
    let h = c.self.invariant in
    let k = r.sides.links in
    let e = c.args.side in
    record {
      timed = still_sound r.settings r.time r.untimed k c.free.new.self.links e (λ x. record x { live = false; group = None }) h.timed
          (λ p. p)
          (ap (λ (z : Links). z.sides) c.free.ensures.links) (ap (λ (z : Links). z.gauges) c.free.ensures.links);
      grouped = left_sound r.given r.untimed r.groups.value c.leave.new.groups.value (number e) h.grouped c.leave.ensures;
      watching = watching-more r.resting r.time k h.watching c.watch.new.self c.free.new.self.links
          e (record (links.side_at k e) { live = false; group = None }) (links.gauge_at k e) c.watch.ensures.more c.watch.ensures.there
          (ap (λ (z : Links). z.sides) c.free.ensures.links)
          (ap (λ (z : Links). z.gauges) c.free.ensures.links ∙ sym (set-get_or k.gauges (number e) no_gauge))
          (ap (λ (z : Links). z.opened) c.free.ensures.links);
      grouping = grouping-left r.grouped c.free.new.self.links.opened (number e) r.groups.value.members c.leave.new.groups.value.members
          (ap (λ (z : GroupsValue). z.members) c.leave.ensures)
          (grouping-at r.grouped k.opened c.free.new.self.links.opened r.groups.value.members
          (ap (λ (z : Links). z.opened) c.free.ensures.links)
          h.grouping);
      time = h.time;
      few = h.few;
      room = h.room;
      limits = h.limits;
    }
