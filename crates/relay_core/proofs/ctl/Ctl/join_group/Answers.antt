use Rattle.std.proofs.Common.{◌≡◌, rules, ◌∙◌, Some, sym, ap}
use Rattle.std.proofs.lemmas.List.{set-get_or}
use Rattle.ev_types.specs.Sides.{number}
use Rattle.relay_state.specs.Running.{no_gauge}
use Rattle.rate_group.specs.Steps.{joined}
use Rattle.relay_sides.specs.Links as links
use Rattle.relay_sides.specs.Links.{Links}
use Rattle.relay_core.proofs.RelayLemmas.{still_sound}
use Rattle.relay_core.proofs.WatchLemmas.{watching-more, grouping-joined, grouping-at}
use Rattle.relay_core.proofs.ctl.Ctl.join_group.Goals as goal

pub invariant_of-self-2 : goal.invariant_of-self-2
invariant_of-self-2 c =
    let r = c.self.inside in
    let h = c.self.invariant in
    let k = r.sides.links in
    let e = c.args.side in
    let y = record (links.side_at k e) { group = Some c.args.group } in
    let is : c.change.new.self.value ≡ joined c.args.group (number e) r.groups.value = search rules in
    record {
      timed = still_sound r.settings r.time r.untimed k c.set_group.new.self.links e (λ x. record x { group = Some c.args.group }) h.timed
          (λ p. p) (ap (λ (z : Links). z.sides) c.set_group.ensures.links) (ap (λ (z : Links). z.gauges) c.set_group.ensures.links);
      grouped = search rules;
      watching = watching-more r.resting r.time k h.watching c.watch.new.self c.set_group.new.self.links
          e y (links.gauge_at k e) c.watch.ensures.more c.watch.ensures.there
          (ap (λ (z : Links). z.sides) c.set_group.ensures.links)
          (ap (λ (z : Links). z.gauges) c.set_group.ensures.links ∙ sym (set-get_or k.gauges (number e) no_gauge))
          (ap (λ (z : Links). z.opened) c.set_group.ensures.links);
      grouping = grouping-joined r.grouped c.insert.new.self c.set_group.new.self.links.opened e c.args.group r.groups.value
          c.change.new.self.value is c.insert.ensures.members c.insert.ensures.len
          (grouping-at r.grouped k.opened c.set_group.new.self.links.opened r.groups.value.members
          (ap (λ (z : Links). z.opened) c.set_group.ensures.links) h.grouping);
      time = h.time;
      few = h.few;
      room = h.room;
      limits = h.limits;
    }
