use Rattle.std.proofs.Common.{◌≡◌, true, None, rules, ap}
use Rattle.relay_sides.specs.Links.{Links}
use Rattle.relay_core.proofs.RelayLemmas.{lowered, lowered_groups, limited_sound}
use Rattle.relay_core.proofs.WatchLemmas.{watching-more, grouping-at}
use Rattle.relay_core.proofs.ctl.Ctl.set_rate.Goals as goal

pub invariant_of-self : goal.invariant_of-self
invariant_of-self c =
    let r = c.self.inside in
    let h = c.self.invariant in
    let k = r.sides.links in
    let e = c.args.side in
    let down : c.if-self.self ≡ true → (r.untimed ≡ true) × (c.args.cfg ≡ None) = λ t. search rules in
    record {
      timed = limited_sound r.settings r.time c.if-self.self r.turns k c.set_limit.new.self.links e c.args.cfg (λ t. (down t).1)
          (lowered r.settings r.time r.untimed c.if-self.self k (λ t. (down t).0) h.timed) c.set_limit.ensures.links;
      grouped = lowered_groups r.given r.untimed c.if-self.self r.groups.value (λ t. (down t).0) h.grouped;
      watching = watching-more r.resting r.time k h.watching c.watch.new.self c.set_limit.new.self.links
          e _ _ c.watch.ensures.more c.watch.ensures.there
          (ap (λ (z : Links). z.sides) c.set_limit.ensures.links)
          (ap (λ (z : Links). z.gauges) c.set_limit.ensures.links)
          (ap (λ (z : Links). z.opened) c.set_limit.ensures.links);
      grouping = grouping-at r.grouped r.sides.links.opened c.set_limit.new.self.links.opened r.groups.value.members
          (ap (λ (z : Links). z.opened) c.set_limit.ensures.links) h.grouping;
      time = h.time;
      few = search rules;
      room = search rules;
      limits = search rules;
    }
