use Rattle.std.proofs.Common.{◌≡◌, true, rules, ◌∙◌, sym, ap, arith}
use Rattle.relay_model.specs.Plain.{PlainSide}
use Rattle.relay_core.proofs.RelayLemmas.{lowered, still_sound}
use Rattle.std.proofs.lemmas.List.{set-get_or}
use Rattle.ev_types.specs.Sides.{number}
use Rattle.relay_state.specs.Running.{no_gauge}
use Rattle.relay_sides.specs.Links as links
use Rattle.relay_sides.specs.Links.{Links}
use Rattle.relay_core.proofs.WatchLemmas.{watching-more, grouping-at}
use Rattle.relay_core.proofs.ctl.Ctl.set_timeouts.Goals as goal

pub invariant_of-self : goal.invariant_of-self
invariant_of-self c =
    let r = c.self.inside in
    let h = c.self.invariant in
    let k = r.sides.links in
    let e = c.args.side in
    let down : c.if-read_ms-eq0.self ≡ true → (r.untimed ≡ true) × (c.args.read_ms ≡ 0) × (c.args.write_ms ≡ 0) = λ t. search rules in
    let f : PlainSide → PlainSide =
    λ x. record x { timeouts = record { read_ms = c.args.read_ms; write_ms = c.args.write_ms }; last_read = r.time; last_write = r.time } in
    record {
      timed = still_sound r.settings r.time c.if-read_ms-eq0.self k c.set_timeouts.new.self.links e f
          (lowered r.settings r.time r.untimed c.if-read_ms-eq0.self k (λ t. (down t).0) h.timed)
          (λ p. (
            omega arith,
            omega arith,
            λ t.
                let none = down t in
                ((λ i. record { read_ms = none.1 i; write_ms = none.2 i }), (p.2 t).1, (p.2 t).2),
          ))
          (ap (λ (z : Links). z.sides) c.set_timeouts.ensures.links) (ap (λ (z : Links). z.gauges) c.set_timeouts.ensures.links);
      grouped = search rules;
      watching = watching-more r.resting r.time k h.watching c.watch.new.self c.set_timeouts.new.self.links
          e _ (links.gauge_at k e) c.watch.ensures.more c.watch.ensures.there
          (ap (λ (z : Links). z.sides) c.set_timeouts.ensures.links)
          (ap (λ (z : Links). z.gauges) c.set_timeouts.ensures.links ∙ sym (set-get_or k.gauges (number e) no_gauge))
          (ap (λ (z : Links). z.opened) c.set_timeouts.ensures.links);
      grouping = grouping-at r.grouped r.sides.links.opened c.set_timeouts.new.self.links.opened r.groups.value.members
          (ap (λ (z : Links). z.opened) c.set_timeouts.ensures.links) h.grouping;
      time = h.time;
      few = h.few;
      room = h.room;
      limits = h.limits;
    }
