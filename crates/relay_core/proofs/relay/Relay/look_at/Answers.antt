use Rattle.std.proofs.Common.{◌∙◌, ap, sym}
use Rattle.std.proofs.lemmas.List.{set-get_or}
use Rattle.ev_types.specs.Sides.{number}
use Rattle.relay_model.specs.Moments.{active_at, expire, is_timed}
use Rattle.relay_model.specs.Plain.{side_at}
use Rattle.relay_state.specs.Running.{no_gauge}
use Rattle.relay_core.specs.declared.relay.Relay.TheInside.{Inside}
use Rattle.relay_core.specs.RelayValue.{RelayValue}
use Rattle.relay_sides.specs.Links as links
use Rattle.relay_sides.specs.Links.{Links}
use Rattle.relay_core.proofs.RelayLemmas.{still_sound}
use Rattle.relay_core.proofs.TimeLemmas.{active_sound, expire_sound}
use Rattle.relay_core.proofs.WatchLemmas.{watching-changed, watching-more, alike-active, grouping-at}
use Rattle.relay_core.proofs.relay.Relay.look_at.Goals as goal

pub invariant_of-self-inside : goal.invariant_of-self-inside
invariant_of-self-inside c =
    let r = c.self-inside.inside.0.0 in
    let h = c.self-inside.invariant in
    let k = r.sides.links in
    let e = c.args.side in
    record {
      timed = still_sound r.settings r.time r.untimed k c.be_active.new.self.links e (active_at r.time c.args.dir) h.timed
          (active_sound r.time r.untimed c.args.dir (links.side_at k e))
          (ap (λ (z : Links). z.sides) c.be_active.ensures.links) (ap (λ (z : Links). z.gauges) c.be_active.ensures.links);
      grouped = h.grouped;
      watching = watching-changed r.resting r.time k h.watching c.be_active.new.self.links e
          (active_at r.time c.args.dir) c.be_active.ensures.links (alike-active r.time c.args.dir);
      grouping = grouping-at r.grouped r.sides.links.opened c.be_active.new.self.links.opened r.groups.value.members
          (ap (λ (z : Links). z.opened) c.be_active.ensures.links) h.grouping;
      time = h.time;
      few = h.few;
      room = h.room;
      limits = h.limits;
    }

pub invariant_of-self-inside-then-has_run_out : goal.invariant_of-self-inside-then-has_run_out
invariant_of-self-inside-then-has_run_out c =
    let r = c.self-inside-then-has_run_out.inside.0.0 in
    let h = c.self-inside-then-has_run_out.invariant in
    let k = r.sides.links in
    let e = c.args.side in
    let is = ap (λ (z : Inside). z.ctl) c.self-inside-then-has_run_out.view_is in
    record {
      timed = still_sound r.settings r.time r.untimed k c.expire.new.self.links e (expire c.args.dir) h.timed
          (expire_sound r.time r.untimed c.args.dir (links.side_at k e)
          (ap (λ (z : RelayValue). is_timed (side_at z.state.plain e) c.args.dir) is ∙ sym c.is_timed.ensures ∙ c.if-not-is_timed.false))
          (ap (λ (z : Links). z.sides) c.expire.ensures.links) (ap (λ (z : Links). z.gauges) c.expire.ensures.links);
      grouped = h.grouped;
      watching = watching-more r.resting r.time k h.watching c.watch.new.self c.expire.new.self.links
          e (expire c.args.dir (links.side_at k e)) (links.gauge_at k e) c.watch.ensures.more c.watch.ensures.there
          (ap (λ (z : Links). z.sides) c.expire.ensures.links)
          (ap (λ (z : Links). z.gauges) c.expire.ensures.links ∙ sym (set-get_or k.gauges (number e) no_gauge))
          (ap (λ (z : Links). z.opened) c.expire.ensures.links);
      grouping = grouping-at r.grouped r.sides.links.opened c.expire.new.self.links.opened r.groups.value.members
          (ap (λ (z : Links). z.opened) c.expire.ensures.links) h.grouping;
      time = h.time;
      few = h.few;
      room = h.room;
      limits = h.limits;
    }
