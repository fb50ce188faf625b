use Rattle.std.proofs.Common.{true, false, refl, ap, ◌∙◌, subst, length, arith}
use Rattle.relay_state.specs.State.{State}
use Rattle.relay_state.specs.Rooms.{write_room, waiting_for}
use Rattle.relay_core.specs.Answered.{TakesAtMost}
use Rattle.relay_core.specs.RelayValue.{RelayValue}
use Rattle.relay_core.specs.declared.relay.Relay.TheInside.{Inside}
use Rattle.token_bucket.specs.declared.limit.Dir.TheVariants as dir
use Rattle.relay_model.specs.Plain.{PlainSide}
use Rattle.relay_model.specs.Moments.{active_at}
use Rattle.relay_sides.specs.Links as links
use Rattle.relay_sides.specs.Links.{Links}
use Rattle.relay_core.proofs.RelayLemmas.{still_sound, write-within}
use Rattle.relay_core.proofs.TimeLemmas.{active_sound}
use Rattle.relay_core.proofs.WatchLemmas.{changed_sound, watching-took, grouping-at}
use Rattle.relay_core.proofs.relay.Relay.write_answered.Goals as goal

pub took-requires-clause-within : goal.took-requires-clause-within
took-requires-clause-within c =
    let s = c.args.self.now.state in
    let e = c.args.side in
    let le = subst (TakesAtMost (write_room s e)) c.in-Took.is c.requires.within in
    let within = (write-within s e c.in-Took.count le).2 in
    let same = ap (λ (z : Inside). length (waiting_for z.ctl.state e)) c.self-inside.view_is
    ∙ ap (λ (z : State). length (waiting_for z e)) c.spend.ensures.state
    ∙ ap (λ (z : RelayValue). length (waiting_for z.state e)) c.self.view_is in
    omega (arith, within, same)

pub invariant_of-self-inside : goal.invariant_of-self-inside
invariant_of-self-inside c =
    let r = c.self-inside.inside.0.0 in
    let h = c.self-inside.invariant in
    let k = r.sides.links in
    let e = c.args.side in
    record {
      timed = still_sound r.settings r.time r.untimed k c.took.new.self.links e (active_at r.time dir.Write) h.timed
          (active_sound r.time r.untimed dir.Write (links.side_at k e))
          (ap (λ (z : Links). z.sides) c.took.ensures.links) (ap (λ (z : Links). z.gauges) c.took.ensures.links);
      grouped = h.grouped;
      watching = watching-took r.resting r.time k c.took.new.self.links e _ h.watching c.took.ensures.links;
      grouping = grouping-at r.grouped r.sides.links.opened c.took.new.self.links.opened r.groups.value.members
          (ap (λ (z : Links). z.opened) c.took.ensures.links) h.grouping;
      time = h.time;
      few = h.few;
      room = h.room;
      limits = h.limits;
    }

pub invariant_of-self-inside-in-Failed : goal.invariant_of-self-inside-in-Failed
invariant_of-self-inside-in-Failed c =
    changed_sound c.self-inside-in-Failed.inside.0.0 c.write_failed.new.self c.args.side
    (λ (x : PlainSide). record x { failed = true; writes = false })
    c.self-inside-in-Failed.invariant c.write_failed.ensures.links
    (λ x. record { alike = record { live = refl; timeouts = refl; expired = refl; limit = refl }; read = refl; write = refl })
