use Rattle.std.proofs.Common.{subst, sym, ◌∙◌, ap}
use Rattle.number_set.specs.Numbers.{NumberSetValue}
use Rattle.relay_core.specs.RelayValue.{RelayValue}
use Rattle.relay_core.specs.declared.relay.Relay.TheInside.{Inside}
use Rattle.rate_group.specs.GroupValue.{GroupsValue}
use Rattle.relay_core.specs.Timeless.{IsGrouping}
use Rattle.relay_core.proofs.RelayLemmas.{refilled_sound}
use Rattle.relay_core.proofs.relay.Relay.begin.Goals as goal

pub invariant_of-self-inside : goal.invariant_of-self-inside
invariant_of-self-inside c =
    let r = c.self-inside.inside.0.0 in
    let h = c.self-inside.invariant in
    record {
      timed = h.timed;
      grouped = refilled_sound r.given r.untimed r.groups.value c.refill.new.self.value c.turn_to-time.result h.grouped
          c.refill.ensures.value;
      watching = h.watching;
      grouping = subst (λ (z : GroupsValue). IsGrouping r.grouped r.sides.links.opened z.members) (sym c.refill.ensures.value) h.grouping;
      time = h.time;
      few = h.few;
      room = h.room;
      limits = h.limits;
    }

pub returns-clause-alike : goal.returns-clause-alike
returns-clause-alike c = λ e below out.
    let is = ap (λ (z : Inside). z.ctl) c.self-inside.view_is ∙ c.self.view_is in
    c.turn_to-time.ensures.alike e below
    (sym (ap (λ (z : RelayValue). z.watched.has e.link) is)
    ∙ sym (ap (λ (w : NumberSetValue). w.has e.link) c.take_timers.ensures.watched) ∙ c.look_at_sides.ensures.watched e.link out)
