use Rattle.std.proofs.Common.{◌≤◌, ℕ, ◌∙◌, ap, subst, arith}
use Rattle.relay_core.specs.declared.relay.Relay.TheInside.{Inside}
use Rattle.relay_core.specs.RelayValue.{RelayValue}
use Rattle.relay_core.proofs.RelayLemmas.{no_rates}
use Rattle.ev_types.specs.Sides.{number}
use Rattle.resting_links.specs.RestingValue.{side_moment}
use Rattle.relay_sides.specs.Links as links
use Rattle.relay_core.specs.Timeless.{AreLeftAlikeBeside}
use Rattle.relay_core.proofs.GainLemmas.{IsAhead, left-alike}
use Rattle.relay_core.proofs.WatchLemmas.{watching-later, watching-woken}
use Rattle.relay_core.proofs.relay.Relay.turn_to.Goals as goal

pub returns-clause-rateless : goal.returns-clause-rateless
returns-clause-rateless c = λ untimed.
    let is = ap (λ (z : Inside). z.ctl) c.self-inside.view_is ∙ c.self.view_is in
    no_rates c.args.self.now c.self-inside.inside.0.0 is c.self-inside.invariant
    (ap (λ (z : RelayValue). z.untimed) is ∙ untimed)

pub invariant_of-self-inside : goal.invariant_of-self-inside
invariant_of-self-inside c =
    let r = c.self-inside.inside.0.0 in
    let h = c.self-inside.invariant in
    let to : ℕ = c.max-time.result in
    let later : r.time ≤ to = omega (arith, c.max-time.ensures) in
    record {
      timed = record {
        unset = h.timed.unset;
        sides = λ i d lt. let p = h.timed.sides i d lt in let a = p.0 in let b = p.1 in
            (omega (arith, a, later), omega (arith, b, later), p.2);
        gauges = λ i d lt. let p = h.timed.gauges i d lt in omega (arith, p, later);
      };
      grouped = h.grouped;
      watching = watching-later c.wake.new.self r.time r.sides.links
          (watching-woken r.resting r.time r.sides.links h.watching c.wake.new.self c.wake.ensures.more) to later
          c.wake.ensures.none_due;
      grouping = h.grouping;
      time = (let bound = h.time in omega (arith, bound, c.max-time.ensures, c.min.ensures));
      few = h.few;
      room = h.room;
      limits = h.limits;
    }

pub returns-clause-alike : goal.returns-clause-alike
returns-clause-alike c =
    let r = c.self-inside.inside.0.0 in
    let h = c.self-inside.invariant in
    let to : ℕ = c.max-time.result in
    let later : r.time ≤ to = omega (arith, c.max-time.ensures) in
    subst (λ (v : RelayValue). AreLeftAlikeBeside c.wake.new.self.watched to v.state)
    (ap (λ (z : Inside). z.ctl) c.self-inside.view_is ∙ c.self.view_is)
    (λ e below out live d.
    let p = h.watching.beside e below (c.wake.ensures.more.grew e.link out) in
    let ahead : IsAhead (side_moment r.resting e) to =
    subst (λ m. IsAhead m to) (c.wake.ensures.more.kept e out) (c.wake.ensures.none_due (number e)) in
    left-alike (side_moment r.resting e) r.time to (links.side_at r.sides.links e)
    (links.gauge_at r.sides.links e) later ahead p.gains live d)
