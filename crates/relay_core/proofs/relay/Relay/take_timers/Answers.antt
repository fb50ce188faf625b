use Rattle.std.proofs.Common.{◌∙◌, ap}
use Rattle.relay_core.specs.declared.relay.Relay.TheInside.{Inside}
use Rattle.relay_core.proofs.TimerLemmas.{taken-step, taken-less}
use Rattle.relay_core.proofs.relay.Relay.take_timers.Goals as goal

pub loop-side-smaller : goal.loop-side-smaller
loop-side-smaller c =
    taken-less c.loop-side.self-inside.ctl c.self-inside.inside.0.0 c.take_due.new.self c.in-Some.side
    (ap (λ (z : Inside). z.ctl) c.self-inside.view_is) c.take_due.ensures.rest c.in-Some.ensures.first c.raise.new.self.state
    c.raise.ensures.state

pub loop-side-preserved : goal.loop-side-preserved
loop-side-preserved c = record {
  rest =
      taken-step c.loop-side.self-inside.ctl c.self-inside.inside.0.0 c.take_due.new.self c.in-Some.side
      (ap (λ (z : Inside). z.ctl) c.self-inside.view_is) c.take_due.ensures.rest c.in-Some.ensures.first c.raise.new.self.state
      c.raise.ensures.state c.take_due.ensures.later
      ∙ c.loop-side.invariant.rest;
  watched = c.raise.ensures.watched ∙ ap (λ (z : Inside). z.ctl.watched) c.self-inside.view_is ∙ c.loop-side.invariant.watched;
  untimed = c.raise.ensures.fire.untimed ∙ ap (λ (z : Inside). z.ctl.untimed) c.self-inside.view_is ∙ c.loop-side.invariant.untimed;
}
