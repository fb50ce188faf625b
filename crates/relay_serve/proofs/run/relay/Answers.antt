use Rattle.std.proofs.Common.{subst}
use Rattle.relay_drive.specs.Seats.{telling, seated_sides}
use Rattle.relay_serve.specs.Seen.{seen, drained}
use Rattle.relay_serve.specs.Served.{Did, AskedByPlans}
use Rattle.relay_serve.proofs.TurnsLemmas.{asked-nothing}
use Rattle.relay_serve.proofs.run.relay.Goals as goal

-- the seats hold these hooks
pub returns-clause-did : goal.returns-clause-did
returns-clause-did g c =
    subst (λ hooks. Did c.args.route.now (seated_sides hooks) c.relay_seated.result
    (seen g.P.Port g.S.Scribe (c.args.port.now, c.args.scribe.now))
    (seen g.P.Port g.S.Scribe (c.relay_seated.new.port, c.relay_seated.new.scribe)) (drained g.K.Sink c.args.sink.now)
    (drained g.K.Sink c.relay_seated.new.sink)) c.in-Ok.ensures.hooks c.relay_seated.ensures.did

pub returns-in_default-clause-asked : goal.returns-in_default-clause-asked
returns-in_default-clause-asked g c = asked-nothing
    (telling (λ h. (goal.Hook-dyn g (h.vtable, h.value)).heard h.value) (λ h. (goal.Hook-dyn g (h.vtable, h.value)).asked h.value)
    (λ h. (goal.Hook-dyn g (h.vtable, h.value)).planned h.value))
    _ c.args.hooks.items (g.S.Scribe.trace c.args.scribe.now)

pub returns-clause-asked : goal.returns-clause-asked
returns-clause-asked g c =
    subst (λ hooks. AskedByPlans
    (telling (λ h. (goal.Hook-dyn g (h.vtable, h.value)).heard h.value) (λ h. (goal.Hook-dyn g (h.vtable, h.value)).asked h.value)
    (λ h. (goal.Hook-dyn g (h.vtable, h.value)).planned h.value))
    c.relay_seated.result hooks (g.S.Scribe.trace c.args.scribe.now) (g.S.Scribe.trace c.relay_seated.new.scribe)) c.in-Ok.ensures.hooks
    c.relay_seated.ensures.asked
