use Rattle.relay_drive.specs.Seats.{telling, seated_sides}
use Rattle.relay_serve.specs.Seen.{seen, drained}
use Rattle.relay_serve.specs.Underway.{ended_as}
use Rattle.relay_serve.proofs.EndLemmas.{did, reported-lasted}
use Rattle.relay_serve.proofs.StoppedLemmas.{reported-well}
use Rattle.relay_serve.proofs.TurnsLemmas.{asked-nothing, asked-reported}
use Rattle.relay_serve.proofs.run.relay_seated.Goals as goal

pub returns-clause-did : goal.returns-clause-did
returns-clause-did g c =
    did c.args.route.now (seated_sides c.args.seats.now.hooks.items) (ended_as c.run-ended.result) c.report.result
    (seen g.P.Port g.S.Scribe (c.args.port.now, c.args.scribe.now))
    (seen g.P.Port g.S.Scribe (c.run-ended.new.port, c.run-ended.new.scribe)) c.run-ended.new.drive.state
    (drained g.K.Sink c.args.sink.now) (drained g.K.Sink c.report.new.sink) c.run-ended.ensures.ran c.report.ensures.reported

-- nothing was begun
pub returns-in_default-clause-asked : goal.returns-in_default-clause-asked
returns-in_default-clause-asked g c = asked-nothing
    (telling (λ h. (goal.Hook-dyn g (h.vtable, h.value)).heard h.value) (λ h. (goal.Hook-dyn g (h.vtable, h.value)).asked h.value)
    (λ h. (goal.Hook-dyn g (h.vtable, h.value)).planned h.value))
    _ c.args.seats.now.hooks.items (g.S.Scribe.trace c.args.scribe.now)

-- a report may want memory behind a run that didn't
pub returns-clause-asked : goal.returns-clause-asked
returns-clause-asked g c = asked-reported
    (telling (λ h. (goal.Hook-dyn g (h.vtable, h.value)).heard h.value) (λ h. (goal.Hook-dyn g (h.vtable, h.value)).asked h.value)
    (λ h. (goal.Hook-dyn g (h.vtable, h.value)).planned h.value))
    (ended_as c.run-ended.result) c.report.result c.args.seats.now.hooks.items (g.S.Scribe.trace c.args.scribe.now)
    (g.S.Scribe.trace c.run-ended.new.scribe)
    (reported-lasted (ended_as c.run-ended.result) c.report.result _ _ _ c.report.ensures.reported) c.run-ended.ensures.asked

-- and one that ended well was served out
pub returns-clause-stopped : goal.returns-clause-stopped
returns-clause-stopped g c = λ well. c.run-ended.ensures.stopped
    (reported-well c.run-ended.result c.report.result _ _ _ c.report.ensures.reported well)
