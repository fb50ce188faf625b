use Rattle.std.proofs.Common.{true, false, refl, ap}
use Rattle.relay_drive.specs.DriveValue.{DriveValue}
use Rattle.relay_drive.specs.Seats.{telling, seated_sides}
use Rattle.relay_serve.specs.Seen.{Seen, seen}
use Rattle.relay_serve.proofs.EndLemmas.{begun-by, ran-of, start-failed, start-lacked}
use Rattle.relay_serve.proofs.TurnsLemmas.{asked-nothing}
use Rattle.relay_serve.proofs.run.run.Goals as goal

pub returns-in-Started-clause-ran : goal.returns-in-Started-clause-ran
returns-in-Started-clause-ran g c =
    let old : Seen = seen g.P.Port g.S.Scribe (c.args.port.now, c.args.scribe.now) in
    let mid : Seen = seen g.P.Port g.S.Scribe (c.start.new.self, c.args.scribe.now) in
    let new : Seen = seen g.P.Port g.S.Scribe (c.make_turns.new.port, c.make_turns.new.scribe) in
    let h = c.in-Started.ensures in
    let hooks = seated_sides c.args.seats.now.hooks.items in
    ran-of c.args.route.now hooks old mid new (begun-by c.args.route.now old mid false refl h.cause h.ends h.told)
    c.make_turns.new.drive.state
    c.args.drive.now.state.settings
    (ap (λ (d : DriveValue). d.state.settings) c.requires.new_drive) c.make_turns.result c.make_turns.ensures.went

pub returns-in-Failed-clause-ran : goal.returns-in-Failed-clause-ran
returns-in-Failed-clause-ran g c =
    let old : Seen = seen g.P.Port g.S.Scribe (c.args.port.now, c.args.scribe.now) in
    let new : Seen = seen g.P.Port g.S.Scribe (c.start.new.self, c.args.scribe.now) in
    let h = c.in-Failed.ensures in
    let hooks = seated_sides c.args.seats.now.hooks.items in
    rw c.requires.new_drive (start-failed c.args.route.now hooks old new
    (begun-by c.args.route.now old new true refl h.cause h.ends h.told))

pub returns-in-NoMemory-clause-ran : goal.returns-in-NoMemory-clause-ran
returns-in-NoMemory-clause-ran g c =
    let old : Seen = seen g.P.Port g.S.Scribe (c.args.port.now, c.args.scribe.now) in
    let new : Seen = seen g.P.Port g.S.Scribe (c.start.new.self, c.args.scribe.now) in
    let h = c.in-NoMemory.ensures in
    let hooks = seated_sides c.args.seats.now.hooks.items in
    rw c.requires.new_drive (start-lacked c.args.route.now hooks old new
    (begun-by c.args.route.now old new false refl h.cause h.ends h.told))

-- the start put nothing
pub returns-in-Started-clause-asked : goal.returns-in-Started-clause-asked
returns-in-Started-clause-asked g c = c.make_turns.ensures.asked

pub returns-in-Failed-clause-asked : goal.returns-in-Failed-clause-asked
returns-in-Failed-clause-asked g c = asked-nothing
    (telling (λ h. (goal.Hook-dyn g (h.vtable, h.value)).heard h.value) (λ h. (goal.Hook-dyn g (h.vtable, h.value)).asked h.value)
    (λ h. (goal.Hook-dyn g (h.vtable, h.value)).planned h.value))
    _ c.args.seats.now.hooks.items (g.S.Scribe.trace c.args.scribe.now)

pub returns-in-NoMemory-clause-asked : goal.returns-in-NoMemory-clause-asked
returns-in-NoMemory-clause-asked g c = asked-nothing
    (telling (λ h. (goal.Hook-dyn g (h.vtable, h.value)).heard h.value) (λ h. (goal.Hook-dyn g (h.vtable, h.value)).asked h.value)
    (λ h. (goal.Hook-dyn g (h.vtable, h.value)).planned h.value))
    _ c.args.seats.now.hooks.items (g.S.Scribe.trace c.args.scribe.now)
