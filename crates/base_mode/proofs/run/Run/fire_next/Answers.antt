-- The next callback was called.
use Rattle.std.proofs.Common.{◌≡◌, Some}
use Rattle.event_base.specs.Calls as call
use Rattle.base_mode.specs.RunView.{run_of}
use Rattle.base_mode.proofs.FireLemmas.{next_fired-called}
use Rattle.base_mode.proofs.run.Run.fire_next.Goals as goal

pub returns-in_ok-call_back-in-Ok-Some : goal.returns-in_ok-call_back-in-Ok-Some
returns-in_ok-call_back-in-Ok-Some c =
    let fires : call.next_fire c.self.inside.base ≡ Some c.in-Ok-Some.fire = cc (c.in-Ok-Some.ensures.fire, c.in-Ok-Some.field-0-is) in
    rw (← c.self.view_is)
    (next_fired-called (run_of c.self.inside) c.next_active.new.self c.in-Ok-Some.fire c.call_back.new.self c.in-Ok-Some.ensures.ok fires
    c.in_ok-call_back-in-Ok-Some.ensures)
