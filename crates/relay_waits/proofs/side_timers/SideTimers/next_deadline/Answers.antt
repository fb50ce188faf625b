use Rattle.std.proofs.Common.{◌∙◌, ap, map, List}
use Rattle.relay_model.specs.Plain.{Timer}
use Rattle.relay_model.specs.Moments.{earliest}
use Rattle.relay_waits.proofs.TimerLemmas.{first-is_earliest}
use Rattle.relay_waits.proofs.side_timers.SideTimers.next_deadline.Goals as goal

pub returns : goal.returns
returns c =
    c.next_deadline.ensures ∙ first-is_earliest c.self.inside.timers.pending c.self.invariant.rise
    ∙ ap (λ (ts : List Timer). earliest (map (λ x. x.deadline) ts)) c.self.view_is
