use Rattle.std.proofs.Common.{sym, ◌∙◌}
use Rattle.program_end.proofs.StatusLemmas.{ended-well}
use Rattle.logging_relay.proofs.program.run_by.Goals as goal

-- What the relay did, and what was said of it.
pub returns-clause-relayed : goal.returns-clause-relayed
returns-clause-relayed g c =
    let went = c.relay_logged-ended in
    (went.result, c.finish.ensures.number, went.ensures.did, went.ensures.leaves, c.finish.ensures.line)

pub returns-clause-stopped : goal.returns-clause-stopped
returns-clause-stopped g c = λ zero.
    let went = c.relay_logged-ended in
    went.ensures.stopped (ended-well went.result (sym c.finish.ensures.number ∙ zero))
