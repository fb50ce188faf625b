use Rattle.relay_model.proofs.PollLemmas.{polls_fail_as_scripted}
use Rattle.relay_model.proofs.played_laws.polls_fail_as_scripted.Goals as goal

pub returns : goal.returns
returns c = polls_fail_as_scripted
