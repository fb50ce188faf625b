use Rattle.relay_model.proofs.AccountedLemmas.{silent_steps_keep_accounts}
use Rattle.relay_model.proofs.step_laws.silent_steps_keep_accounts.Goals as goal

pub returns : goal.returns
returns c = silent_steps_keep_accounts
