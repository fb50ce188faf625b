use Rattle.relay_model.proofs.AccountedLemmas.{entries_keep_accounts}
use Rattle.relay_model.proofs.step_laws.entries_keep_accounts.Goals as goal

pub returns : goal.returns
returns c = entries_keep_accounts
