use Rattle.relay_steps.proofs.BucketLemmas.{running_is_least}
use Rattle.relay_steps.proofs.bucket_laws.running_is_least.Goals as goal

pub returns : goal.returns
returns c = running_is_least
