use Rattle.token_bucket.proofs.BucketLemmas.{level-is_least}
use Rattle.token_bucket.proofs.laws.level_is_least.Goals as goal

pub returns : goal.returns
returns c = level-is_least
