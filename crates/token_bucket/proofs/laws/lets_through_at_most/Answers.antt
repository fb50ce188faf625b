use Rattle.token_bucket.proofs.BucketLemmas.{lets-through_at_most}
use Rattle.token_bucket.proofs.laws.lets_through_at_most.Goals as goal

pub returns : goal.returns
returns c = lets-through_at_most
