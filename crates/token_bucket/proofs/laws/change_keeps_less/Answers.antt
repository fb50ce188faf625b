use Rattle.token_bucket.proofs.BucketLemmas.{change-keeps_less}
use Rattle.token_bucket.proofs.laws.change_keeps_less.Goals as goal

pub returns : goal.returns
returns c = change-keeps_less
