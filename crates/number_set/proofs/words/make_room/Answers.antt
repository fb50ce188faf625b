use Rattle.number_set.proofs.WordLemmas.{grown-numbers}
use Rattle.number_set.proofs.words.make_room.Goals as goal

pub returns-in_ok-push-clause-numbers : goal.returns-in_ok-push-clause-numbers
returns-in_ok-push-clause-numbers c = rw c.in_ok-push.ensures.items (grown-numbers c.args.words.now.items)
