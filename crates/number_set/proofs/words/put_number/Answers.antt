use Rattle.std.proofs.Common.{arith}
use Rattle.number_set.proofs.WordLemmas.{put-numbers}
use Rattle.number_set.proofs.words.put_number.Goals as goal

pub returns-clause-numbers : goal.returns-clause-numbers
returns-clause-numbers c =
    put-numbers c.args.words.now.items c.args.number c.with_bit.result c.index.result.now c.args.member (omega arith) c.index.ensures
    c.with_bit.ensures.same c.with_bit.ensures.others
