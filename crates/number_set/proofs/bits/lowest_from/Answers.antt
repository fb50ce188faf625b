use Rattle.std.proofs.Common.{arith}
use Rattle.number_set.proofs.BitLemmas.{lowest_none, lowest_some, set_within}
use Rattle.number_set.proofs.bits.lowest_from.Goals as goal

pub returns-then-above-eq0-clause-next : goal.returns-then-above-eq0-clause-next
returns-then-above-eq0-clause-next c = lowest_none c.args.word c.args.place c.if-above-eq0.true

pub returns-else-above-eq0-clause-next : goal.returns-else-above-eq0-clause-next
returns-else-above-eq0-clause-next c = lowest_some c.args.word c.args.place (omega arith) (omega arith)

pub returns-else-above-eq0-clause-within : goal.returns-else-above-eq0-clause-within
returns-else-above-eq0-clause-within c =
    set_within c.args.word _ (omega arith) (lowest_some c.args.word c.args.place (omega arith) (omega arith)).passes
