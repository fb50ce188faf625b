use Rattle.std.proofs.Common.{arith}
use Rattle.std.proofs.lemmas.Nat.{and_le_l}
use Rattle.number_set.proofs.BitLemmas.{highest_none, highest_some}
use Rattle.number_set.proofs.bits.highest_below.Goals as goal

pub returns-then-below-eq0 : goal.returns-then-below-eq0
returns-then-below-eq0 c = highest_none c.args.word c.bits_below.result c.args.place c.bits_below.ensures c.if-below-eq0.true

pub returns-else-below-eq0 : goal.returns-else-below-eq0
returns-else-below-eq0 c =
    highest_some c.args.word c.bits_below.result c.args.place c.bits_below.ensures (omega arith)
    (omega (arith, and_le_l c.args.word c.bits_below.result))
