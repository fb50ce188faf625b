use Rattle.std.proofs.Common.{◌<◌, ◌+◌, ◌-◌, ◌*◌, get_or, arith}
use Rattle.script_text.proofs.NumberLemmas.{value_of-above, number_within-above}
use Rattle.script_text.proofs.words.number.Goals as goal

-- one digit more makes the number at least ten times as great
pub returns-then-value-max-clause-value : goal.returns-then-value-max-clause-value
returns-then-value-max-clause-value c =
    let word = c.args.word.now in
    let past : c.args.max < c.loop-digit.value * 10 + (get_or word c.loop-digit.digit-index 0 - 48) = omega arith in
    number_within-above c.args.max word
    (value_of-above c.args.max word c.loop-digit.digit-index c.loop-digit.value c.loop-digit-test.true c.loop-digit.invariant.value past)

pub returns-then-ones-max-clause-value : goal.returns-then-ones-max-clause-value
returns-then-ones-max-clause-value c =
    let word = c.args.word.now in
    let past : c.args.max < c.loop-digit.value * 10 + (get_or word c.loop-digit.digit-index 0 - 48) = omega arith in
    number_within-above c.args.max word
    (value_of-above c.args.max word c.loop-digit.digit-index c.loop-digit.value c.loop-digit-test.true c.loop-digit.invariant.value past)
