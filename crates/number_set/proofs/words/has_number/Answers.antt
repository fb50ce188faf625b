use Rattle.std.proofs.Common.{◌∙◌, sym, ap, ◌==◌, ◌%◌, ◌/◌, arith}
use Rattle.std.proofs.lemmas.Nat.Bits.{shr_and_one}
use Rattle.number_set.specs.Words.{is_set}
use Rattle.number_set.proofs.WordLemmas.{has_number_at}
use Rattle.number_set.proofs.words.has_number.Goals as goal

pub returns : goal.returns
returns c =
    let n = c.args.number in
    ap (λ b. b == 1) (shr_and_one c.word_at.result (n % 64)) ∙ ap (λ w. is_set w (n % 64)) c.word_at.ensures ∙
    sym (has_number_at c.args.words.now n (n / 64) (n % 64) (omega arith) (omega arith))
