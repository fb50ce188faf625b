use Rattle.std.proofs.Common.{◌≡◌, ℕ, ◌*◌, ◌<◌, nat_lt, vec_len}
use Rattle.number_set.specs.Words.{has_number}
use Rattle.number_set.proofs.words.fill_words.Given as goal

abbrev pub invariant-loop-at : goal.invariant-loop-at
invariant-loop-at l = (vec_len l.words ≡ vec_len l.initial.words) × ((n : ℕ) → n < 64 * l.at → has_number l.words.items n ≡ nat_lt n l.len)
