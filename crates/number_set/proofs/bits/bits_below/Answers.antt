use Rattle.std.proofs.Common.{◌≡◌, ◌<◌, nat_lt, subst, sym, arith}
use Rattle.std.proofs.lemmas.Nat.{one_shl}
use Rattle.number_set.specs.Words.{is_set}
use Rattle.number_set.proofs.BitLemmas.{is_set_below}
use Rattle.number_set.proofs.bits.bits_below.Goals as goal

pub returns-then-place-eq-WORD : goal.returns-then-place-eq-WORD
returns-then-place-eq-WORD c =
    λ k. subst (λ place. is_set 18446744073709551615 k ≡ nat_lt k place) (sym c.if-place-eq-WORD.true) (is_set_below 64 k)

pub returns-else-place-eq-WORD : goal.returns-else-place-eq-WORD
returns-else-place-eq-WORD c =
    let within : c.args.place < 64 = omega arith in
    rw (one_shl c.args.place 64 within) (λ k. is_set_below c.args.place k)
