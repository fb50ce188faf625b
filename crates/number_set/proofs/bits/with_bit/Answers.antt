use Rattle.std.proofs.Common.{◌∙◌, sym, w64}
use Rattle.std.proofs.lemmas.Nat.Bits.{bit_at_set_same, bit_at_set_other, bit_at_clear_same, bit_at_clear_other}
use Rattle.number_set.proofs.BitLemmas.{is_set_from}
use Rattle.number_set.proofs.bits.with_bit.Goals as goal

pub returns-then-set-clause-same : goal.returns-then-set-clause-same
returns-then-set-clause-same c = is_set_from _ _ 1 (bit_at_set_same w64 c.args.word c.args.place c.requires) ∙ sym c.if-set.true

pub returns-then-set-clause-others : goal.returns-then-set-clause-others
returns-then-set-clause-others c =
    λ k within other. is_set_from _ k _ (bit_at_set_other w64 c.args.word c.args.place c.requires k other)

pub returns-else-set-clause-same : goal.returns-else-set-clause-same
returns-else-set-clause-same c = is_set_from _ _ 0 (bit_at_clear_same w64 c.args.word c.args.place c.requires) ∙ sym c.if-set.false

pub returns-else-set-clause-others : goal.returns-else-set-clause-others
returns-else-set-clause-others c =
    λ k within other. is_set_from _ k _ (bit_at_clear_other w64 c.args.word c.args.place c.requires k within other)
