use Rattle.std.proofs.Common.{ap, ◌∙◌}
use Rattle.script_text.specs.Numbers.{number_within}
use Rattle.script_text.proofs.LawLemmas.{number_within-decimal, decimal-number_within}
use Rattle.script_text.proofs.laws.numbers_are_decimal.Goals as goal

pub returns : goal.returns
returns c = λ max n word small. (
  decimal-number_within max n word small,
  λ h. ap (number_within max) h.0 ∙ number_within-decimal max n small h.1,
)
