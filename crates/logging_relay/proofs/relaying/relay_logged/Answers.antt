use Rattle.std.proofs.Common.{[], ap}
use Rattle.std.specs.Prelude.{option_map}
use Rattle.relay_serve.proofs.EndLemmas.{words-ended}
use Rattle.logging_relay.specs.EndLines.{patient}
use Rattle.logging_relay.proofs.relaying.relay_logged.Goals as goal

-- The words are not in the grammar, or memory ran out.
pub returns-in-Err-clause-did : goal.returns-in-Err-clause-did
returns-in-Err-clause-did g c = rw c.status.ensures
    (words-ended _ [] c.in-Err.fault _ _ (λ usage. ap (λ o. option_map patient o) (c.in-Err.ensures.refused usage)))
