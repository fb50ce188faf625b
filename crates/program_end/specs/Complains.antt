-- What is said on standard error of how a program ended.
use Rattle.std.specs.Prelude.{◌≡◌, ◌<◌, ◌⊎◌, ℕ, List, length, take, Option}
use Rattle.ev_types.specs.declared.status.Status.{Status}
use Rattle.ev_port.specs.FaultCounts.{Rose}
use Rattle.ev_port.specs.StreamBytes.{TookOn}
use Rattle.program_end.specs.EndStatus.{complaint}

-- the first bytes of a text were taken, and not all
abbrev pub TookPart : Option (List ℕ) → Option (List ℕ) → List ℕ → Type 0
TookPart told now_told text = (n : ℕ) × (n < length text) × TookOn told now_told (take n text)

-- the line of this status was written whole by a sink that did not fail, or in part by one that failed
abbrev pub Complains : Status → Option (List ℕ) → Option (List ℕ) → ℕ → ℕ → Type 0
Complains ended told now_told faults now_faults =
    (TookOn told now_told (complaint ended) × (now_faults ≡ faults))
    ⊎ (TookPart told now_told (complaint ended) × Rose faults now_faults)
