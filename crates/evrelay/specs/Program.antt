-- What the program says on standard error, and what it did, by the status with which it ended.
use Rattle.std.specs.Prelude.{◌≡◌, ◌≢◌, ◌⊎◌, ℕ, Bool, true, false, if◌then◌else◌, List, [], ◌++◌, Option, Some}
use Rattle.ev_types.specs.Trace.{Trace}
use Rattle.ev_types.specs.declared.entry.Entry.{Entry}
use Rattle.ev_types.specs.declared.status.Status.{Status}
use Rattle.ev_types.specs.declared.status.Status.TheVariants as status
use Rattle.ev_port.specs.FaultCounts.{Rose}
use Rattle.ev_port.specs.StreamBytes.{TookOn}
use Rattle.ev_port.specs.declared.port.Port as port
use Rattle.ev_port.specs.declared.stream.Sink as sink
use Rattle.relay_serve.specs.Seen.{Seen}
use Rattle.program_end.specs.Complains.{TookPart}
use Rattle.program_end.specs.EndStatus.{complaint}
use Rattle.evrelay.specs.RingText.{ring_text}

-- what is seen of a run of which this trace was told
abbrev pub seen_by : {P : Type 0} → port.Ghosts P → P → Trace → Seen
seen_by g p t = record { log = Some t; told = g.told p; ends = g.ends p; faults = g.faults p }

-- after which faults the last entries are shown: those of the port
abbrev pub shows : Status → Bool
shows status.PollFault = true
shows status.OpenFault = true
shows ended = false

-- their lines, and behind them the line of the status
abbrev pub said : Status → List Entry → List ℕ
said ended entries = (if shows ended then ring_text entries else []) ++ complaint ended

-- that was said whole by a sink that did not fail, or in part by one that failed
abbrev pub Says : Status → List Entry → Option (List ℕ) → Option (List ℕ) → ℕ → ℕ → Type 0
Says ended entries told now_told faults now_faults =
    (TookOn told now_told (said ended entries) × (now_faults ≡ faults))
    ⊎ (TookPart told now_told (said ended entries) × Rose faults now_faults)

-- Nothing was written of a report where memory ran out, and the sink failed only where the program ends for it.
abbrev pub LeavesSink : {K : Type 0} → sink.Ghosts K → Status → K → K → Type 0
LeavesSink g ended old new = (ended ≡ status.Memory → new ≡ old) × (ended ≢ status.WriteFault → g.faults new ≡ g.faults old)

-- Words that are not in the grammar leave the port and the sink of the report as they were.
abbrev pub LeavesAll : {P K : Type 0} → Status → P → P → K → K → Type 0
LeavesAll ended from to before after = ended ≡ status.Usage → (to ≡ from) × (after ≡ before)
