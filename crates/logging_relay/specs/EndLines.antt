-- What the log takes of an entry and of a whole trace, and with which settings the relay runs.
use Rattle.std.specs.Prelude.{◌≡◌, ◌≢◌, ◌⊎◌, ⊤, ℕ, List, [], ◌∷◌, ◌++◌, Option, Some, None, MatchOption}
use Rattle.std.specs.Prelude.{unwrap_or}
use Rattle.ev_types.specs.declared.entry.Entry.{Entry}
use Rattle.ev_types.specs.declared.entry.Entry.TheVariants as entry
use Rattle.ev_types.specs.declared.route.Route.{Route}
use Rattle.ev_types.specs.declared.settings.Timeouts.{Timeouts}
use Rattle.ev_types.specs.declared.status.Status.{Status}
use Rattle.ev_types.specs.declared.status.Status.TheVariants as status
use Rattle.ev_types.specs.Trace.{Trace}
use Rattle.ev_port.specs.declared.stream.Sink as sink
use Rattle.ev_port.specs.FaultCounts.{Rose}
use Rattle.ev_port.specs.StreamBytes.{TookOn}
use Rattle.program_end.specs.Complains.{TookPart}
use Rattle.script_text.specs.Lines.{line_of}
use Rattle.script_text.specs.TraceText.{entry_words}

-- a line was taken whole, or in part by a sink that failed
abbrev pub TakesLine : {K : Type 0} → sink.Ghosts K → List ℕ → K → K → Type 0
TakesLine g line old new =
    (TookOn (g.taken old) (g.taken new) line × (g.faults new ≡ g.faults old))
    ⊎ (TookPart (g.taken old) (g.taken new) line × Rose (g.faults old) (g.faults new))

-- the line of the free of a side; every other entry has none
abbrev pub end_line : Entry → Option (List ℕ)
end_line (entry.Freed side cause moved given) = Some (line_of (entry_words (entry.Freed side cause moved given) []))
end_line _ = None

-- of the free of a side the sink takes its line, and of every other entry nothing
abbrev pub LogsEnd : {K : Type 0} → sink.Ghosts K → Entry → K → K → Type 0
LogsEnd g e old new = MatchOption (end_line e) (new ≡ old) (λ line. TakesLine g line old new)

-- it did so of each entry of a trace, in their order
abbrev pub LogsEnds : {K : Type 0} → sink.Ghosts K → Trace → K → K → Type 0
LogsEnds g [] old new = new ≡ old
LogsEnds {K} g (event ∷ t) old new = (mid : K) × LogsEnd g event.0 old mid × LogsEnds g t mid new

-- the lines of the sides that a trace frees, one behind the other
abbrev pub log_of : Trace → List ℕ
log_of [] = []
log_of (event ∷ t) = unwrap_or (end_line event.0) [] ++ log_of t

-- a sink that took nothing yet, and met no fault
pub record IsNewSink {K : Type 0} (g : sink.Ghosts K) (out : K) : Type 0 where
  pub empty : MatchOption (g.taken out) ⊤ (λ bytes. bytes ≡ [])
  pub calm : g.faults out ≡ 0

-- The sink of a log behind a trace: from a new one it took of each entry in turn what the log takes of that. Where it met no fault, that
-- is the whole log, and nothing else.
pub record IsLogOf {K : Type 0} (g : sink.Ghosts K) (t : Trace) (out : K) : Type 0 where
  pub first : K
  pub fresh : IsNewSink g first
  pub each : LogsEnds g t first out
  pub whole : g.faults out ≡ 0 → TookOn (g.taken first) (g.taken out) (log_of t)

-- the timeouts of every side, in milliseconds
abbrev pub patience : Timeouts
patience = record { read_ms = 60000; write_ms = 60000 }

-- the way of the words, with these timeouts
abbrev pub patient : Route → Route
patient route = record route { settings = record route.settings { in_timeouts = patience; out_timeouts = patience } }

-- Words that are not in the grammar leave all as it was. Nothing was written of a report where memory ran out, and its sink failed only
-- where the program ends for that.
abbrev pub LeavesBy : {P L K : Type 0} → sink.Ghosts K → Status → P → P → L → L → K → K → Type 0
LeavesBy g ended from to log left old new =
    (ended ≡ status.Usage → (to ≡ from) × (left ≡ log) × (new ≡ old))
    × (ended ≡ status.Memory → new ≡ old)
    × (ended ≢ status.WriteFault → g.faults new ≡ g.faults old)
