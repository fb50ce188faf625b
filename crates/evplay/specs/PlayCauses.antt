-- Why a call of `play` ended as it did, by the source and the sink beside their bytes.
use Rattle.std.specs.Prelude.{◌≡◌, ◌≢◌, ◌+◌, ◌^◌, ⊤, Option}
use Rattle.ev_types.specs.declared.status.Status.{Status}
use Rattle.ev_types.specs.declared.status.Status.TheVariants as status
use Rattle.ev_port.specs.FaultCounts.{Rose}
use Rattle.ev_port.specs.StreamBytes.{GaveAtMost, GaveCount}
use Rattle.ev_port.specs.declared.stream.Sink as sink
use Rattle.ev_port.specs.declared.stream.Source as source
use Rattle.command_words.specs.declared.mode.ScriptKind.{ScriptKind}
use Rattle.evplay.specs.Play.{ReadsNothing}

-- with this status nothing is written
abbrev pub IsUnwritten : Status → Type 0
IsUnwritten status.Ok = ⊥
IsUnwritten status.PollFault = ⊥
IsUnwritten (status.Stopped link turn) = ⊥
IsUnwritten status.Spent = ⊥
IsUnwritten status.WriteFault = ⊥
IsUnwritten _ = ⊤

-- The words are looked at before all else; a fault is answered only where its count rose, and with every other answer the counts are as
-- they were; too long is a text of which 2^24 + 1 bytes were read, and with every other answer no more than 2^24 were. What is not
-- written wholly or in part is not written at all.
pub record HasCauses {S K : Type 0} (g : source.Ghosts S) (h : sink.Ghosts K) (modes : Option ScriptKind) (ended : Status)
    (old new : S) (from to : K) : Type 0 where
  pub unread : ended ≡ status.Usage → new ≡ old
  pub reads_nothing : ReadsNothing modes → new ≡ old
  pub unwritten : IsUnwritten ended → to ≡ from
  pub read_fault : ended ≡ status.ReadFault → Rose (g.faults old) (g.faults new)
  pub read_calm : ended ≢ status.ReadFault → g.faults new ≡ g.faults old
  pub write_fault : ended ≡ status.WriteFault → Rose (h.faults from) (h.faults to)
  pub write_calm : ended ≢ status.WriteFault → h.faults to ≡ h.faults from
  pub too_long : ended ≡ status.TooLong → GaveCount (g.left old) (g.left new) (2 ^ 24 + 1)
  pub not_too_long : ended ≢ status.TooLong → GaveAtMost (g.left old) (g.left new) (2 ^ 24)
