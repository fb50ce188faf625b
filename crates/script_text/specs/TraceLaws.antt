-- Which traces can be written as text and read again.
use Rattle.std.specs.Prelude.{◌≡◌, ℕ, ◌+◌, ◌-◌, ◌^◌, ◌<◌, ◌≤◌, ⊤, ◌||◌, true, List, [], ◌∷◌, length, slice_index_or, Some, None, IsSome, Ok}
use Rattle.std.specs.Prelude.{Err}
use Rattle.hex.specs.Hex.{IsBytes}
use Rattle.ev_types.specs.declared.side.Side.{Side}
use Rattle.ev_types.specs.declared.side.Side.TheVariants as side
use Rattle.ev_types.specs.declared.why.Why.{Why}
use Rattle.ev_types.specs.declared.why.Why.TheVariants as why
use Rattle.ev_types.specs.declared.why.Cause.{Cause}
use Rattle.ev_types.specs.declared.why.Cause.TheVariants as cause
use Rattle.ev_types.specs.declared.answer.ReadAnswer.TheVariants as read
use Rattle.ev_types.specs.declared.answer.WriteAnswer.TheVariants as write
use Rattle.ev_types.specs.declared.entry.Entry.{Entry}
use Rattle.ev_types.specs.declared.entry.Entry.TheVariants.{Turn, Poll, Want, Ready, PollFailed, Opened, Conn, Read, Write, Fired, Asked}
use Rattle.ev_types.specs.declared.entry.Entry.TheVariants.{Freed, CloseWrite, Close}
use Rattle.ev_types.specs.Trace.{Trace}
pub use Rattle.ev_types.specs.AskNumbers.{IsWide, IsEnd, IsAct}
use Rattle.script_text.specs.Pieces.{lines, words}
use Rattle.script_text.specs.EntryGrammar.{event_said}
use Rattle.script_text.specs.TraceText.{trace_text}
use Rattle.script_text.specs.TraceSpelled.{trace_of}

-- so many bytes, at least one
abbrev pub AreBytes : ℕ → List ℕ → Type 0
AreBytes count bytes = (0 < count) × (length bytes ≡ count) × IsBytes bytes

abbrev pub IsOut : Side → Type 0
IsOut side.In = ⊥
IsOut side.Out = ⊤

-- flags are a byte
abbrev pub IsWhy : Why → Type 0
IsWhy (why.Event flags) = flags.0 < 256
IsWhy _ = ⊤

abbrev pub IsCause : Cause → Type 0
IsCause (cause.Filter place) = IsWide place
IsCause _ = ⊤

-- The numbers of an entry fit their types, a want or a mark names a direction, only an Out end is connected, and no write
-- lacked memory.
abbrev pub IsEntry : Entry → Type 0
IsEntry (Turn ms) = IsWide ms
IsEntry (Poll None) = ⊤
IsEntry (Poll (Some ms)) = IsWide ms
IsEntry (Want end r w) = IsEnd end × ((r || w) ≡ true)
IsEntry (Ready end r w) = IsEnd end × ((r || w) ≡ true)
IsEntry PollFailed = ⊤
IsEntry (Opened link connected) = link < 2 ^ 32
IsEntry (Conn end answer) = IsEnd end × IsOut end.side
IsEntry (Read end room answer) = IsEnd end × IsWide room
IsEntry (Write end offered write.NoMemory) = ⊥
IsEntry (Write end offered answer) = IsEnd end × IsWide offered
IsEntry (Fired end why) = IsEnd end × IsWhy why
IsEntry (Asked end act answer) = IsEnd end × IsAct act
IsEntry (Freed end cause moved given) = IsEnd end × IsCause cause × IsWide moved × IsWide given
IsEntry (CloseWrite end) = IsEnd end
IsEntry (Close end) = IsEnd end

-- Beside an entry stand the bytes that were got or taken, at least one, and none beside any other.
abbrev pub StandBeside : List ℕ → Entry → Type 0
StandBeside bytes (Read end room (read.Got count)) = AreBytes count bytes
StandBeside bytes (Write end offered (write.Took count)) = AreBytes count bytes
StandBeside bytes _ = bytes ≡ []

-- a trace whose entries can be spelled
abbrev pub IsSpellable : Trace → Type 0
IsSpellable [] = ⊤
IsSpellable (event ∷ more) = IsEntry event.0 × StandBeside event.1 event.0 × IsSpellable more

-- Reading what was written gives the trace that was written.
abbrev pub WrittenIsRead : Type 0
WrittenIsRead = (t : Trace) → IsSpellable t → trace_of (trace_text t) ≡ Ok t

-- The line with this number, counted from 1, is the first of a text that is no line of a trace.
pub record IsFirstBadLine (text : List ℕ) (n : ℕ) : Type 0 where
  pub above : 0 < n
  pub within : n ≤ length (lines text)
  pub before : (k : ℕ) → k + 1 < n → IsSome (event_said (words (slice_index_or (lines text) k [])))
  pub bad : event_said (words (slice_index_or (lines text) (n - 1) [])) ≡ None

-- the number that a refused text has is that of its first bad line
abbrev pub TraceRefusedAtFirstBad : Type 0
TraceRefusedAtFirstBad = (text : List ℕ) (n : ℕ) → trace_of text ≡ Err n → IsFirstBadLine text n
