-- What each step of a turn keeps, whatever the settings, filters, hooks and limits are.
use Rattle.std.specs.Prelude.{◌≡◌, ℕ, ⊤, List, [], ◌∷◌, ◌++◌, take}
use Rattle.ev_types.specs.declared.side.SideId.{SideId}
use Rattle.ev_types.specs.declared.answer.WriteAnswer.TheVariants as write
use Rattle.ev_types.specs.declared.entry.Entry.{Entry}
use Rattle.ev_types.specs.declared.entry.Entry.TheVariants as entry
use Rattle.ev_types.specs.Trace.{Event, Trace}
use Rattle.relay_model.specs.Settings.{Settings}
use Rattle.relay_model.specs.Plain.{Plain, nothing_yet}
use Rattle.relay_model.specs.Past.{past}
use Rattle.relay_model.specs.Rooms.{raw_output_at}
use Rattle.relay_model.specs.Stages.{State}
use Rattle.relay_model.specs.Turn.{Quietly, Puts, Reaches}
use Rattle.relay_model.specs.Stands.{DirectionAccounted}

-- Every direction is accounted for: its counts fit, and what was given is the first of what they make of what was read.
abbrev pub AccountsFit : Settings → Trace → Plain → Type 0
AccountsFit g t s = (e : SideId) → DirectionAccounted g t s e

-- What a write took is the first of the bytes that wait for its end. A legal trace tells how many they are alone, so that
-- this is what whoever writes has to know.
abbrev pub TookFirst : Settings → Trace → Plain → Event → Type 0
TookFirst g t s (entry.Write side offered (write.Took n), bytes) = bytes ≡ take n (raw_output_at g (past g t) s side)
TookFirst g t s _ = ⊤

-- a relay that opened no link accounts for the trace of no entries
abbrev pub NothingIsAccounted : Type 0
NothingIsAccounted = (g : Settings) → AccountsFit g [] nothing_yet

-- a silent step keeps every direction accounted for
abbrev pub SilentStepsKeepAccounts : Type 0
SilentStepsKeepAccounts = (g : Settings) (t : Trace) (s new : State) → Reaches g t s → Quietly g t s.stage s.plain new →
    AccountsFit g t s.plain → AccountsFit g t new.plain

-- so does an entry, where what a write took is the first of what waited
abbrev pub EntriesKeepAccounts : Type 0
EntriesKeepAccounts = (g : Settings) (t : Trace) (s new : State) (y : Entry) (bytes : List ℕ) → Reaches g t s →
    Puts g t s.stage s.plain y bytes new → TookFirst g t s.plain (y, bytes) →
    AccountsFit g t s.plain → AccountsFit g (t ++ (y, bytes) ∷ []) new.plain
