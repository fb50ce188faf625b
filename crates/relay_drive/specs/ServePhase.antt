-- Serving marked sides as relations of the relay's state, and where that can be cut off.
use Rattle.std.specs.Prelude.{◌≡◌, ◌⊎◌, ℕ, ◌<◌, Bool, false, ◌&&◌, nat_lt, List, length, slice_index_or, MatchBool}
use Rattle.token_bucket.specs.declared.limit.Dir.TheVariants as dir
use Rattle.ev_types.specs.declared.side.SideId.{SideId}
use Rattle.ev_types.specs.declared.answer.ConnAnswer.{ConnAnswer}
use Rattle.ev_types.specs.declared.answer.ReadAnswer.{ReadAnswer}
use Rattle.ev_types.specs.declared.answer.WriteAnswer.{WriteAnswer}
use Rattle.ev_types.specs.Trace.{Trace}
use Rattle.ev_port.specs.declared.port.Want.{Want}
use Rattle.relay_model.specs.Rooms.{is_connecting}
use Rattle.relay_state.specs.State.{State}
use Rattle.relay_state.specs.Rooms.{read_room, wants, write_room}
use Rattle.relay_drive.specs.Steps.{Nothing, Then}
use Rattle.relay_drive.specs.Calls.{Checks, Reads, Writes}

-- a side that is marked and has read room is read once with exactly that room
abbrev pub ReadsWithRoom : SideId → State → Trace → State → Type 0
ReadsWithRoom e s a new = (answer : ReadAnswer) × (into : List ℕ) × (length into ≡ read_room s e) × Reads e answer into s a new

abbrev pub ReadsSide : SideId → Bool → State → Trace → State → Type 0
ReadsSide e marked s a new = MatchBool (marked && wants s e dir.Read) (ReadsWithRoom e s a new) (Nothing s a new)

-- a side that is marked and has write room is given exactly that many bytes
abbrev pub WritesSide : SideId → Bool → State → Trace → State → Type 0
WritesSide e marked s a new = MatchBool (marked && nat_lt 0 (write_room s e)) ((answer : WriteAnswer) × Writes e answer s a new)
    (Nothing s a new)

-- a connecting side that is marked for writing is asked for its state
abbrev pub ConnectsSide : SideId → Bool → State → Trace → State → Type 0
ConnectsSide e marked s a new = MatchBool marked ((answer : ConnAnswer) × Checks e answer s a new) (Nothing s a new)

abbrev pub ServesSide : Want → State → Trace → State → Type 0
ServesSide w s a new =
    MatchBool (is_connecting s.plain w.side) (ConnectsSide w.side w.can_write s a new)
    (Then (ReadsSide w.side w.can_read) (WritesSide w.side w.can_write) s a new)

-- serving a side was cut off: before its call, or between its read and its write
abbrev pub CutServing : Want → State → Trace → State → Type 0
CutServing w s a new = Nothing s a new ⊎ ((is_connecting s.plain w.side ≡ false) × ReadsSide w.side w.can_read s a new)

-- every want is of a side of an opened link
abbrev pub AllOpened : List Want → ℕ → Type 0
AllOpened ws opened = (i : ℕ) (d : Want) → i < length ws → (slice_index_or ws i d).side.link < opened
