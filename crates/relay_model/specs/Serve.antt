-- Serving a marked side: what it is asked, what its answer may carry, and what the answer changes.
use Rattle.std.specs.Prelude.{◌≡◌, ℕ, ◌+◌, ◌≤◌, true, false, ◌&&◌, not, nat_le, if◌then◌else◌, List, [], ◌∷◌, length}
use Rattle.token_bucket.specs.declared.limit.Dir.TheVariants as dir
use Rattle.ev_types.specs.declared.side.SideId.{SideId}
use Rattle.ev_types.specs.declared.answer.ConnAnswer.{ConnAnswer}
use Rattle.ev_types.specs.declared.answer.ConnAnswer.TheVariants as conn
use Rattle.ev_types.specs.declared.answer.ReadAnswer.{ReadAnswer}
use Rattle.ev_types.specs.declared.answer.ReadAnswer.TheVariants as read
use Rattle.ev_types.specs.declared.answer.WriteAnswer.{WriteAnswer}
use Rattle.ev_types.specs.declared.answer.WriteAnswer.TheVariants as write
use Rattle.ev_types.specs.declared.why.Why.TheVariants as why
use Rattle.ev_types.specs.Sides.{peer}
use Rattle.relay_model.specs.Settings.{Settings}
use Rattle.relay_model.specs.Plain.{Plain, change_side, change_flow}
use Rattle.relay_model.specs.Past.{Past}
use Rattle.relay_model.specs.Rooms.{Want, is_connecting, read_room, write_room}
use Rattle.relay_model.specs.Reasons.{raise, raise_read, raise_write, happened, end_flag, error_flag}
use Rattle.relay_model.specs.Moments.{active_at}
use Rattle.relay_model.specs.Round.{read_run}

-- what a marked side is asked
pub data Call : Type 0 where
  Nothing : Call
  AskConnect : Call
  AskRead : ℕ → Call  -- with this room
  AskWrite : ℕ → Call  -- with so many bytes

-- A connecting side that can write is asked for its state. Any other side is read first, where it can read and has room
-- now, and then written, where it can write and has room now.
abbrev pub call_for : Settings → Past → Plain → Want → Call
call_for g p s m =
    if is_connecting s m.side then (if m.write then Call.AskConnect else Call.Nothing)
    else (if m.read then (if nat_le 1 (read_room g p s m.side) then Call.AskRead (read_room g p s m.side) else Call.Nothing)
    else (if m.write && nat_le 1 (write_room g p s m.side) then Call.AskWrite (write_room g p s m.side) else Call.Nothing))

-- The marks that are left once a side was asked, or wasn't as there was nothing to ask: its mark for writing is left
-- where it was its mark for reading that was looked at.
abbrev pub marks_left : Plain → Want → List Want → List Want
marks_left s m ms = if not (is_connecting s m.side) && m.read then record m { read = false } ∷ ms else ms

-- Exactly what was got stands beside a read, at least one byte and at most the room.
abbrev pub CarriesGot : ReadAnswer → ℕ → List ℕ → Type 0
CarriesGot (read.Got n) room bytes = (length bytes ≡ n) × (1 ≤ n) × (n ≤ room)
CarriesGot read.Ended room bytes = bytes ≡ []
CarriesGot read.NotYet room bytes = bytes ≡ []
CarriesGot read.Failed room bytes = bytes ≡ []

-- Exactly what was taken stands beside a write, at least one byte and at most what was offered. A write for which there
-- was no memory is in no trace.
abbrev pub CarriesTook : WriteAnswer → ℕ → List ℕ → Type 0
CarriesTook (write.Took n) offered bytes = (length bytes ≡ n) × (1 ≤ n) × (n ≤ offered)
CarriesTook write.NotYet offered bytes = bytes ≡ []
CarriesTook write.Failed offered bytes = bytes ≡ []
CarriesTook write.NoMemory offered bytes = ⊥

-- A failed check marks the side failed and disables its writing.
abbrev pub after_conn : Settings → SideId → ConnAnswer → Plain → Plain
after_conn g e conn.Connected s = raise g e why.Connected (change_side e (λ x. record x { connecting = false }) s)
after_conn g e conn.Pending s = s
after_conn g e conn.Failed s = raise g e (happened dir.Write error_flag) (change_side e (λ x. record x { failed = true; writes = false }) s)

-- Bytes that were got stand behind the raw input; what the read filter makes of them comes next.
abbrev pub after_read : Settings → SideId → ReadAnswer → Plain → Plain
after_read g e (read.Got n) s = change_side e (active_at s.time dir.Read) s
after_read g e read.Ended s = raise g e (happened dir.Read end_flag) (change_side e (λ x. record x { ended = true; reads = false }) s)
after_read g e read.NotYet s = s
after_read g e read.Failed s = raise g e (happened dir.Read error_flag) (change_side e (λ x. record x { failed = true; reads = false }) s)

-- The read filter runs over what was got. It isn't finished yet, also where the end has come. Then the low mark is looked at.
abbrev pub after_got : Settings → Past → SideId → Plain → Plain
after_got g p e s = raise_read g p e (read_run g p e false s)

abbrev pub after_write : Settings → Past → SideId → WriteAnswer → Plain → Plain
after_write g p e (write.Took n) s =
    raise_write g p e (change_side e (active_at s.time dir.Write) (change_flow (peer e) (λ f. record f { given = f.given + n }) s))
after_write g p e write.NotYet s = s
after_write g p e write.Failed s = raise g e (happened dir.Write error_flag) (change_side e (λ x. record x { failed = true; writes = false }) s)
after_write g p e write.NoMemory s = s
