-- How a scribe of text keeps what it shows.
use Rattle.std.specs.Prelude.{◌≡◌, ◌+◌, ◌≤◌, vec_len, vec_capacity}
use Rattle.ev_types.specs.Taped.{Taped}
use Rattle.script_text.specs.TraceText.{trace_text}
use Rattle.script_text.specs.Room.{HasRoom, room_of}
use Rattle.text_scribe.specs.declared.scribe.TextScribe.TheInside.{Inside}

abbrev pub taped : Inside → Taped
taped s = record { trace = s.told.trace; spare_entries = s.entries; spare_bytes = s.bytes }

-- The text is that of the trace, and has room for the lines of the entries that may still be put.
abbrev pub IsWritten : Inside → Type 0
IsWritten s = (s.text.items ≡ trace_text s.told.trace) × HasRoom s.text (room_of s.entries s.bytes)
