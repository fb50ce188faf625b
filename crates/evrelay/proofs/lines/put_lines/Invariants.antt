use Rattle.std.proofs.Common.{take}
use Rattle.script_text.specs.Room.{GrewBy, room_of}
use Rattle.evrelay.specs.RingText.{ring_text}
use Rattle.evrelay.proofs.lines.put_lines.Given as goal

-- The lines of the first entries stand there.
abbrev pub invariant-loop-entry : goal.invariant-loop-entry
invariant-loop-entry l = GrewBy (ring_text (take l.entry-index l.entries)) (room_of l.entry-index 0) l.fn.text l.text
