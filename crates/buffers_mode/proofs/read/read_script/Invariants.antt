use Rattle.std.proofs.Common.{◌≡◌, ◌+◌, ◌≤◌, All, length}
use Rattle.script_text.specs.Pieces.{lines}
use Rattle.buffers_mode.specs.Grammar.{NamesBuffers}
use Rattle.buffers_mode.specs.Spelled.{lines_read, script_of}
use Rattle.buffers_mode.proofs.read.read_script.Given as goal

abbrev pub invariant-loop-rest : goal.invariant-loop-rest
invariant-loop-rest l = record {
  -- what is left spells, from the lines so far on, what the whole text spells
  spelled : lines_read l.lines.items l.before (lines l.rest) ≡ script_of l.fn.text;
  named : All NamesBuffers l.lines.items;
  -- each line that was read took a byte at least
  within : l.before + length l.rest ≤ length l.fn.text;
}

abbrev pub decreases-loop-rest : goal.decreases-loop-rest
decreases-loop-rest l = length l.rest
