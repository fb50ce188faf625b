use Rattle.std.proofs.Common.{◌≡◌, ◌+◌, ◌≤◌, length}
use Rattle.script_text.specs.Pieces.{lines}
use Rattle.script_text.specs.Spelled.{lines_read, no_line}
use Rattle.script_text.proofs.read.read_script.Given as goal

abbrev pub invariant-loop-rest : goal.invariant-loop-rest
invariant-loop-rest l = record {
  -- what is left spells, from the script so far on, what the whole text spells
  spelled : lines_read l.reading l.before (lines l.rest) ≡ lines_read no_line 0 (lines l.fn.text);
  -- each line that was read took a byte at least
  within : l.before + length l.rest ≤ length l.fn.text;
}

abbrev pub decreases-loop-rest : goal.decreases-loop-rest
decreases-loop-rest l = length l.rest
