use Rattle.std.proofs.Common.{◌≡◌, ◌+◌, ◌≤◌, length}
use Rattle.script_text.specs.Pieces.{lines}
use Rattle.base_mode.specs.Spelled.{lines_read, no_line}
use Rattle.base_mode.proofs.read.read_base_script.Given as goal

abbrev pub invariant-loop-rest : goal.invariant-loop-rest
invariant-loop-rest l = record {
  -- what is left spells, from the script so far on, what the whole text spells
  spelled : lines_read l.reading l.before (lines l.rest) ≡ lines_read no_line 0 (lines l.fn.text);
  -- so many lines stand before what is left
  counted : l.before + length (lines l.rest) ≡ length (lines l.fn.text);
  -- each line that was read took a byte at least
  within : l.before + length l.rest ≤ length l.fn.text;
}

abbrev pub decreases-loop-rest : goal.decreases-loop-rest
decreases-loop-rest l = length l.rest
