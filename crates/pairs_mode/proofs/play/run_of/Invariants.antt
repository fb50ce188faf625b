use Rattle.std.proofs.Common.{◌≡◌, ◌+◌, ◌≤◌, length}
use Rattle.script_text.specs.Pieces.{lines}
use Rattle.pairs_mode.specs.Run.{texts_played, run_of}
use Rattle.pairs_mode.proofs.play.run_of.Given as goal

abbrev pub invariant-loop-rest : goal.invariant-loop-rest
invariant-loop-rest l = record {
  -- what is left goes, from the run so far on, where the whole text goes
  played : texts_played l.player l.before (lines l.rest) ≡ run_of l.fn.text;
  -- each line that was read took a byte at least
  within : l.before + length l.rest ≤ length l.fn.text;
}

abbrev pub decreases-loop-rest : goal.decreases-loop-rest
decreases-loop-rest l = length l.rest
