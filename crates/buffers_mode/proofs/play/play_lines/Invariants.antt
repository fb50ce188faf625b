use Rattle.std.proofs.Common.{◌≡◌, drop}
use Rattle.buffers_mode.specs.Run.{lines_played}
use Rattle.buffers_mode.proofs.play.play_lines.Given as goal

-- what is left to play goes, from the run so far on, where all lines go
abbrev pub invariant-loop-line : goal.invariant-loop-line
invariant-loop-line l = lines_played l.player (drop l.line-index l.lines) ≡ lines_played l.fn.player l.lines
