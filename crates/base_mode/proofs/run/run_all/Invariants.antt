-- What is left to run goes, from the run so far on, where all lines go.
use Rattle.std.proofs.Common.{◌≡◌, drop}
use Rattle.base_mode.specs.Turned.{all_run}
use Rattle.base_mode.proofs.run.run_all.Given as goal

abbrev pub invariant-loop-line : goal.invariant-loop-line
invariant-loop-line l = all_run l.run (drop l.line-index l.lines) ≡ all_run l.fn.run l.lines
