use Rattle.std.proofs.Common.{◌≡◌, ◌++◌, drop}
use Rattle.evplay.specs.HandedIn.{lines_at}
use Rattle.evplay.proofs.hooks.lines_for.Given as goal

abbrev pub invariant-loop-side : goal.invariant-loop-side
invariant-loop-side l = l.lines.items ++ lines_at (drop l.side-index l.plans) l.number ≡ lines_at l.plans l.number
