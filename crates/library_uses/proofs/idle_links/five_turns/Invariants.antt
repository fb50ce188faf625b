use Rattle.library_uses.specs.Turning.{MayTurn}
use Rattle.library_uses.proofs.idle_links.five_turns.Given as goal

abbrev pub invariant-loop : goal.invariant-loop
invariant-loop g l = MayTurn l.drive l.seats.hooks.items l.seats.gone.items
