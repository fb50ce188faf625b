use Rattle.library_uses.specs.Turning.{MayTurn}
use Rattle.library_uses.proofs.limited_links.five_turns.Given as goal

abbrev pub invariant-loop-turn : goal.invariant-loop-turn
invariant-loop-turn g l = MayTurn l.drive l.seats.hooks.items l.seats.gone.items
