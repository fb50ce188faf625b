-- How a run keeps its halves.
use Rattle.pairs_mode.specs.declared.player.Player.TheInside.{Inside}
use Rattle.pairs_mode.specs.Pair.{shown}
use Rattle.pairs_mode.specs.Run.{Run}

abbrev pub run_shown : Inside → Run
run_shown player = record { a = shown player.a; b = shown player.b; text = player.text.items }
