-- How a run keeps its buffers.
use Rattle.std.specs.Prelude.{◌≡◌, length, map}
use Rattle.buffers_mode.specs.declared.player.Player.TheInside.{Inside}
use Rattle.buffers_mode.specs.Steps.{shown}
use Rattle.buffers_mode.specs.Run.{Run}

abbrev pub run_shown : Inside → Run
run_shown player = record { buffers = map shown player.buffers; deferred = player.deferred; text = player.text.items }

-- all sixteen buffers are there
abbrev pub HasAll : Inside → Type 0
HasAll player = length player.buffers ≡ 16
