use Rattle.std.proofs.Common.{◌≡◌, length}
use Rattle.buffers_mode.specs.Run.{after_released_run}
use Rattle.buffers_mode.proofs.TellLemmas.{left_released}
use Rattle.buffers_mode.proofs.player.Player.release.Given as goal

abbrev pub invariant-loop-b : goal.invariant-loop-b
invariant-loop-b l = record {
  left : left_released l.self l.b ≡ after_released_run l.fn.self;
  count : length l.self.buffers ≡ 16;
  ends : l.b-end ≡ 16;
}
