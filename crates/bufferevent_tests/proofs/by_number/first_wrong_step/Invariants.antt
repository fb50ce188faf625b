use Rattle.std.proofs.Common.{◌≡◌, false}
use Rattle.bufferevent_tests.proofs.by_number.first_wrong_step.Given as goal

abbrev pub invariant-loop-place : goal.invariant-loop-place
invariant-loop-place l = l.world.chunked ≡ false
