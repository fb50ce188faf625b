use Rattle.std.proofs.Common.{◌≡◌}
use Rattle.bufferevent_tests.proofs.bufferevents.first_wrong.Given as goal

abbrev pub invariant-loop-place : goal.invariant-loop-place
invariant-loop-place l = l.from.chunked ≡ l.to.chunked
