use Rattle.std.proofs.Common.{◌≡◌, ◌++◌, length}
use Rattle.buffers_mode.specs.Run.{released_lines}
use Rattle.buffers_mode.proofs.tell.tell_released.Given as goal

abbrev pub invariant-loop-ticket : goal.invariant-loop-ticket
invariant-loop-ticket l = record {
  -- what is written and what still waits
  text : l.into.items ++ released_lines l.buf.released ≡ l.fn.into.items ++ released_lines l.fn.buf.released;
  rest : l.buf ≡ record l.fn.buf { released = l.buf.released };
}

abbrev pub decreases-loop-ticket : goal.decreases-loop-ticket
decreases-loop-ticket l = length l.buf.released
