use Rattle.std.proofs.Common.{◌≡◌, replicate}
use Rattle.evbuf.specs.Steps.{new_buffer}
use Rattle.evbuf.proofs.buffers.Buffers.new.Given as goal

abbrev pub invariant-loop : goal.invariant-loop
invariant-loop l = l.items.items ≡ replicate l.counter new_buffer
