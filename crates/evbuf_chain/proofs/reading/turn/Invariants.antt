use Rattle.std.proofs.Common.{◌≡◌, ◌++◌, length, reverse}
use Rattle.evbuf_chain.specs.Buffered.{joined}
use Rattle.evbuf_chain.proofs.reading.turn.Given as goal

abbrev pub invariant-loop-bytes : goal.invariant-loop-bytes
invariant-loop-bytes l =
    joined l.slices.items ++ joined (reverse l.turned.items) ≡ joined l.fn.slices.items ++ joined (reverse l.fn.turned.items)

abbrev pub decreases-loop-bytes : goal.decreases-loop-bytes
decreases-loop-bytes l = length l.turned.items
