use Rattle.std.proofs.Common.{ap, ◌∙◌, arith}
use Rattle.evbuf_chain.specs.ChunkValue.{chunk_bytes}
use Rattle.evbuf_chain.specs.Covered.{covered}
use Rattle.evbuf_chain.proofs.CoveredLemmas.{Forward-next, Forward-past}
use Rattle.evbuf_chain.proofs.reading.copy_forward.Goals as goal

pub loop-place-preserved : goal.loop-place-preserved
loop-place-preserved c =
    Forward-next (chunk_bytes c.args.stack.now) c.loop-place.place (chunk_bytes c.loop-place.at.now) c.args.from c.args.window.now
    c.loop-place.window c.copy_part.new.window c.in-Some.node.now.chunk.bytes (chunk_bytes c.in-Some.node.now.below) c.len-place.result
    c.loop-place.invariant (ap chunk_bytes c.in-Some.ensures.some) c.len-place.ensures.len
    (c.copy_part.ensures ∙ ap (λ bs. covered c.loop-place.place bs c.args.from c.loop-place.window) c.as_slice.ensures)

pub returns-clause-copied : goal.returns-clause-copied
returns-clause-copied c =
    Forward-past (chunk_bytes c.args.stack.now) c.loop-place.place (chunk_bytes c.loop-place.at.now) c.args.from c.args.window.now
    c.loop-place.window c.loop-place.invariant (omega (arith, c.loop-place-test.false, c.loop-place.auto.window))
