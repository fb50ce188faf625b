-- How chunks keep how many bytes they have.
use Rattle.std.specs.Prelude.{◌≡◌, length}
use Rattle.evbuf_chain.specs.Mark.{AreWhole}
use Rattle.evbuf_chain.specs.ChunkValue.{chunk_bytes, chunk_marks}
use Rattle.evbuf_chain.specs.declared.chunks.Chunks.TheInside.{Inside}

-- The number is that of their bytes, each of which has a mark or none, and behind each marked byte stands all the rest of its reference.
pub record IsChunks (p : Inside) : Type 0 where
  pub len : p.len ≡ length (chunk_bytes p.queue)
  pub marked : length (chunk_marks p.queue) ≡ length (chunk_bytes p.queue)
  pub whole : AreWhole (chunk_marks p.queue)
