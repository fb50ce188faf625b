-- How a chain keeps what it shows.
use Rattle.std.specs.Prelude.{◌+◌, ◌^◌, ◌<◌, ◌++◌, length}
use Rattle.evbuf_chain.specs.Mark.{unmarked}
use Rattle.evbuf_chain.specs.ChunkValue.{tickets_of}
use Rattle.evbuf_chain.specs.Buffered.{Buffered}
use Rattle.evbuf_chain.specs.declared.chain.Chain.TheInside.{Inside}

-- the bytes of the chunks, with their marks, and behind them own bytes without one
abbrev pub buffered : Inside → Buffered
buffered chain = record {
  bytes = chain.chunks.bytes ++ chain.own.items;
  marks = chain.chunks.marks ++ unmarked (length chain.own.items);
  spare = chain.own.spare;
  released = tickets_of chain.ended;
}

-- the length and what is spare fit a usize together
abbrev pub IsChain : Inside → Type 0
IsChain chain = length chain.chunks.bytes + length chain.own.items + chain.own.spare < 2 ^ 64
