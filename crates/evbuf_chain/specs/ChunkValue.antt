-- What contracts see of the chunks of a chain.
use Rattle.std.specs.Prelude.{ℕ, ◌==◌, if◌then◌else◌, List, [], ◌∷◌, ◌++◌, length, flat_map}
use Rattle.evbuf_chain.specs.Mark.{Marks, unmarked}

-- the bytes of a chunk, the mark of each, and the ticket of a reference that has ended
pub record ChunkValue : Type 0 where
  pub bytes : List ℕ
  pub marks : Marks
  pub ended : List ℕ

-- the bytes of chunks, the mark of each, how many chunks there are, and how many bytes the first has
pub record Gathered : Type 0 where
  pub bytes : List ℕ
  pub marks : Marks
  pub count : ℕ
  pub run : ℕ

-- bytes behind all chunks, in memory of their own, and how many more fit behind them
pub record Owned : Type 0 where
  pub items : List ℕ
  pub spare : ℕ

-- the bytes of chunks, one after another
abbrev pub chunk_bytes : List ChunkValue → List ℕ
chunk_bytes chunks = flat_map (λ chunk. chunk.bytes) chunks

-- their marks
abbrev pub chunk_marks : List ChunkValue → Marks
chunk_marks chunks = flat_map (λ chunk. chunk.marks) chunks

-- the tickets of those that have ended
abbrev pub tickets_of : List ChunkValue → List ℕ
tickets_of chunks = flat_map (λ chunk. chunk.ended) chunks

-- the bytes of the first chunk, or of none
abbrev pub first_bytes : List ChunkValue → List ℕ
first_bytes [] = []
first_bytes (chunk ∷ chunks) = chunk.bytes

-- the chunks as one
abbrev pub gathered : List ChunkValue → Gathered
gathered chunks = record {
  bytes = chunk_bytes chunks;
  marks = chunk_marks chunks;
  count = length chunks;
  run = length (first_bytes chunks);
}

-- the bytes of chunks and of the own bytes behind them, and their marks
abbrev pub all_bytes : Gathered → Owned → List ℕ
all_bytes chunks own = chunks.bytes ++ own.items

abbrev pub all_marks : Gathered → Owned → Marks
all_marks chunks own = chunks.marks ++ unmarked (length own.items)

-- own bytes without a byte have no room
abbrev pub given_up_own : Owned → Owned
given_up_own own = if length own.items == 0 then record { items = []; spare = 0 } else own
