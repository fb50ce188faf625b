use Rattle.std.proofs.Common.{◌≡◌, length, subst}
use Rattle.evbuf_chain.specs.Mark.{AreWhole}
use Rattle.evbuf_chain.specs.ChunkValue.{ChunkValue}
use Rattle.evbuf_chain.proofs.ChunkFacts.{chunk_value-marked, chunk_value-whole}
use Rattle.evbuf_chain.proofs.chunk.Chunk.len.Goals as goal

pub returns-in-Own-clause-whole : goal.returns-in-Own-clause-whole
returns-in-Own-clause-whole c = let P : ChunkValue → Type 0 =
    λ p. AreWhole p.marks in subst P c.self.view_is (chunk_value-whole c.self.inside.held)

pub returns-in-Shared-clause-marked : goal.returns-in-Shared-clause-marked
returns-in-Shared-clause-marked c =
    let P : ChunkValue → Type 0 = λ p. length p.marks ≡ length p.bytes in subst P c.self.view_is (chunk_value-marked c.self.inside.held)

pub returns-in-Shared-clause-whole : goal.returns-in-Shared-clause-whole
returns-in-Shared-clause-whole c =
    let P : ChunkValue → Type 0 = λ p. AreWhole p.marks in subst P c.self.view_is (chunk_value-whole c.self.inside.held)
