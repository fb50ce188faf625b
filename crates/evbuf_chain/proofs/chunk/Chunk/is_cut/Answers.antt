use Rattle.std.proofs.Common.{◌≡◌, ◌<◌, length, take, subst, []}
use Rattle.evbuf_chain.specs.Mark.{ended_tickets, uncut_marks, unmarked}
use Rattle.evbuf_chain.specs.ChunkValue.{ChunkValue}
use Rattle.evbuf_chain.proofs.ChunkFacts.{chunk_value-marked, chunk_value-no_end, chunk_value-no_mark}
use Rattle.evbuf_chain.proofs.chunk.Chunk.is_cut.Goals as goal

pub returns-in-Own-clause-no_end : goal.returns-in-Own-clause-no_end
returns-in-Own-clause-no_end c =
    let P : ChunkValue → Type 0 = λ p. c.args.n < length p.bytes → ended_tickets (take c.args.n p.marks) ≡ [] in
    subst P c.self.view_is (chunk_value-no_end c.self.inside.held c.args.n)

pub returns-in-Own-clause-no_mark : goal.returns-in-Own-clause-no_mark
returns-in-Own-clause-no_mark c =
    let P : ChunkValue → Type 0 = λ p. c.args.n < length p.bytes → uncut_marks (take c.args.n p.marks) ≡ unmarked c.args.n in
    subst P c.self.view_is (chunk_value-no_mark c.self.inside.held c.args.n)

pub returns-in-Shared-clause-no_end : goal.returns-in-Shared-clause-no_end
returns-in-Shared-clause-no_end c =
    let P : ChunkValue → Type 0 = λ p. c.args.n < length p.bytes → ended_tickets (take c.args.n p.marks) ≡ [] in
    subst P c.self.view_is (chunk_value-no_end c.self.inside.held c.args.n)

pub returns-in-Shared-clause-no_mark : goal.returns-in-Shared-clause-no_mark
returns-in-Shared-clause-no_mark c =
    let P : ChunkValue → Type 0 = λ p. c.args.n < length p.bytes → uncut_marks (take c.args.n p.marks) ≡ unmarked c.args.n in
    subst P c.self.view_is (chunk_value-no_mark c.self.inside.held c.args.n)

pub returns-in-Shared-clause-marked : goal.returns-in-Shared-clause-marked
returns-in-Shared-clause-marked c =
    let P : ChunkValue → Type 0 = λ p. length p.marks ≡ length p.bytes in subst P c.self.view_is (chunk_value-marked c.self.inside.held)
