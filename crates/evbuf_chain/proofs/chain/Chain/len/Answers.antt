use Rattle.std.proofs.Common.{length, subst}
use Rattle.evbuf_chain.specs.Mark.{AreWhole, unmarked}
use Rattle.evbuf_chain.specs.Buffered.{Buffered}
use Rattle.evbuf_chain.proofs.ChunkLemmas.{AreWhole-append}
use Rattle.evbuf_chain.proofs.ChunkFacts.{AreWhole-own}
use Rattle.evbuf_chain.proofs.chain.Chain.len.Goals as goal

pub returns-clause-whole : goal.returns-clause-whole
returns-clause-whole c =
    let count = length c.self.inside.own.items in
    let P : Buffered → Type 0 = λ v. AreWhole v.marks in
    subst P c.self.view_is (AreWhole-append c.self.inside.chunks.marks (unmarked count) c.len.ensures.whole (AreWhole-own count))
