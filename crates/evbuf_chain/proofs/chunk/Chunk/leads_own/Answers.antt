use Rattle.std.proofs.Common.{◌≡◌, length, take, true, false, leb, ap, sym, ◌∙◌, subst, inl, inr}
use Rattle.std.proofs.lemmas.Bool.Decides.{leb_tells}
use Rattle.evbuf_chain.specs.ChunkValue.{ChunkValue}
use Rattle.evbuf_chain.specs.ChunkViews.{chunk_value}
use Rattle.evbuf_chain.proofs.ChunkFacts.{chunk_value-marked, own-front}
use Rattle.evbuf_chain.proofs.chunk.Chunk.leads_own.Goals as goal

pub returns-in-Own-clause-own : goal.returns-in-Own-clause-own
returns-in-Own-clause-own c = λ yes. elim (leb_tells c.args.n (length c.in-Own.bytes.items)) [
  | inl within ↦
      ap (λ p. take c.args.n p.marks) (sym c.self.view_is)
      ∙ ap (λ h. take c.args.n (chunk_value h).marks) c.in-Own.is
      ∙ own-front c.in-Own.bytes c.args.n within.1
  | inr past ↦ let no : false ≡ true = sym past.0 ∙ ap (λ k. leb c.args.n k) (sym c.len.ensures.len) ∙ yes in cc
]

pub returns-in-Shared-clause-marked : goal.returns-in-Shared-clause-marked
returns-in-Shared-clause-marked c =
    let P : ChunkValue → Type 0 = λ p. length p.marks ≡ length p.bytes in subst P c.self.view_is (chunk_value-marked c.self.inside.held)
