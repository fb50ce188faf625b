use Rattle.std.proofs.Common.{ap, sym, ◌∙◌}
use Rattle.evbuf_chain.specs.Mark.{ended_tickets}
use Rattle.evbuf_chain.proofs.ChunkFacts.{own-last, shared-last}
use Rattle.evbuf_chain.proofs.chunk.Chunk.last_ticket.Goals as goal

pub returns-in-Own-clause-none : goal.returns-in-Own-clause-none
returns-in-Own-clause-none c =
    ap (λ p. ended_tickets p.marks) (sym c.self.view_is) ∙ own-last c.self.inside.held c.in-Own.field-0 c.in-Own.is

pub returns-in-Shared-clause-some : goal.returns-in-Shared-clause-some
returns-in-Shared-clause-some c =
    ap (λ p. ended_tickets p.marks) (sym c.self.view_is) ∙ shared-last c.self.inside.held c.in-Shared.reference c.in-Shared.is
