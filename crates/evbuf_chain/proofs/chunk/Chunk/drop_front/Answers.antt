use Rattle.std.proofs.Common.{◌≡◌, length, ap, sym, ◌∙◌, drop, arith}
use Rattle.evbuf_chain.specs.ChunkViews.{chunk_value}
use Rattle.evbuf_chain.proofs.ChunkFacts.{own-dropped, shared-dropped}
use Rattle.evbuf_chain.proofs.chunk.Chunk.drop_front.Goals as goal
use Rattle.evbuf_chain.proofs.chunk.Chunk.drop_front.Goals.{in-Own, in-Shared, in-Ended}

pub returns-clause-marks : goal.returns-clause-marks
returns-clause-marks c = elim c.match-self.branch [
  | in-Own w ↦
      ap (λ i. (chunk_value i.held).marks) w.self-inside-is
      ∙ own-dropped w.in-Own.bytes w.drop_front.new.self c.args.n w.drop_front.ensures.items
      ∙ ap (λ h. drop c.args.n (chunk_value h).marks) (sym w.in-Own.is)
      ∙ ap (λ p. drop c.args.n p.marks) c.self.view_is
  | in-Shared w ↦
      ap (λ i. (chunk_value i.held).marks) w.self-inside-is
      ∙ shared-dropped w.in-Shared.reference c.args.n
      ∙ ap (λ h. drop c.args.n (chunk_value h).marks) (sym w.in-Shared.is)
      ∙ ap (λ p. drop c.args.n p.marks) c.self.view_is
  | in-Ended w ↦
      let none : length c.args.self.now.bytes ≡ 0 =
      ap (λ p. length p.bytes) (sym c.self.view_is) ∙ ap (λ h. length (chunk_value h).bytes) w.in-Ended.is in
      absurd (omega (arith, c.requires, none))
]
