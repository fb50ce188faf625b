use Rattle.std.proofs.Common.{◌≤◌, ◌++◌, length, take, ap, ◌∙◌, arith, length-append}
use Rattle.std.proofs.lemmas.List.{length-drop, length-take-le}
use Rattle.evbuf_chain.specs.Mark.{unmarked}
use Rattle.evbuf_chain.specs.ChunkValue.{all_bytes}
use Rattle.evbuf_chain.proofs.ChainLemmas.{marks-behind}
use Rattle.evbuf_chain.proofs.chain.Chain.pour.Goals as goal

pub invariant_of-self : goal.invariant_of-self
invariant_of-self c =
    omega (
      arith,
      ap length c.take.ensures.bytes,
      length-append c.take.new.chunks.bytes c.take.new.own.items,
      length-drop c.args.n (all_bytes c.self.inside.chunks c.self.inside.own),
      length-append c.self.inside.chunks.bytes c.self.inside.own.items,
      c.take.ensures.spare,
      c.self.invariant,
    )

pub returns-clause-to_marks : goal.returns-clause-to_marks
returns-clause-to_marks c =
    let from = all_bytes c.self.inside.chunks c.self.inside.own in
    let there : c.args.n ≤ length from = omega (arith, c.requires.there, ap (λ v. length v.bytes) c.self.view_is) in
    marks-behind c.to.inside.chunks.marks c.to.inside.own.items c.take.new.into.items (take c.args.n from) c.take.ensures.items
    ∙ ap (λ k. (c.to.inside.chunks.marks ++ unmarked (length c.to.inside.own.items)) ++ unmarked k) (length-take-le c.args.n from there)
    ∙ ap (λ v. v.marks ++ unmarked c.args.n) c.to.view_is
