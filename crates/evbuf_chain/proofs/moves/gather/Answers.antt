use Rattle.std.proofs.Common.{◌≡◌, ◌<◌, ◌≤◌, ◌-◌, ◌++◌, ℕ, false, true, length, drop, take, ap, sym, ◌∙◌, refl, subst, arith}
use Rattle.std.proofs.Common.{length-append, length-drop}
use Rattle.evbuf_chain.specs.ChunkValue.{tickets_of}
use Rattle.evbuf_chain.specs.declared.stack.Node.{Node}
use Rattle.evbuf_chain.proofs.DrainLemmas.{Drains, Drains-whole, Drains-cut, copied-whole}
use Rattle.evbuf_chain.proofs.moves.gather.Goals as goal

pub push_front-requires : goal.push_front-requires
push_front-requires c =
    omega (
      arith,
      ap length c.drop_front.ensures.bytes,
      length-drop c.loop-left.left c.deref_mut.result.now.chunk.bytes,
      ap (λ node. length node.chunk.bytes) c.deref_mut.ensures.value,
      ap length c.in-Some.ensures.bytes,
      length-append c.in-Some.node.value.chunk.bytes c.pop_front.new.self.bytes,
      c.loop-left.invariant.drains.size,
      c.len-fits.ensures.fits,
    )

pub returns-then-is_cut-clause-drained : goal.returns-then-is_cut-clause-drained
returns-then-is_cut-clause-drained c =
    Drains-cut c.args.chunks.now (tickets_of c.args.ended.now) c.args.n c.loop-left.left c.loop-left.chunks (tickets_of c.loop-left.ended)
    c.deref.result.now.chunk.bytes c.deref.result.now.chunk.marks c.drop_front.new.self.bytes c.drop_front.new.self.marks
    c.pop_front.new.self c.push_front.new.self c.loop-left.invariant.drains
    (c.in-Some.ensures.bytes ∙ ap (λ node. node.chunk.bytes ++ c.pop_front.new.self.bytes) (sym c.deref.ensures))
    (c.in-Some.ensures.marks ∙ ap (λ node. node.chunk.marks ++ c.pop_front.new.self.marks) (sym c.deref.ensures))
    c.is_cut.ensures.marked
    (c.if-is_cut.ensures.cut.0 refl)
    (c.drop_front.ensures.bytes ∙ ap (λ node. drop c.loop-left.left node.chunk.bytes) (c.deref_mut.ensures.value ∙ sym c.deref.ensures))
    (c.drop_front.ensures.marks ∙ ap (λ node. drop c.loop-left.left node.chunk.marks) (c.deref_mut.ensures.value ∙ sym c.deref.ensures))
    (c.is_cut.ensures.no_end (c.if-is_cut.ensures.cut.0 refl))
    c.push_front.ensures.bytes
    c.push_front.ensures.marks

pub loop-left-preserved : goal.loop-left-preserved
loop-left-preserved c =
    let p = c.in-Some.node.value.chunk in
    let M : Node → Type 0 = λ node. length node.chunk.marks ≡ length node.chunk.bytes in
    let marked : length p.marks ≡ length p.bytes = subst M c.deref.ensures c.is_cut.ensures.marked in
    let long : (c.loop-left.left < length c.deref.result.now.chunk.bytes) → ⊥ =
    λ cut. let no : false ≡ true = c.if-is_cut.ensures.cut.1 cut in cc in
    let within : length p.bytes ≤ c.loop-left.left = omega (arith, long, ap (λ node. length node.chunk.bytes) c.deref.ensures) in
    let k : c.len-left.result ≡ length p.bytes = c.len-left.ensures.len
    ∙ ap (λ node. length node.chunk.bytes) c.deref-in-loop-left-2.ensures in
    let came : c.as_slice-in-loop-left.result.now ≡ p.bytes =
    c.as_slice-in-loop-left.ensures ∙ ap (λ node. node.chunk.bytes) c.deref-in-loop-left.ensures in
    let P : ℕ → Type 0 = λ j. Drains c.args.chunks.now (tickets_of c.args.ended.now) c.args.n (c.loop-left.left - j) c.pop_front.new.self
    (tickets_of c.release.new.ended) in
    record {
      drains = subst P (sym k) (Drains-whole c.args.chunks.now (tickets_of c.args.ended.now) c.args.n c.loop-left.left c.loop-left.chunks
          (tickets_of c.loop-left.ended) p.bytes p.marks c.pop_front.new.self (tickets_of c.release.new.ended) c.loop-left.invariant.drains
          c.in-Some.ensures.bytes c.in-Some.ensures.marks marked within c.release.ensures);
      into =
          ap (λ j. c.push-in-loop-left.new.self.items ++ take (c.loop-left.left - j) c.pop_front.new.self.bytes) k
          ∙ copied-whole c.args.into.now.items c.loop-left.into.items c.push-in-loop-left.new.self.items c.args.chunks.now.bytes
          c.loop-left.chunks.bytes p.bytes c.pop_front.new.self.bytes c.args.n c.loop-left.left c.loop-left.invariant.into
          c.in-Some.ensures.bytes within (c.push-in-loop-left.ensures.items ∙ ap (λ bs. c.loop-left.into.items ++ bs) came);
      room =
          omega (
            arith,
            c.loop-left.invariant.room,
            c.loop-left.invariant.within,
            c.push-in-loop-left.ensures.spare,
            ap length came,
            k,
            within,
            c.requires,
          );
      within = omega (arith, c.loop-left.invariant.within);
    }
