use Rattle.std.proofs.Common.{◌≡◌, ◌<◌, ◌≤◌, ◌-◌, ◌++◌, ℕ, false, true, length, ap, sym, ◌∙◌, refl, subst, arith, length-append}
use Rattle.evbuf_chain.specs.Mark.{unmarked, AreWhole}
use Rattle.evbuf_chain.specs.declared.stack.Node.{Node}
use Rattle.std.proofs.Common.{min}
use Rattle.evbuf_chain.specs.Leaving.{MovesWhole}
use Rattle.evbuf_chain.proofs.DrainLemmas.{MovesWhole-whole, ended-cut, uncut-cut}
use Rattle.evbuf_chain.proofs.moves.move_whole.Goals as goal

pub push_front-requires : goal.push_front-requires
push_front-requires c =
    omega (
      arith,
      ap length c.in-Some.ensures.bytes,
      length-append c.in-Some.node.value.chunk.bytes c.pop_front.new.self.bytes,
      ap length c.loop-left.invariant.all,
      length-append c.loop-left.moved.bytes c.loop-left.chunks.bytes,
      length-append c.args.moved.now.bytes c.args.chunks.now.bytes,
      c.requires,
    )

pub push_back-requires : goal.push_back-requires
push_back-requires c =
    omega (
      arith,
      ap length c.in-Some.ensures.bytes,
      length-append c.in-Some.node.value.chunk.bytes c.pop_front.new.self.bytes,
      ap length c.loop-left.invariant.all,
      length-append c.loop-left.moved.bytes c.loop-left.chunks.bytes,
      length-append c.args.moved.now.bytes c.args.chunks.now.bytes,
      c.requires,
    )

pub loop-left-preserved : goal.loop-left-preserved
loop-left-preserved c =
    let p = c.in-Some.node.value.chunk in
    let M : Node → Type 0 = λ node. length node.chunk.marks ≡ length node.chunk.bytes in
    let marked : length p.marks ≡ length p.bytes = subst M c.deref.ensures c.is_cut.ensures.marked in
    let long : (c.loop-left.left < length c.deref.result.now.chunk.bytes) → ⊥ =
    λ cut. let no : false ≡ true = c.if-is_cut.ensures.cut.1 cut in cc in
    let within : length p.bytes ≤ c.loop-left.left = omega (arith, long, ap (λ node. length node.chunk.bytes) c.deref.ensures) in
    let k : c.len-left.result ≡ length p.bytes = c.len-left.ensures.len
    ∙ ap (λ node. length node.chunk.bytes) c.deref-in-loop-left.ensures in
    let W : Node → Type 0 = λ node. AreWhole node.chunk.marks in
    let P : ℕ → Type 0 = λ j. MovesWhole c.args.chunks.now c.args.moved.now c.args.n (c.loop-left.left - j) c.pop_front.new.self
    c.push_back.new.self in
    subst P (sym k)
    (MovesWhole-whole c.args.chunks.now c.args.moved.now c.args.n c.loop-left.left c.loop-left.chunks c.loop-left.moved p.bytes p.marks
    c.pop_front.new.self c.push_back.new.self c.loop-left.invariant c.in-Some.ensures.bytes c.in-Some.ensures.marks marked within
    (subst W c.deref-in-loop-left.ensures c.len-left.ensures.whole) c.push_back.ensures.bytes c.push_back.ensures.marks)

pub returns-then-is_cut-clause-no_end : goal.returns-then-is_cut-clause-no_end
returns-then-is_cut-clause-no_end c =
    let cut = c.if-is_cut.ensures.cut.0 refl in
    ended-cut c.loop-left.left c.deref.result.now.chunk.marks c.pop_front.new.self.marks c.push_front.new.self.marks
    (c.push_front.ensures.marks ∙ ap (λ node. node.chunk.marks ++ c.pop_front.new.self.marks) (sym c.deref.ensures))
    (omega (arith, cut, c.is_cut.ensures.marked)) (c.is_cut.ensures.no_end cut)

pub returns-then-is_cut-clause-no_mark : goal.returns-then-is_cut-clause-no_mark
returns-then-is_cut-clause-no_mark c =
    let cut = c.if-is_cut.ensures.cut.0 refl in
    let least : c.loop-left.left ≡ min c.loop-left.left (length c.push_front.new.self.bytes) =
    omega (
      arith,
      cut,
      ap length c.push_front.ensures.bytes,
      ap (λ node. length node.chunk.bytes) c.deref.ensures,
      length-append c.in-Some.node.value.chunk.bytes c.pop_front.new.self.bytes,
    ) in
    uncut-cut c.loop-left.left c.deref.result.now.chunk.marks c.pop_front.new.self.marks c.push_front.new.self.marks
    (c.push_front.ensures.marks ∙ ap (λ node. node.chunk.marks ++ c.pop_front.new.self.marks) (sym c.deref.ensures))
    (omega (arith, cut, c.is_cut.ensures.marked)) (c.is_cut.ensures.no_mark cut)
    ∙ ap unmarked least
