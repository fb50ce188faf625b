use Rattle.std.proofs.Common.{◌≡◌, ◌-◌, ◌++◌, length, take, ap, sym, ◌∙◌, arith, append-nil}
use Rattle.evbuf_chain.specs.Buffered.{joined}
use Rattle.evbuf_chain.proofs.EndLemmas.{take-append}
use Rattle.evbuf_chain.proofs.ShownLemmas.{joined-push}
use Rattle.evbuf_chain.proofs.chain.Chain.extents.Goals as goal
use Rattle.evbuf_chain.proofs.chain.Chain.extents.Goals.{then-left-gt0+in_ok-push, else-left-gt0}

pub returns-clause-bytes : goal.returns-clause-bytes
returns-clause-bytes c =
    let chunks = c.self.inside.chunks.bytes in
    let own = c.self.inside.own.items in
    let n = c.args.n in
    let shown : joined c.extents.new.slices.items ≡ take n chunks =
    c.in_ok-extents.ensures ∙ ap (λ ss. joined ss ++ take n chunks) c.new-slices.ensures.items in
    let left : c.saturating_sub-left.result ≡ n - length chunks =
    c.saturating_sub-left.ensures ∙ ap (λ k. n - k) c.len.ensures.len in
    let all = sym (take-append n chunks own) ∙ ap (λ v. take n v.bytes) c.self.view_is in
    elim c.if-left-gt0.branch [
      | then-left-gt0+in_ok-push w ↦
          ap (λ s. joined s.items) w.slices-is
          ∙ joined-push c.extents.new.slices.items w.push.new.self.items w.first.result w.in_ok-push.ensures.ok
          ∙ ap (λ bs. bs ++ w.first.result.now) shown
          ∙ ap (λ bs. take n chunks ++ bs)
          (w.first.ensures ∙ ap (λ bs. take c.saturating_sub-left.result bs) w.as_slice.ensures ∙ ap (λ k. take k own) left)
          ∙ all
      | else-left-gt0 w ↦
          let none : 0 ≡ n - length chunks = omega (arith, left, w.if-left-gt0.false) in
          ap (λ s. joined s.items) w.slices-is
          ∙ shown
          ∙ sym (append-nil (take n chunks))
          ∙ ap (λ k. take n chunks ++ take k own) none
          ∙ all
    ]
