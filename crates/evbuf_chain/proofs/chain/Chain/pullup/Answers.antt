use Rattle.std.proofs.Common.{◌≡◌, ◌≤◌, ◌+◌, ◌⊎◌, length, take, refl, ap, sym, ◌∙◌, subst, inl, inr, arith, length-take, length-append}
use Rattle.std.proofs.lemmas.List.{take-append-le}
use Rattle.evbuf_chain.specs.Mark.{unmarked}
use Rattle.evbuf_chain.specs.ChainView.{buffered}
use Rattle.evbuf_chain.specs.Buffered.{Buffered, IsPulledUp}
use Rattle.evbuf_chain.proofs.MarkLemmas.{length-unmarked}
use Rattle.evbuf_chain.proofs.PullupLemmas.{is-pulled_up, front-own, IsPulledUp-pulled}
use Rattle.evbuf_chain.proofs.chain.Chain.pullup.Goals as goal
use Rattle.evbuf_chain.proofs.chain.Chain.pullup.Goals.{then-n-eq0-via-then-n-eq0, then-n-eq0-via-else-n-eq0+then-len-eq0}

pub returns-then-n-eq0 : goal.returns-then-n-eq0
returns-then-n-eq0 c =
    let inside = c.self.inside in
    let n = c.args.n in
    let there : n ≤ length c.args.self.now.bytes =
    omega (arith, c.if-n-len.false, c.len.ensures.len, ap (λ v. length v.bytes) c.self.view_is) in
    let size : length c.args.self.now.bytes ≡ length inside.chunks.bytes + length inside.own.items =
    ap (λ v. length v.bytes) (sym c.self.view_is) ∙ length-append inside.chunks.bytes inside.own.items in
    let marked : length inside.chunks.marks ≡ length inside.chunks.bytes =
    omega (
      arith,
      c.len.ensures.marked,
      length-append inside.chunks.bytes inside.own.items,
      length-append inside.chunks.marks (unmarked (length inside.own.items)),
      length-unmarked (length inside.own.items),
    ) in
    let already : (n ≡ 0) ⊎ (length inside.chunks.bytes ≡ 0) = elim c.then-n-eq0.branch [
      | then-n-eq0-via-then-n-eq0 w ↦ inl (omega (arith, w.if-n-eq0.true))
      | then-n-eq0-via-else-n-eq0+then-len-eq0 w ↦ inr (omega (arith, w.if-len-eq0.true, w.len-else-n-eq0.ensures.len))
    ] in
    let P : Buffered → Type 0 = λ v. IsPulledUp v n (buffered inside) in
    let so = subst P c.self.view_is (is-pulled_up inside n already marked (omega (arith, there, size))) in
    let seen : c.first.result.now ≡ take n c.args.self.now.bytes =
    c.first.ensures ∙ ap (λ bs. take n bs) c.as_slice.ensures ∙ front-own inside.chunks.bytes inside.own.items n already
    ∙ ap (λ v. take n v.bytes) c.self.view_is in
    ((refl, (λ _. tt), so), record { answer = refl; front = (there, seen); after = tt })

pub returns : goal.returns
returns c =
    let inside = c.self.inside in
    let n = c.args.n in
    let there : n ≤ length c.args.self.now.bytes =
    omega (arith, c.if-n-len.false, c.len.ensures.len, ap (λ v. length v.bytes) c.self.view_is) in
    let P : Buffered → Type 0 = λ v.
    IsPulledUp v n (buffered (record { own = c.pull.new.own; chunks = c.pull.new.chunks; ended = c.pull.new.ended })) in
    let so = subst P c.self.view_is
    (IsPulledUp-pulled inside (record { own = c.pull.new.own; chunks = c.pull.new.chunks; ended = c.pull.new.ended }) n
    c.in_ok-pull.ensures.pulled) in
    let within : n ≤ length c.pull.new.chunks.bytes =
    omega (arith, ap length c.first-2.ensures.bytes, length-take n c.pull.new.chunks.bytes, c.first-2.ensures.len) in
    let seen : c.first-2.result.now ≡ take n c.args.self.now.bytes =
    c.first-2.ensures.bytes
    ∙ sym (take-append-le n c.pull.new.chunks.bytes c.pull.new.own.items within)
    ∙ ap (λ bs. take n bs) c.in_ok-pull.ensures.pulled.bytes
    ∙ ap (λ v. take n v.bytes) c.self.view_is in
    ((refl, (λ _. tt), so), record { answer = refl; front = (there, seen); after = tt })
