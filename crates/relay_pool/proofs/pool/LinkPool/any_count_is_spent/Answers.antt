use Rattle.std.proofs.Common.{sym, ◌∙◌, arith}
use Rattle.relay_sides.proofs.ReaderLemmas.{far_here, far_none, none_more}
use Rattle.relay_pool.proofs.pool.LinkPool.any_count_is_spent.Goals as goal

pub returns-then-has_spent_count : goal.returns-then-has_spent_count
returns-then-has_spent_count c =
    let v = c.args.self.now in
    sym (far_here v.links c.opened-link-end.ensures.pairs c.loop-link.link (omega (
      arith,
      c.opened-link-end.ensures.count,
      c.loop-link-test.true,
    ))
    (sym c.has_spent_count.ensures ∙ c.if-has_spent_count.true))

pub loop-link-preserved : goal.loop-link-preserved
loop-link-preserved c =
    none_more c.args.self.now.links c.loop-link.link c.loop-link.invariant (sym c.has_spent_count.ensures ∙ c.if-has_spent_count.false)

pub returns : goal.returns
returns c =
    let v = c.args.self.now in
    sym (far_none v.links c.opened-link-end.ensures.pairs
    (λ n h. c.loop-link.invariant n (omega (arith, h, c.opened-link-end.ensures.count, c.loop-link-test.false))))
