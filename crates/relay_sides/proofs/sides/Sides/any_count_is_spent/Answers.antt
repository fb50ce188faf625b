use Rattle.std.proofs.Common.{◌≡◌, ap, sym, ◌∙◌, arith}
use Rattle.relay_sides.specs.SidesValue.{SidesValue}
use Rattle.relay_sides.proofs.SidesLemmas.{pairs_seen}
use Rattle.relay_sides.proofs.ReaderLemmas.{far_here, far_none, none_more}
use Rattle.relay_sides.proofs.sides.Sides.any_count_is_spent.Goals as goal

pub returns-then-has_spent_count : goal.returns-then-has_spent_count
returns-then-has_spent_count c =
    let v = c.args.self.now in
    let same : c.self.inside.opened ≡ v.links.opened = ap (λ (z : SidesValue). z.links.opened) c.self.view_is in
    sym (far_here v.links (pairs_seen v c.self.inside c.self.view_is) c.loop-link.link (omega (arith, same, c.loop-link-test.true))
    (sym c.has_spent_count.ensures ∙ c.if-has_spent_count.true))

pub loop-link-preserved : goal.loop-link-preserved
loop-link-preserved c =
    none_more c.args.self.now.links c.loop-link.link c.loop-link.invariant (sym c.has_spent_count.ensures ∙ c.if-has_spent_count.false)

pub returns : goal.returns
returns c =
    let v = c.args.self.now in
    let same : c.self.inside.opened ≡ v.links.opened = ap (λ (z : SidesValue). z.links.opened) c.self.view_is in
    sym (far_none v.links (pairs_seen v c.self.inside c.self.view_is)
    (λ n h. c.loop-link.invariant n (omega (arith, h, same, c.loop-link-test.false))))
