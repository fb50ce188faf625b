use Rattle.std.proofs.Common.{◌≡◌, ◌∙◌, ap, ap₂, ◌-◌, ◌++◌, true, take, replicate, None, is_ok, vec_len, length, arith}
use Rattle.std.proofs.lemmas.Bool.{cond-true}
use Rattle.next_moments.proofs.TreeLemmas.{resized_tree}
use Rattle.next_moments.proofs.moments.Moments.lengthen.Goals as goal

pub invariant_of-self-2 : goal.invariant_of-self-2
invariant_of-self-2 c =
    let moments = c.self.inside.moments in
    let firsts = c.self.inside.firsts in
    let shorter = c.if-len-old.false in
    let old = c.len-old.ensures in
    let is_count : vec_len moments ≡ length moments.items = moments.ok.0 in
    let made : is_ok c.resize-2.result ≡ true = ap is_ok c.unwrap.ensures in
    resized_tree moments.items c.resize-2.new.self.items firsts.items c.resize.new.self.items c.args.len c.self.invariant
    (omega (arith, shorter, old, is_count))
    (c.resize-2.ensures.items ∙ cond-true (is_ok c.resize-2.result) _ _ made
    ∙ ap₂ (λ xs n. take c.args.len xs ++ replicate (c.args.len - n) None) c.reserve.ensures.items (c.in_ok-reserve.ensures.len ∙ is_count))
    (c.in_ok-resize.ensures.items
    ∙ ap (λ n. take c.args.len firsts.items ++ replicate (c.args.len - n) None) firsts.ok.0)
