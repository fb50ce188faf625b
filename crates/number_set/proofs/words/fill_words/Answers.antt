use Rattle.std.proofs.Common.{◌≡◌, ◌*◌, ◌-◌, min, nat_lt, arith, ◌∙◌, ap}
use Rattle.number_set.proofs.WordLemmas.{fill-numbers}
use Rattle.number_set.proofs.words.fill_words.Goals as goal

pub loop-at-preserved : goal.loop-at-preserved
loop-at-preserved c =
    let so_far = c.loop-at.invariant in
    let count : c.min.result ≡ min (c.args.len - 64 * c.loop-at.at) 64 = omega arith in (
      so_far.0,
      fill-numbers c.loop-at.words.items c.loop-at.at c.bits_below.result c.args.len (omega arith)
          (λ k. c.bits_below.ensures k ∙ ap (nat_lt k) count) so_far.1,
    )
