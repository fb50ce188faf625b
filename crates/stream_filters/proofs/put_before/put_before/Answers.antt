use Rattle.std.proofs.Common.{◌≢◌, ◌∙◌, ap, subst, take, arith, All}
use Rattle.std.proofs.lemmas.List.{take-take}
use Rattle.stream_filters.proofs.put_before.put_before.Goals as goal

pub put-requires : goal.put-requires
put-requires c =
    let count = c.all_before-count.result in
    let before = c.all_before-count.ensures in
    let front = c.split_at.ensures.front_len in
    let cut = c.split_at-2.ensures.front_len in
    let within = before.within in
    let same = ap (take count) c.split_at.ensures.front ∙ take-take count c.min.result c.args.src.now (omega (arith, within, front)) in
    let room = c.requires.room count (omega (arith, within, front)) (omega (arith, within, front))
    (subst (All (λ x. x ≢ c.args.stop)) same before.others) in
    omega (arith, room, cut)
