use Rattle.std.proofs.Common.{arith, take, drop, ◌-◌, length, ap, ◌∙◌}
use Rattle.byte_queue.proofs.QueueLemmas.{take-written, between}
use Rattle.byte_queue.proofs.byte_queue.pull_down.Goals as goal

pub returns-clause-items : goal.returns-clause-items
returns-clause-items c =
    let n = c.args.end - c.args.start in
    let is = c.copy_from_slice.ensures.after ∙ c.split_at.ensures.front ∙ ap (take n) (c.split_at_mut-front.ensures.back
    ∙ ap (drop c.args.start) c.as_mut_slice.ensures.value) ∙ between c.args.start c.args.end _ c.requires.within.0 in
    take-written n c.args.kept.now.len c.copy_from_slice.new.self c.split_at_mut-front-2.result.1.now c.split_at_mut-front.result.1.now _
    (ap length c.copy_from_slice.ensures.after ∙ c.split_at.ensures.front_len) (omega (arith, c.requires.within))
    ∙ is
