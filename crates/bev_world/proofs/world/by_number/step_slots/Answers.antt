use Rattle.std.proofs.Common.{◌+◌, ◌∙◌, length, arith}
use Rattle.bev_filter.specs.Passing.{stepping}
use Rattle.bev_world.specs.FilterSlots.{slots_crossing}
use Rattle.bev_world.proofs.FiltersLemmas.{split-set, read-front, read-back}
use Rattle.bev_world.proofs.world.by_number.step_slots.Goals as goal

pub returns-clause-slots : goal.returns-clause-slots
returns-clause-slots c =
    split-set c.args.slots.now c.split_at_mut-front.result.0.now c.split_at_mut-front.result.1.now c.args.at c.args.under
    c.step_between.new.lower c.step_between.new.upper c.split_at_mut-front.ensures.value c.split_at_mut-front.ensures.front_len
    c.requires.below c.requires.there

pub returns-clause-made : goal.returns-clause-made
returns-clause-made c =
    let long = c.split_at_mut-front.ensures.front_len in
    let below = c.requires.below in
    let x = read-front c.args.slots.now c.split_at_mut-front.result.0.now c.split_at_mut-front.result.1.now c.args.under
    c.index-front-under.result c.split_at_mut-front.ensures.value (omega (arith, long, below)) in
    let y = read-back c.args.slots.now c.split_at_mut-front.result.0.now c.split_at_mut-front.result.1.now c.args.at c.index-back-0.result
    c.split_at_mut-front.ensures.value long c.requires.there in
    c.step_between.ensures.made
    ∙ (λ i. c.args.made + length (stepping c.args.dir (slots_crossing c.args.dir (x i) (y i)) c.args.limit c.args.at_end).made)
