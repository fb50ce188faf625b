use Rattle.std.proofs.Common.{◌<◌, ◌∙◌, slice_set, arith}
use Rattle.std.proofs.lemmas.List.{set_comm}
use Rattle.bev_world.specs.ByNumber.{output_swapped, input_swapped}
use Rattle.bev_world.proofs.FiltersLemmas.{read-front, read-back, both-set}
use Rattle.bev_world.proofs.world.by_number.swap_slots.Goals as goal

pub returns-then-from-to : goal.returns-then-from-to
returns-then-from-to c =
    let xs = c.args.slots.now in
    let f = c.split_at_mut-front.result.0.now in
    let b = c.split_at_mut-front.result.1.now in
    let parts = c.split_at_mut-front.ensures.value in
    let long = c.split_at_mut-front.ensures.front_len in
    let before = c.if-from-to.true in
    let x = read-front xs f b c.args.from c.index-front-from.result parts (omega (arith, long, before)) in
    let y = read-back xs f b c.args.to c.index-back-0.result parts long c.requires.to_there in
    both-set xs f b c.args.to c.args.from c.swap_between.new.from c.swap_between.new.to parts long before
    ∙ set_comm xs c.args.from c.args.to c.swap_between.new.from c.swap_between.new.to c.requires.apart
    ∙ (let i_is = c.swap_between.ensures.input in let o_is = c.swap_between.ensures.output in
    λ i. slice_set (slice_set xs c.args.to (o_is i)) c.args.from (i_is i))
    ∙ (λ i. slice_set (slice_set xs c.args.to (output_swapped (x i) (y i))) c.args.from (input_swapped (x i) (y i)))

pub returns-else-from-to : goal.returns-else-from-to
returns-else-from-to c =
    let xs = c.args.slots.now in
    let f = c.split_at_mut-front-else-from-to.result.0.now in
    let b = c.split_at_mut-front-else-from-to.result.1.now in
    let parts = c.split_at_mut-front-else-from-to.ensures.value in
    let long = c.split_at_mut-front-else-from-to.ensures.front_len in
    let before : c.args.to < c.args.from = omega (arith, c.if-from-to.false, c.requires.apart) in
    let x = read-back xs f b c.args.from c.index-back-0-else-from-to.result parts long c.requires.there in
    let y = read-front xs f b c.args.to c.index-front-to.result parts (omega (arith, long, before)) in
    both-set xs f b c.args.from c.args.to c.swap_between-else-from-to.new.to c.swap_between-else-from-to.new.from parts long before
    ∙ (let i_is = c.swap_between-else-from-to.ensures.input in let o_is = c.swap_between-else-from-to.ensures.output in
    λ i. slice_set (slice_set xs c.args.to (o_is i)) c.args.from (i_is i))
    ∙ (λ i. slice_set (slice_set xs c.args.to (output_swapped (x i) (y i))) c.args.from (input_swapped (x i) (y i)))
