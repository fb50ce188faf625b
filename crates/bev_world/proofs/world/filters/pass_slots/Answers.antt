use Rattle.std.proofs.Common.{◌≡◌}
use Rattle.bev_world.specs.FilterSlots.{StepMadeOr, slots_crossing}
use Rattle.bev_world.proofs.FiltersLemmas.{split-set, split-holds}
use Rattle.bev_world.proofs.world.filters.pass_slots.Goals as goal

pub returns-clause-slots : goal.returns-clause-slots
returns-clause-slots g c =
    split-set c.args.slots.now c.split_at_mut-front.result.0.now c.split_at_mut-front.result.1.now c.args.at c.args.under
    c.pass_between.new.lower c.pass_between.new.over c.split_at_mut-front.ensures.value c.split_at_mut-front.ensures.front_len
    c.requires.below c.requires.there

pub returns-clause-passed : goal.returns-clause-passed
returns-clause-passed g c =
    split-holds c.args.slots.now c.split_at_mut-front.result.0.now c.split_at_mut-front.result.1.now c.args.at c.args.under
    c.pass_between.new.lower c.pass_between.new.over c.split_at_mut-front.ensures.value c.split_at_mut-front.ensures.front_len
    c.requires.below c.requires.there
    (λ lower over new_lower new_over. StepMadeOr
    (g.P.Passage.passes c.args.dir c.args.limit c.args.mode c.args.passage.now c.pass_between.new.passage
    (slots_crossing c.args.dir lower over))
    (c.pass_between.new.passage ≡ c.args.passage.now) c.args.dir c.pass_between.result.0 lower over new_lower new_over
    c.pass_between.result.1) c.index-front-under.result c.index-back-0.result
    c.pass_between.ensures.passed
