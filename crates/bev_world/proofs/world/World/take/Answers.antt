use Rattle.bev_world.specs.WorldValue.{WorldValue}
use Rattle.bev_world.proofs.WentLemmas.{went_none}
use Rattle.bev_world.proofs.HalvesLemmas.{either-way-of, went_shortened, went_took, went_as_before}
use Rattle.bev_world.proofs.world.World.take.Goals as goal

pub returns-in_err-at-clause-went : goal.returns-in_err-at-clause-went
returns-in_err-at-clause-went c = went_none _

pub returns-in-Some-clause-went : goal.returns-in-Some-clause-went
returns-in-Some-clause-went c =
    let w : WorldValue = c.args.self.now in
    let new : WorldValue = c.take_half.new.self in
    let there = c.in_ok-at.ensures.found.1 in
    let found = c.in-Some.ensures.there in
    either-way-of c.take_half.result c.take_half.ensures.ok c.take_half.ensures.err
    (λ n is. went_took w new c.in_ok-at.at c.in-Some.other n found.1 there found.0 is)
    (λ is. went_as_before w new is)

pub returns-in-None-clause-went : goal.returns-in-None-clause-went
returns-in-None-clause-went c =
    went_shortened c.args.self.now c.take_first.new.self c.in_ok-at.at c.take_first.result _ c.in_ok-at.ensures.found.1
    c.take_first.ensures.after
