use Rattle.bev_world.specs.WorldValue.{WorldValue}
use Rattle.bev_world.proofs.WentLemmas.{went_none}
use Rattle.bev_world.proofs.HalvesLemmas.{either-way, went_spared, went_appended, went_wrote, went_as_before}
use Rattle.bev_world.proofs.world.World.write.Goals as goal

pub returns-in_err-at-clause-went : goal.returns-in_err-at-clause-went
returns-in_err-at-clause-went c = went_none _

pub returns-in-Some-clause-went : goal.returns-in-Some-clause-went
returns-in-Some-clause-went c =
    let w : WorldValue = c.args.self.now in
    let new : WorldValue = c.write_half.new.self in
    let there = c.in_ok-at.ensures.found.1 in
    let found = c.in-Some.ensures.there in
    either-way c.write_half.result c.write_half.ensures.ok c.write_half.ensures.err
    (λ is. went_wrote w new c.in_ok-at.at c.in-Some.other c.args.bytes.now found.1 there found.0 is)
    (λ is. went_spared w new c.in-Some.other _ found.0 is.0)

pub returns-in-None-clause-went : goal.returns-in-None-clause-went
returns-in-None-clause-went c =
    let w : WorldValue = c.args.self.now in
    let new : WorldValue = c.write_at.new.self in
    either-way c.write_at.result c.write_at.ensures.ok c.write_at.ensures.err
    (λ is. went_appended w new c.in_ok-at.at c.args.bytes.now _ c.in_ok-at.ensures.found.1 is)
    (λ is. went_as_before w new is)
