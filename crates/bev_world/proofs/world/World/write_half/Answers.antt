use Rattle.std.proofs.Common.{◌≡◌, subst}
use Rattle.bev_world.specs.WorldValue.{WorldValue, bev_at}
use Rattle.bev_world.specs.Halves.{passed_on, appended}
use Rattle.bev_world.proofs.HalvesLemmas.{wrote}
use Rattle.bev_world.proofs.world.World.write_half.Goals as goal

pub returns-clause-ok : goal.returns-clause-ok
returns-clause-ok c =
    let w : WorldValue = c.args.self.now in
    let new : WorldValue = c.pass_on.new.self in
    subst (λ n. new ≡ passed_on (appended w c.args.at c.args.bytes.now 0) c.args.at c.args.other n (bev_at new c.args.at).output.spare
    (bev_at new c.args.other).input.spare)
    c.in_ok-n.ensures.count
    (wrote w c.args.at c.args.other c.in_ok-n.n c.requires.apart c.requires.there c.requires.other_there
    (bev_at new c.args.at).output.spare (bev_at new c.args.other).input.spare c.reserve_at.new.self c.write_at.new.self new
    c.args.bytes.now _ _ c.reserve_at.ensures.stays c.in_ok-write_at.ensures.ok c.pass_on.ensures)
