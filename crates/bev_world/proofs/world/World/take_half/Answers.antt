use Rattle.std.proofs.Common.{◌≡◌, ◌∙◌, ap, sym, length, min, subst}
use Rattle.bev_world.specs.WorldValue.{WorldValue, bev_at}
use Rattle.bev_world.specs.Halves.{passed_on, shortened, count_without}
use Rattle.bev_world.proofs.HalvesLemmas.{took, spared-bytes}
use Rattle.bev_world.proofs.world.World.take_half.Goals as goal

pub returns-clause-ok : goal.returns-clause-ok
returns-clause-ok c =
    let w : WorldValue = c.args.self.now in
    let w1 : WorldValue = c.reserve_at.new.self in
    let new : WorldValue = c.pass_on.new.self in
    let taken_is : c.take_first-taken.result ≡ min (length c.args.into.now) (length (bev_at w c.args.at).input.bytes) =
    c.take_first-taken.ensures.count
    ∙ ap (λ bytes. min (length c.args.into.now) (length bytes))
    (spared-bytes w w1 c.args.at _ c.requires.there c.reserve_at.ensures.stays) in
    subst (λ n. new ≡ passed_on (shortened w c.args.at c.take_first-taken.result 0) c.args.other c.args.at n
    (bev_at new c.args.other).output.spare (bev_at new c.args.at).input.spare)
    (c.in_ok-n.ensures.count ∙ ap (λ k. count_without w c.args.other c.args.at k) (sym taken_is))
    (took w c.args.at c.args.other c.in_ok-n.n c.requires.apart c.requires.there c.requires.other_there
    (bev_at new c.args.other).output.spare (bev_at new c.args.at).input.spare w1 c.take_first-taken.new.self new
    c.take_first-taken.result _ _ c.reserve_at.ensures.stays c.take_first-taken.ensures.after c.pass_on.ensures)
