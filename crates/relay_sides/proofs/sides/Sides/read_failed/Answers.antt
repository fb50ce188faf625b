use Rattle.std.proofs.Common.{true, false, refl}
use Rattle.token_bucket.specs.declared.limit.Dir.TheVariants as dir
use Rattle.bev_core.specs.Steps.{failed_at}
use Rattle.relay_sides.proofs.FlagLemmas.{bev_links, bev_sound}
use Rattle.relay_sides.proofs.sides.Sides.read_failed.Goals as goal

pub invariant_of-self : goal.invariant_of-self
invariant_of-self c =
    bev_sound c.args.self.now c.self.inside c.self.view_is c.self.invariant c.args.side c.requires c.lower.result c.lower.ensures
    (λ x. failed_at x dir.Read) c.fail_at.new.self c.fail_at.ensures (λ x. refl) (λ x. refl)

pub returns : goal.returns
returns c =
    bev_links c.args.self.now c.self.inside c.self.view_is c.self.invariant c.args.side c.requires c.lower.result c.lower.ensures
    (λ x. failed_at x dir.Read) c.fail_at.new.self c.fail_at.ensures (λ x. refl) (λ x. refl)
    (λ x. record x { failed = true; reads = false }) (λ x s. refl)
