use Rattle.std.proofs.Common.{◌≡◌, true, refl}
use Rattle.token_bucket.specs.declared.limit.Dir.{Dir}
use Rattle.token_bucket.specs.declared.limit.Dir.TheVariants as dir
use Rattle.relay_model.specs.Asks.{enabled}
use Rattle.bev_core.specs.BevValue.{BevValue}
use Rattle.bev_core.specs.Steps.{with_enabled}
use Rattle.relay_sides.specs.SideView.{plain_side}
use Rattle.relay_sides.specs.declared.side.SideState.{SideState}
use Rattle.relay_sides.proofs.FlagLemmas.{bev_links, bev_sound}
use Rattle.relay_sides.proofs.sides.Sides.enable.Goals as goal

keeps_input : (d : Dir) (x : BevValue) → (with_enabled x d true).input.bytes ≡ x.input.bytes
keeps_input dir.Read x = refl
keeps_input dir.Write x = refl

keeps_output : (d : Dir) (x : BevValue) → (with_enabled x d true).output.bytes ≡ x.output.bytes
keeps_output dir.Read x = refl
keeps_output dir.Write x = refl

is_asked : (d : Dir) (x : BevValue) (s : SideState) → plain_side (with_enabled x d true) s ≡ enabled d true (plain_side x s)
is_asked dir.Read x s = refl
is_asked dir.Write x s = refl

pub invariant_of-self : goal.invariant_of-self
invariant_of-self c =
    bev_sound c.args.self.now c.self.inside c.self.view_is c.self.invariant c.args.side c.requires c.lower.result c.lower.ensures
    (λ x. with_enabled x c.args.dir true) c.enable_at.new.self c.enable_at.ensures
    (keeps_input c.args.dir) (keeps_output c.args.dir)

pub returns : goal.returns
returns c =
    bev_links c.args.self.now c.self.inside c.self.view_is c.self.invariant c.args.side c.requires c.lower.result c.lower.ensures
    (λ x. with_enabled x c.args.dir true) c.enable_at.new.self c.enable_at.ensures
    (keeps_input c.args.dir) (keeps_output c.args.dir)
    (enabled c.args.dir true) (is_asked c.args.dir)
