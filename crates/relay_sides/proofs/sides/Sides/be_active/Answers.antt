use Rattle.std.proofs.Common.{◌≡◌, ℕ, refl}
use Rattle.token_bucket.specs.declared.limit.Dir.{Dir}
use Rattle.token_bucket.specs.declared.limit.Dir.TheVariants as dir
use Rattle.relay_model.specs.Moments.{active_at}
use Rattle.bev_core.specs.BevValue.{BevValue}
use Rattle.bev_core.specs.Steps.{touched}
use Rattle.relay_sides.specs.SideView.{plain_side}
use Rattle.relay_sides.specs.declared.side.SideState.{SideState}
use Rattle.relay_sides.proofs.FlagLemmas.{bev_links, bev_sound}
use Rattle.relay_sides.proofs.sides.Sides.be_active.Goals as goal

keeps_input : (d : Dir) (time : ℕ) (x : BevValue) → (touched x d time).input.bytes ≡ x.input.bytes
keeps_input dir.Read time x = refl
keeps_input dir.Write time x = refl

keeps_output : (d : Dir) (time : ℕ) (x : BevValue) → (touched x d time).output.bytes ≡ x.output.bytes
keeps_output dir.Read time x = refl
keeps_output dir.Write time x = refl

is_active : (d : Dir) (time : ℕ) (x : BevValue) (s : SideState) → plain_side (touched x d time) s ≡ active_at time d (plain_side x s)
is_active dir.Read time x s = refl
is_active dir.Write time x s = refl

pub invariant_of-self : goal.invariant_of-self
invariant_of-self c =
    bev_sound c.args.self.now c.self.inside c.self.view_is c.self.invariant c.args.side c.requires c.lower.result c.lower.ensures
    (λ x. touched x c.args.dir c.args.time) c.touch_at.new.self c.touch_at.ensures
    (keeps_input c.args.dir c.args.time) (keeps_output c.args.dir c.args.time)

pub returns : goal.returns
returns c =
    bev_links c.args.self.now c.self.inside c.self.view_is c.self.invariant c.args.side c.requires c.lower.result c.lower.ensures
    (λ x. touched x c.args.dir c.args.time) c.touch_at.new.self c.touch_at.ensures
    (keeps_input c.args.dir c.args.time) (keeps_output c.args.dir c.args.time)
    (active_at c.args.time c.args.dir) (is_active c.args.dir c.args.time)
