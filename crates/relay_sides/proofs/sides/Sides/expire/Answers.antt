use Rattle.std.proofs.Common.{◌≡◌, true, false, refl, ap}
use Rattle.token_bucket.specs.declared.limit.Dir.{Dir}
use Rattle.token_bucket.specs.declared.limit.Dir.TheVariants as dir
use Rattle.relay_model.specs.Moments.{expire}
use Rattle.bev_core.specs.BevValue.{BevValue}
use Rattle.bev_core.specs.Steps.{with_enabled}
use Rattle.bev_world.specs.WorldValue.{WorldValue}
use Rattle.relay_sides.specs.SideView.{plain_side}
use Rattle.relay_sides.specs.declared.side.SideState.{SideState}
use Rattle.relay_sides.proofs.FlagLemmas.{are_sound, both_links, both_counted, both_lasting}
use Rattle.relay_sides.proofs.sides.Sides.expire.Goals as goal

keeps_input : (d : Dir) (x : BevValue) → (with_enabled x d false).input.bytes ≡ x.input.bytes
keeps_input dir.Read x = refl
keeps_input dir.Write x = refl

keeps_output : (d : Dir) (x : BevValue) → (with_enabled x d false).output.bytes ≡ x.output.bytes
keeps_output dir.Read x = refl
keeps_output dir.Write x = refl

is_expired : (d : Dir) (s : SideState) (x : BevValue) →
    plain_side (with_enabled x d false) (record s { expired = true }) ≡ expire d (plain_side x s)
is_expired dir.Read s x = refl
is_expired dir.Write s x = refl

pub invariant_of-self : goal.invariant_of-self
invariant_of-self c =
    are_sound c.self.inside _ c.self.invariant refl refl (ap (λ (z : WorldValue). z.chunked) c.expire_at.ensures)
    (both_lasting c.args.self.now c.self.inside c.self.view_is c.self.invariant c.args.side c.requires c.lower.result c.lower.ensures
    (λ x. with_enabled x c.args.dir false) c.expire_at.new.self c.expire_at.ensures (keeps_input c.args.dir) (keeps_output c.args.dir)
    c.number.result c.number.ensures c.index_mut-own.result.now _ c.index_mut-own.ensures.value refl)
    (both_counted c.args.self.now c.self.inside c.self.view_is c.self.invariant c.args.side c.requires c.lower.result c.lower.ensures
    (λ x. with_enabled x c.args.dir false) c.expire_at.new.self c.expire_at.ensures (keeps_input c.args.dir) (keeps_output c.args.dir)
    c.number.result c.number.ensures c.index_mut-own.result.now _ c.index_mut-own.ensures.value refl)

pub returns : goal.returns
returns c =
    both_links c.args.self.now c.self.inside c.self.view_is c.self.invariant c.args.side c.requires c.lower.result c.lower.ensures
    (λ x. with_enabled x c.args.dir false) c.expire_at.new.self c.expire_at.ensures (keeps_input c.args.dir) (keeps_output c.args.dir)
    c.number.result c.number.ensures c.index_mut-own.result.now _ c.index_mut-own.ensures.value refl
    (expire c.args.dir) (is_expired c.args.dir c.index_mut-own.result.now)
