use Rattle.std.proofs.Common.{◌≡◌, ℕ, refl}
use Rattle.token_bucket.specs.declared.limit.Dir.{Dir}
use Rattle.token_bucket.specs.declared.limit.Dir.TheVariants as dir
use Rattle.relay_model.specs.Plain.{PlainSide}
use Rattle.relay_model.specs.Asks.{marked}
use Rattle.bev_core.specs.BevValue.{BevValue}
use Rattle.bev_core.specs.Steps.{with_marks}
use Rattle.relay_sides.specs.SideView.{plain_side}
use Rattle.relay_sides.specs.declared.side.SideState.{SideState}
use Rattle.relay_sides.proofs.FlagLemmas.{bev_links, bev_sound}
use Rattle.relay_sides.proofs.sides.Sides.set_watermark.Goals as goal

keeps_input : (d : Dir) (low high : ℕ) (x : BevValue) → (with_marks x d low high).input.bytes ≡ x.input.bytes
keeps_input dir.Read low high x = refl
keeps_input dir.Write low high x = refl

keeps_output : (d : Dir) (low high : ℕ) (x : BevValue) → (with_marks x d low high).output.bytes ≡ x.output.bytes
keeps_output dir.Read low high x = refl
keeps_output dir.Write low high x = refl

abbrev asked : Dir → ℕ → ℕ → PlainSide → PlainSide
asked d low high x = record x { marks = marked d low high x.marks }

is_asked : (d : Dir) (low high : ℕ) (x : BevValue) (s : SideState)
    → plain_side (with_marks x d low high) s ≡ asked d low high (plain_side x s)
is_asked dir.Read low high x s = refl
is_asked dir.Write low high x s = refl

pub invariant_of-self : goal.invariant_of-self
invariant_of-self c =
    bev_sound c.args.self.now c.self.inside c.self.view_is c.self.invariant c.args.side c.requires c.lower.result c.lower.ensures
    (λ x. with_marks x c.args.dir c.args.low c.args.high) c.set_watermark_at.new.self c.set_watermark_at.ensures
    (keeps_input c.args.dir c.args.low c.args.high) (keeps_output c.args.dir c.args.low c.args.high)

pub returns : goal.returns
returns c =
    bev_links c.args.self.now c.self.inside c.self.view_is c.self.invariant c.args.side c.requires c.lower.result c.lower.ensures
    (λ x. with_marks x c.args.dir c.args.low c.args.high) c.set_watermark_at.new.self c.set_watermark_at.ensures
    (keeps_input c.args.dir c.args.low c.args.high) (keeps_output c.args.dir c.args.low c.args.high)
    (asked c.args.dir c.args.low c.args.high) (is_asked c.args.dir c.args.low c.args.high)
