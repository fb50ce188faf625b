use Rattle.std.proofs.Common.{arith, length, ap, refl}
use Rattle.bev_core.specs.BevValue.{BevValue}
use Rattle.bev_world.specs.WorldValue.{WorldValue}
use Rattle.bev_world.proofs.HoldsLemmas.{holds-forgot, holds-with, on-ok}
use Rattle.bev_world.proofs.world.World.free_one.Goals as goal

pub invariant_of-self : goal.invariant_of-self
invariant_of-self c =
    let many = ap (λ (v : WorldValue). length v.slots) c.self.view_is in
    holds-forgot _ c.self.inside.due.pending c.forget.new.self.pending c.self.inside.due.spare c.forget.new.self.spare c.args.at
    (holds-with c.self.inside.slots.items c.self.inside.due.pending c.self.inside.due.spare c.args.at _ c.index_mut-slot.result.now _
    c.self.invariant (omega (arith, c.requires.there, many)) c.index_mut-slot.ensures.value refl
    (ap (λ (b : BevValue). b.chunked) (on-ok c.free.result _ c.free.ensures.ok c.unwrap.ensures)) (omega arith))
    c.forget.ensures.pending c.forget.ensures.spare
