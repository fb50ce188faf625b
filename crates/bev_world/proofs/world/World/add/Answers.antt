use Rattle.std.proofs.Common.{◌∷◌, [], ◌≡◌, ◌+◌, ◌-◌, refl, arith, ap, sym, subst, ◌∙◌, List, length, max, vec_capacity}
use Rattle.bev_world.specs.declared.slot.Slot.{Slot}
use Rattle.bev_world.specs.WorldValue.{WorldValue, with_room}
use Rattle.bev_world.specs.WorldView.{world_of, Holds, IsNew}
use Rattle.bev_world.proofs.HoldsLemmas.{holds_one, pushed}
use Rattle.bev_world.proofs.WentLemmas.{went_then, went_new, lives_one}
use Rattle.bev_world.proofs.world.World.add.Goals as goal

pub invariant_of-self : goal.invariant_of-self
invariant_of-self c =
    let ss = c.self.inside.slots.items in
    let is : world_of c.self.inside ≡ with_room 1 c.args.self.now = c.self.view_is ∙ c.in_ok-reserve.ensures.ok in
    let same : ss ≡ c.args.self.now.slots = ap (λ (v : WorldValue). v.slots) is in
    let spare : c.self.inside.spare ≡ max c.args.self.now.spare 1 = ap (λ (v : WorldValue). v.spare) is in
    let v = c.self.invariant in
    let all = pushed ss c.push.new.self.items c.args.slot c.push.result _ c.push.ensures.items c.unwrap.ensures in
    subst (λ (z : List Slot). Holds c.self.inside.chunked z c.self.inside.due.pending c.self.inside.due.spare (c.self.inside.spare - 1)
    (vec_capacity c.push.new.self))
    (sym all)
    (holds_one ss c.self.inside.due.pending c.self.inside.due.spare (c.self.inside.spare - 1) (vec_capacity c.push.new.self) c.args.slot
    v.each (omega (arith, c.requires.few, ap length same)) (omega (arith, v.room, spare))
    (omega (arith, v.fits, spare, c.push.ensures.capacity))
    (subst (λ (v : WorldValue). IsNew v.chunked (length v.slots + 1) (length v.slots) c.args.slot) (sym is) c.requires.fits))

pub returns-clause-went : goal.returns-clause-went
returns-clause-went c =
    let ss = c.self.inside.slots.items in
    let all = pushed ss c.push.new.self.items c.args.slot c.push.result _ c.push.ensures.items c.unwrap.ensures in
    went_then _ _ _ c.reserve.ensures.went (rw (← c.self.view_is, all) (went_new (world_of c.self.inside) (c.args.slot ∷ []) _ _ _
    (lives_one c.args.slot c.requires.fits.live) refl refl))
