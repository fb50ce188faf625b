use Rattle.std.proofs.Common.{◌++◌, ◌∷◌, [], ◌≡◌, ◌+◌, ◌-◌, refl, arith, ap, sym, subst, ◌∙◌, List, length, max, vec_capacity, append_assoc}
use Rattle.bev_world.specs.declared.slot.Slot.{Slot}
use Rattle.bev_world.specs.WorldValue.{WorldValue, with_room}
use Rattle.bev_world.specs.WorldView.{world_of, Holds, IsNew}
use Rattle.bev_world.proofs.HoldsLemmas.{holds_two, pushed}
use Rattle.bev_world.proofs.WentLemmas.{went_then, went_new, lives_two}
use Rattle.bev_world.proofs.world.World.add_two.Goals as goal

pub invariant_of-self : goal.invariant_of-self
invariant_of-self c =
    let ss = c.self.inside.slots.items in
    let is : world_of c.self.inside ≡ with_room 2 c.args.self.now = c.self.view_is ∙ c.in_ok-reserve.ensures.ok in
    let same : ss ≡ c.args.self.now.slots = ap (λ (v : WorldValue). v.slots) is in
    let spare : c.self.inside.spare ≡ max c.args.self.now.spare 2 = ap (λ (v : WorldValue). v.spare) is in
    let v = c.self.invariant in
    let first = pushed ss c.push.new.self.items c.args.slot c.push.result _ c.push.ensures.items c.unwrap.ensures in
    let second = pushed c.push.new.self.items c.push-2.new.self.items c.args.other c.push-2.result _ c.push-2.ensures.items
    c.unwrap-2.ensures in
    let all : c.push-2.new.self.items ≡ ss ++ c.args.slot ∷ c.args.other ∷ [] =
    second ∙ ap (λ (z : List Slot). z ++ c.args.other ∷ []) first ∙ append_assoc ss (c.args.slot ∷ []) (c.args.other ∷ []) in
    subst (λ (z : List Slot). Holds c.self.inside.chunked z c.self.inside.due.pending c.self.inside.due.spare (c.self.inside.spare - 2)
    (vec_capacity c.push-2.new.self))
    (sym all)
    (holds_two ss c.self.inside.due.pending c.self.inside.due.spare (c.self.inside.spare - 2) (vec_capacity c.push-2.new.self) c.args.slot
    c.args.other v.each (omega (arith, c.requires.few, ap length same)) (omega (arith, v.room, spare))
    (omega (arith, v.fits, spare, c.push.ensures.capacity, c.push-2.ensures.capacity))
    (subst (λ (v : WorldValue). IsNew v.chunked (length v.slots + 2) (length v.slots) c.args.slot) (sym is) c.requires.fits)
    (subst (λ (v : WorldValue). IsNew v.chunked (length v.slots + 2) (length v.slots + 1) c.args.other) (sym is) c.requires.other_fits))

pub returns-clause-went : goal.returns-clause-went
returns-clause-went c =
    let ss = c.self.inside.slots.items in
    let first = pushed ss c.push.new.self.items c.args.slot c.push.result _ c.push.ensures.items c.unwrap.ensures in
    let second = pushed c.push.new.self.items c.push-2.new.self.items c.args.other c.push-2.result _ c.push-2.ensures.items
    c.unwrap-2.ensures in
    let all : c.push-2.new.self.items ≡ ss ++ c.args.slot ∷ c.args.other ∷ [] =
    second ∙ ap (λ (z : List Slot). z ++ c.args.other ∷ []) first ∙ append_assoc ss (c.args.slot ∷ []) (c.args.other ∷ []) in
    went_then _ _ _ c.reserve.ensures.went
    (rw (← c.self.view_is, all) (went_new (world_of c.self.inside) (c.args.slot ∷ c.args.other ∷ []) _ _ _
    (lives_two c.args.slot c.args.other c.requires.fits.live c.requires.other_fits.live) refl refl))
