use Rattle.std.proofs.Common.{◌≡◌, [], ◌∷◌, refl, List, length, sym, subst, arith}
use Rattle.relay_drive.specs.Seats.{telling}
use Rattle.evplay.proofs.HandedLemmas.{SlotsSoFar, slots-none, slots-more, slots-all}
use Rattle.evplay.proofs.hooks.attach.Goals as goal

empty : {X : Type 0} (xs : List X) → length xs ≡ 0 → xs ≡ []
empty [] h = refl
empty (x ∷ xs) h = absurd (omega (arith, h))

pub loop-hook-init : goal.loop-hook-init
loop-hook-init g c =
    let tells = (telling (λ h. (goal.Hook-dyn g (h.vtable, h.value)).heard h.value)
    (λ h. (goal.Hook-dyn g (h.vtable, h.value)).asked h.value)
    (λ h. (goal.Hook-dyn g (h.vtable, h.value)).planned h.value)) in
    let all = c.args.hooks.items in
    subst (λ left. SlotsSoFar c.new-slots.result.items tells c.args.plans.now all left)
    (sym c.into_iter-hook-iterator.ensures.into_iter_gives.0)
    (subst (λ slots. SlotsSoFar slots tells c.args.plans.now all all) (sym c.new-slots.ensures.items)
    (slots-none tells c.args.plans.now all c.requires.fresh))

pub loop-hook-preserved : goal.loop-hook-preserved
loop-hook-preserved g c =
    let tells = (telling (λ h. (goal.Hook-dyn g (h.vtable, h.value)).heard h.value)
    (λ h. (goal.Hook-dyn g (h.vtable, h.value)).asked h.value)
    (λ h. (goal.Hook-dyn g (h.vtable, h.value)).planned h.value)) in
    slots-more c.loop-hook.slots.items c.attach_next.new.slots.items tells c.args.plans.now c.args.hooks.items c.in-Some.hook _
    (subst (λ left. SlotsSoFar c.loop-hook.slots.items tells c.args.plans.now c.args.hooks.items left) c.in-Some.ensures.steps.0
    c.loop-hook.invariant) c.in_ok-attach_next.ensures

pub returns : goal.returns
returns g c =
    let tells = (telling (λ h. (goal.Hook-dyn g (h.vtable, h.value)).heard h.value)
    (λ h. (goal.Hook-dyn g (h.vtable, h.value)).asked h.value)
    (λ h. (goal.Hook-dyn g (h.vtable, h.value)).planned h.value)) in
    let none = c.in-None.ensures.steps.0 in
    let long = c.loop-hook.hook-iterator.rest.ok.0 in
    slots-all c.loop-hook.slots.items tells c.args.plans.now c.args.hooks.items
    (subst (λ left. SlotsSoFar c.loop-hook.slots.items tells c.args.plans.now c.args.hooks.items left)
    (empty c.loop-hook.hook-iterator.rest.items (omega (arith, none, long))) c.loop-hook.invariant)
