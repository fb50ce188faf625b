use Rattle.std.proofs.Common.{◌<◌, List, length, vec_capacity, ap, sym, ◌∙◌, subst, arith}
use Rattle.std.proofs.lemmas.List.{with_items_is}
use Rattle.std.specs.Vec.{with_items}
use Rattle.bev_filter.specs.Passing.{Crossed, stepping}
use Rattle.bev_world.specs.declared.slot.Slot.{Slot}
use Rattle.bev_world.specs.Filters.{crossing, under_of}
use Rattle.bev_world.specs.WorldValue.{WorldValue, slot_at}
use Rattle.bev_world.specs.WorldView.{world_of, Holds}
use Rattle.bev_world.proofs.FiltersLemmas.{step-long}
use Rattle.bev_world.proofs.ByNumberLemmas.{joined-below, StepIn, step-in, holds-stepped, crossed-stepped}
use Rattle.bev_world.proofs.world.World.step_at.Goals as goal

pub invariant_of-self : goal.invariant_of-self
invariant_of-self c =
    let w : WorldValue = world_of c.self.inside in
    let ys : List Slot = c.step_slots.new.slots in
    let many = ap (λ (v : WorldValue). length v.slots) c.self.view_is in
    let there : c.args.at < length w.slots = omega (arith, c.requires.there, many) in
    let below = joined-below (length w.slots) c.args.at (slot_at w c.args.at).kind c.args.under
    (c.self.invariant.each c.args.at there).joined
    (ap (λ (v : WorldValue). under_of (slot_at v c.args.at).kind) c.self.view_is ∙ c.requires.below) in
    let whole = with_items_is c.self.inside.slots ys
    (step-long c.deref_mut.result.now ys c.args.at c.args.under c.step_slots.ensures.slots ∙ c.deref_mut.ensures.len) in
    let s : StepIn c.args.dir c.args.limit c.args.at_end c.args.at c.args.under w.slots ys =
    step-in c.args.dir c.args.limit c.args.at_end c.args.at c.args.under w.slots c.deref_mut.result.now ys c.deref_mut.ensures.value
    there below c.step_slots.ensures.went c.step_slots.ensures.slots in
    subst (λ zs. Holds c.self.inside.chunked zs c.self.inside.due.pending c.self.inside.due.spare c.self.inside.spare
    (vec_capacity c.self.inside.slots))
    (sym whole)
    (holds-stepped c.args.dir c.args.limit c.args.at_end c.args.at c.args.under w ys s c.self.inside.chunked
    c.self.inside.due.pending c.self.inside.due.spare c.self.inside.spare (vec_capacity c.self.inside.slots) c.self.invariant)

pub returns-clause-crossed : goal.returns-clause-crossed
returns-clause-crossed c =
    let w : WorldValue = world_of c.self.inside in
    let ys : List Slot = c.step_slots.new.slots in
    let many = ap (λ (v : WorldValue). length v.slots) c.self.view_is in
    let there : c.args.at < length w.slots = omega (arith, c.requires.there, many) in
    let below = joined-below (length w.slots) c.args.at (slot_at w c.args.at).kind c.args.under
    (c.self.invariant.each c.args.at there).joined
    (ap (λ (v : WorldValue). under_of (slot_at v c.args.at).kind) c.self.view_is ∙ c.requires.below) in
    let whole = with_items_is c.self.inside.slots ys
    (step-long c.deref_mut.result.now ys c.args.at c.args.under c.step_slots.ensures.slots ∙ c.deref_mut.ensures.len) in
    let s : StepIn c.args.dir c.args.limit c.args.at_end c.args.at c.args.under w.slots ys =
    step-in c.args.dir c.args.limit c.args.at_end c.args.at c.args.under w.slots c.deref_mut.result.now ys c.deref_mut.ensures.value
    there below c.step_slots.ensures.went c.step_slots.ensures.slots in
    let new : WorldValue = record w { slots = (with_items c.self.inside.slots ys).items } in
    subst (λ (v : WorldValue). Crossed c.args.dir
    (stepping c.args.dir (crossing v c.args.dir c.args.at c.args.under) c.args.limit c.args.at_end)
    (crossing v c.args.dir c.args.at c.args.under) (crossing new c.args.dir c.args.at c.args.under)) c.self.view_is
    (crossed-stepped c.args.dir c.args.limit c.args.at_end c.args.at c.args.under w ys s new (ap (λ zs. record w { slots = zs }) whole))
