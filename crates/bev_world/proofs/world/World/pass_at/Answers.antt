use Rattle.std.proofs.Common.{◌≡◌, List, length, ap, sym, ◌∙◌, subst, arith, vec_capacity}
use Rattle.std.proofs.lemmas.List.{with_items_is}
use Rattle.bev_world.specs.declared.slot.Slot.{Slot}
use Rattle.bev_world.specs.Filters.{crossing}
use Rattle.bev_world.specs.LentFilters.{PassedOrKept}
use Rattle.bev_world.specs.Went.{Went}
use Rattle.bev_world.specs.WorldValue.{WorldValue, raised_if, reason_of}
use Rattle.bev_world.specs.WorldView.{world_of, Holds}
use Rattle.bev_world.proofs.WentLemmas.{spare-raised_if}
use Rattle.bev_world.proofs.FiltersLemmas.{Going, SlotsStep, slots-step, step-long, holds-step, went-step, passed-step}
use Rattle.bev_world.proofs.world.World.pass_at.Goals as goal

pub invariant_of-self : goal.invariant_of-self
invariant_of-self g c =
    let R : Going = g.P.Passage.passes c.args.dir c.args.limit c.args.mode c.args.passage.now c.pass_slots-answer.new.passage in
    let kept = c.pass_slots-answer.new.passage ≡ c.args.passage.now in
    let w : WorldValue = world_of c.self.inside in
    let ys : List Slot = c.pass_slots-answer.new.slots in
    let many = ap (λ (v : WorldValue). length v.slots) c.self.view_is in
    let whole = with_items_is c.self.inside.slots ys
    (step-long c.deref_mut.result.now ys c.args.at c.args.under c.pass_slots-answer.ensures.slots ∙ c.deref_mut.ensures.len) in
    let s : SlotsStep R kept c.args.dir c.args.at c.args.under c.pass_slots-answer.result.0 w.slots ys
    c.pass_slots-answer.result.1 =
    slots-step R kept c.args.dir c.args.at c.args.under c.pass_slots-answer.result.0 w.slots c.deref_mut.result.now ys
    c.pass_slots-answer.result.1 c.deref_mut.ensures.value (omega (arith, c.requires.there, many)) c.requires.below
    c.pass_slots-answer.ensures.passed c.pass_slots-answer.ensures.slots in
    subst (λ zs. Holds c.self.inside.chunked zs c.self.inside.due.pending c.self.inside.due.spare c.self.inside.spare
    (vec_capacity c.self.inside.slots))
    (sym whole)
    (holds-step R kept c.args.dir c.args.at c.args.under c.pass_slots-answer.result.0 w ys c.pass_slots-answer.result.1 s
    c.self.inside.due.pending c.self.inside.due.spare c.self.invariant)

pub returns-clause-passed : goal.returns-clause-passed
returns-clause-passed g c =
    let R : Going = g.P.Passage.passes c.args.dir c.args.limit c.args.mode c.args.passage.now c.pass_slots-answer.new.passage in
    let kept = c.pass_slots-answer.new.passage ≡ c.args.passage.now in
    let w : WorldValue = world_of c.self.inside in
    let ys : List Slot = c.pass_slots-answer.new.slots in
    let new : WorldValue = c.raise_if.new.self in
    let many = ap (λ (v : WorldValue). length v.slots) c.self.view_is in
    let whole = with_items_is c.self.inside.slots ys
    (step-long c.deref_mut.result.now ys c.args.at c.args.under c.pass_slots-answer.ensures.slots ∙ c.deref_mut.ensures.len) in
    let s : SlotsStep R kept c.args.dir c.args.at c.args.under c.pass_slots-answer.result.0 w.slots ys
    c.pass_slots-answer.result.1 =
    slots-step R kept c.args.dir c.args.at c.args.under c.pass_slots-answer.result.0 w.slots c.deref_mut.result.now ys
    c.pass_slots-answer.result.1 c.deref_mut.ensures.value (omega (arith, c.requires.there, many)) c.requires.below
    c.pass_slots-answer.ensures.passed c.pass_slots-answer.ensures.slots in
    let is : new ≡ raised_if c.pass_slots-answer.result.1 (record w { slots = ys }) c.args.at (reason_of c.args.dir) =
    c.raise_if.ensures
    ∙ (let y = c.reason_of.ensures in λ i. raised_if c.pass_slots-answer.result.1 (record w { slots = whole i }) c.args.at (y i)) in
    subst (λ v. PassedOrKept (R (crossing v c.args.dir c.args.at c.args.under)) kept c.args.dir c.args.at c.args.under
    c.pass_slots-answer.result.0 v new) c.self.view_is
    (passed-step R kept c.args.dir c.args.at c.args.under c.pass_slots-answer.result.0 w new ys
    c.pass_slots-answer.result.1 s is)

pub returns-clause-went : goal.returns-clause-went
returns-clause-went g c =
    let R : Going = g.P.Passage.passes c.args.dir c.args.limit c.args.mode c.args.passage.now c.pass_slots-answer.new.passage in
    let kept = c.pass_slots-answer.new.passage ≡ c.args.passage.now in
    let w : WorldValue = world_of c.self.inside in
    let ys : List Slot = c.pass_slots-answer.new.slots in
    let new : WorldValue = c.raise_if.new.self in
    let many = ap (λ (v : WorldValue). length v.slots) c.self.view_is in
    let whole = with_items_is c.self.inside.slots ys
    (step-long c.deref_mut.result.now ys c.args.at c.args.under c.pass_slots-answer.ensures.slots ∙ c.deref_mut.ensures.len) in
    let s : SlotsStep R kept c.args.dir c.args.at c.args.under c.pass_slots-answer.result.0 w.slots ys
    c.pass_slots-answer.result.1 =
    slots-step R kept c.args.dir c.args.at c.args.under c.pass_slots-answer.result.0 w.slots c.deref_mut.result.now ys
    c.pass_slots-answer.result.1 c.deref_mut.ensures.value (omega (arith, c.requires.there, many)) c.requires.below
    c.pass_slots-answer.ensures.passed c.pass_slots-answer.ensures.slots in
    let is : new ≡ raised_if c.pass_slots-answer.result.1 (record w { slots = ys }) c.args.at (reason_of c.args.dir) =
    c.raise_if.ensures
    ∙ (let y = c.reason_of.ensures in λ i. raised_if c.pass_slots-answer.result.1 (record w { slots = whole i }) c.args.at (y i)) in
    subst (λ v. Went v new) c.self.view_is
    (went-step R kept c.args.dir c.args.at c.args.under c.pass_slots-answer.result.0 w ys c.pass_slots-answer.result.1
    s new is)

pub returns-clause-spare : goal.returns-clause-spare
returns-clause-spare g c =
    let w : WorldValue = world_of c.self.inside in
    let whole = with_items_is c.self.inside.slots c.pass_slots-answer.new.slots
    (step-long c.deref_mut.result.now c.pass_slots-answer.new.slots c.args.at c.args.under c.pass_slots-answer.ensures.slots
    ∙ c.deref_mut.ensures.len) in
    spare-raised_if c.pass_slots-answer.result.1 (record w { slots = c.pass_slots-answer.new.slots }) c.raise_if.new.self c.args.at
    (reason_of c.args.dir)
    (c.raise_if.ensures
    ∙ (let y = c.reason_of.ensures in λ i. raised_if c.pass_slots-answer.result.1 (record w { slots = whole i }) c.args.at (y i)))
    ∙ ap (λ (v : WorldValue). v.spare) c.self.view_is
