use Rattle.std.proofs.Common.{◌≡◌, sym, subst, ◌∙◌, ap, is_some, List, length, false, arith, rules}
use Rattle.std.specs.Prelude.{nat_eq}
use Rattle.std.specs.Map.{set_value}
use Rattle.std.proofs.lemmas.Map.{length-set_value}
use Rattle.indexmap.specs.IndexMap.{insert_entry, spare as spare_of}
use Rattle.deferred_cb.specs.DueCalls.{Entry, with_reason, has_entry}
use Rattle.deferred_cb.specs.DueValue.{DueValue}
use Rattle.deferred_cb.specs.DueView.{HaveReasons}
use Rattle.deferred_cb.proofs.CallLemmas.{have-with_reason}
use Rattle.deferred_cb.proofs.EntryLemmas.{has_entry-lookup, insert-absent, set-present, length-with_new, on_ok}
use Rattle.deferred_cb.proofs.due.Due.schedule.Goals as goal

pub returns-in-Some-clause-pending : goal.returns-in-Some-clause-pending
returns-in-Some-clause-pending c =
    let es : List Entry = c.self.inside.pending.entries in
    let pending : es ≡ c.args.self.now.pending = ap (λ (z : DueValue). z.pending) c.self.view_is in
    (c.get_mut.follows.holds c.join.new.self).0
    ∙ (λ i. set_value (nat_eq c.args.owner) es (c.join.ensures i))
    ∙ set-present c.args.owner c.args.why es c.in-Some.reasons.now (sym c.in-Some.ensures.value)
    ∙ ap (with_reason c.args.owner c.args.why) pending

pub invariant_of-self : goal.invariant_of-self
invariant_of-self c =
    let es : List Entry = c.self.inside.pending.entries in
    let v = c.self.invariant in
    let holds = c.get_mut.follows.holds c.join.new.self in
    let same : length (c.get_mut.follows.lender c.join.new.self).entries ≡ length es =
    ap length holds.0 ∙ length-set_value (nat_eq c.args.owner) es _ in
    let entries = holds.0
    ∙ (λ i. set_value (nat_eq c.args.owner) es (c.join.ensures i))
    ∙ set-present c.args.owner c.args.why es c.in-Some.reasons.now (sym c.in-Some.ensures.value) in
    record {
      pending = search rules;
      moving = v.moving;
      moved = omega (arith, same, v.moved);
      batch = omega (arith, same, v.batch);
      due = subst HaveReasons (sym entries) (have-with_reason c.args.owner c.args.why es v.due);
      left = v.left;
    }

pub unwrap-requires : goal.unwrap-requires
unwrap-requires c =
    let es : List Entry = c.self.inside.pending.entries in
    let pending : es ≡ c.args.self.now.pending = ap (λ (z : DueValue). z.pending) c.self.view_is in
    let spare : c.self.inside.spare ≡ c.args.self.now.spare = ap (λ (z : DueValue). z.spare) c.self.view_is in
    let absent : has_entry c.args.owner c.args.self.now.pending ≡ false =
    ap (has_entry c.args.owner) (sym pending) ∙ has_entry-lookup c.args.owner es ∙ ap is_some (sym c.in_default.ensures.value) in
    let some = c.requires absent in
    let same = ap spare_of c.get_mut.follows.holds-at-none in
    c.insert.ensures.succeeds (omega (arith, some, same, spare, c.self.invariant.pending))

pub overflow_sub-self : goal.overflow_sub-self
overflow_sub-self c =
    let es : List Entry = c.self.inside.pending.entries in
    let pending : es ≡ c.args.self.now.pending = ap (λ (z : DueValue). z.pending) c.self.view_is in
    let spare : c.self.inside.spare ≡ c.args.self.now.spare = ap (λ (z : DueValue). z.spare) c.self.view_is in
    let absent : has_entry c.args.owner c.args.self.now.pending ≡ false =
    ap (has_entry c.args.owner) (sym pending) ∙ has_entry-lookup c.args.owner es ∙ ap is_some (sym c.in_default.ensures.value) in
    let some = c.requires absent in
    omega (arith, some, spare)

pub returns-clause-pending : goal.returns-clause-pending
returns-clause-pending c =
    let es : List Entry = c.self.inside.pending.entries in
    let pending : es ≡ c.args.self.now.pending = ap (λ (z : DueValue). z.pending) c.self.view_is in
    on_ok c.insert.result c.unwrap.result c.unwrap.ensures c.insert.ensures.entries
    ∙ (λ i. insert_entry nat_eq (c.get_mut.follows.holds-at-none i).entries c.args.owner (c.of.ensures i))
    ∙ insert-absent c.args.owner c.args.why es (sym c.in_default.ensures.value)
    ∙ ap (with_reason c.args.owner c.args.why) pending

pub invariant_of-self-2 : goal.invariant_of-self-2
invariant_of-self-2 c =
    let es : List Entry = c.self.inside.pending.entries in
    let entries = on_ok c.insert.result c.unwrap.result c.unwrap.ensures c.insert.ensures.entries
    ∙ (λ i. insert_entry nat_eq (c.get_mut.follows.holds-at-none i).entries c.args.owner (c.of.ensures i))
    ∙ insert-absent c.args.owner c.args.why es (sym c.in_default.ensures.value) in
    let longer = ap length entries ∙ length-with_new c.args.owner c.args.why es (sym c.in_default.ensures.value) in
    let same = ap spare_of c.get_mut.follows.holds-at-none in
    let v = c.self.invariant in
    let spare : c.self.inside.spare ≡ c.args.self.now.spare = ap (λ (z : DueValue). z.spare) c.self.view_is in
    let pending : es ≡ c.args.self.now.pending = ap (λ (z : DueValue). z.pending) c.self.view_is in
    let absent : has_entry c.args.owner c.args.self.now.pending ≡ false =
    ap (has_entry c.args.owner) (sym pending) ∙ has_entry-lookup c.args.owner es ∙ ap is_some (sym c.in_default.ensures.value) in
    let some = c.requires absent in
    record {
      pending = omega (arith, same, v.pending, c.insert.ensures.spare, some, spare);
      moving = v.moving;
      moved = omega (arith, longer, v.moved, some, spare);
      batch = omega (arith, longer, v.batch, some, spare);
      due = subst HaveReasons (sym entries) (have-with_reason c.args.owner c.args.why es v.due);
      left = v.left;
    }

pub returns-clause-spare : goal.returns-clause-spare
returns-clause-spare c =
    let es : List Entry = c.self.inside.pending.entries in
    let entries = on_ok c.insert.result c.unwrap.result c.unwrap.ensures c.insert.ensures.entries
    ∙ (λ i. insert_entry nat_eq (c.get_mut.follows.holds-at-none i).entries c.args.owner (c.of.ensures i))
    ∙ insert-absent c.args.owner c.args.why es (sym c.in_default.ensures.value) in
    let longer = ap length entries ∙ length-with_new c.args.owner c.args.why es (sym c.in_default.ensures.value) in
    let spare : c.self.inside.spare ≡ c.args.self.now.spare = ap (λ (z : DueValue). z.spare) c.self.view_is in
    let pending : es ≡ c.args.self.now.pending = ap (λ (z : DueValue). z.pending) c.self.view_is in
    let absent : has_entry c.args.owner c.args.self.now.pending ≡ false =
    ap (has_entry c.args.owner) (sym pending) ∙ has_entry-lookup c.args.owner es ∙ ap is_some (sym c.in_default.ensures.value) in
    let some = c.requires absent in
    omega (arith, longer, spare, some, ap length pending)
