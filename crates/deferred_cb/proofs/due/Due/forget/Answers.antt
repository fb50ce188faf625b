use Rattle.std.proofs.Common.{◌≡◌, ◌∙◌, sym, ap, subst, length, List, arith}
use Rattle.deferred_cb.specs.DueCalls.{Entry, without, without_calls, all_calls}
use Rattle.deferred_cb.specs.DueValue.{DueValue}
use Rattle.deferred_cb.specs.DueView.{HaveReasons}
use Rattle.deferred_cb.proofs.CallLemmas.{have-without, all_calls-without}
use Rattle.deferred_cb.proofs.EntryLemmas.{length-without, without-absent, none-of}
use Rattle.deferred_cb.proofs.due.Due.forget.Goals as goal

pub overflow_sub-self : goal.overflow_sub-self
overflow_sub-self c =
    let es : List Entry = c.self.inside.pending.entries in
    omega (arith, c.len-before.ensures.len, c.len.ensures.len, length-without c.args.owner es, ap length c.forget_entry.ensures.others)

pub invariant_of-self : goal.invariant_of-self
invariant_of-self c =
    let es : List Entry = c.self.inside.pending.entries in
    let fewer = length-without c.args.owner es in
    let same = ap length c.forget_entry.ensures.others in
    let v = c.self.invariant in
    let f = c.forget_entry.ensures in
    let was = c.len-before.ensures.len in
    let is = c.len.ensures.len in
    record {
      pending = omega (arith, fewer, same, was, is, v.pending, f.kept);
      moving = f.emptied;
      moved = omega (arith, fewer, same, was, is, v.moved, f.capacity);
      batch = omega (arith, fewer, same, was, is, v.batch, c.forget_left.ensures.capacity);
      due = subst HaveReasons (sym f.others) (have-without c.args.owner es v.due);
      left = subst HaveReasons (sym c.forget_left.ensures.others) (have-without c.args.owner c.self.inside.batch.items v.left);
    }

pub invariant_of-self-else-contains_key : goal.invariant_of-self-else-contains_key
invariant_of-self-else-contains_key c =
    let v = c.self.invariant in
    record {
      pending = v.pending;
      moving = v.moving;
      moved = v.moved;
      batch = omega (arith, v.batch, c.forget_left.ensures.capacity);
      due = v.due;
      left = subst HaveReasons (sym c.forget_left.ensures.others) (have-without c.args.owner c.self.inside.batch.items v.left);
    }

pub returns-then-contains_key-clause-batch : goal.returns-then-contains_key-clause-batch
returns-then-contains_key-clause-batch c =
    ap all_calls c.forget_left.ensures.others ∙ all_calls-without c.args.owner c.self.inside.batch.items
    ∙ ap (λ (z : DueValue). without_calls c.args.owner z.batch) c.self.view_is

pub returns-then-contains_key-clause-spare : goal.returns-then-contains_key-clause-spare
returns-then-contains_key-clause-spare c =
    let es : List Entry = c.self.inside.pending.entries in
    let pending : es ≡ c.args.self.now.pending = ap (λ (z : DueValue). z.pending) c.self.view_is in
    let spare : c.self.inside.spare ≡ c.args.self.now.spare = ap (λ (z : DueValue). z.spare) c.self.view_is in
    let fewer = length-without c.args.owner es in
    let same = ap length c.forget_entry.ensures.others in
    omega (arith, fewer, same, spare, c.len-before.ensures.len, c.len.ensures.len, ap length pending)

pub returns-else-contains_key-clause-pending : goal.returns-else-contains_key-clause-pending
returns-else-contains_key-clause-pending c =
    let es : List Entry = c.self.inside.pending.entries in
    let pending : es ≡ c.args.self.now.pending = ap (λ (z : DueValue). z.pending) c.self.view_is in
    sym (without-absent c.args.owner es (none-of _ c.if-contains_key.ensures)) ∙ ap (without c.args.owner) pending

pub returns-else-contains_key-clause-batch : goal.returns-else-contains_key-clause-batch
returns-else-contains_key-clause-batch c =
    ap all_calls c.forget_left.ensures.others ∙ all_calls-without c.args.owner c.self.inside.batch.items
    ∙ ap (λ (z : DueValue). without_calls c.args.owner z.batch) c.self.view_is
