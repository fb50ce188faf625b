use Rattle.std.proofs.Common.{◌≡◌, ◌∙◌, subst, ◌∷◌, ◌++◌, length, take, drop, arith, IsPermutation}
use Rattle.std.proofs.lemmas.List.Sorted.{IsPermutation-trans, IsPermutation-cons, length_permutation}
use Rattle.min_timer.proofs.TakeLemmas.{written, kept_left}
use Rattle.min_timer.proofs.sift.take.Goals as goal

-- the others, in the order that they have now
settled : (c : goal.After-timers-1) → IsPermutation c.take_out-taken.new.timers.items c.settle.new.timers
settled c = subst (λ zs. IsPermutation zs c.settle.new.timers) c.deref_mut.ensures.value c.settle.ensures.same

-- what the list is
left : (c : goal.After-timers-1) →
    take c.take_out-taken.new.timers.len (c.settle.new.timers ++ drop (length c.settle.new.timers) c.take_out-taken.new.timers.items) ≡
    c.settle.new.timers
left c =
    written c.settle.new.timers (drop (length c.settle.new.timers) c.take_out-taken.new.timers.items) c.take_out-taken.new.timers.len
    (length_permutation c.deref_mut.result.now c.settle.new.timers c.settle.ensures.same ∙ c.deref_mut.ensures.len)

pub returns-then-at-len-clause-rest : goal.returns-then-at-len-clause-rest
returns-then-at-len-clause-rest c =
    let zs = c.take_out-taken.new.timers.items in
    let t = c.take_out-taken.result in
    rw (left c)
    (IsPermutation-trans c.args.timers.now.items (t ∷ zs) (t ∷ c.settle.new.timers) c.take_out-taken.ensures.rest
    (IsPermutation-cons t zs c.settle.new.timers (settled c)))

pub returns-then-at-len-clause-kept : goal.returns-then-at-len-clause-kept
returns-then-at-len-clause-kept c =
    let zs = c.take_out-taken.new.timers.items in
    rw (left c)
    (kept_left c.settle.new.timers zs c.settle.new.places c.settle.ensures.heap c.settle.ensures.seated
    (omega (arith, c.settle.ensures.count, c.take_out-taken.ensures.count, length_permutation zs c.settle.new.timers (settled c)))
    c.take_out-taken.ensures.own_stamps (settled c))
