use Rattle.std.proofs.Common.{◌≡◌, ◌∙◌, subst, [], ◌∷◌, ◌++◌, length, take, drop, arith, IsPermutation}
use Rattle.std.proofs.lemmas.List.Sorted.{IsPermutation-trans, IsPermutation-sym, IsPermutation-to_front, length_permutation}
use Rattle.min_timer.specs.declared.timer.Timer.{Timer}
use Rattle.min_timer.proofs.TakeLemmas.{written, kept_left, own_stamps-newest}
use Rattle.min_timer.proofs.sift.push.Goals as goal

-- the new timer
abbrev new_timer : goal.After-timers-1 → Timer
new_timer c = record {
  deadline = c.args.deadline;
  key = c.args.key;
  handle = record { slot = c.insert_reserved-slot.result; stamp = c.args.stamp };
}

-- what the list is
left : (c : goal.After-timers-1) →
    take c.push_reserved.new.self.len (c.rise.new.timers ++ drop (length c.rise.new.timers) c.push_reserved.new.self.items) ≡
    c.rise.new.timers
left c =
    written c.rise.new.timers (drop (length c.rise.new.timers) c.push_reserved.new.self.items) c.push_reserved.new.self.len
    (length_permutation c.deref_mut.result.now c.rise.new.timers c.rise.ensures.same ∙ c.deref_mut.ensures.len)

-- the new timer and the others, in the order that they have now
risen : (c : goal.After-timers-1) → IsPermutation (new_timer c ∷ c.args.timers.now.items) c.rise.new.timers
risen c =
    let xs = c.args.timers.now.items in
    IsPermutation-trans (new_timer c ∷ xs) (xs ++ new_timer c ∷ []) c.rise.new.timers
    (IsPermutation-sym (xs ++ new_timer c ∷ []) (new_timer c ∷ xs) (IsPermutation-to_front xs (new_timer c)))
    (subst (λ ys. IsPermutation ys c.rise.new.timers) (c.deref_mut.ensures.value ∙ c.push_reserved.ensures.items) c.rise.ensures.same)

pub returns-clause-pushed : goal.returns-clause-pushed
returns-clause-pushed c = rw (left c) (risen c)

pub returns-clause-kept : goal.returns-clause-kept
returns-clause-kept c =
    let xs = c.args.timers.now.items in
    rw (left c)
    (kept_left c.rise.new.timers (new_timer c ∷ xs) c.rise.new.places c.rise.ensures.heap c.rise.ensures.seated
    (omega (
      arith,
      c.rise.ensures.count,
      c.insert_reserved-slot.ensures.len,
      c.requires.kept.slot_count,
      length_permutation (new_timer c ∷ xs) c.rise.new.timers (risen c),
    ))
    (own_stamps-newest (new_timer c) xs c.requires.newest c.requires.kept.own_stamps) (risen c))
