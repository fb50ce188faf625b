-- What is left of a heap once a timer is out that was exchanged with the last, and what a timer that came in makes of it.
use Rattle.std.proofs.Common.{◌≡◌, ◌∙◌, sym, ap, subst, ℕ, ◌+◌, ◌<◌, ◌≤◌, ◌≢◌, List, [], ◌∷◌, ◌++◌, length, get_or}
use Rattle.std.proofs.Common.{take, arith, IsPermutation, All, length-append}
use Rattle.std.specs.List.{swap}
use Rattle.std.proofs.Math.Seq.{take-append_seam}
use Rattle.std.proofs.lemmas.List.{get_or_append_left}
use Rattle.std.proofs.lemmas.List.Edits.{length-swap}
use Rattle.std.proofs.lemmas.List.Sorted.{IsPermutation-trans, IsPermutation-swap, IsPermutation-to_front}
use Rattle.std.proofs.lemmas.List.Elements.{All-weaker}
use Rattle.std.proofs.lemmas.List.Kept.{AllPairs-cons}
use Rattle.slab.specs.Slab.{Slab, slab_len}
use Rattle.min_timer.specs.Order.{IsHeap, IsHeapBut, IsKept, SlotsHoldPlaces, HaveOwnStamps}
use Rattle.min_timer.specs.declared.timer.Timer.{Timer}
use Rattle.min_timer.proofs.HeapLemmas.{exchanged_from_swap, but-removed, heap-shorter}
use Rattle.min_timer.proofs.OrderLemmas.{own_stamps-permutation, own_stamps-rest}

-- what a slice of a whole list leaves in it
pub written : (xs rest : List Timer) (n : ℕ) → length xs ≡ n → take n (xs ++ rest) ≡ xs
written xs rest n long = subst (λ k. take k (xs ++ rest) ≡ xs) long (take-append_seam xs rest)

module _ (xs zs : List Timer) (t : Timer) (at last : ℕ) (here : at < length xs) (end : last + 1 ≡ length xs)
    (is : zs ++ t ∷ [] ≡ swap xs at last) where
  pub one_less : length zs + 1 ≡ length xs
  one_less = omega (arith, ap length is, length-swap xs at last, length-append zs (t ∷ []))

  same : (k : ℕ) (d : Timer) → k ≢ at → k < length zs → get_or zs k d ≡ get_or xs k d
  same k d other within =
      let exchanged = exchanged_from_swap xs (zs ++ t ∷ []) at last here (omega (arith, end)) is in
      sym (get_or_append_left zs (t ∷ []) d k within) ∙ exchanged.2 k d other (λ e. omega (arith, e, within, end, one_less))

  -- the others and the timer that is out
  pub parts : IsPermutation xs (t ∷ zs)
  parts =
      IsPermutation-trans xs (zs ++ t ∷ []) (t ∷ zs)
      (IsPermutation-swap xs (zs ++ t ∷ []) at last here (omega (arith, end)) is) (IsPermutation-to_front zs t)

  -- the last timer may not belong at its new place
  pub but_there : IsHeap xs → at < length zs → IsHeapBut zs at
  but_there heap before = but-removed xs zs at heap before (omega (arith, one_less)) same

  -- the last timer leaves a heap
  pub heap_left : IsHeap xs → length zs ≤ at → IsHeap zs
  heap_left heap beyond =
      heap-shorter xs zs heap (omega (arith, one_less)) (λ k d within. same k d (λ e. omega (arith, e, beyond, within)) within)

  pub own_stamps_left : HaveOwnStamps xs → HaveOwnStamps zs
  own_stamps_left own = own_stamps-rest t zs (own_stamps-permutation xs (t ∷ zs) parts own)

-- what the list is once two of its timers were exchanged through a slice of it
pub exchanged_in_place : (xs slice ys rest left : List Timer) (at last n : ℕ) → take n (ys ++ rest) ≡ left → ys ≡ swap slice at last
    → slice ≡ xs → n ≡ length xs → left ≡ swap xs at last
exchanged_in_place xs slice ys rest left at last n is after value long =
    let now : ys ≡ swap xs at last = after ∙ ap (λ zs. swap zs at last) value in
    sym is ∙ written ys rest n (ap length now ∙ length-swap xs at last ∙ sym long) ∙ now

-- a heap of the timers that are left is kept where each is in its slot and the other slot is free
pub kept_left : (ws zs : List Timer) (places : Slab ℕ) → IsHeap ws → SlotsHoldPlaces ws places → slab_len places ≡ length ws
    → HaveOwnStamps zs → IsPermutation zs ws → IsKept ws places
kept_left ws zs places heap seated count own same =
    record { heap = heap; seated = seated; slot_count = count; own_stamps = own_stamps-permutation zs ws same own }

-- a timer with the greatest stamp has one of its own
pub own_stamps-newest : (t : Timer) (xs : List Timer) → All (λ x. x.handle.stamp < t.handle.stamp) xs → HaveOwnStamps xs
    → HaveOwnStamps (t ∷ xs)
own_stamps-newest t xs newest own =
    AllPairs-cons (λ first second. first.handle.stamp ≢ second.handle.stamp) t xs
    (All-weaker (λ x. x.handle.stamp < t.handle.stamp) (λ x. t.handle.stamp ≢ x.handle.stamp) (λ x less same. omega (arith, less, same)) xs
    newest) own
