-- What is seen of a heap of timers: them in their order, whatever their places.
use Rattle.std.proofs.Common.{◌≡◌, ◌≢◌, ◌∙◌, sym, ap, ◌<◌, true, false, List, [], ◌∷◌, length, get_or}
use Rattle.std.proofs.Common.{slice_get, Some, None, arith, IsPermutation, All, refl}
use Rattle.std.proofs.lemmas.Bool.{false_from_ne_true}
use Rattle.std.proofs.lemmas.List.Elements.{All-head, All-tail}
use Rattle.std.proofs.lemmas.List.Sorted.{All-permutation, IsPermutation-refl}
use Rattle.min_timer.specs.Order.{is_earlier, IsEarlier, in_order, IsHeap, HaveOwnStamps}
use Rattle.min_timer.specs.Queue.{is_timer_of, timer_of, without, with_timer}
use Rattle.min_timer.specs.declared.key.TimerKey.{TimerKey}
use Rattle.min_timer.specs.declared.timer.Timer.{Timer}
use Rattle.min_timer.proofs.EarlierLemmas.{earlier-total}
use Rattle.min_timer.proofs.HeapLemmas.{top-first}
use Rattle.min_timer.proofs.OrderLemmas.{own_stamps-permutation, own_stamps-first, in_order-permutation, All-in_order, put_in_order-first}
use Rattle.min_timer.proofs.OrderLemmas.{put_in_order-newest, without-put_in_order, timer_of-put_in_order}
use Rattle.min_timer.proofs.PlaceLemmas.{stamp_of_handle}
use Rattle.min_timer.proofs.TakeLemmas.{own_stamps-newest}

-- the top comes first, whatever the order of the others
pub top-out : (xs ys : List Timer) (t : Timer) → IsHeap xs → HaveOwnStamps xs → 0 < length xs → ((d : Timer) → t ≡ get_or xs 0 d)
    → IsPermutation xs (t ∷ ys) → in_order xs ≡ t ∷ in_order ys
top-out xs ys t heap own some top parts =
    let late : All (λ x. is_earlier x t ≡ false) xs = λ k d h. rw (top d) (top-first xs heap k d h) in
    let later : All (λ x. is_earlier x t ≡ false) ys = All-tail (λ x. is_earlier x t ≡ false) t ys
    (All-permutation (λ x. is_earlier x t ≡ false) xs (t ∷ ys) parts late) in
    let differ = own_stamps-first t ys (own_stamps-permutation xs (t ∷ ys) parts own) in
    let after : All (IsEarlier t) ys = λ k d h.
    earlier-total (get_or ys k d) t (λ same. differ k d h (sym same)) (later k d h) in
    in_order-permutation xs (t ∷ ys) own parts ∙ put_in_order-first t (in_order ys) (All-in_order (IsEarlier t) ys after)

-- the first of a heap is its top
pub first-in_order : (xs : List Timer) → IsHeap xs → HaveOwnStamps xs → slice_get (in_order xs) 0 ≡ slice_get xs 0
first-in_order [] heap own = refl
first-in_order (t ∷ ys) heap own =
    ap (λ zs. slice_get zs 0) (top-out (t ∷ ys) ys t heap own (omega arith) (λ d. refl) (IsPermutation-refl (t ∷ ys)))

-- a timer with the greatest stamp that came in stands in its place
pub in_order-pushed : (t : Timer) (xs ys : List Timer) → All (λ x. x.handle.stamp < t.handle.stamp) xs → HaveOwnStamps xs
    → IsPermutation (t ∷ xs) ys → in_order ys ≡ with_timer t (in_order xs)
in_order-pushed t xs ys newest own parts =
    sym (in_order-permutation (t ∷ xs) ys (own_stamps-newest t xs newest own) parts)
    ∙ put_in_order-newest t (in_order xs) (All-in_order (λ x. x.handle.stamp < t.handle.stamp) xs newest)

-- a timer of another stamp is not of the handle
other_stamp : (handle : TimerKey) (t x : Timer) → is_timer_of handle t ≡ true → t.handle.stamp ≢ x.handle.stamp
    → is_timer_of handle x ≡ false
other_stamp handle t x is differ =
    false_from_ne_true (is_timer_of handle x) (λ yes. differ (stamp_of_handle handle t is ∙ sym (stamp_of_handle handle x yes)))

module _ (handle : TimerKey) (t : Timer) (xs ys : List Timer) (own : HaveOwnStamps xs) (is : is_timer_of handle t ≡ true)
    (parts : IsPermutation xs (t ∷ ys)) where
  others : All (λ x. is_timer_of handle x ≡ false) (in_order ys)
  others =
      let differ = own_stamps-first t ys (own_stamps-permutation xs (t ∷ ys) parts own) in
      All-in_order (λ x. is_timer_of handle x ≡ false) ys (λ k d h. other_stamp handle t (get_or ys k d) is (differ k d h))

  -- the timer of a handle is found, whatever the order of the others
  pub found-out : timer_of handle (in_order xs) ≡ Some t
  found-out = ap (timer_of handle) (in_order-permutation xs (t ∷ ys) own parts) ∙ timer_of-put_in_order handle t (in_order ys) is others

  -- and the others are left
  pub left-out : without handle (in_order xs) ≡ in_order ys
  left-out = ap (without handle) (in_order-permutation xs (t ∷ ys) own parts) ∙ without-put_in_order handle t (in_order ys) is others

-- where no timer is of the handle, none is found
pub none-found : (handle : TimerKey) (xs : List Timer) → All (λ x. is_timer_of handle x ≡ false) xs → timer_of handle xs ≡ None
none-found handle [] none = refl
none-found handle (x ∷ xs) none = rw (All-head (λ y. is_timer_of handle y ≡ false) x xs none)
    (none-found handle xs (All-tail (λ y. is_timer_of handle y ≡ false) x xs none))

-- and all are left
pub all-left : (handle : TimerKey) (xs : List Timer) → All (λ x. is_timer_of handle x ≡ false) xs → without handle xs ≡ xs
all-left handle [] none = refl
all-left handle (x ∷ xs) none = rw (All-head (λ y. is_timer_of handle y ≡ false) x xs none)
    (ap (λ ys. x ∷ ys) (all-left handle xs (All-tail (λ y. is_timer_of handle y ≡ false) x xs none)))
