-- Timers in order: what comes before what, and what a timer that is put in its place leaves.
use Rattle.std.proofs.Common.{◌≡◌, ◌≢◌, ◌∙◌, sym, ap, refl, subst, ℕ, suc, ◌<◌, ◌==◌, true, false, not, cond, nat_lt}
use Rattle.std.proofs.Common.{◌⊎◌, List, [], ◌∷◌, length, get_or, arith, Some, All, inl, inr}
use Rattle.std.specs.List.{AllPairs, swap}
use Rattle.std.specs.List.Sorted.{IsPermutation}
use Rattle.std.proofs.lemmas.Bool.{cond_both, cases_order, eqb-true, eqb-false}
use Rattle.std.proofs.lemmas.Bool.Decides.{nat_tests}
use Rattle.std.proofs.lemmas.List.Edits.{length-swap, swapped_from_swap}
use Rattle.std.proofs.lemmas.List.Elements.{All-nil, All-cons, All-head, All-tail, All-weaker}
use Rattle.std.proofs.lemmas.List.Kept.{AllPairs-cons}
use Rattle.std.proofs.lemmas.List.Sorted.{IsPermutation-keeps, IsPermutation-cons, IsPermutation-middle, IsPermutation-trans}
use Rattle.std.proofs.lemmas.List.Sorted.{IsPermutation-sym, IsPermutation-refl, All-permutation}
use Rattle.min_timer.specs.Order.{is_earlier, IsEarlier, put_in_order, in_order, HaveOwnStamps}
use Rattle.min_timer.specs.Queue.{with_timer, without, timer_of, is_timer_of}
use Rattle.min_timer.specs.declared.key.TimerKey.{TimerKey}
use Rattle.min_timer.specs.declared.timer.Timer.{Timer}
use Rattle.min_timer.proofs.EarlierLemmas.{earlier-irreflexive, earlier-trans, earlier-asym, earlier-total}

-- what holds of the timer and of the others holds of all
pub All-with_timer : (P : Timer → Type 0) (t : Timer) (xs : List Timer) → P t → All P xs → All P (with_timer t xs)
All-with_timer P t [] here all = All-cons P t [] here all
All-with_timer P t (x ∷ xs) here all =
    cond_both (nat_lt t.deadline x.deadline) (t ∷ x ∷ xs) (x ∷ with_timer t xs) (All P)
    (λ _. All-cons P t (x ∷ xs) here all)
    (λ _. All-cons P x (with_timer t xs) (All-head P x xs all) (All-with_timer P t xs here (All-tail P x xs all)))

-- the place that an element at k had before the elements at i and at j changed places
abbrev was_at : ℕ → ℕ → ℕ → ℕ
was_at i j k = cond (k == i) j (cond (k == j) i k)

-- that place is in the list
was_at-below : (i j k n : ℕ) → i < n → j < n → k < n → was_at i j k < n
was_at-below i j k n hi hj hk = grind (arith, nat_tests)

-- two places were two places
was_at-apart : (i j k m : ℕ) → k < m → was_at i j k ≢ was_at i j m
was_at-apart i j k m h e = grind (arith, nat_tests)

-- what stands at a place after the elements at i and at j changed places
was_at-reads : {X : Type 0} (xs : List X) (i j k : ℕ) (d : X) → i < length xs → j < length xs
    → get_or (swap xs i j) k d ≡ get_or xs (was_at i j k) d
was_at-reads xs i j k d hi hj =
    let swapped = swapped_from_swap xs (swap xs i j) i j d hi hj refl in
    cond_both (k == i) j (cond (k == j) i k) (λ m. get_or (swap xs i j) k d ≡ get_or xs m d)
    (λ e. ap (λ m. get_or (swap xs i j) m d) (eqb-true k i e) ∙ swapped.0)
    (λ e. cond_both (k == j) i k (λ m. get_or (swap xs i j) k d ≡ get_or xs m d)
    (λ f. ap (λ m. get_or (swap xs i j) m d) (eqb-true k j f) ∙ swapped.1)
    (λ f. swapped.2 k (eqb-false k i e) (eqb-false k j f)))

-- timers that change places keep stamps of their own
own_stamps-swap : (xs : List Timer) (i j : ℕ) → i < length xs → j < length xs → HaveOwnStamps xs → HaveOwnStamps (swap xs i j)
own_stamps-swap xs i j hi hj own = λ k m d l h e.
    let within : m < length xs = omega (arith, length-swap xs i j) in
    let hk : was_at i j k < length xs = was_at-below i j k (length xs) hi hj (omega arith) in
    let hm : was_at i j m < length xs = was_at-below i j m (length xs) hi hj within in
    let same : (get_or xs (was_at i j k) d).handle.stamp ≡ (get_or xs (was_at i j m) d).handle.stamp =
    ap (λ (t : Timer). t.handle.stamp) (sym (was_at-reads xs i j k d hi hj)) ∙ e
    ∙ ap (λ (t : Timer). t.handle.stamp) (was_at-reads xs i j m d hi hj) in
    elim (cases_order (was_at i j k) (was_at i j m)) [
      | inl one ↦ was_at-apart i j k m l one
      | inr (inl less) ↦ own (was_at i j k) (was_at i j m) d less hm same
      | inr (inr more) ↦ own (was_at i j m) (was_at i j k) d more hk (sym same)
    ]

-- timers in another order have stamps of their own
pub own_stamps-permutation : (xs ys : List Timer) → IsPermutation xs ys → HaveOwnStamps xs → HaveOwnStamps ys
own_stamps-permutation xs ys perm own = IsPermutation-keeps xs HaveOwnStamps own own_stamps-swap ys perm

-- the timers after the first have stamps of their own
pub own_stamps-rest : (t : Timer) (xs : List Timer) → HaveOwnStamps (t ∷ xs) → HaveOwnStamps xs
own_stamps-rest t xs own = λ i j d l h. own (suc i) (suc j) d (omega arith) (omega arith)

-- no timer after the first has its stamp
pub own_stamps-first : (t : Timer) (xs : List Timer) → HaveOwnStamps (t ∷ xs) → All (λ x. t.handle.stamp ≢ x.handle.stamp) xs
own_stamps-first t xs own = λ k d h. own 0 (suc k) d (omega arith) (omega arith)

-- the first of timers in order comes before each later one
first_is_earlier : (x : Timer) (xs : List Timer) → AllPairs IsEarlier (x ∷ xs) → All (IsEarlier x) xs
first_is_earlier x xs pairs = λ k d h. pairs 0 (suc k) d (omega arith) (omega arith)

-- the later ones are in order
rest_rises : (x : Timer) (xs : List Timer) → AllPairs IsEarlier (x ∷ xs) → AllPairs IsEarlier xs
rest_rises x xs pairs = λ i j d l h. pairs (suc i) (suc j) d (omega arith) (omega arith)

-- what holds of the timer and of the others holds of all with it in its place
All-put_in_order : (P : Timer → Type 0) (t : Timer) (xs : List Timer) → P t → All P xs → All P (put_in_order t xs)
All-put_in_order P t [] here all = All-cons P t [] here all
All-put_in_order P t (x ∷ xs) here all =
    cond_both (is_earlier t x) (t ∷ x ∷ xs) (x ∷ put_in_order t xs) (All P)
    (λ _. All-cons P t (x ∷ xs) here all)
    (λ _. All-cons P x (put_in_order t xs) (All-head P x xs all) (All-put_in_order P t xs here (All-tail P x xs all)))

-- a timer of another stamp, put in its place, leaves the timers in order
rising-put_in_order : (t : Timer) (xs : List Timer) → All (λ x. t.handle.stamp ≢ x.handle.stamp) xs → AllPairs IsEarlier xs
    → AllPairs IsEarlier (put_in_order t xs)
rising-put_in_order t [] differ pairs = AllPairs-cons IsEarlier t [] (All-nil (IsEarlier t)) pairs
rising-put_in_order t (x ∷ xs) differ pairs =
    cond_both (is_earlier t x) (t ∷ x ∷ xs) (x ∷ put_in_order t xs) (AllPairs IsEarlier)
    (λ e. AllPairs-cons IsEarlier t (x ∷ xs)
    (All-cons (IsEarlier t) x xs e (All-weaker (IsEarlier x) (IsEarlier t) (λ y h. earlier-trans t x y e h) xs
    (first_is_earlier x xs pairs)))
    pairs)
    (λ e. AllPairs-cons IsEarlier x (put_in_order t xs)
    (All-put_in_order (IsEarlier x) t xs
    (earlier-total t x (All-head (λ (y : Timer). t.handle.stamp ≢ y.handle.stamp) x xs differ) e)
    (first_is_earlier x xs pairs))
    (rising-put_in_order t xs (All-tail (λ (y : Timer). t.handle.stamp ≢ y.handle.stamp) x xs differ) (rest_rises x xs pairs)))

-- a timer put in its place stands there instead of at the front
permutation-put_in_order : (t : Timer) (xs : List Timer) → IsPermutation (t ∷ xs) (put_in_order t xs)
permutation-put_in_order t [] = IsPermutation-refl (t ∷ [])
permutation-put_in_order t (x ∷ xs) =
    cond_both (is_earlier t x) (t ∷ x ∷ xs) (x ∷ put_in_order t xs) (IsPermutation (t ∷ x ∷ xs))
    (λ _. IsPermutation-refl (t ∷ x ∷ xs))
    (λ _. IsPermutation-trans (t ∷ x ∷ xs) (x ∷ t ∷ xs) (x ∷ put_in_order t xs) (IsPermutation-middle (t ∷ []) x xs)
    (IsPermutation-cons x (t ∷ xs) (put_in_order t xs) (permutation-put_in_order t xs)))

-- the timers in order are the same timers
pub permutation-in_order : (xs : List Timer) → IsPermutation xs (in_order xs)
permutation-in_order [] = IsPermutation-refl []
permutation-in_order (t ∷ xs) =
    IsPermutation-trans (t ∷ xs) (t ∷ in_order xs) (put_in_order t (in_order xs))
    (IsPermutation-cons t xs (in_order xs) (permutation-in_order xs)) (permutation-put_in_order t (in_order xs))

-- what holds of all timers holds of them in order
pub All-in_order : (P : Timer → Type 0) (xs : List Timer) → All P xs → All P (in_order xs)
All-in_order P xs all = All-permutation P xs (in_order xs) (permutation-in_order xs) all

-- what holds of the timers in order holds of them
pub All-from_in_order : (P : Timer → Type 0) (xs : List Timer) → All P (in_order xs) → All P xs
All-from_in_order P xs all = All-permutation P (in_order xs) xs (IsPermutation-sym xs (in_order xs) (permutation-in_order xs)) all

-- timers with stamps of their own, put in order, come each before the later ones
pub rising-in_order : (xs : List Timer) → HaveOwnStamps xs → AllPairs IsEarlier (in_order xs)
rising-in_order [] own = λ i j d l h. absurd (omega arith)
rising-in_order (t ∷ xs) own =
    rising-put_in_order t (in_order xs)
    (All-in_order (λ (x : Timer). t.handle.stamp ≢ x.handle.stamp) xs (own_stamps-first t xs own))
    (rising-in_order xs (own_stamps-rest t xs own))

-- all of what begins with x, in order, are x or come after it
at_or_after : (x : Timer) (xs : List Timer) → AllPairs IsEarlier (x ∷ xs) → All (λ z. (z ≡ x) ⊎ IsEarlier x z) (x ∷ xs)
at_or_after x xs pairs =
    All-cons (λ z. (z ≡ x) ⊎ IsEarlier x z) x xs (inl refl)
    (All-weaker (IsEarlier x) (λ z. (z ≡ x) ⊎ IsEarlier x z) (λ z h. inr h) xs (first_is_earlier x xs pairs))

-- two timers of which neither comes first are one
same_first : (x y : Timer) → (y ≡ x) ⊎ IsEarlier x y → (x ≡ y) ⊎ IsEarlier y x → x ≡ y
same_first x y (inl same) k = sym same
same_first x y (inr h) (inl same) = same
same_first x y (inr h) (inr k) = absurd (let no : is_earlier y x ≡ false = earlier-asym x y h in cc)

-- what holds of a list carries over to the rests of two that begin alike
rests_alike : (x y : Timer) (xs ys : List Timer) → x ≡ y → AllPairs IsEarlier (y ∷ ys)
    → ((P : Timer → Type 0) → All P (x ∷ xs) → All P (y ∷ ys)) → (P : Timer → Type 0) → All P xs → All P ys
rests_alike x y xs ys same pairs there P all = λ k d h.
    All-tail (λ z. z ≢ x → P z) y ys
    (there (λ z. z ≢ x → P z)
    (All-cons (λ z. z ≢ x → P z) x xs (λ differs. absurd (differs refl))
    (All-weaker P (λ z. z ≢ x → P z) (λ z held _. held) xs all)))
    k d h
    (λ e. earlier-irreflexive y (subst (λ z. IsEarlier y z) (e ∙ same) (first_is_earlier y ys pairs k d h)))

-- timers in order of which the same holds are the same list
pub rising-unique : (xs ys : List Timer) → AllPairs IsEarlier xs → AllPairs IsEarlier ys
    → ((P : Timer → Type 0) → All P xs → All P ys) → ((P : Timer → Type 0) → All P ys → All P xs) → xs ≡ ys
rising-unique [] [] rx ry there back = refl
rising-unique [] (y ∷ ys) rx ry there back = absurd (All-head (λ _. ⊥) y ys (there (λ _. ⊥) (All-nil (λ _. ⊥))))
rising-unique (x ∷ xs) [] rx ry there back = absurd (All-head (λ _. ⊥) x xs (back (λ _. ⊥) (All-nil (λ _. ⊥))))
rising-unique (x ∷ xs) (y ∷ ys) rx ry there back =
    let same : x ≡ y = same_first x y
    (All-head (λ z. (z ≡ x) ⊎ IsEarlier x z) y ys (there (λ z. (z ≡ x) ⊎ IsEarlier x z) (at_or_after x xs rx)))
    (All-head (λ z. (z ≡ y) ⊎ IsEarlier y z) x xs (back (λ z. (z ≡ y) ⊎ IsEarlier y z) (at_or_after y ys ry))) in
    let rests : xs ≡ ys = rising-unique xs ys (rest_rises x xs rx) (rest_rises y ys ry)
    (rests_alike x y xs ys same ry there) (rests_alike y x ys xs (sym same) rx back) in
    cc

-- the same timers have one order
pub in_order-permutation : (xs ys : List Timer) → HaveOwnStamps xs → IsPermutation xs ys → in_order xs ≡ in_order ys
in_order-permutation xs ys own perm =
    rising-unique (in_order xs) (in_order ys) (rising-in_order xs own) (rising-in_order ys (own_stamps-permutation xs ys perm own))
    (λ P all. All-in_order P ys (All-permutation P xs ys perm (All-from_in_order P xs all)))
    (λ P all. All-in_order P xs (All-permutation P ys xs (IsPermutation-sym xs ys perm) (All-from_in_order P ys all)))

-- a timer of a greater stamp comes before another exactly where its deadline is less
newest_is_earlier : (t x : Timer) → x.handle.stamp < t.handle.stamp → is_earlier t x ≡ nat_lt t.deadline x.deadline
newest_is_earlier t x h = grind (arith, nat_tests)

-- the timer with the greatest stamp comes behind those of its deadline
pub put_in_order-newest : (t : Timer) (xs : List Timer) → All (λ x. x.handle.stamp < t.handle.stamp) xs
    → put_in_order t xs ≡ with_timer t xs
put_in_order-newest t [] older = refl
put_in_order-newest t (x ∷ xs) older =
    ap (λ b. cond b (t ∷ x ∷ xs) (x ∷ put_in_order t xs))
    (newest_is_earlier t x (All-head (λ (y : Timer). y.handle.stamp < t.handle.stamp) x xs older))
    ∙ ap (λ ys. cond (nat_lt t.deadline x.deadline) (t ∷ x ∷ xs) (x ∷ ys))
    (put_in_order-newest t xs (All-tail (λ (y : Timer). y.handle.stamp < t.handle.stamp) x xs older))

-- a timer that comes before all others stands first
pub put_in_order-first : (t : Timer) (xs : List Timer) → All (IsEarlier t) xs → put_in_order t xs ≡ t ∷ xs
put_in_order-first t [] all = refl
put_in_order-first t (x ∷ xs) all = ap (λ b. cond b (t ∷ x ∷ xs) (x ∷ put_in_order t xs)) (All-head (IsEarlier t) x xs all)

-- where no timer has the handle, all stay
without-none : (handle : TimerKey) (xs : List Timer) → All (λ x. is_timer_of handle x ≡ false) xs → without handle xs ≡ xs
without-none handle [] none = refl
without-none handle (x ∷ xs) none =
    ap (λ b. cond (not b) (x ∷ without handle xs) (without handle xs)) (All-head (λ y. is_timer_of handle y ≡ false) x xs none)
    ∙ ap (λ ys. x ∷ ys) (without-none handle xs (All-tail (λ y. is_timer_of handle y ≡ false) x xs none))

-- without the timer of the handle, the others stay as they were before it came
pub without-put_in_order : (handle : TimerKey) (t : Timer) (xs : List Timer) → is_timer_of handle t ≡ true
    → All (λ x. is_timer_of handle x ≡ false) xs → without handle (put_in_order t xs) ≡ xs
without-put_in_order handle t [] is none = ap (λ b. cond (not b) (t ∷ []) []) is
without-put_in_order handle t (x ∷ xs) is none =
    cond_both (is_earlier t x) (t ∷ x ∷ xs) (x ∷ put_in_order t xs) (λ ys. without handle ys ≡ x ∷ xs)
    (λ _. ap (λ b. cond (not b) (t ∷ without handle (x ∷ xs)) (without handle (x ∷ xs))) is ∙ without-none handle (x ∷ xs) none)
    (λ _. ap (λ b. cond (not b) (x ∷ without handle (put_in_order t xs)) (without handle (put_in_order t xs)))
    (All-head (λ y. is_timer_of handle y ≡ false) x xs none)
    ∙ ap (λ ys. x ∷ ys) (without-put_in_order handle t xs is (All-tail (λ y. is_timer_of handle y ≡ false) x xs none)))

-- the timer of the handle is found in its place
pub timer_of-put_in_order : (handle : TimerKey) (t : Timer) (xs : List Timer) → is_timer_of handle t ≡ true
    → All (λ x. is_timer_of handle x ≡ false) xs → timer_of handle (put_in_order t xs) ≡ Some t
timer_of-put_in_order handle t [] is none = ap (λ b. cond b (Some t) (timer_of handle [])) is
timer_of-put_in_order handle t (x ∷ xs) is none =
    cond_both (is_earlier t x) (t ∷ x ∷ xs) (x ∷ put_in_order t xs) (λ ys. timer_of handle ys ≡ Some t)
    (λ _. ap (λ b. cond b (Some t) (timer_of handle (x ∷ xs))) is)
    (λ _. ap (λ b. cond b (Some x) (timer_of handle (put_in_order t xs))) (All-head (λ y. is_timer_of handle y ≡ false) x xs none)
    ∙ timer_of-put_in_order handle t xs is (All-tail (λ y. is_timer_of handle y ≡ false) x xs none))
