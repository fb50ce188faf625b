-- The timers that are due, as a walk down a heap finds them: their places rise, and in the end none is left out.
use Rattle.std.proofs.Common.{◌≡◌, ◌∙◌, sym, ap, refl, subst, ℕ, zero, suc, ◌+◌, ◌*◌, ◌<◌, ◌≤◌, ◌&&◌, ◌||◌, ◌==◌, nat_lt, nat_le, arith}
use Rattle.std.proofs.Common.{Bool, true, false, if◌then◌else◌, ◌⊎◌, inl, inr, Ordering, is_lt, nat_cmp, IsPermutation}
use Rattle.std.proofs.Common.{List, [], ◌∷◌, ◌++◌, length, get_or, map, filter, append_assoc, length-append, All, Contains}
use Rattle.std.specs.Cmp.{IsStrictWeakOrder}
use Rattle.std.specs.List.{AllPairs}
use Rattle.std.specs.List.Sorted.{IsSortedBy}
use Rattle.std.specs.Ordering.{ordering_then}
use Rattle.std.proofs.lemmas.Bool.{cases_eq, cond_both, and_parts, ltb-true, leb-true, le-leb}
use Rattle.std.proofs.lemmas.Bool.Decides.{nat_tests}
use Rattle.std.proofs.lemmas.List.{get_or_append_left, get_or_default, get_or_read, append-nil, get_or-map, length-map}
use Rattle.std.proofs.lemmas.List.Elements.{All-nil, All-cons, All-head, All-tail, All-push, All-weaker, All-map, All-filter, All-get_or}
use Rattle.std.proofs.lemmas.List.Elements.{All-contains, filter_passes, Contains-append_left, Contains-append_right, Contains-push}
use Rattle.std.proofs.lemmas.List.Kept.{AllPairs-filter}
use Rattle.std.proofs.lemmas.List.Quantifiers.{all_pairs_push}
use Rattle.std.proofs.lemmas.List.Sorted.{All-permutation, Contains-permutation, IsPermutation-map, sorted_far}
use Rattle.min_timer.specs.DueTimers.{timer_in, entry_at, IsDueAt, found_at, found_below, AreFoundDue, AreAllDue}
use Rattle.min_timer.specs.Order.{is_earlier, IsEarlier, above, IsHeap, HaveOwnStamps, in_order}
use Rattle.min_timer.specs.Queue.{due_keys}
use Rattle.min_timer.specs.declared.due.Due.{Due}
use Rattle.min_timer.specs.declared.timer.Timer.{Timer}
use Rattle.min_timer.proofs.EarlierLemmas.{earlier-asym, earlier-total, not_earlier-trans}
use Rattle.min_timer.proofs.OrderLemmas.{own_stamps-permutation, All-in_order, All-from_in_order, rising-in_order, rising-unique}

-- what a place adds is the timer that is due there, or nothing
found_at-cases : (P : List Due → Type 0) (timers : List Timer) (now at : ℕ) → (IsDueAt timers now at → P (entry_at timers at ∷ [])) → P [] →
    P (found_at timers now at)
found_at-cases P timers now at some none =
    cond_both (nat_lt at (length timers) && nat_le (timer_in timers at).deadline now) (entry_at timers at ∷ []) [] P
    (λ e. let b = and_parts (nat_lt at (length timers)) (nat_le (timer_in timers at).deadline now) e in
    some (ltb-true at (length timers) b.0, leb-true (timer_in timers at).deadline now b.1))
    (λ _. none)

-- at a place with a timer that is due it is that
found_at-some : (timers : List Timer) (now at : ℕ) → IsDueAt timers now at → found_at timers now at ≡ entry_at timers at ∷ []
found_at-some timers now at is = grind (arith, nat_tests)

-- timers that are due, at places below the bound
record IsPart (timers : List Timer) (now : ℕ) (due : List Due) (bound : ℕ) : Type 0 where
  are : AreFoundDue timers now due
  low : All (λ e. e.place < bound) due

-- what a place at the bound or above adds comes behind them
part-more : (timers : List Timer) (now : ℕ) (due : List Due) (bound at : ℕ) → IsPart timers now due bound → bound ≤ at →
    IsPart timers now (due ++ found_at timers now at) (at + 1)
part-more timers now due bound at part h =
    found_at-cases (λ more. IsPart timers now (due ++ more) (at + 1)) timers now at
    (λ is. record {
      are = record {
        rising = all_pairs_push (λ first second. first.place < second.place) due (entry_at timers at) part.are.rising
            (λ k d l. omega (arith, part.low k d l));
        each = All-push (λ e. IsDueAt timers now e.place × (e ≡ entry_at timers e.place)) due (entry_at timers at) part.are.each
            (is, refl);
      };
      low = All-push (λ e. e.place < at + 1) due (entry_at timers at)
          (All-weaker (λ e. e.place < bound) (λ e. e.place < at + 1) (λ e l. omega arith) due part.low) (omega arith);
    })
    (rw append-nil (record {
      are = part.are;
      low = All-weaker (λ e. e.place < bound) (λ e. e.place < at + 1) (λ e l. omega arith) due part.low;
    }))

-- a place is no less than its index
index-le : (due : List Due) (j : ℕ) (d : Due) → AllPairs (λ first second. first.place < second.place) due → j < length due →
    j ≤ (get_or due j d).place
index-le due zero d rising h = omega arith
index-le due (suc j) d rising h =
    omega (arith, index-le due j d rising (omega arith), rising j (suc j) d (omega arith) h)

-- the walk has come to the entry of this index: what is below those before it is found, and nothing below the others
pub record IsWalk (timers : List Timer) (now : ℕ) (due : List Due) (next : ℕ) : Type 0 where
  pub reached : next ≤ length due
  pub are : AreFoundDue timers now due
  pub ahead : (j : ℕ) (d : Due) → next ≤ j → j < length due → All (λ e. e.place < 4 * (get_or due j d).place + 1) due
  pub top : IsDueAt timers now 0 → Contains due (entry_at timers 0)
  pub below : (j : ℕ) (d : Due) (k : ℕ) → j < next → (get_or due j d).place ≡ above k → 0 < k → IsDueAt timers now k →
      Contains due (entry_at timers k)

-- what the place adds holds the timer that is due there
contains_due : (timers : List Timer) (now at : ℕ) → IsDueAt timers now at → Contains (found_at timers now at) (entry_at timers at)
contains_due timers now at is =
    subst (λ more. Contains more (entry_at timers at)) (sym (found_at-some timers now at is)) (Contains-push [] (entry_at timers at))

-- at the start the walk has come to the top
pub walk-start : (timers : List Timer) (now : ℕ) → IsWalk timers now (found_at timers now 0) 0
walk-start timers now =
    let part : IsPart timers now (found_at timers now 0) 1 = part-more timers now [] 0 0
    (record {
      are = record {
        rising = λ i j d l h. absurd (omega arith);
        each = All-nil (λ e. IsDueAt timers now e.place × (e ≡ entry_at timers e.place));
      };
      low = All-nil (λ e. e.place < 0);
    }) (omega arith) in
    record {
      reached = omega arith;
      are = part.are;
      ahead = λ j d l h. All-weaker (λ e. e.place < 1) (λ e. e.place < 4 * (get_or (found_at timers now 0) j d).place + 1)
          (λ e low. omega arith) (found_at timers now 0) part.low;
      top = contains_due timers now 0;
      below = λ j d k l same up is. absurd (omega arith);
    }

-- the timers that are due below the entry come behind the others
walk-on : (timers : List Timer) (now : ℕ) (due more : List Due) (next : ℕ) (e : Due) → IsWalk timers now due next → next < length due →
    e ≡ get_or due next e → IsPart timers now (due ++ more) (4 * e.place + 4 + 1) →
    ((k : ℕ) → e.place ≡ above k → 0 < k → IsDueAt timers now k → Contains more (entry_at timers k)) →
    IsWalk timers now (due ++ more) (next + 1)
walk-on timers now due more next e walk l is part found =
    record {
      reached = omega (arith, length-append due more);
      are = part.are;
      ahead = λ j d m h.
          let later : (get_or (due ++ more) next d).place < (get_or (due ++ more) j d).place = part.are.rising next j d (omega arith) h in
          let same : get_or (due ++ more) next d ≡ e = here d in
          let here' : (get_or (due ++ more) next d).place ≡ e.place = ap (λ x. x.place) same in
          All-weaker (λ x. x.place < 4 * e.place + 4 + 1) (λ x. x.place < 4 * (get_or (due ++ more) j d).place + 1)
          (λ x low. omega arith) (due ++ more) part.low;
      top = λ due_0. Contains-append_left due more (entry_at timers 0) (walk.top due_0);
      below = λ j d k m same up due_k. first_or_last j d k m same up due_k (split j m);
    }
  where
    here : (d : Due) → get_or (due ++ more) next d ≡ e
    here d = get_or_append_left due more d next l ∙ sym (get_or_read due next e l is d)

    split : (j : ℕ) → j < next + 1 → (j < next) ⊎ (j ≡ next)
    split j m = grind arith

    first_or_last : (j : ℕ) (d : Due) (k : ℕ) → j < next + 1 → (get_or (due ++ more) j d).place ≡ above k → 0 < k →
        IsDueAt timers now k → (j < next) ⊎ (j ≡ next) → Contains (due ++ more) (entry_at timers k)
    first_or_last j d k m same up due_k (inl less) =
        Contains-append_left due more (entry_at timers k)
        (walk.below j d k less (ap (λ x. x.place) (sym (get_or_append_left due more d j (omega arith))) ∙ same) up due_k)
    first_or_last j d k m same up due_k (inr at) =
        Contains-append_right due more (entry_at timers k)
        (found k (ap (λ x. x.place) (sym (here d)) ∙ ap (λ i. (get_or (due ++ more) i d).place) (sym at) ∙ same) up due_k)

-- the places directly below an entry
pub walk-step : (timers : List Timer) (now : ℕ) (due : List Due) (next : ℕ) (e : Due) → IsWalk timers now due next → next < length due →
    e ≡ get_or due next e → IsWalk timers now (due ++ found_below timers now e.place) (next + 1)
walk-step timers now due next e walk l is = walk-on timers now due (found_below timers now e.place) next e walk l is part below
  where
    one : List Due
    one = found_at timers now (4 * e.place + 1)

    two : List Due
    two = found_at timers now (4 * e.place + 2)

    three : List Due
    three = found_at timers now (4 * e.place + 3)

    four : List Due
    four = found_at timers now (4 * e.place + 4)

    start : IsPart timers now due (4 * e.place + 1)
    start = record { are = walk.are; low = rw (← is) at (walk.ahead next e (omega arith) l) }

    each : IsPart timers now ((((due ++ one) ++ two) ++ three) ++ four) (4 * e.place + 4 + 1)
    each =
        part-more timers now (((due ++ one) ++ two) ++ three) (4 * e.place + 3 + 1) (4 * e.place + 4)
        (part-more timers now ((due ++ one) ++ two) (4 * e.place + 2 + 1) (4 * e.place + 3)
        (part-more timers now (due ++ one) (4 * e.place + 1 + 1) (4 * e.place + 2)
        (part-more timers now due (4 * e.place + 1) (4 * e.place + 1) start (omega arith)) (omega arith)) (omega arith)) (omega arith)

    part : IsPart timers now (due ++ found_below timers now e.place) (4 * e.place + 4 + 1)
    part =
        subst (λ es. IsPart timers now es (4 * e.place + 4 + 1))
        (append_assoc ((due ++ one) ++ two) three four ∙ append_assoc (due ++ one) two (three ++ four)
        ∙ append_assoc due one (two ++ (three ++ four))) each

    found : (k i : ℕ) → IsDueAt timers now k → k ≡ i → Contains (found_at timers now i) (entry_at timers k)
    found k i due_k at = subst (λ i. Contains (found_at timers now i) (entry_at timers k)) at (contains_due timers now k due_k)

    below : (k : ℕ) → e.place ≡ above k → 0 < k → IsDueAt timers now k → Contains (found_below timers now e.place) (entry_at timers k)
    below k same up due_k =
        elim (cases_eq k (4 * e.place + 1)) [
          | inl at ↦ Contains-append_left one (two ++ (three ++ four)) (entry_at timers k) (found k (4 * e.place + 1) due_k at)
          | inr not_first ↦
              Contains-append_right one (two ++ (three ++ four)) (entry_at timers k)
              (elim (cases_eq k (4 * e.place + 2)) [
                | inl at ↦ Contains-append_left two (three ++ four) (entry_at timers k) (found k (4 * e.place + 2) due_k at)
                | inr not_second ↦
                    Contains-append_right two (three ++ four) (entry_at timers k)
                    (elim (cases_eq k (4 * e.place + 3)) [
                      | inl at ↦ Contains-append_left three four (entry_at timers k) (found k (4 * e.place + 3) due_k at)
                      | inr not_third ↦
                          Contains-append_right three four (entry_at timers k)
                          (found k (4 * e.place + 4) due_k (omega (arith, same, up, not_first, not_second, not_third)))
                    ])
              ])
        ]

-- what comes no later than a timer that is due is due
no_later : (t u : Timer) (now : ℕ) → is_earlier t u ≡ false → t.deadline ≤ now → u.deadline ≤ now
no_later t u now h is = grind (arith, nat_tests)

-- the timer above one that is due is due
above-due : (timers : List Timer) (now at : ℕ) → IsHeap timers → 0 < at → IsDueAt timers now at → IsDueAt timers now (above at)
above-due timers now at heap up is =
    (omega (arith, is.0), no_later (timer_in timers at) (timer_in timers (above at)) now (heap at none up is.0) is.1)
  where
    none : Timer
    none = record { deadline = 0; key = 0; handle = record { slot = 0; stamp = 0 } }

-- at the end of the walk none is left out
pub walk-end : (timers : List Timer) (now : ℕ) (due : List Due) (next : ℕ) → IsHeap timers → IsWalk timers now due next →
    length due ≤ next → AreAllDue timers now due
walk-end timers now due next heap walk h = record { part = walk.are; all = λ at is. within (at + 1) at (omega arith) is }
  where
    within : (n at : ℕ) → at < n → IsDueAt timers now at → Contains due (entry_at timers at)
    within zero at l is = absurd (omega arith)
    within (suc n) zero l is = walk.top is
    within (suc n) (suc at) l is =
        let up = within n (above (suc at)) (omega arith) (above-due timers now (suc at) heap (omega arith) is) in
        walk.below up.0 (entry_at timers (above (suc at))) (suc at) (omega (arith, up.1)) (ap (λ e. e.place) up.2) (omega arith) is

-- each entry of the walk is within the heap, and so is its index
pub next-within : (timers : List Timer) (now : ℕ) (due : List Due) (next : ℕ) (e : Due) → IsWalk timers now due next → next < length due →
    e ≡ get_or due next e → (next ≤ e.place) × (e.place < length timers)
next-within timers now due next e walk l is =
    (rw is (index-le due next e walk.are.rising l), rw is ((walk.are.each next e l).0.0))

-- the timers of entries
abbrev timers_of : List Timer → List Due → List Timer
timers_of timers due = map (λ e. timer_in timers e.place) due

-- the entry is that of its place, where a timer is due
abbrev IsEntry : List Timer → ℕ → Due → Type 0
IsEntry timers now e = IsDueAt timers now e.place × (e ≡ entry_at timers e.place)

-- the timer at an index is that of the entry there
timers_of-at : (timers : List Timer) (due : List Due) (k : ℕ) (d : Timer) (e : Due) → k < length due →
    get_or (timers_of timers due) k d ≡ timer_in timers (get_or due k e).place
timers_of-at timers due k d e h = get_or-map (λ x. timer_in timers x.place) due k e d h

-- entries that stand at places of their own have timers with stamps of their own
own_stamps-due : (timers : List Timer) (now : ℕ) (due : List Due) → HaveOwnStamps timers → AreFoundDue timers now due →
    HaveOwnStamps (timers_of timers due)
own_stamps-due timers now due own are = λ i j d l h.
    let none = entry_at timers 0 in
    let within : j < length due = rw length-map at h in
    let first : i < length due = omega arith in
    rw (timers_of-at timers due i d none first, timers_of-at timers due j d none within)
    (own (get_or due i none).place (get_or due j none).place _ (are.rising i j none l within) (are.each j none within).0.0)

-- how the sort compares entries
abbrev due_cmp : Due → Due → Ordering
due_cmp a b =
    ordering_then (nat_cmp a.deadline b.deadline)
    (ordering_then (nat_cmp a.stamp b.stamp) (ordering_then (nat_cmp a.key b.key) (nat_cmp a.place b.place)))

-- the timer of the first entry comes due before that of the second
abbrev entry_is_earlier : Due → Due → Bool
entry_is_earlier a b = nat_lt a.deadline b.deadline || (a.deadline == b.deadline && nat_lt a.stamp b.stamp)

-- what is not less in the sort does not come due before
not_less : (a b : Due) → is_lt (due_cmp a b) ≡ false → entry_is_earlier a b ≡ false
not_less a b h = grind (arith, nat_tests)

-- and so the timers of them
not_earlier : (timers : List Timer) (a b : Due) → a ≡ entry_at timers a.place → b ≡ entry_at timers b.place →
    is_lt (due_cmp a b) ≡ false → is_earlier (timer_in timers a.place) (timer_in timers b.place) ≡ false
not_earlier timers a b of_a of_b h =
    subst (λ y. entry_is_earlier (entry_at timers a.place) y ≡ false) of_b
    (subst (λ x. entry_is_earlier x b ≡ false) of_a (not_less a b h))

-- what comes due before what is an order
earlier-order : IsStrictWeakOrder is_earlier
earlier-order = record { one_way = earlier-asym; chain = not_earlier-trans }

-- sorted entries have timers that come each before the later ones
rising-sorted : (timers : List Timer) (now : ℕ) (due : List Due) → HaveOwnStamps (timers_of timers due) → All (IsEntry timers now) due →
    IsSortedBy (λ a b. is_lt (due_cmp a b)) due → AllPairs IsEarlier (timers_of timers due)
rising-sorted timers now due own each sorted = λ i j d l h.
    earlier-total (get_or (timers_of timers due) j d) (get_or (timers_of timers due) i d) (λ same. own i j d l h (sym same))
    (sorted_far is_earlier earlier-order (timers_of timers due) neighbours i j d (omega arith) h)
  where
    none : Due
    none = entry_at timers 0

    neighbours : IsSortedBy is_earlier (timers_of timers due)
    neighbours = λ k d low h.
        let later : k + 1 < length due = rw length-map at h in
        let first : k < length due = omega arith in
        rw (timers_of-at timers due (k + 1) d none later, timers_of-at timers due k d none first)
        (not_earlier timers (get_or due (k + 1) none) (get_or due k none) (each (k + 1) none later).1 (each k none first).1
        (sorted k none low later))

-- what holds of what a map gives holds of what it gives at each
All-from_map : {X Y : Type 0} (f : X → Y) (P : Y → Type 0) (xs : List X) → All P (map f xs) → All (λ x. P (f x)) xs
All-from_map f P xs all = λ k d h. subst P (get_or-map f xs k d (f d) h) (all k (f d) (rw length-map h))

-- what holds of what a filter keeps holds of all that pass
All-from_filter : {X : Type 0} (p : X → Bool) (P : X → Type 0) (xs : List X) → All P (filter p xs) → All (λ x. p x ≡ true → P x) xs
All-from_filter p P [] all = All-nil (λ x. p x ≡ true → P x)
All-from_filter {X} p P (x ∷ xs) all = go (All-from_filter p P xs) (p x) refl all
  where
    go : (All P (filter p xs) → All (λ y. p y ≡ true → P y) xs) → (b : Bool) → p x ≡ b →
        All P (if b then x ∷ filter p xs else filter p xs) → All (λ y. p y ≡ true → P y) (x ∷ xs)
    go rest true is h =
        All-cons (λ y. p y ≡ true → P y) x xs (λ _. All-head P x (filter p xs) h) (rest (All-tail P x (filter p xs) h))
    go rest false is h = All-cons (λ y. p y ≡ true → P y) x xs (λ yes. absurd (cc)) (rest h)

-- a filter that passes none keeps none
filter-none : {X : Type 0} (p : X → Bool) (xs : List X) → All (λ x. p x ≡ false) xs → filter p xs ≡ []
filter-none p [] none = refl
filter-none p (x ∷ xs) none =
    ap (λ b. if b then x ∷ filter p xs else filter p xs) (All-head (λ y. p y ≡ false) x xs none)
    ∙ filter-none p xs (All-tail (λ y. p y ≡ false) x xs none)

-- the timer is due at the moment
abbrev is_due : ℕ → Timer → Bool
is_due now timer = nat_le timer.deadline now

-- of timers that come each before the later ones those that are due stand in front
due_keys-filter : (now : ℕ) (xs : List Timer) → AllPairs IsEarlier xs → due_keys now xs ≡ map (λ t. t.key) (filter (is_due now) xs)
due_keys-filter now [] rising = refl
due_keys-filter now (x ∷ xs) rising =
    go (due_keys-filter now xs (λ i j d l h. rising (suc i) (suc j) d (omega arith) (omega arith))) (is_due now x) refl
  where
    later_not_due : (t : Timer) → is_earlier x t ≡ true → is_due now x ≡ false → is_due now t ≡ false
    later_not_due t before is = grind (arith, nat_tests)

    go : due_keys now xs ≡ map (λ t. t.key) (filter (is_due now) xs) → (b : Bool) → is_due now x ≡ b →
        (if b then x.key ∷ due_keys now xs else []) ≡
        map (λ t. t.key) (if b then x ∷ filter (is_due now) xs else filter (is_due now) xs)
    go rest true is = ap (λ ks. x.key ∷ ks) rest
    go rest false is =
        ap (map (λ t. t.key)) (sym (filter-none (is_due now) xs (λ k d h. later_not_due (get_or xs k d)
        (rising 0 (suc k) d (omega arith) (omega arith)) is)))

-- the keys of entries are those of their timers
keys-timers_of : (timers : List Timer) (due : List Due) → All (λ e. e ≡ entry_at timers e.place) due →
    map (λ e. e.key) due ≡ map (λ t. t.key) (timers_of timers due)
keys-timers_of timers [] each = refl
keys-timers_of timers (e ∷ due) each =
    ap (λ x. x.key ∷ map (λ y. y.key) due) (All-head (λ x. x ≡ entry_at timers x.place) e due each)
    ∙ ap (λ ks. (timer_in timers e.place).key ∷ ks) (keys-timers_of timers due (All-tail (λ x. x ≡ entry_at timers x.place) e due each))

-- the keys of all entries, sorted, are the keys that are due
pub sorted-keys : (timers : List Timer) (now : ℕ) (due sorted : List Due) → HaveOwnStamps timers → AreAllDue timers now due →
    IsPermutation due sorted → IsSortedBy (λ a b. is_lt (due_cmp a b)) sorted →
    map (λ e. e.key) sorted ≡ due_keys now (in_order timers)
sorted-keys timers now due sorted own are perm up =
    keys-timers_of timers sorted (All-weaker (IsEntry timers now) (λ e. e ≡ entry_at timers e.place) (λ e is. is.1) sorted each)
    ∙ ap (map (λ t. t.key)) (rising-unique (timers_of timers sorted) (filter (is_due now) (in_order timers))
    (rising-sorted timers now sorted own_sorted each up)
    (AllPairs-filter IsEarlier (is_due now) (in_order timers) (rising-in_order timers own)) there back)
    ∙ sym (due_keys-filter now (in_order timers) (rising-in_order timers own))
  where
    each : All (IsEntry timers now) sorted
    each = All-permutation (IsEntry timers now) due sorted perm are.part.each

    own_sorted : HaveOwnStamps (timers_of timers sorted)
    own_sorted =
        own_stamps-permutation (timers_of timers due) (timers_of timers sorted)
        (IsPermutation-map (λ e. timer_in timers e.place) due sorted perm) (own_stamps-due timers now due own are.part)

    at_place : (P : Timer → Type 0) → All P (timers_of timers sorted) → (k : ℕ) (d : Timer) → k < length timers →
        is_due now (get_or timers k d) ≡ true → P (get_or timers k d)
    at_place P all k d h passes =
        let same : timer_in timers k ≡ get_or timers k d = get_or_default timers k _ d h in
        let due_k : IsDueAt timers now k = (h, leb-true _ now (rw (← same) at passes)) in
        subst P same (All-contains (λ e. P (timer_in timers e.place)) sorted (entry_at timers k)
        (All-from_map (λ e. timer_in timers e.place) P sorted all)
        (Contains-permutation due sorted (entry_at timers k) perm (are.all k due_k)))

    there : (P : Timer → Type 0) → All P (timers_of timers sorted) → All P (filter (is_due now) (in_order timers))
    there P all =
        let passed : All (λ t. is_due now t ≡ true → P t) (filter (is_due now) (in_order timers)) =
        All-filter (is_due now) (λ t. is_due now t ≡ true → P t) (in_order timers)
        (All-in_order (λ t. is_due now t ≡ true → P t) timers (λ k d h passes. at_place P all k d h passes)) in
        λ k d h. passed k d h (filter_passes (is_due now) (in_order timers) k d h)

    back : (P : Timer → Type 0) → All P (filter (is_due now) (in_order timers)) → All P (timers_of timers sorted)
    back P all =
        let passed : All (λ t. is_due now t ≡ true → P t) timers =
        All-from_in_order (λ t. is_due now t ≡ true → P t) timers (All-from_filter (is_due now) P (in_order timers) all) in
        All-map P (λ e. timer_in timers e.place) sorted (All-weaker (IsEntry timers now) (λ e. P (timer_in timers e.place))
        (λ e is. All-get_or (λ t. is_due now t ≡ true → P t) timers e.place _ is.0.0 passed (le-leb _ now is.0.1)) sorted each)
