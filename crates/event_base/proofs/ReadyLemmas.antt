-- The queues and the places beside them: what becomes of both as an event becomes active or inactive.
use Rattle.std.proofs.Common.{◌≡◌, ◌≢◌, ℕ, ◌+◌, ◌-◌, ◌<◌, ◌≤◌, ◌==◌, nat_eq, Bool, true, false, not, if◌then◌else◌, cond, List, [], ◌∷◌}
use Rattle.std.proofs.Common.{◌++◌, length, set, get_or, Option, Some, None, option_map, refl, sym, ◌∙◌, ap, subst, ⊎_elim, filter}
use Rattle.std.proofs.Common.{slice_get, nat_lt, zero, suc, take, drop, add-zero, arith, rules}
use Rattle.std.proofs.lemmas.Bool.{cases_eq, cases_lt, eq-eqb, ne_eqb, lt-ltb, le-ltb, ltb-false}
use Rattle.std.proofs.lemmas.List.Sums.{fails_before_first, passes_at_first}
use Rattle.std.specs.List.{list_any, position, position_or_len}
use Rattle.std.proofs.lemmas.Grind.{common_steps}
use Rattle.std.proofs.lemmas.List.{get_or-set_same, get_or-set_other, get_or_past, length-set, set-set, set-get_or, length_push}
use Rattle.std.proofs.lemmas.List.{take-append-le, take_all, take_more}
use Rattle.std.proofs.Math.ListN.{get_or-map}
use Rattle.prio_queue.specs.Queues.{queue_of, without, first_key, first_filled, appended, without_last, popped, is_queued}
use Rattle.event_base.specs.declared.ready.Place.{Place}
use Rattle.event_base.specs.declared.ready.Waking.{Waking}
use Rattle.event_base.specs.Rising.{at, but, with, IsLeading, Rises}
use Rattle.event_base.specs.Ready.{order_in, orders, priorities, IsFront, IsNext, IsLeast, woken, CanWake, appended_all, CanAppend}
use Rattle.event_base.specs.Ready.{IsPlaced}
use Rattle.event_base.proofs.RisingLemmas.{but-same, but-other, but-some, Rises-same, Rises-without, Rises-push, Rises-absent}

-- a place that was taken out of a list is no longer there, and the others are
pub at-set_none : {V : Type 0} (xs : List (Option V)) (k j : ℕ) → at (set xs k None) j ≡ but k (at xs) j
at-set_none xs k j = ⊎_elim
    (λ e. ⊎_elim
    (λ lt. (let there = get_or-set_same xs k None None lt in grind (arith, common_steps)))
    (λ ge. (let past = get_or_past (set xs k None) k None in grind (arith, common_steps)))
    (cases_lt k (length xs)))
    (λ n. (let there = get_or-set_other xs k j None None n in grind (arith, common_steps)))
    (cases_eq j k)

-- the same, by order numbers of one priority
pub orders-set_none : (priority : ℕ) (places : List (Option Place)) (k j : ℕ) → orders priority (set places k None) j ≡ but k
    (orders priority places) j
orders-set_none priority places k j = ap (order_in priority) (at-set_none places k j) ∙ split (nat_eq j k)
  where
    split : (b : Bool) → order_in priority (cond b None (at places j)) ≡ cond b None (orders priority places j)
    split true = refl
    split false = refl

-- the first of a queue is the front of its priority
pub IsFront-first : (priority : ℕ) (places : List (Option Place)) (queue : List ℕ) → Rises ◌<◌ queue (orders priority places) →
    IsFront priority places (first_key queue)
IsFront-first priority places [] r = r
IsFront-first priority places (k ∷ ks) r = r.0

-- an event that is inactive stands in no queue
pub Rises-rest : (queues : List (List ℕ)) (places : List (Option Place)) (k priority : ℕ) → Rises ◌<◌ (queue_of queues priority)
    (orders priority places) → Rises ◌<◌ (queue_of (without k queues) priority) (orders priority (set places k None))
Rises-rest queues places k priority r =
    rw (get_or-map (filter (λ other. not (other == k))) queues priority [])
    (Rises-same ◌<◌ _ (but k (orders priority places)) (orders priority (set places k None)) (orders-set_none priority places k)
    (Rises-without ◌<◌ (queue_of queues priority) (orders priority places) k r))

-- does a queue have an event
abbrev is_filled : List ℕ → Bool
is_filled queue = nat_lt 0 (length queue)

-- an event with a place has an order number among those of its priority
in_orders : (o : Option Place) (m : ℕ) → option_map (λ place. place.priority) o ≡ Some m → order_in m o ≡ None → ⊥
in_orders None m e n = cc e
in_orders (Some place) m e n =
    let same : place.priority ≡ m = cc e in
    let test : nat_eq place.priority m ≡ true = eq-eqb place.priority m same in
    let some : order_in m (Some place) ≡ Some place.order = rw test refl in
    cc (some, n)

-- an order number among those of a priority is that of an event of the priority
of_priority : (o : Option Place) (m v : ℕ) → order_in m o ≡ Some v → option_map (λ place. place.priority) o ≡ Some m
of_priority None m v e = cc e
of_priority (Some place) m v e = ⊎_elim
    (λ same. ap Some same)
    (λ other. (let test : nat_eq place.priority m ≡ false = ne_eqb place.priority m other in
    let none : order_in m (Some place) ≡ None = rw test refl in cc (none, e)))
    (cases_eq place.priority m)

no_value : (o : Option ℕ) → ((m : ℕ) → o ≡ Some m → ⊥) → o ≡ None
no_value None h = refl
no_value (Some m) h = absurd (h m refl)

head_of : (priority : ℕ) (places : List (Option Place)) (queue : List ℕ) → Rises ◌<◌ queue (orders priority places) → is_filled
    queue ≡ true → (k : ℕ) × (priorities places k ≡ Some priority)
head_of priority places [] r h = cc h
head_of priority places (k ∷ ks) r h = (k, of_priority (at places k) priority r.0.value r.0.has)

none_in : (priority : ℕ) (places : List (Option Place)) (queue : List ℕ) → Rises ◌<◌ queue (orders priority places) → is_filled
    queue ≡ false → (k : ℕ) → orders priority places k ≡ None
none_in priority places [] r h = r
none_in priority places (j ∷ ks) r h = λ k. absurd (omega (arith, ltb-false 0 (length (j ∷ ks)) h))

-- the first queue that has an event is that of the most urgent active one
pub IsLeast-first_filled : (queues : List (List ℕ)) (places : List (Option Place)) → ((priority : ℕ) → Rises ◌<◌
    (queue_of queues priority) (orders priority places)) → IsLeast (priorities places) (first_filled queues)
IsLeast-first_filled queues places rises =
    let n = position_or_len is_filled queues in
    let none_below : (j m : ℕ) → m < n → priorities places j ≡ Some m → ⊥ =
    λ j m lt e. in_orders (at places j) m e (none_in m places _ (rises m) (fails_before_first is_filled queues m [] lt) j) in
    ⊎_elim
    (λ lt. rw (lt-ltb n (length queues) lt) (
      head_of n places _ (rises n) (passes_at_first is_filled queues [] lt),
      λ j m e. ⊎_elim (λ below. absurd (none_below j m below e)) (λ h. h) (cases_lt m n),
    ))
    (λ ge. rw (le-ltb n (length queues) ge) (λ k. no_value (priorities places k) (λ m e. ⊎_elim
    (λ below. none_below k m below e)
    (λ past. in_orders (at places k) m e (none_in m places _ (rises m) (rw (get_or_past queues m [] (omega arith)) refl) k))
    (cases_lt m n))))
    (cases_lt n (length queues))

-- the queues and the places as one event becomes inactive
pub IsPlaced-rest : (queues : List (List ℕ)) (places : List (Option Place)) (next k : ℕ) → IsPlaced queues places next → IsPlaced
    (without k queues) (set places k None) next
IsPlaced-rest queues places next k placed = record {
  rises = λ priority. Rises-rest queues places k priority (placed.rises priority);
  below = λ j place h. placed.below j place (but-some k j place (at places) (sym (at-set_none places k j) ∙ h));
}

-- no other priority has an order number for an event
in_one : (o : Option Place) (priority other v : ℕ) → (priority ≡ other → ⊥) → order_in priority o ≡ Some v → order_in other o ≡ None
in_one None priority other v n e = cc e
in_one (Some place) priority other v n e =
    let is : Some place.priority ≡ Some priority = of_priority (Some place) priority v e in
    let apart : place.priority ≡ other → ⊥ = λ q. n (cc (is, q)) in
    let test : nat_eq place.priority other ≡ false = ne_eqb place.priority other apart in rw test refl

-- the row behind its leading number
Rises-behind : (ks : List ℕ) (f : ℕ → Option ℕ) (k : ℕ) → Rises ◌<◌ ks f → IsLeading ◌<◌ k f → Rises ◌<◌ (drop 1 ks) (but k f)
Rises-behind [] f k r front = (let none = r k in cc (none, front.has))
Rises-behind (j ∷ ks) f k r front = ⊎_elim
    (λ e. subst (λ i. Rises ◌<◌ ks (but i f)) e r.1)
    (λ n. absurd (omega (arith, r.0.leads k front.value (λ e. n (sym e)) front.has, front.leads j r.0.value n r.0.has)))
    (cases_eq j k)

but-absent : (k j : ℕ) (f : ℕ → Option ℕ) → f k ≡ None → f j ≡ but k f j
but-absent k j f h = ⊎_elim (λ e. ap f e ∙ h ∙ sym (subst (λ i. but k f i ≡ None) (sym e) (but-same k f)))
    (λ n. sym (but-other k j f n)) (cases_eq j k)

-- the queues and the places as the front of a priority becomes inactive
pub IsPlaced-rest_front : (queues : List (List ℕ)) (places : List (Option Place)) (next priority k : ℕ) → IsPlaced queues places
    next → IsFront priority places (Some k) → IsPlaced (popped queues priority) (set places k None) next
IsPlaced-rest_front queues places next priority k placed front =
    let there : priority < length queues = ⊎_elim (λ lt. lt)
    (λ past. (let none = subst (λ q. Rises ◌<◌ q (orders priority places)) (get_or_past queues priority [] past)
    (placed.rises priority) k in cc (none, front.has)))
    (cases_lt priority (length queues)) in record {
      rises = λ q. ⊎_elim
          (λ e. subst (λ p. Rises ◌<◌ (queue_of (popped queues priority) p) (orders p (set places k None))) e
          (rw (get_or-set_same queues priority (drop 1 (queue_of queues priority)) [] there)
          (Rises-same ◌<◌ _ (but k (orders priority places)) _ (orders-set_none priority places k)
          (Rises-behind _ (orders priority places) k (placed.rises priority) front))))
          (λ n. rw (get_or-set_other queues priority q (drop 1 (queue_of queues priority)) [] (λ e. n (sym e)))
          (Rises-same ◌<◌ _ (orders q places) _
          (λ j. orders-set_none q places k j ∙ sym
          (but-absent k j (orders q places) (in_one (at places k) priority q front.value n front.has)))
          (placed.rises q)))
          (cases_eq priority q);
      below = λ j place h. placed.below j place (but-some k j place (at places) (sym (at-set_none places k j) ∙ h));
    }

-- a place that was given in a list is there, and the others are as they were
pub at-set_some : {V : Type 0} (xs : List (Option V)) (k j : ℕ) (v : V) → k < length xs → at (set xs k (Some v)) j ≡ with k v (at xs) j
at-set_some xs k j v lt = ⊎_elim
    (λ e. (let there = get_or-set_same xs k (Some v) None lt in grind (arith, common_steps)))
    (λ n. (let there = get_or-set_other xs k j (Some v) None n in grind (arith, common_steps)))
    (cases_eq j k)

-- order numbers of the priority of an event that became active
orders-set_same : (places : List (Option Place)) (k j : ℕ) (place : Place) → k < length places → orders place.priority
    (set places k (Some place)) j ≡ with k place.order (orders place.priority places) j
orders-set_same places k j place lt = ap (order_in place.priority) (at-set_some places k j place lt) ∙ split (nat_eq j k)
  where
    test : nat_eq place.priority place.priority ≡ true
    test = eq-eqb place.priority place.priority refl

    split : (b : Bool) → order_in place.priority (cond b (Some place) (at places j)) ≡ cond b (Some place.order)
        (orders place.priority places j)
    split true = rw test refl
    split false = refl

-- order numbers of another priority
orders-set_other : (places : List (Option Place)) (k j priority : ℕ) (place : Place) → k < length places → at places k ≡ None →
    (place.priority ≡ priority → ⊥) → orders priority (set places k (Some place)) j ≡ orders priority places j
orders-set_other places k j priority place lt was n = ⊎_elim
    (λ e. (let there : orders priority (set places k (Some place)) j ≡ None = ap (λ i. orders priority (set places k (Some place))
    i) e ∙ ap (order_in priority) (get_or-set_same places k (Some place) None lt) ∙ other in
    let before : orders priority places j ≡ None = ap (orders priority places) e ∙ ap (order_in priority) was in cc (there, before)))
    (λ m. ap (order_in priority) (get_or-set_other places k j (Some place) None m))
    (cases_eq j k)
  where
    test : nat_eq place.priority priority ≡ false
    test = ne_eqb place.priority priority n

    other : order_in priority (Some place) ≡ None
    other = rw test refl

below_in : (o : Option Place) (priority v next : ℕ) → ((place : Place) → o ≡ Some place → place.order < next) → order_in priority o
    ≡ Some v → v < next
below_in None priority v next below e = cc e
below_in (Some place) priority v next below e = ⊎_elim
    (λ same. (let test : nat_eq place.priority priority ≡ true = eq-eqb place.priority priority same in
    let some : order_in priority (Some place) ≡ Some place.order = rw test refl in
    let is : place.order ≡ v = cc (some, e) in subst (λ n. n < next) is (below place refl)))
    (λ other. (let test : nat_eq place.priority priority ≡ false = ne_eqb place.priority priority other in
    let none : order_in priority (Some place) ≡ None = rw test refl in cc (none, e)))
    (cases_eq place.priority priority)

-- the queues and the places as one event becomes active
pub IsPlaced-wake : (queues : List (List ℕ)) (places : List (Option Place)) (next k : ℕ) (priority : ℕ) → IsPlaced queues places
    next → k < length places → at places k ≡ None → priority < length queues → IsPlaced (appended queues priority k)
    (set places k (Some (record { priority = priority; order = next }))) (next + 1)
IsPlaced-wake queues places next k priority placed lt was there =
    let place : Place = record { priority = priority; order = next } in record {
      rises = λ q. ⊎_elim
          (λ e. subst (λ p. Rises ◌<◌ (queue_of (appended queues priority k) p) (orders p (set places k (Some place)))) e
          (rw (get_or-set_same queues priority (queue_of queues priority ++ k ∷ []) [] there)
          (Rises-same ◌<◌ _ (with k next (orders priority places)) _ (λ j. orders-set_same places k j place lt)
          (Rises-push ◌<◌ _ (orders priority places) k next (placed.rises priority) (ap (order_in priority) was)
          (λ j v h. below_in (at places j) priority v next (placed.below j) h)))))
          (λ n. rw (get_or-set_other queues priority q (queue_of queues priority ++ k ∷ []) [] (λ e. n (sym e)))
          (Rises-same ◌<◌ _ (orders q places) _ (λ j. orders-set_other places k j q place lt was n) (placed.rises q)))
          (cases_eq priority q);
      below = λ j other h. ⊎_elim
          (λ e. (let is : at (set places k (Some place)) j ≡ Some place = ap (at (set places k (Some place))) e ∙ get_or-set_same
          places k (Some place) None lt in
          let same : place ≡ other = cc (is, h) in subst (λ (p : Place). p.order < next + 1) same (omega arith)))
          (λ n. (let low = placed.below j other (sym (get_or-set_other places k j (Some place) None n) ∙ h) in omega arith))
          (cases_eq j k);
    }

all_false : (f : List ℕ → Bool) (queues : List (List ℕ)) → ((p : ℕ) → f (queue_of queues p) ≡ false) → list_any f queues ≡ false
all_false f [] h = refl
all_false f (q ∷ qs) h = rw (h 0) (all_false f qs (λ p. h (suc p)))

-- events that can become active can be appended to their queues
pub CanAppend-from : (n : ℕ) (queues : List (List ℕ)) (places : List (Option Place)) (next : ℕ) (ws : List Waking) → IsPlaced
    queues places next → length queues ≡ n → CanWake n places next ws → CanAppend queues ws
CanAppend-from n queues places next [] placed e can = tt
CanAppend-from n queues places next (w ∷ ws) placed e can =
    let there : w.priority < length queues = omega (arith, can.2) in (
      all_false _ queues (λ p. Rises-absent ◌<◌ _ (orders p places) w.event (placed.rises p) (ap (order_in p) can.1)),
      there,
      CanAppend-from n (appended queues w.priority w.event) _ (next + 1) ws
          (IsPlaced-wake queues places next w.event w.priority placed can.0 can.1 there)
          (length-set queues w.priority _ ∙ e) can.3,
    )

-- the queues and the places as some events became active
pub IsPlaced-woken : (n : ℕ) (queues : List (List ℕ)) (places : List (Option Place)) (next : ℕ) (ws : List Waking) → IsPlaced
    queues places next → length queues ≡ n → CanWake n places next ws → IsPlaced (appended_all queues ws) (woken places next ws)
    (next + length ws)
IsPlaced-woken n queues places next [] placed e can = rw add-zero placed
IsPlaced-woken n queues places next (w ∷ ws) placed e can =
    let there : w.priority < length queues = omega (arith, can.2) in
    let count : next + length (w ∷ ws) ≡ (next + 1) + length ws = omega arith in
    rw count (IsPlaced-woken n (appended queues w.priority w.event) _ (next + 1) ws
    (IsPlaced-wake queues places next w.event w.priority placed can.0 can.1 there)
    (length-set queues w.priority _ ∙ e) can.3)

-- there are as many queues as before
pub length-appended_all : (queues : List (List ℕ)) (ws : List Waking) → length (appended_all queues ws) ≡ length queues
length-appended_all queues [] = refl
length-appended_all queues (w ∷ ws) = length-appended_all (appended queues w.priority w.event) ws ∙ length-set queues w.priority _

-- an event appended behind others
pub appended_all-push : (queues : List (List ℕ)) (ws : List Waking) (w : Waking) → appended_all queues (ws ++ w ∷ []) ≡ appended
    (appended_all queues ws) w.priority w.event
appended_all-push queues [] w = refl
appended_all-push queues (v ∷ ws) w = appended_all-push (appended queues v.priority v.event) ws w

-- what was appended last can be taken back
pub without_last-appended : (queues : List (List ℕ)) (priority k : ℕ) → priority < length queues → without_last
    (appended queues priority k) priority ≡ queues
without_last-appended queues priority k lt =
    let q = queue_of queues priority in
    let last : take (length (q ++ k ∷ []) - 1) (q ++ k ∷ []) ≡ q = grind (arith, common_steps, length_push, take-append-le, take_all) in
    rw (get_or-set_same queues priority (q ++ k ∷ []) [] lt, last, set-set queues priority (q ++ k ∷ []) q) (set-get_or queues priority [])

-- each of the events can be appended where its turn comes
pub CanAppend-at : (queues : List (List ℕ)) (ws : List Waking) (i : ℕ) (d : Waking) → CanAppend queues ws → i < length ws →
    (is_queued (get_or ws i d).event (appended_all queues (take i ws)) ≡ false) × ((get_or ws i d).priority < length queues)
CanAppend-at queues [] i d can lt = absurd (omega arith)
CanAppend-at queues (w ∷ ws) zero d can lt = (can.0, can.1)
CanAppend-at queues (w ∷ ws) (suc i) d can lt =
    let there = CanAppend-at (appended queues w.priority w.event) ws i d can.2 (omega arith) in
    (there.0, rw (sym (length-set queues w.priority (queue_of queues w.priority ++ w.event ∷ []))) there.1)

-- the first of them can be appended
pub CanAppend-take : (queues : List (List ℕ)) (ws : List Waking) (i : ℕ) → CanAppend queues ws → CanAppend queues (take i ws)
CanAppend-take queues ws zero can = tt
CanAppend-take queues [] (suc i) can = tt
CanAppend-take queues (w ∷ ws) (suc i) can = (can.0, can.1, CanAppend-take (appended queues w.priority w.event) ws i can.2)

-- one event more
pub appended_all-more : (queues : List (List ℕ)) (ws : List Waking) (i : ℕ) (d : Waking) → i < length ws → appended_all queues
    (take (i + 1) ws) ≡ appended (appended_all queues (take i ws)) (get_or ws i d).priority (get_or ws i d).event
appended_all-more queues ws i d lt = ap (appended_all queues) (take_more ws i d lt) ∙ appended_all-push queues (take i ws) (get_or ws i d)

-- one event is taken back
pub appended_all-less : (queues : List (List ℕ)) (ws : List Waking) (i : ℕ) (d : Waking) → CanAppend queues ws → i < length ws →
    without_last (appended_all queues (take (i + 1) ws)) (get_or ws i d).priority ≡ appended_all queues (take i ws)
appended_all-less queues ws i d can lt =
    rw (appended_all-more queues ws i d lt)
    (without_last-appended (appended_all queues (take i ws)) (get_or ws i d).priority (get_or ws i d).event
    (rw (length-appended_all queues (take i ws)) (CanAppend-at queues ws i d can lt).1))

-- without a front no order number is below an end
pub next-empty : (priority end : ℕ) (places : List (Option Place)) → IsFront priority places None → IsNext priority end places None
next-empty priority end places front = λ k v h. (let bad = sym (front k) ∙ h in cc bad)

-- the front is there
pub front-there : (priority k : ℕ) (places : List (Option Place)) → IsFront priority places (Some k) → at places k ≡ None → ⊥
front-there priority k places front none = (let bad = sym (ap (order_in priority) none) ∙ front.has in cc bad)

-- the order number of the front is that of its place
pub front-order : (priority k : ℕ) (places : List (Option Place)) (place : Place) (v : ℕ) → at places k ≡ Some place → orders
    priority places k ≡ Some v → place.order ≡ v
front-order priority k places place v is h = split (nat_eq place.priority priority) (sym (ap (order_in priority) is) ∙ h)
  where
    split : (b : Bool) → cond b (Some place.order) None ≡ Some v → place.order ≡ v
    split true q = cc q
    split false q = cc q

pub next-first : (priority end k : ℕ) (places : List (Option Place)) (place : Place) → IsFront priority places (Some k) → at places
    k ≡ Some place → place.order < end → IsNext priority end places (Some k)
next-first priority end k places place front is low = (front, λ v h. (let same = front-order priority k places place v is h in omega arith))

pub next-late : (priority end k : ℕ) (places : List (Option Place)) (place : Place) → IsFront priority places (Some k) → at places
    k ≡ Some place → end ≤ place.order → IsNext priority end places None
next-late priority end k places place front is late =
    let own = front-order priority k places place front.value is front.has in
    λ j v h. ⊎_elim
    (λ q. (let same = front-order priority k places place v is (sym (ap (orders priority places) q) ∙ h) in omega arith))
    (λ n. (let more = front.leads j v n h in omega arith))
    (cases_eq j k)
