-- The next fire, the most urgent priority and the least deadline, as the queues and the timers tell them.
use Rattle.std.proofs.Common.{◌≡◌, ◌≢◌, ℕ, ◌+◌, ◌-◌, ◌<◌, ◌≤◌, ◌==◌, zero, suc, min, nat_eq, nat_lt, nat_le, Bool, true, false, not, ◌||◌}
use Rattle.std.proofs.Common.{◌&&◌, cond, List, [], ◌∷◌, ◌++◌, length, set, get_or, slice_get, Option, Some, None, option_map, is_some}
use Rattle.std.proofs.Common.{refl, sym, ◌∙◌, ap, subst, ⊎_elim, unwrap_or, arith, rules}
use Rattle.std.proofs.lemmas.Bool.{cases_eq, cases_Bool, cases_lt, eq-eqb, ne_eqb, eqb-true, lt-ltb, le-ltb, ltb-true, and_left, and_right}
use Rattle.std.proofs.lemmas.Bool.{and_parts, and_from, true≢false}
use Rattle.std.proofs.lemmas.List.Sums.{position_or_len_is}
use Rattle.std.specs.List.{list_any, position, position_or_len}
use Rattle.std.specs.Option.{option_map_or, option_and_then}
use Rattle.event_base.specs.declared.event.Event.{Event}
use Rattle.event_base.specs.declared.event.Activation.{Activation}
use Rattle.event_base.specs.declared.event.Timeout.{Timeout}
use Rattle.event_base.specs.declared.ready.Place.{Place}
use Rattle.event_base.specs.Base.{BaseValue}
use Rattle.event_base.specs.Rising.{at, IsLeading}
use Rattle.event_base.specs.Deadlines.{Moment, deadlines}
use Rattle.event_base.specs.Ready.{order_in, orders, priorities, IsLeast, IsFront, IsNext}
use Rattle.event_base.specs.Events.{is_active}
use Rattle.event_base.specs.Turns.{least, active_priority, deadline_of, in_batch, made_earlier, is_first, next_event}
use Rattle.event_base.specs.Tied.{value_at, Mirrors, place_of, moment_of}
use Rattle.event_base.proofs.RousingLemmas.{placed_at}
use Rattle.event_base.proofs.TiedLemmas.{slice_get-within, slice_get-get_or}

pub any_from : (p : Event → Bool) (xs : List Event) (k : ℕ) (x : Event) → slice_get xs k ≡ Some x → p x ≡ true → list_any p xs ≡ true
any_from p [] k x is h = cc is
any_from p (y ∷ ys) zero x is h = (let same : y ≡ x = cc is in ap (λ b. b || list_any p ys) (ap p same ∙ h))
any_from p (y ∷ ys) (suc k) x is h = ap (λ b. p y || b) (any_from p ys k x is h) ∙ either (p y)
  where
    either : (b : Bool) → (b || true) ≡ true
    either true = refl
    either false = refl

none_any : (p : Event → Bool) (xs : List Event) → ((k : ℕ) (x : Event) → slice_get xs k ≡ Some x → p x ≡ false) → list_any p xs ≡ false
none_any p [] h = refl
none_any p (y ∷ ys) h = ap (λ b. b || list_any p ys) (h 0 y refl) ∙ none_any p ys (λ k x is. h (suc k) x is)

-- an element that is there, by its place
here : (xs : List Event) (k : ℕ) (d : Event) → k < length xs → slice_get xs k ≡ Some (get_or xs k d)
here [] k d lt = absurd (omega arith)
here (x ∷ xs) zero d lt = refl
here (x ∷ xs) (suc k) d lt = here xs k d (omega arith)

found : (p : Event → Bool) (xs : List Event) (k : ℕ) (x : Event) → slice_get xs k ≡ Some x → p x ≡ true →
    ((j : ℕ) (y : Event) → j < k → slice_get xs j ≡ Some y → p y ≡ false) → position p xs ≡ Some k
found p xs k x is pass fail =
    let lt : k < length xs = slice_get-within xs k x is in
    let place : position_or_len p xs ≡ k = position_or_len_is p xs k x (omega arith)
    (λ j low. fail j (get_or xs j x) low (here xs j x (omega arith)))
    (λ within. ap p (slice_get-get_or xs k x x is) ∙ pass) in
    ap (λ n. cond (nat_lt n (length xs)) (Some n) None) place ∙ ap (λ b. cond b (Some k) None) (lt-ltb k (length xs) lt)

unfound : (p : Event → Bool) (xs : List Event) (d : Event) → ((j : ℕ) (y : Event) → slice_get xs j ≡ Some y → p y ≡ false) →
    position p xs ≡ None
unfound p xs d fail =
    let place : position_or_len p xs ≡ length xs = position_or_len_is p xs (length xs) d (omega arith)
    (λ j low. fail j (get_or xs j d) (here xs j d low))
    (λ within. absurd (omega arith)) in
    ap (λ n. cond (nat_lt n (length xs)) (Some n) None) place ∙ ap (λ b. cond b (Some (length xs)) None)
    (le-ltb (length xs) (length xs) (omega arith))

-- the order number of an active event
abbrev order_of : Option Activation → Option ℕ
order_of o = option_map (λ (a : Activation). a.order) o

-- an event of the batch has an order number of its priority, below the end
batch_order : (o : Option Activation) (priority p end : ℕ) → (nat_eq priority p && option_map_or
    (λ (a : Activation). nat_lt a.order end) o false) ≡ true → (v : ℕ) ×
    (order_in p (option_map (λ (a : Activation). placed_at priority a.order) o) ≡ Some v) × (v < end)
batch_order None priority p end h = (let both = and_parts (nat_eq priority p) false h in cc both.1)
batch_order (Some a) priority p end h =
    let both = and_parts (nat_eq priority p) (nat_lt a.order end) h in
    (a.order, ap (λ b. cond b (Some a.order) None) both.0, ltb-true a.order end both.1)

order_batch : (o : Option Activation) (priority p v end : ℕ) → order_in p
    (option_map (λ (a : Activation). placed_at priority a.order) o) ≡ Some v → v < end → (nat_eq priority p && option_map_or
    (λ (a : Activation). nat_lt a.order end) o false) ≡ true
order_batch None priority p v end h low = cc h
order_batch (Some a) priority p v end h low = split (nat_eq priority p) h
  where
    split : (b : Bool) → cond b (Some a.order) None ≡ Some v → (b && nat_lt a.order end) ≡ true
    split true q = (let same : a.order ≡ v = cc q in lt-ltb a.order end (omega arith))
    split false q = cc q

order_own : (o : Option Activation) (priority p v : ℕ) → order_in p (option_map (λ (a : Activation). placed_at priority a.order) o)
    ≡ Some v → order_of o ≡ Some v
order_own None priority p v h = cc h
order_own (Some a) priority p v h = split (nat_eq priority p) h
  where
    split : (b : Bool) → cond b (Some a.order) None ≡ Some v → Some a.order ≡ Some v
    split true q = q
    split false q = cc q

earlier : (o other : Option Activation) (v w : ℕ) → order_of o ≡ Some v → order_of other ≡ Some w → option_map_or
    (λ (a : Activation). option_map_or (λ (c : Activation). nat_lt a.order c.order) other false) o false ≡ nat_lt v w
earlier None other v w h g = cc h
earlier (Some a) None v w h g = cc g
earlier (Some a) (Some c) v w h g = (let left : a.order ≡ v = cc h in let right : c.order ≡ w = cc g in ap (λ n. nat_lt n c.order)
    left ∙ ap (nat_lt v) right)

-- the order number of an event among those of a priority
own_order : (places : List (Option Place)) (events : List Event) (p j : ℕ) (y : Event) → Mirrors place_of places events → slice_get
    events j ≡ Some y → orders p places j ≡ order_in p (place_of y)
own_order places events p j y tied is = ap (order_in p) (tied j ∙ ap (option_and_then place_of) is)

-- an event with an order number is there
event_with : (places : List (Option Place)) (events : List Event) (p j v : ℕ) → Mirrors place_of places events → orders p places j ≡
    Some v → (y : Event) × (slice_get events j ≡ Some y) × (order_in p (place_of y) ≡ Some v)
event_with places events p j v tied h = go (slice_get events j) refl
  where
    go : (o : Option Event) → slice_get events j ≡ o → (y : Event) × (slice_get events j ≡ Some y) × (order_in p (place_of y) ≡ Some v)
    go None q = (let bad : None ≡ Some v = sym (ap (order_in p) (tied j ∙ ap (option_and_then place_of) q)) ∙ h in cc bad)
    go (Some y) q = (y, q, sym (own_order places events p j y tied q) ∙ h)

-- Where no order number of the priority is below the end, no event of the batch is left.
pub next_event-none : (b : BaseValue) (places : List (Option Place)) (d : Event) → Mirrors place_of places b.events → IsNext
    b.batch_priority b.batch_end places None → next_event b ≡ None
next_event-none b places d tied none = unfound (is_first b) b.events d (λ j y is. and_left (in_batch b y)
    (not (list_any (λ other. in_batch b other && made_earlier other y) b.events)) (⊎_elim
    (λ batch. (let order = batch_order y.active y.priority b.batch_priority b.batch_end batch in
    let own : orders b.batch_priority places j ≡ Some order.0 = own_order places b.events b.batch_priority j y tied is ∙ order.1 in
    let late = none j order.0 own in
    let low = order.2 in absurd (omega arith)))
    (λ out. out)
    (cases_Bool (in_batch b y))))

-- the next fire is the front of the batch
pub next_event-front : (b : BaseValue) (places : List (Option Place)) (k : ℕ) → Mirrors place_of places b.events →
    (front : IsFront b.batch_priority places (Some k)) → front.value < b.batch_end → next_event b ≡ Some k
next_event-front b places k tied front low =
    let p = b.batch_priority in
    let e = event_with places b.events p k front.value tied front.has in
    let batch : in_batch b e.0 ≡ true = order_batch e.0.active e.0.priority p front.value b.batch_end e.2 low in
    let own : order_of e.0.active ≡ Some front.value = order_own e.0.active e.0.priority p front.value e.2 in
    let nobody : list_any (λ other. in_batch b other && made_earlier other e.0) b.events ≡ false = none_any
    (λ other. in_batch b other && made_earlier other e.0) b.events
    (λ j y is. ⊎_elim
    (λ inside. (let order = batch_order y.active y.priority p b.batch_end inside in
    let placed : orders p places j ≡ Some order.0 = own_order places b.events p j y tied is ∙ order.1 in
    let above : front.value ≤ order.0 = ⊎_elim
    (λ q. (let same : Some front.value ≡ Some order.0 = sym front.has ∙ sym (ap (orders p places) q) ∙ placed in let equal :
    front.value ≡ order.0 = cc same in omega arith))
    (λ n. (let more = front.leads j order.0 n placed in omega arith))
    (cases_eq j k) in
    and_right (in_batch b y) (made_earlier y e.0) (earlier y.active e.0.active order.0 front.value
    (order_own y.active y.priority p order.0 order.1) own ∙ le-ltb order.0 front.value above)))
    (λ out. and_left (in_batch b y) (made_earlier y e.0) out)
    (cases_Bool (in_batch b y))) in
    found (is_first b) b.events k e.0 e.1 (and_from (in_batch b e.0)
    (not (list_any (λ other. in_batch b other && made_earlier other e.0) b.events)) batch (ap not nobody))
    (λ j y less is. ⊎_elim
    (λ inside. (let order = batch_order y.active y.priority p b.batch_end inside in
    let placed : orders p places j ≡ Some order.0 = own_order places b.events p j y tied is ∙ order.1 in
    let apart : j ≡ k → ⊥ = λ q. omega arith in
    let above = front.leads j order.0 apart placed in
    let before : made_earlier e.0 y ≡ true = earlier e.0.active y.active front.value order.0 own
    (order_own y.active y.priority p order.0 order.1) ∙ lt-ltb front.value order.0 above in
    and_right (in_batch b y) (not (list_any (λ other. in_batch b other && made_earlier other y) b.events))
    (ap not (any_from (λ other. in_batch b other && made_earlier other y) b.events k e.0 e.1
    (and_from (in_batch b e.0) (made_earlier e.0 y) batch before)))))
    (λ out. and_left (in_batch b y) (not (list_any (λ other. in_batch b other && made_earlier other y) b.events)) out)
    (cases_Bool (in_batch b y)))

-- there is one least number at most
least_unique : (f : ℕ → Option ℕ) (a b : Option ℕ) → IsLeast f a → IsLeast f b → a ≡ b
least_unique f None None h g = refl
least_unique f None (Some n) h g = (let bad : None ≡ Some n = sym (h g.0.0) ∙ g.0.1 in cc bad)
least_unique f (Some m) None h g = (let bad : None ≡ Some m = sym (g h.0.0) ∙ h.0.1 in cc bad)
least_unique f (Some m) (Some n) h g = (let one = h.1 g.0.0 n g.0.1 in let two = g.1 h.0.0 m h.0.1 in let same : m ≡ n =
    omega arith in ap Some same)

-- the least number of a list is the least of those of its elements
least_is : (number : Event → Option ℕ) (es : List Event) → IsLeast (λ k. option_and_then number (slice_get es k)) (least number es)
least_is number [] = λ k. refl
least_is number (e ∷ es) = go (number e) (least number es) refl (least_is number es)
  where
    f : ℕ → Option ℕ
    f k = option_and_then number (slice_get (e ∷ es) k)

    go : (n rest : Option ℕ) → number e ≡ n → IsLeast (λ k. option_and_then number (slice_get es k)) rest
        → IsLeast (λ k. option_and_then number (slice_get (e ∷ es) k))
        (option_map_or (λ n. Some (option_map_or (λ m. min n m) rest n)) n rest)
    go None None q h = by_cases
      where
        by_cases : (k : ℕ) → option_and_then number (slice_get (e ∷ es) k) ≡ None
        by_cases zero = q
        by_cases (suc k) = h k
    go None (Some m) q h = ((suc h.0.0, h.0.1), by_cases)
      where
        by_cases : (j n : ℕ) → option_and_then number (slice_get (e ∷ es) j) ≡ Some n → m ≤ n
        by_cases zero n r = (let bad : None ≡ Some n = sym q ∙ r in cc bad)
        by_cases (suc j) n r = h.1 j n r
    go (Some n) None q h = ((0, q), by_cases)
      where
        by_cases : (j i : ℕ) → option_and_then number (slice_get (e ∷ es) j) ≡ Some i → n ≤ i
        by_cases zero i r = (let same : Some n ≡ Some i = sym q ∙ r in let equal : n ≡ i = cc same in omega arith)
        by_cases (suc j) i r = (let bad : None ≡ Some i = sym (h j) ∙ r in cc bad)
    go (Some n) (Some m) q h = (
      ⊎_elim
          (λ less. (let is : n ≡ min n m = omega arith in (0, q ∙ ap Some is)))
          (λ past. (let is : m ≡ min n m = omega arith in (suc h.0.0, h.0.1 ∙ ap Some is)))
          (cases_lt n m),
      by_cases,
    )
      where
        by_cases : (j i : ℕ) → option_and_then number (slice_get (e ∷ es) j) ≡ Some i → min n m ≤ i
        by_cases zero i r = (let same : Some n ≡ Some i = sym q ∙ r in let equal : n ≡ i = cc same in omega arith)
        by_cases (suc j) i r = (let low = h.1 j i r in omega arith)

least_same : (f g : ℕ → Option ℕ) (o : Option ℕ) → ((k : ℕ) → g k ≡ f k) → IsLeast f o → IsLeast g o
least_same f g None e h = λ k. e k ∙ h k
least_same f g (Some n) e h = ((h.0.0, e h.0.0 ∙ h.0.1), λ j m r. h.1 j m (sym (e j) ∙ r))

-- the most urgent priority of an active event
pub least-priority : (places : List (Option Place)) (events : List Event) (o : Option ℕ) → Mirrors place_of places events → IsLeast
    (priorities places) o → least active_priority events ≡ o
least-priority places events o tied h = least_unique (λ k. option_and_then active_priority (slice_get events k))
    (least active_priority events) o (least_is active_priority events)
    (least_same (priorities places) (λ k. option_and_then active_priority (slice_get events k)) o
    (λ k. own k (slice_get events k) (tied k)) h)
  where
    active : (x : Option Activation) (priority : ℕ) → cond (is_some x) (Some priority) None ≡ option_map
        (λ (place : Place). place.priority) (option_map (λ (a : Activation). placed_at priority a.order) x)
    active None priority = refl
    active (Some a) priority = refl

    own : (k : ℕ) (x : Option Event) → at places k ≡ option_and_then place_of x → option_and_then active_priority x ≡ priorities places k
    own k None e = sym (ap (option_map (λ (place : Place). place.priority)) e)
    own k (Some y) e = active y.active y.priority ∙ sym (ap (option_map (λ (place : Place). place.priority)) e)

-- the least deadline of an event
pub least-deadline : (moments : List (Option Moment)) (events : List Event) (o : Option ℕ) → Mirrors moment_of moments events →
    IsLeast (deadlines moments) o → least deadline_of events ≡ o
least-deadline moments events o tied h = least_unique (λ k. option_and_then deadline_of (slice_get events k))
    (least deadline_of events) o (least_is deadline_of events)
    (least_same (deadlines moments) (λ k. option_and_then deadline_of (slice_get events k)) o (λ k. own k (slice_get events k) (tied k)) h)
  where
    told : (x : Option Timeout) → option_map_or (λ (t : Timeout). Some t.deadline) x None ≡ option_map (λ (m : Moment). m.deadline)
        (option_map (λ (t : Timeout). record { deadline = t.deadline; order = t.order }) x)
    told None = refl
    told (Some t) = refl

    own : (k : ℕ) (x : Option Event) → at moments k ≡ option_and_then moment_of x → option_and_then deadline_of x ≡ deadlines moments k
    own k None e = sym (ap (option_map (λ (m : Moment). m.deadline)) e)
    own k (Some y) e = told y.timeout ∙ sym (ap (option_map (λ (m : Moment). m.deadline)) e)

-- some event is active exactly where there is a most urgent priority
pub active-priority : (events : List Event) → list_any is_active events ≡ is_some (least active_priority events)
active-priority [] = refl
active-priority (e ∷ es) = ap (λ b. is_active e || b) (active-priority es) ∙ split (is_active e)
  where
    split : (b : Bool) → (b || is_some (least active_priority es)) ≡ is_some (option_map_or
        (λ n. Some (option_map_or (λ m. min n m) (least active_priority es) n)) (cond b (Some e.priority) None) (least active_priority es))
    split true = refl
    split false = refl

-- the next fire, as the queue of the batch tells it
pub next_event-is : (b : BaseValue) (places : List (Option Place)) (d : Event) (o : Option ℕ) → Mirrors place_of places b.events →
    IsNext b.batch_priority b.batch_end places o → next_event b ≡ o
next_event-is b places d None tied next = next_event-none b places d tied next
next_event-is b places d (Some k) tied next = next_event-front b places k tied next.0 (next.1 next.0.value next.0.has)

-- the event that fires next is there, and active
pub next-there : (b : BaseValue) (places : List (Option Place)) (k : ℕ) → Mirrors place_of places b.events → IsNext b.batch_priority
    b.batch_end places (Some k) → (e : Event) × (a : Activation) × (slice_get b.events k ≡ Some e) × (e.active ≡ Some a)
next-there b places k tied next =
    let there = event_with places b.events b.batch_priority k next.0.value tied next.0.has in
    let own = order_own there.0.active there.0.priority b.batch_priority next.0.value there.2 in
    go there.0 there.1 own
  where
    go : (e : Event) → slice_get b.events k ≡ Some e → order_of e.active ≡ Some next.0.value → (e : Event) × (a : Activation) ×
        (slice_get b.events k ≡ Some e) × (e.active ≡ Some a)
    go e is h = split e.active refl
      where
        split : (o : Option Activation) → e.active ≡ o → (e : Event) × (a : Activation) × (slice_get b.events k ≡ Some e) ×
            (e.active ≡ Some a)
        split None q = (let bad : None ≡ Some next.0.value = sym (ap order_of q) ∙ h in cc bad)
        split (Some a) q = (e, a, is, q)
