-- The events that are due, one after another: what they become is what the definition of a turn gives.
use Rattle.std.proofs.Common.{◌≡◌, ◌≢◌, ℕ, ◌+◌, ◌<◌, ◌≤◌, ◌^◌, ◌==◌, suc, nat_eq, nat_lt, nat_le, Bool, true, false, not, ◌||◌, ◌&&◌, cond}
use Rattle.std.proofs.Common.{List, [], ◌∷◌, ◌++◌, length, map, set, get_or, slice_get, Option, Some, None, option_map, is_some, refl, sym}
use Rattle.std.proofs.Common.{◌∙◌, ap, subst, ◌⊎◌, inl, inr, ⊎_elim, count_by, add-zero, add-one, bit_or, arith, rules}
use Rattle.std.proofs.lemmas.Bool.{cases_eq, cases_Bool, cases_lt, eq-eqb, ne_eqb, lt-ltb, le-ltb, le-leb, lt-leb, leb-true, and_left}
use Rattle.std.proofs.lemmas.Bool.{and_right, true≢false}
use Rattle.std.proofs.lemmas.List.{get_or-set_same, get_or-set_other, get_or-map, length-map, length-set, ext_get_or}
use Rattle.std.proofs.lemmas.List.Sums.{sum_by-cons, sum_by-set}
use Rattle.std.proofs.lemmas.Option.{slice_get-get_or}
use Rattle.std.proofs.lemmas.Nat.{and_or_self}
use Rattle.std.specs.Int.Bits.{or_add_and}
use Rattle.std.specs.List.{list_any}
use Rattle.std.specs.Option.{option_map_or, option_and_then}
use Rattle.event_base.specs.declared.event.Event.{Event}
use Rattle.event_base.specs.declared.event.Activation.{Activation}
use Rattle.event_base.specs.declared.event.Timeout.{Timeout}
use Rattle.event_base.specs.declared.ready.Waking.{Waking}
use Rattle.event_base.specs.Rising.{at, but, IsLeading, Rises}
use Rattle.event_base.specs.Deadlines.{Moment, IsSooner, if_due, due_at}
use Rattle.event_base.specs.Events.{made, is_active, joined, activated}
use Rattle.event_base.specs.Turns.{is_due, wakes, comes_before, wakes_before, timed_out}
use Rattle.event_base.specs.Rousing.{event_of, needed, risen, wakers, AreApart, CanRise}
use Rattle.event_base.specs.Tied.{value_at, Mirrors, moment_of, moment_at as mom}
use Rattle.event_base.proofs.RisingLemmas.{but-same, but-other, but-some, Rises-absent}
use Rattle.event_base.proofs.RousingLemmas.{slice_get-event_of, wakers-set}
use Rattle.event_base.proofs.TiedLemmas.{slice_get-within, slice_get-get_or as get_or-slice_get}

-- a flag that was joined changes nothing more
or_twice : (f m : ℕ) → bit_or (bit_or f m) m ≡ bit_or f m
or_twice f m = omega (arith, or_add_and (bit_or f m) m, and_or_self m f)

-- an event is active with the flag of a timeout
abbrev pub HasFlag : Option Activation → Type 0
HasFlag None = ⊥
HasFlag (Some a) = bit_or a.flags 1 ≡ a.flags

-- a turn does not change the event: it is not due, or its timeout made it active before
abbrev pub IsSettled : ℕ → Event → Type 0
IsSettled time e = (is_due time e ≡ false) ⊎ HasFlag e.active

abbrev parts : ℕ → ℕ → ℕ → Activation
parts flags order count = record { flags = flags; order = order; count = count }

same_active : (o : Option Activation) (n : ℕ) → HasFlag o → Some (joined 1 n 1 0 o) ≡ o
same_active None n h = elim h [ ]
same_active (Some a) n h = ap (λ f. Some (parts f a.order (a.count + 0))) h ∙ ap (λ c. Some (parts a.flags a.order c)) (add-zero a.count)

flagged : (o : Option Activation) (next : ℕ) → HasFlag (Some (joined 1 next 1 0 o))
flagged None next = refl
flagged (Some a) next = or_twice a.flags 1

order_free : (o : Option Activation) (n m : ℕ) → is_some o ≡ true → joined 1 n 1 0 o ≡ joined 1 m 1 0 o
order_free None n m h = cc h
order_free (Some a) n m h = refl

either_same : (b : Bool) (x : Event) → cond b x x ≡ x
either_same true x = refl
either_same false x = refl

if_true : (b : Bool) (x y z : Event) → (b ≡ true → x ≡ y) → cond b x z ≡ cond b y z
if_true true x y z h = h refl
if_true false x y z h = refl

-- a settled event stays as it is
settled_stays : (time next : ℕ) (events : List Event) (e : Event) → IsSettled time e → timed_out time next events e ≡ e
settled_stays time next events e settled = go e.timeout settled
  where
    same : (n : ℕ) → HasFlag e.active → activated 1 n 1 0 e ≡ e
    same n h = ap (λ (a : Option Activation). record e { active = a }) (same_active e.active n h)

    go : (o : Option Timeout) → (option_map_or (λ (t : Timeout). nat_le t.deadline time) o false ≡ false) ⊎ HasFlag e.active
        → option_map_or (λ (t : Timeout). cond (nat_le t.deadline time) (activated 1 (next + count_by (wakes_before time t) events)
        1 0 e) e) o e ≡ e
    go None h = refl
    go (Some t) h = ⊎_elim
        (λ late. ap (λ b. cond b (activated 1 (next + count_by (wakes_before time t) events) 1 0 e) e) late)
        (λ flag. ap (λ x. cond (nat_le t.deadline time) x e) (same (next + count_by (wakes_before time t) events) flag) ∙
        either_same (nat_le t.deadline time) e)
        h

settled_sleeps : (time : ℕ) (e : Event) → IsSettled time e → wakes time e ≡ false
settled_sleeps time e settled = ⊎_elim
    (λ late. and_left (is_due time e) (not (is_active e)) late)
    (λ flag. and_right (is_due time e) (not (is_active e)) (ap not (active_of e.active flag)))
    settled
  where
    active_of : (o : Option Activation) → HasFlag o → is_some o ≡ true
    active_of None h = elim h [ ]
    active_of (Some a) h = refl

-- The events that are still to get the flag of a timeout have a moment that is due; a turn changes no other.
pub record IsOpen (time : ℕ) (events : List Event) (g : ℕ → Option Moment) : Type 0 where
  pub open_ones : (j : ℕ) (m : Moment) → g j ≡ Some m → (j < length events) × (moment_of (event_of events j) ≡ Some m) × (m.deadline ≤ time)
  pub shut : (j : ℕ) → j < length events → g j ≡ None → IsSettled time (event_of events j)

-- an event that got the flag is settled
IsOpen-after : (time : ℕ) (events : List Event) (g : ℕ → Option Moment) (k next : ℕ) → IsOpen time events g → k < length events →
    IsOpen time (set events k (activated 1 next 1 0 (event_of events k))) (but k g)
IsOpen-after time events g k next is lt =
    let new = activated 1 next 1 0 (event_of events k) in
    let size = length-set events k new in record {
      open_ones = λ j m h. (let apart : j ≡ k → ⊥ = λ q. (let none : but k g j ≡ None = ap (but k g) q ∙ but-same k g in let bad =
          sym h ∙ none in cc bad) in
          let was = is.open_ones j m (but-some k j m g h) in
          let same : event_of (set events k new) j ≡ event_of events j = get_or-set_other events k j new (made false None 0) apart in
          (rw size was.0, ap moment_of same ∙ was.1, was.2));
      shut = λ j within h. ⊎_elim
          (λ q. subst (λ i. IsSettled time (event_of (set events k new) i)) (sym q)
          (subst (IsSettled time) (sym (get_or-set_same events k new (made false None 0) lt))
          (inr (flagged (event_of events k).active next))))
          (λ n. subst (IsSettled time) (sym (get_or-set_other events k j new (made false None 0) n))
          (is.shut j (let s = size in omega arith) (sym (but-other k j g n) ∙ h)))
          (cases_eq j k);
    }

moment_parts : (o : Option Timeout) (m : Moment) (P : Timeout → Type 0) → option_map (λ (t : Timeout).
    record { deadline = t.deadline; order = t.order }) o ≡ Some m → ((t : Timeout) → o ≡ Some t → t.deadline ≡ m.deadline → t.order
    ≡ m.order → P t) → (t : Timeout) × (o ≡ Some t) × P t
moment_parts None m P e h = cc e
moment_parts (Some t) m P e h = (let is : m ≡ (record { deadline = t.deadline; order = t.order }) = cc e in
    (t, refl, h t refl (sym (ap (λ (x : Moment). x.deadline) is)) (sym (ap (λ (x : Moment). x.order) is))))

not_before : (t u : Timeout) → t.deadline ≤ u.deadline → (t.deadline ≡ u.deadline → t.order ≤ u.order) → comes_before u t ≡ false
not_before t u first order =
    ap (λ b. b || (nat_eq u.deadline t.deadline && nat_lt u.order t.order)) (le-ltb u.deadline t.deadline first) ∙ ⊎_elim
    (λ q. and_right (nat_eq u.deadline t.deadline) (nat_lt u.order t.order) (le-ltb u.order t.order (order (sym q))))
    (λ n. and_left (nat_eq u.deadline t.deadline) (nat_lt u.order t.order) (ne_eqb u.deadline t.deadline n))
    (cases_eq u.deadline t.deadline)

is_before : (t u : Timeout) → t.deadline ≤ u.deadline → (t.deadline ≡ u.deadline → t.order < u.order) → comes_before t u ≡ true
is_before t u first order = ⊎_elim
    (λ less. ap (λ b. b || (nat_eq t.deadline u.deadline && nat_lt t.order u.order)) (lt-ltb t.deadline u.deadline less))
    (λ past. (let same : t.deadline ≡ u.deadline = omega arith in
    ap (λ b. b || (nat_eq t.deadline u.deadline && nat_lt t.order u.order)) (le-ltb t.deadline u.deadline past)
    ∙ ap (λ b. b && nat_lt t.order u.order) (eq-eqb t.deadline u.deadline same) ∙ lt-ltb t.order u.order (order same)))
    (cases_lt t.deadline u.deadline)

due_of : (o : Option Timeout) (m : Moment) (time : ℕ) → option_map
    (λ (t : Timeout). record { deadline = t.deadline; order = t.order }) o ≡ Some m → m.deadline ≤ time → option_map_or
    (λ (t : Timeout). nat_le t.deadline time) o false ≡ true
due_of None m time e h = cc e
due_of (Some t) m time e h = (let is : m ≡ (record { deadline = t.deadline; order = t.order }) = cc e in
    let same = ap (λ (x : Moment). x.deadline) is in le-leb t.deadline time (omega arith))

-- an event that wakes is one that is still to get the flag
awake : (time : ℕ) (events : List Event) (g : ℕ → Option Moment) (i : ℕ) → IsOpen time events g → i < length events → wakes time
    (event_of events i) ≡ true → (m : Moment) × (g i ≡ Some m)
awake time events g i is lt wakes_up = go (g i) refl
  where
    go : (o : Option Moment) → g i ≡ o → (m : Moment) × (g i ≡ Some m)
    go None q = absurd (true≢false (sym wakes_up ∙ settled_sleeps time (event_of events i) (is.shut i lt q)))
    go (Some m) q = (m, q)

-- no event wakes where all that count are settled
count_none : (p : Event → Bool) (events : List Event) → ((i : ℕ) → i < length events → p (event_of events i) ≡ false) → count_by p
    events ≡ 0
count_none p [] h = refl
count_none p (e ∷ es) h =
    let here = h 0 (omega arith) in
    let rest = count_none p es (λ i lt. h (suc i) (omega arith)) in
    sum_by-cons (λ x. cond (p x) 1 0) e es ∙ ap (λ b. cond b 1 0 + count_by p es) here ∙ ap (λ n. 0 + n) rest

abbrev one_if : Bool → ℕ
one_if b = cond b 1 0

needed_if : (time : ℕ) (e : Event) → is_due time e ≡ true → one_if (wakes time e) ≡ needed e
needed_if time e h = ap (λ b. one_if (b && not (is_active e))) h ∙ split (is_active e)
  where
    split : (b : Bool) → one_if (not b) ≡ cond b 0 1
    split true = refl
    split false = refl

-- the timeout of an event that is still to get the flag
timeout_of : (time : ℕ) (events : List Event) (g : ℕ → Option Moment) (j : ℕ) (m : Moment) → IsOpen time events g → g j ≡ Some m →
    (t : Timeout) × ((event_of events j).timeout ≡ Some t) × (mom t ≡ m)
timeout_of time events g j m is h = go (event_of events j).timeout refl
  where
    go : (o : Option Timeout) → (event_of events j).timeout ≡ o → (t : Timeout) × ((event_of events j).timeout ≡ Some t) × (mom t ≡ m)
    go None q = (let bad : None ≡ Some m = sym (ap (option_map mom) q) ∙ (is.open_ones j m h).1 in cc bad)
    go (Some t) q = (let same : Some (mom t) ≡ Some m = sym (ap (option_map mom) q) ∙ (is.open_ones j m h).1 in
        (t, q, (let r : mom t ≡ m = cc same in r)))

-- an event that wakes comes behind the next one, or is that one
behind : (time : ℕ) (events : List Event) (g : ℕ → Option Moment) (k i : ℕ) (t u : Timeout) → IsOpen time events g → IsLeading
    IsSooner k g → (event_of events k).timeout ≡ Some t → (event_of events i).timeout ≡ Some u → i < length events → wakes time
    (event_of events i) ≡ true → (i ≡ k → ⊥) → IsSooner (mom t) (mom u)
behind time events g k i t u is first hk hi lt wakes_up n =
    let m = awake time events g i is lt wakes_up in
    let own = timeout_of time events g k first.value is first.has in
    let other = timeout_of time events g i m.0 is m.1 in
    let same : own.0 ≡ t = (let q = sym own.1 ∙ hk in cc q) in
    let same_other : other.0 ≡ u = (let q = sym other.1 ∙ hi in cc q) in
    let left : first.value ≡ mom t = sym own.2 ∙ ap mom same in
    let right : m.0 ≡ mom u = sym other.2 ∙ ap mom same_other in
    subst (λ (x : Moment). IsSooner x (mom u)) left (subst (IsSooner first.value) right (first.leads i m.0 n m.1))

-- nobody wakes before the next one
none_before : (time : ℕ) (events : List Event) (g : ℕ → Option Moment) (k : ℕ) (t : Timeout) → IsOpen time events g → IsLeading
    IsSooner k g → (event_of events k).timeout ≡ Some t → count_by (wakes_before time t) events ≡ 0
none_before time events g k t is first hk = count_none (wakes_before time t) events (λ i lt. ⊎_elim
    (λ wakes_up. and_right (wakes time (event_of events i)) (option_map_or (λ (u : Timeout). comes_before u t)
    (event_of events i).timeout false) (go i lt wakes_up (event_of events i).timeout refl))
    (λ sleeps. and_left (wakes time (event_of events i)) (option_map_or (λ (u : Timeout). comes_before u t)
    (event_of events i).timeout false) sleeps)
    (cases_Bool (wakes time (event_of events i))))
  where
    go : (i : ℕ) → i < length events → wakes time (event_of events i) ≡ true → (o : Option Timeout) → (event_of events i).timeout ≡
        o → option_map_or (λ (u : Timeout). comes_before u t) o false ≡ false
    go i lt wakes_up None q = refl
    go i lt wakes_up (Some u) q = ⊎_elim
        (λ same. (let us : t ≡ u = (let r = sym hk ∙ sym (ap (λ j. (event_of events j).timeout) same) ∙ q in cc r) in
        subst (λ (x : Timeout). comes_before x t ≡ false) us (not_before t t (omega arith) (λ h. omega arith))))
        (λ n. (let sooner = behind time events g k i t u is first hk q lt wakes_up n in
        not_before t u sooner.0 (λ h. (let less = sooner.1 h in omega arith))))
        (cases_eq i k)

-- the event that is next gets the flag with the next order number
next_rises : (time next : ℕ) (events : List Event) (g : ℕ → Option Moment) (k : ℕ) → IsOpen time events g → IsLeading IsSooner k g
    → timed_out time next events (event_of events k) ≡ activated 1 next 1 0 (event_of events k)
next_rises time next events g k is first = go (event_of events k).timeout refl
  where
    e : Event
    e = event_of events k

    own : (t : Timeout) → e.timeout ≡ Some t → activated 1 (next + count_by (wakes_before time t) events) 1 0 e ≡ activated 1 next 1 0 e
    own t h = ⊎_elim
        (λ active. ap (λ (a : Activation). record e { active = Some a }) (order_free e.active
        (next + count_by (wakes_before time t) events) next active))
        (λ fresh. ap (λ n. activated 1 n 1 0 e) (ap (λ c. next + c) (none_before time events g k t is first h) ∙ add-zero next))
        (cases_Bool (is_active e))

    go : (o : Option Timeout) → e.timeout ≡ o → option_map_or (λ (t : Timeout). cond (nat_le t.deadline time)
        (activated 1 (next + count_by (wakes_before time t) events) 1 0 e) e) o e ≡ activated 1 next 1 0 e
    go None q = (let bad : None ≡ Some first.value = sym (ap (option_map mom) q) ∙ (is.open_ones k first.value first.has).1 in cc bad)
    go (Some t) q =
        let same : Some (mom t) ≡ Some first.value = sym (ap (option_map mom) q) ∙ (is.open_ones k first.value first.has).1 in
        let value : mom t ≡ first.value = cc same in
        let equal = ap (λ (x : Moment). x.deadline) value in
        let low = (is.open_ones k first.value first.has).2 in
        ap (λ b. cond b (activated 1 (next + count_by (wakes_before time t) events) 1 0 e) e)
        (le-leb t.deadline time (omega arith)) ∙ own t q

-- the next event is due
next_due : (time : ℕ) (events : List Event) (g : ℕ → Option Moment) (k : ℕ) → IsOpen time events g → IsLeading IsSooner k g →
    is_due time (event_of events k) ≡ true
next_due time events g k is first = due_of (event_of events k).timeout first.value time (is.open_ones k first.value first.has).1
    (is.open_ones k first.value first.has).2

-- the events that wake are one less, where the next one was not active
count_after : (time next : ℕ) (events : List Event) (g : ℕ → Option Moment) (k : ℕ) → IsOpen time events g → IsLeading IsSooner k g
    → count_by (wakes time) (set events k (activated 1 next 1 0 (event_of events k))) + needed (event_of events k) ≡ count_by
    (wakes time) events
count_after time next events g k is first =
    let lt = (is.open_ones k first.value first.has).0 in
    let new = activated 1 next 1 0 (event_of events k) in
    let sum = sum_by-set (λ x. one_if (wakes time x)) events k new (made false None 0) lt in
    let gone : one_if (wakes time new) ≡ 0 = ap one_if (and_right (is_due time new) false refl) in
    let was : one_if (wakes time (event_of events k)) ≡ needed (event_of events k) = needed_if time (event_of events k)
    (next_due time events g k is first) in
    omega (arith, sum, gone, was)

-- the order numbers of the events behind the next one are told from it on
order_after : (time next : ℕ) (events : List Event) (g : ℕ → Option Moment) (k i : ℕ) (u : Timeout) → IsOpen time events g →
    IsLeading IsSooner k g → (i ≡ k → ⊥) → i < length events → (event_of events i).timeout ≡ Some u → wakes time (event_of events i) ≡ true
    → (next + needed (event_of events k)) + count_by (wakes_before time u)
    (set events k (activated 1 next 1 0 (event_of events k))) ≡ next + count_by (wakes_before time u) events
order_after time next events g k i u is first n lt hi wakes_up =
    let e = event_of events k in
    let new = activated 1 next 1 0 e in
    let within = (is.open_ones k first.value first.has).0 in
    let sum = sum_by-set (λ x. one_if (wakes_before time u x)) events k new (made false None 0) within in
    let gone : one_if (wakes_before time u new) ≡ 0 = ap one_if (and_left (wakes time new)
    (option_map_or (λ (t : Timeout). comes_before t u) new.timeout false) (and_right (is_due time new) false refl)) in
    let own = timeout_of time events g k first.value is first.has in
    let ahead : option_map_or (λ (t : Timeout). comes_before t u) e.timeout false ≡ true = ap
    (λ (o : Option Timeout). option_map_or (λ (t : Timeout). comes_before t u) o false) own.1
    ∙ (let sooner = behind time events g k i own.0 u is first own.1 hi lt wakes_up n in is_before own.0 u sooner.0 sooner.1) in
    let was : one_if (wakes_before time u e) ≡ needed e = ap (λ b. one_if (wakes time e && b)) ahead ∙ both (wakes time e) ∙
    needed_if time e (next_due time events g k is first) in
    omega (arith, sum, gone, was)
  where
    both : (b : Bool) → one_if (b && true) ≡ one_if b
    both true = refl
    both false = refl

-- the events behind the next one become what they would have become
others_rise : (time next : ℕ) (events : List Event) (g : ℕ → Option Moment) (k i : ℕ) → IsOpen time events g → IsLeading IsSooner k
    g → (i ≡ k → ⊥) → i < length events
    → timed_out time (next + needed (event_of events k)) (set events k (activated 1 next 1 0 (event_of events k)))
    (event_of events i) ≡ timed_out time next events (event_of events i)
others_rise time next events g k i is first n lt = go (event_of events i).timeout refl
  where
    after : List Event
    after = set events k (activated 1 next 1 0 (event_of events k))

    later : ℕ
    later = next + needed (event_of events k)

    x : Event
    x = event_of events i

    own : (u : Timeout) → x.timeout ≡ Some u → nat_le u.deadline time ≡ true → activated 1
        (later + count_by (wakes_before time u) after) 1 0 x ≡ activated 1 (next + count_by (wakes_before time u) events) 1 0 x
    own u h due = ⊎_elim
        (λ active. ap (λ (a : Activation). record x { active = Some a }) (order_free x.active _ _ active))
        (λ fresh. (let is_now : is_due time x ≡ true = ap (λ (o : Option Timeout). option_map_or
        (λ (t : Timeout). nat_le t.deadline time) o false) h ∙ due in
        let wakes_up : wakes time x ≡ true = ap (λ b. b && not (is_active x)) is_now ∙ ap not fresh in
        ap (λ m. activated 1 m 1 0 x) (order_after time next events g k i u is first n lt h wakes_up)))
        (cases_Bool (is_active x))

    go : (o : Option Timeout) → x.timeout ≡ o
        → option_map_or (λ (t : Timeout). cond (nat_le t.deadline time) (activated 1 (later + count_by (wakes_before time t) after)
        1 0 x) x) o x
        ≡ option_map_or (λ (t : Timeout). cond (nat_le t.deadline time) (activated 1 (next + count_by (wakes_before time t) events)
        1 0 x) x) o x
    go None q = refl
    go (Some u) q = if_true (nat_le u.deadline time) _ _ x (own u q)

-- one event gets the flag, and the rest becomes what all would have become
step : (time next : ℕ) (events : List Event) (g : ℕ → Option Moment) (k : ℕ) → IsOpen time events g → IsLeading IsSooner k g
    → map (timed_out time (next + needed (event_of events k)) (set events k (activated 1 next 1 0 (event_of events k))))
    (set events k (activated 1 next 1 0 (event_of events k))) ≡ map (timed_out time next events) events
step time next events g k is first =
    let new = activated 1 next 1 0 (event_of events k) in
    let after = set events k new in
    let later = next + needed (event_of events k) in
    let nobody = made false None 0 in
    let size : length after ≡ length events = length-set events k new in
    let within = (is.open_ones k first.value first.has).0 in
    ext_get_or nobody (map (timed_out time later after) after) (map (timed_out time next events) events)
    (length-map after (timed_out time later after) ∙ size ∙ sym (length-map events (timed_out time next events)))
    (λ i lt. (let low : i < length after = (let l = length-map after (timed_out time later after) in omega arith) in
    let low_before : i < length events = (let s = size in omega arith) in
    get_or-map (timed_out time later after) after i nobody nobody low ∙ ⊎_elim
    (λ q. ap (λ j. timed_out time later after (event_of after j)) q ∙ ap (timed_out time later after)
    (get_or-set_same events k new nobody within)
    ∙ settled_stays time later after new (inr (flagged (event_of events k).active next))
    ∙ sym (next_rises time next events g k is first) ∙ sym (ap (λ j. timed_out time next events (event_of events j)) q))
    (λ n. ap (timed_out time later after) (get_or-set_other events k i new nobody n) ∙ others_rise time next events g k i is first
    n low_before)
    (cases_eq i k)
    ∙ sym (get_or-map (timed_out time next events) events i nobody nobody low_before)))

-- The due events, one after another, become what the definition of a turn gives.
pub risen-due : (time : ℕ) (ks : List ℕ) (next : ℕ) (events : List Event) (g : ℕ → Option Moment) → IsOpen time events g → Rises
    IsSooner ks g → risen 1 1 0 events next ks ≡ map (timed_out time next events) events
risen-due time [] next events g is r =
    let nobody = made false None 0 in
    ext_get_or nobody events (map (timed_out time next events) events) (sym (length-map events (timed_out time next events)))
    (λ i lt. sym (get_or-map (timed_out time next events) events i nobody nobody lt ∙ settled_stays time next events
    (event_of events i) (is.shut i lt (r i))))
risen-due time (k ∷ ks) next events g is r =
    let lt = (is.open_ones k r.0.value r.0.has).0 in
    risen-due time ks (next + needed (event_of events k)) (set events k (activated 1 next 1 0 (event_of events k))) (but k g)
    (IsOpen-after time events g k next is lt) r.1
    ∙ step time next events g k is r.0

-- the order numbers fit, one after another
pub can-due : (time : ℕ) (ks : List ℕ) (next : ℕ) (events : List Event) (g : ℕ → Option Moment) → IsOpen time events g → Rises
    IsSooner ks g → next + count_by (wakes time) events < 2 ^ 64 → CanRise 1 1 0 events next ks
can-due time [] next events g is r fits = tt
can-due time (k ∷ ks) next events g is r fits =
    let lt = (is.open_ones k r.0.value r.0.has).0 in
    let count = count_after time next events g k is r.0 in (
      lt,
      λ none. absurd (omega (arith, none)),
      omega (arith, count, fits),
      can-due time ks (next + needed (event_of events k)) (set events k (activated 1 next 1 0 (event_of events k))) (but k g)
          (IsOpen-after time events g k next is lt) r.1 (omega (arith, count, fits)),
    )

pub apart-due : (ks : List ℕ) (g : ℕ → Option Moment) → Rises IsSooner ks g → AreApart ks
apart-due [] g r = tt
apart-due (k ∷ ks) g r = (Rises-absent IsSooner ks (but k g) k r.1 (but-same k g), apart-due ks (but k g) r.1)

-- as many become active as wake
pub wakers-due : (time : ℕ) (ks : List ℕ) (events : List Event) (g : ℕ → Option Moment) → IsOpen time events g → Rises IsSooner ks
    g → length (wakers events ks) ≡ count_by (wakes time) events
wakers-due time [] events g is r = sym (count_none (wakes time) events (λ i lt. settled_sleeps time (event_of events i)
    (is.shut i lt (r i))))
wakers-due time (k ∷ ks) events g is r =
    let lt = (is.open_ones k r.0.value r.0.has).0 in
    let e = event_of events k in
    let new = activated 1 0 1 0 e in
    let ws = wakers events ks in
    let w : Waking = record { event = k; priority = e.priority } in
    let count = count_after time 0 events g k is r.0 in
    let rest = wakers-due time ks (set events k new) (but k g) (IsOpen-after time events g k 0 is lt) r.1 in
    let same : length (wakers (set events k new) ks) ≡ length ws = ap length (wakers-set events k new ks
    (Rises-absent IsSooner ks (but k g) k r.1 (but-same k g))) in
    ⊎_elim
    (λ active. (let none : needed e ≡ 0 = ap (λ b. cond b 0 1) active in
    ap (λ b. length (cond b ws (w ∷ ws))) active ∙ omega (arith, count, none, rest, same)))
    (λ fresh. (let some : needed e ≡ 1 = ap (λ b. cond b 0 1) fresh in
    let total : length ws + 1 ≡ count_by (wakes time) events = omega (arith, count, some, rest, same) in
    ap (λ b. length (cond b ws (w ∷ ws))) fresh ∙ sym (add-one (length ws)) ∙ total))
    (cases_Bool (is_active e))

due_late : (time : ℕ) (o : Option Moment) (m : Moment) → if_due time o ≡ Some m → (o ≡ Some m) × (m.deadline ≤ time)
due_late time None m e = cc e
due_late time (Some n) m e = split (nat_le n.deadline time) refl e
  where
    split : (b : Bool) → nat_le n.deadline time ≡ b → cond b (Some n) None ≡ Some m → (Some n ≡ Some m) × (m.deadline ≤ time)
    split true h q = (q, (let same : n ≡ m = cc q in subst (λ (x : Moment). x.deadline ≤ time) same (leb-true n.deadline time h)))
    split false h q = cc q

not_due : (time : ℕ) (o : Option Timeout) → if_due time (option_map mom o) ≡ None → option_map_or
    (λ (t : Timeout). nat_le t.deadline time) o false ≡ false
not_due time None e = refl
not_due time (Some t) e = split (nat_le t.deadline time) e
  where
    split : (b : Bool) → cond b (Some (mom t)) None ≡ None → b ≡ false
    split true q = cc q
    split false q = refl

-- as a turn begins, the due moments are those of the events that are still to get the flag
pub IsOpen-start : (time : ℕ) (moments : List (Option Moment)) (events : List Event) → Mirrors moment_of moments events → IsOpen
    time events (due_at time moments)
IsOpen-start time moments events tied = record {
  open_ones = λ j m h. (let due = due_late time (at moments j) m h in
      let held : value_at moment_of events j ≡ Some m = sym (tied j) ∙ due.0 in
      let there = held_by (slice_get events j) m held in
      let lt = slice_get-within events j there.0 there.1 in
      let same : event_of events j ≡ there.0 = get_or-slice_get events j there.0 (made false None 0) there.1 in
      (lt, ap moment_of same ∙ there.2, due.1));
  shut = λ j lt h. inl (not_due time (event_of events j).timeout
      (ap (if_due time) (sym (tied j ∙ ap (option_and_then moment_of) (slice_get-event_of events j lt))) ∙ h));
}
  where
    held_by : (o : Option Event) (m : Moment) → option_and_then moment_of o ≡ Some m → (x : Event) × (o ≡ Some x) × (moment_of x ≡ Some m)
    held_by None m q = cc q
    held_by (Some x) m q = (x, refl, q)
