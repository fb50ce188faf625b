-- The timers and the handles beside them: what becomes of both as an event gets a deadline or loses it.
use Rattle.std.proofs.Common.{◌≡◌, ◌≢◌, ℕ, ◌+◌, ◌-◌, ◌<◌, ◌≤◌, ◌==◌, ◌&&◌, nat_eq, nat_lt, nat_le, Bool, true, false, not, if◌then◌else◌}
use Rattle.std.proofs.Common.{cond, List, [], ◌∷◌, ◌++◌, length, map, set, get_or, Option, Some, None, option_map, refl, sym, ◌∙◌, ap}
use Rattle.std.proofs.Common.{subst, ⊎_elim, filter, All, arith, rules}
use Rattle.std.proofs.lemmas.Bool.{cases_eq, cases_lt, cases_Bool, eq-eqb, ne_eqb, lt-ltb, le-ltb, ltb-true, ltb-false, leb-true, leb-false}
use Rattle.std.proofs.lemmas.Bool.{le-leb, lt-leb, and_right, not-true, true≢false}
use Rattle.std.proofs.lemmas.Grind.{common_steps}
use Rattle.std.proofs.lemmas.List.{get_or-set_same, get_or-set_other, map-set, set-set, length-map, length-set, set-get_or}
use Rattle.std.proofs.lemmas.List.Elements.{All-nil, All-cons, All-head, All-tail, All-weaker}
use Rattle.std.proofs.Math.ListN.{get_or-map}
use Rattle.std.proofs.Math.Nat.{le_refl}
use Rattle.min_timer.specs.declared.timer.Timer.{Timer}
use Rattle.min_timer.specs.declared.key.TimerKey.{TimerKey}
use Rattle.min_timer.specs.Queue.{number_of, is_timer_of, without, with_timer, first_deadline, due_keys}
use Rattle.event_base.specs.declared.deadlines.Waiting.{Waiting}
use Rattle.event_base.specs.Rising.{at, but, with, IsLeading, Rises}
use Rattle.event_base.specs.Ready.{IsLeast}
use Rattle.event_base.specs.Deadlines.{Moment, DeadlinesValue, IsSooner, deadlines, if_due, due_at, IsDueOrder}
use Rattle.event_base.specs.DeadlinesView.{moment, moments, kept, IsTimed}
use Rattle.event_base.proofs.RisingLemmas.{but-same, but-other, but-some, but-none, but-with, but_with-same, with-same, with-other}
use Rattle.event_base.proofs.RisingLemmas.{Rises-same, Rises-without}
use Rattle.event_base.proofs.ReadyLemmas.{at-set_none, at-set_some}

-- the key of a timer
abbrev pub key_of : Timer → ℕ
key_of timer = timer.key

-- the moment of an event is that of its timer
pub at-moments : (waiting : List (Option Waiting)) (k : ℕ) → at (moments waiting) k ≡ option_map moment (at waiting k)
at-moments waiting k = get_or-map (option_map moment) waiting k None

-- an event has the handle of its timer
abbrev HasHandle : List (Option Waiting) → Timer → Type 0
HasHandle waiting t = at waiting t.key ≡ Some (kept t)

-- the handle is that of the timers of one event alone
abbrev IsOwn : TimerKey → ℕ → Timer → Type 0
IsOwn handle k t = is_timer_of handle t ≡ nat_eq t.key k

abbrev HasMoment : (ℕ → Option Moment) → Timer → Type 0
HasMoment f t = (m : Moment) × (f t.key ≡ Some m)

-- each key in a row has a value
pub Rises-has : (ts : List Timer) (f : ℕ → Option Moment) → Rises IsSooner (map key_of ts) f → All (HasMoment f) ts
Rises-has [] f r = All-nil (HasMoment f)
Rises-has (t ∷ ts) f r =
    All-cons (HasMoment f) t ts (r.0.value, r.0.has)
    (All-weaker (HasMoment (but t.key f)) (HasMoment f) (λ u h. (h.0, but-some t.key u.key h.0 f h.1)) ts (Rises-has ts (but t.key f) r.1))

-- a timer has its own handle alone
own_of : (waiting : List (Option Waiting)) (k : ℕ) (w : Waiting) → at waiting k ≡ Some w →
    ((j : ℕ) (v : Waiting) → j ≢ k → at waiting j ≡ Some v → number_of v.timer ≢ number_of w.timer) → (t : Timer) → at waiting
    t.key ≡ Some (kept t) → is_timer_of w.timer t ≡ nat_eq t.key k
own_of waiting k w is apart t h = ⊎_elim
    (λ e. (let same : kept t ≡ w = (let there : at waiting k ≡ Some (kept t) = subst (λ i. at waiting i ≡ Some (kept t)) e h in cc
    (there, is)) in
    let handle : w.timer ≡ t.handle = sym (ap (λ (v : Waiting). v.timer) same) in
    let all : is_timer_of t.handle t ≡ true = rw (
      eq-eqb t.handle.slot t.handle.slot refl,
      eq-eqb t.handle.stamp t.handle.stamp
          refl,
    ) refl in
    ap (λ (h : TimerKey). is_timer_of h t) handle ∙ all ∙ sym (eq-eqb t.key k e)))
    (λ n. (let stamps : t.handle.stamp ≡ w.timer.stamp → ⊥ = λ e. apart t.key (kept t) n h e in
    and_right (nat_eq t.handle.slot w.timer.slot) (nat_eq t.handle.stamp w.timer.stamp) (ne_eqb t.handle.stamp w.timer.stamp
    stamps) ∙ sym (ne_eqb t.key k n)))
    (cases_eq t.key k)

-- the keys without the timer of a handle are the others
filter_keys : (handle : TimerKey) (k : ℕ) (ts : List Timer) → All (IsOwn handle k) ts → map key_of (without handle ts) ≡ filter
    (λ o. not (o == k)) (map key_of ts)
filter_keys handle k [] h = refl
filter_keys handle k (t ∷ ts) h = rw (All-head (IsOwn handle k) t ts h) (split (nat_eq t.key k)
    (filter_keys handle k ts (All-tail (IsOwn handle k) t ts h)))
  where
    split : (b : Bool) → map key_of (without handle ts) ≡ filter (λ o. not (o == k)) (map key_of ts) → map key_of
        (cond (not b) (t ∷ without handle ts) (without handle ts)) ≡ cond (not b) (t.key ∷ filter (λ o. not (o == k))
        (map key_of ts)) (filter (λ o. not (o == k)) (map key_of ts))
    split true e = e
    split false e = ap (λ ks. t.key ∷ ks) e

-- what holds of each that passes holds of all that are left
all_left : (P : Timer → Type 0) (p : Timer → Bool) (ts : List Timer) → All (λ t. p t ≡ true → P t) ts → All P (filter p ts)
all_left P p [] h = All-nil P
all_left P p (t ∷ ts) h = split (p t) refl (all_left P p ts (All-tail (λ u. p u ≡ true → P u) t ts h))
  where
    split : (b : Bool) → p t ≡ b → All P (filter p ts) → All P (cond (p t) (t ∷ filter p ts) (filter p ts))
    split true e rest = rw e (All-cons P t (filter p ts) (All-head (λ u. p u ≡ true → P u) t ts h e) rest)
    split false e rest = rw e rest

-- the timers as an event loses its deadline
pub IsTimed-clear : (pending : List Timer) (waiting : List (Option Waiting)) (last k : ℕ) (w : Waiting) → IsTimed pending waiting
    last → at waiting k ≡ Some w → IsTimed (without w.timer pending) (set waiting k None) last
IsTimed-clear pending waiting last k w timed is =
    let own = own_of waiting k w is (λ j v n h. timed.apart j k v w n h is) in
    let keys = filter_keys w.timer k pending (All-weaker (HasHandle waiting) (IsOwn w.timer k) own pending timed.handles) in record {
      rises = rw (keys, map-set (option_map moment) waiting k None)
          (Rises-same IsSooner _ (but k (at (moments waiting))) _ (at-set_none (moments waiting) k)
          (Rises-without IsSooner (map key_of pending) (at (moments waiting)) k timed.rises));
      handles = all_left (HasHandle (set waiting k None)) (λ t. not (is_timer_of w.timer t)) pending
          (All-weaker (HasHandle waiting) (λ t. not (is_timer_of w.timer t) ≡ true → HasHandle (set waiting k None) t)
          (λ t h passes. (let other : nat_eq t.key k ≡ false = sym (own t h) ∙ not-true (is_timer_of w.timer t) passes in
          let n : t.key ≡ k → ⊥ = λ e. true≢false (sym (eq-eqb t.key k e) ∙ other) in
          get_or-set_other waiting k t.key None None n ∙ h)) pending timed.handles);
      below = λ j v h. timed.below j v (but-some k j v (at waiting) (sym (at-set_none waiting k j) ∙ h));
      apart = λ i j u v n h g. timed.apart i j u v n (but-some k i u (at waiting) (sym (at-set_none waiting k i) ∙ h))
          (but-some k j v (at waiting) (sym (at-set_none waiting k j) ∙ g));
    }

-- the first deadline comes before all others
pub IsLeast-first_deadline : (pending : List Timer) (waiting : List (Option Waiting)) (last : ℕ) → IsTimed pending waiting last →
    IsLeast (deadlines (moments waiting)) (first_deadline pending)
IsLeast-first_deadline [] waiting last timed = λ k. ap (option_map (λ (m : Moment). m.deadline)) (timed.rises k)
IsLeast-first_deadline (t ∷ ts) waiting last timed =
    let is : at (moments waiting) t.key ≡ Some (moment (kept t)) = at-moments waiting t.key ∙ ap (option_map moment)
    (All-head (HasHandle waiting) t ts timed.handles) in (
      (t.key, ap (option_map (λ (m : Moment). m.deadline)) is),
      λ j m e. least (at (moments waiting) j) m e (λ n h. ⊎_elim
          (λ q. (let same : Some (moment (kept t)) ≡ Some n = sym (ap (at (moments waiting)) q ∙ is) ∙ h in
          let eq : moment (kept t) ≡ n = cc same in subst (λ (x : Moment). t.deadline ≤ x.deadline) eq (le_refl t.deadline)))
          (λ other. (let value : timed.rises.0.value ≡ moment (kept t) = (let same = sym timed.rises.0.has ∙ is in cc same) in
          subst (λ (x : Moment). x.deadline ≤ n.deadline) value (timed.rises.0.leads j n other h).0))
          (cases_eq j t.key)),
    )
  where
    least : (o : Option Moment) (m : ℕ) → option_map (λ (x : Moment). x.deadline) o ≡ Some m →
        ((n : Moment) → o ≡ Some n → t.deadline ≤ n.deadline) → t.deadline ≤ m
    least None m e h = cc e
    least (Some n) m e h = let is : n.deadline ≡ m = cc e in subst (λ x. t.deadline ≤ x) is (h n refl)

if_due_some : (time : ℕ) (o : Option Moment) (m : Moment) → if_due time o ≡ Some m → o ≡ Some m
if_due_some time None m e = cc e
if_due_some time (Some n) m e = split (nat_le n.deadline time) e
  where
    split : (b : Bool) → cond b (Some n) None ≡ Some m → Some n ≡ Some m
    split true e = e
    split false e = cc e

late : (time : ℕ) (o : Option Moment) → ((m : Moment) → o ≡ Some m → time < m.deadline) → if_due time o ≡ None
late time None h = refl
late time (Some m) h = rw (lt-leb m.deadline time (h m refl)) refl

-- a timer tells the deadline of its event
abbrev Tells : (ℕ → Option Moment) → Timer → Type 0
Tells f t = (m : Moment) → f t.key ≡ Some m → m.deadline ≡ t.deadline

tells_but : (k : ℕ) (f : ℕ → Option Moment) (ts : List Timer) → All (Tells f) ts → All (Tells (but k f)) ts
tells_but k f ts h = All-weaker (Tells f) (Tells (but k f)) (λ t tells m e. tells m (but-some k t.key m f e)) ts h

-- the keys of the timers that are due have the due moments, in their order
due_rises : (time : ℕ) (ts : List Timer) (f : ℕ → Option Moment) → Rises IsSooner (map key_of ts) f → All (Tells f) ts → Rises
    IsSooner (due_keys time ts) (λ k. if_due time (f k))
due_rises time [] f r h = λ k. ap (if_due time) (r k)
due_rises time (t ∷ ts) f r h =
    let same : r.0.value.deadline ≡ t.deadline = All-head (Tells f) t ts h r.0.value r.0.has in
    let rest = due_rises time ts (but t.key f) r.1 (tells_but t.key f ts (All-tail (Tells f) t ts h)) in
    ⊎_elim
    (λ due. (let in_time : nat_le r.0.value.deadline time ≡ true = le-leb r.0.value.deadline time
    (omega (arith, leb-true t.deadline time due)) in
    rw due (
      record {
        value = r.0.value;
        has = ap (if_due time) r.0.has ∙ rw in_time refl;
        leads = λ j w n e. r.0.leads j w n (if_due_some time (f j) w e);
      },
      Rises-same IsSooner (due_keys time ts) (λ k. if_due time (but t.key f k)) (but t.key (λ k. if_due time (f k)))
          (λ j. sym (due_but t.key j)) rest,
    )))
    (λ later. (let after : time < t.deadline = leb-false t.deadline time later in
    rw later (λ k. late time (f k) (λ m e. ⊎_elim
    (λ q. (let v : r.0.value ≡ m = (let e2 = sym r.0.has ∙ sym (ap f q) ∙ e in cc e2) in subst (λ (x : Moment). time < x.deadline)
    v (omega arith)))
    (λ n. omega (arith, (r.0.leads k m n e).0))
    (cases_eq k t.key)))))
    (cases_Bool (nat_le t.deadline time))
  where
    due_but : (i j : ℕ) → if_due time (but i f j) ≡ but i (λ k. if_due time (f k)) j
    due_but i j = split (nat_eq j i)
      where
        split : (b : Bool) → if_due time (cond b None (f j)) ≡ cond b None (if_due time (f j))
        split true = refl
        split false = refl

-- each timer tells the deadline of its event
IsTimed-tells : (pending : List Timer) (waiting : List (Option Waiting)) (last : ℕ) → IsTimed pending waiting last → All
    (Tells (at (moments waiting))) pending
IsTimed-tells pending waiting last timed = All-weaker (HasHandle waiting) (Tells (at (moments waiting)))
    (λ t h m e. (let is = sym (at-moments waiting t.key ∙ ap (option_map moment) h) ∙ e in
    let eq : moment (kept t) ≡ m = cc is in sym (ap (λ (x : Moment). x.deadline) eq)))
    pending timed.handles

-- the timers that are due are those of the due moments
pub IsDueOrder-due_keys : (time : ℕ) (pending : List Timer) (waiting : List (Option Waiting)) (last : ℕ) → IsTimed pending waiting
    last → IsDueOrder time (moments waiting) (due_keys time pending)
IsDueOrder-due_keys time pending waiting last timed =
    due_rises time pending (at (moments waiting)) timed.rises (IsTimed-tells pending waiting last timed)

-- the timers and the handles stay where the handles of all events do
pub IsTimed-same : (pending : List Timer) (waiting more : List (Option Waiting)) (last : ℕ) → ((k : ℕ) → at more k ≡ at waiting k)
    → IsTimed pending waiting last → IsTimed pending more last
IsTimed-same pending waiting more last e timed = record {
  rises = Rises-same IsSooner _ (at (moments waiting)) (at (moments more)) (λ k. at-moments more k ∙ ap (option_map moment) (e k) ∙
      sym (at-moments waiting k)) timed.rises;
  handles = All-weaker (HasHandle waiting) (HasHandle more) (λ t h. e t.key ∙ h) pending timed.handles;
  below = λ k w h. timed.below k w (sym (e k) ∙ h);
  apart = λ j k v w n h g. timed.apart j k v w n (sym (e j) ∙ h) (sym (e k) ∙ g);
}

-- the moments stay where the handles do
pub moments-same : (waiting more : List (Option Waiting)) → ((k : ℕ) → at more k ≡ at waiting k) → (k : ℕ) → at (moments more) k ≡
    at (moments waiting) k
moments-same waiting more e k = at-moments more k ∙ ap (option_map moment) (e k) ∙ sym (at-moments waiting k)

all_with : (P : Timer → Type 0) (t : Timer) (ts : List Timer) → P t → All P ts → All P (with_timer t ts)
all_with P t [] p h = All-cons P t [] p h
all_with P t (u ∷ us) p h = split (nat_lt t.deadline u.deadline) (all_with P t us p (All-tail P u us h))
  where
    split : (b : Bool) → All P (with_timer t us) → All P (cond b (t ∷ u ∷ us) (u ∷ with_timer t us))
    split true rest = All-cons P t (u ∷ us) p h
    split false rest = All-cons P u (with_timer t us) (All-head P u us h) rest

-- a new timer stands among the others where its moment does
rises_with : (t : Timer) (m : Moment) (ts : List Timer) (f : ℕ → Option Moment) → m.deadline ≡ t.deadline → Rises IsSooner
    (map key_of ts) f → All (Tells f) ts → f t.key ≡ None → ((j : ℕ) (n : Moment) → f j ≡ Some n → n.order < m.order) → Rises
    IsSooner (map key_of (with_timer t ts)) (with t.key m f)
rises_with t m [] f own r h none last = (
  record { value = m; has = with-same t.key m f; leads = λ j n other e. (let is = sym (with-other t.key j m f other ∙ r j) ∙ e in cc is) },
  λ j. but_with-same t.key j m f none ∙ r j,
)
rises_with t m (u ∷ us) f own r h none last =
    let same : r.0.value.deadline ≡ u.deadline = All-head (Tells f) u us h r.0.value r.0.has in
    let apart : u.key ≢ t.key = λ e. (let no = sym r.0.has ∙ ap f e ∙ none in cc no) in
    let rest = rises_with t m us (but u.key f) own r.1 (tells_but u.key f us (All-tail (Tells f) u us h))
    (but-none u.key t.key f none) (λ j n e. last j n (but-some u.key j n f e)) in
    ⊎_elim
    (λ sooner. rw sooner (
      record {
        value = m;
        has = with-same t.key m f;
        leads = λ j n other e.
            (let is : f j ≡ Some n = sym (with-other t.key j m f other) ∙ e in
            let behind : u.deadline ≤ n.deadline = ⊎_elim
            (λ q. (let v : r.0.value ≡ n = (let e2 = sym r.0.has ∙ sym (ap f q) ∙ is in cc e2) in subst
            (λ (x : Moment). u.deadline ≤ x.deadline) v (omega arith)))
            (λ d. omega (arith, (r.0.leads j n d is).0))
            (cases_eq j u.key) in
            let less = ltb-true t.deadline u.deadline sooner in
            (omega arith, λ q. absurd (omega arith)));
      },
      Rises-same IsSooner (u.key ∷ map key_of us) f (but t.key (with t.key m f)) (λ j. but_with-same t.key j m f none) r,
    ))
    (λ later. rw later (
      record {
        value = r.0.value;
        has = with-other t.key u.key m f apart ∙ r.0.has;
        leads = λ j n other e. ⊎_elim
            (λ q. (let v : m ≡ n = (let e2 = sym (with-same t.key m f) ∙ sym (ap (with t.key m f) q) ∙ e in cc e2) in
            let past = ltb-false t.deadline u.deadline later in
            let first = last u.key r.0.value r.0.has in
            subst (IsSooner r.0.value) v (omega arith, λ q. first)))
            (λ d. r.0.leads j n other (sym (with-other t.key j m f d) ∙ e))
            (cases_eq j t.key);
      },
      Rises-same IsSooner _ (with t.key m (but u.key f)) (but u.key (with t.key m f)) (λ j. but-with t.key u.key j m f apart) rest,
    ))
    (cases_Bool (nat_lt t.deadline u.deadline))

-- the deadlines of timers rise
abbrev Rise : List Timer → Type 0
Rise [] = Unit {0}
Rise (t ∷ ts) = All (λ u. t.deadline ≤ u.deadline) ts × Rise ts

rise_from : (ts : List Timer) (f : ℕ → Option Moment) → Rises IsSooner (map key_of ts) f → All (Tells f) ts → Rise ts
rise_from [] f r h = tt
rise_from (t ∷ ts) f r h =
    let same : r.0.value.deadline ≡ t.deadline = All-head (Tells f) t ts h r.0.value r.0.has in
    let has = Rises-has ts (but t.key f) r.1 in
    let tells = All-tail (Tells f) t ts h in (
      (λ k d lt. (let has_it = has k d lt in
          let other : (get_or ts k d).key ≢ t.key = λ e. (let no : but t.key f (get_or ts k d).key ≡ None = ap (but t.key f) e ∙
          but-same t.key f in let both = sym no ∙ has_it.1 in cc both) in
          let value : f (get_or ts k d).key ≡ Some has_it.0 = but-some t.key (get_or ts k d).key has_it.0 f has_it.1 in
          let own : has_it.0.deadline ≡ (get_or ts k d).deadline = tells k d lt has_it.0 value in
          let ahead = (r.0.leads (get_or ts k d).key has_it.0 other value).0 in omega arith)),
      rise_from ts (but t.key f) r.1 (tells_but t.key f ts tells),
    )

first_with : (t : Timer) (ts : List Timer) → All (λ u. t.deadline < u.deadline) ts → with_timer t ts ≡ t ∷ ts
first_with t [] h = refl
first_with t (u ∷ us) h = rw (lt-ltb t.deadline u.deadline (All-head (λ (v : Timer). t.deadline < v.deadline) u us h)) refl

-- a timer that is taken out leaves the new one where it stands
without_with : (handle : TimerKey) (t : Timer) (ts : List Timer) → is_timer_of handle t ≡ false → Rise ts → without handle
    (with_timer t ts) ≡ with_timer t (without handle ts)
without_with handle t [] new rise = rw new refl
without_with handle t (u ∷ us) new rise =
    let rest = without_with handle t us new rise.1 in
    ⊎_elim
    (λ sooner. (let less = ltb-true t.deadline u.deadline sooner in
    let behind : All (λ (v : Timer). t.deadline < v.deadline) (u ∷ us) = All-cons (λ (v : Timer). t.deadline < v.deadline) u us
    less (All-weaker (λ (v : Timer). u.deadline ≤ v.deadline) (λ (v : Timer). t.deadline < v.deadline) (λ v h. omega arith) us
    rise.0) in
    let left : without handle (with_timer t (u ∷ us)) ≡ t ∷ without handle (u ∷ us) = rw (sooner, new) refl in
    left ∙ sym (first_with t (without handle (u ∷ us)) (all_left (λ (v : Timer). t.deadline < v.deadline)
    (λ v. not (is_timer_of handle v)) (u ∷ us) (All-weaker (λ (v : Timer). t.deadline < v.deadline)
    (λ v. not (is_timer_of handle v) ≡ true → t.deadline < v.deadline) (λ v h p. h) (u ∷ us) behind)))))
    (λ later. rw later (split (is_timer_of handle u) later rest))
    (cases_Bool (nat_lt t.deadline u.deadline))
  where
    split : (b : Bool) → nat_lt t.deadline u.deadline ≡ false → without handle (with_timer t us) ≡ with_timer t (without handle us)
        → cond (not b) (u ∷ without handle (with_timer t us)) (without handle (with_timer t us)) ≡ with_timer t
        (cond (not b) (u ∷ without handle us) (without handle us))
    split true later e = e
    split false later e = rw later (ap (λ ts. u ∷ ts) e)

-- the timers as an event without a deadline gets one
pub IsTimed-add : (pending : List Timer) (waiting : List (Option Waiting)) (last : ℕ) (t : Timer) → IsTimed pending waiting last →
    at waiting t.key ≡ None → t.key < length waiting → number_of t.handle ≡ last + 1 → IsTimed (with_timer t pending)
    (set waiting t.key (Some (kept t))) (last + 1)
IsTimed-add pending waiting last t timed none lt number =
    let place = at-set_some waiting t.key in record {
      rises = rw (map-set (option_map moment) waiting t.key (Some (kept t)))
          (Rises-same IsSooner _ (with t.key (moment (kept t)) (at (moments waiting))) _
          (λ j. at-set_some (moments waiting) t.key j (moment (kept t)) (rw (length-map waiting (option_map moment)) lt))
          (rises_with t (moment (kept t)) pending (at (moments waiting)) refl timed.rises (IsTimed-tells pending waiting last
          timed) (at-moments waiting t.key ∙ ap (option_map moment) none)
          (λ j n h. order_below (at waiting j) n (λ w e. timed.below j w e) (sym (at-moments waiting j) ∙ h))));
      handles = all_with (HasHandle (set waiting t.key (Some (kept t)))) t pending (get_or-set_same waiting t.key (Some (kept t)) None lt)
          (All-weaker (HasHandle waiting) (HasHandle (set waiting t.key (Some (kept t))))
          (λ u h. (let other : u.key ≢ t.key = λ e. (let no = sym h ∙ ap (at waiting) e ∙ none in cc no) in get_or-set_other
          waiting t.key u.key (Some (kept t)) None other ∙ h)) pending timed.handles);
      below = λ j w h. ⊎_elim
          (λ e. (let v : kept t ≡ w = (let e2 = sym (ap (at (set waiting t.key (Some (kept t)))) e ∙ get_or-set_same waiting t.key
          (Some (kept t)) None lt) ∙ h in cc e2) in
          subst (λ (x : Waiting). number_of x.timer ≤ last + 1) v (omega arith)))
          (λ n. (let low = timed.below j w (sym (get_or-set_other waiting t.key j (Some (kept t)) None n) ∙ h) in omega arith))
          (cases_eq j t.key);
      apart = λ j k v w n h g. ⊎_elim
          (λ e. (let is : kept t ≡ v = (let e2 = sym (ap (at (set waiting t.key (Some (kept t)))) e ∙ get_or-set_same waiting t.key
          (Some (kept t)) None lt) ∙ h in cc e2) in
          let other : k ≢ t.key = λ q. n (e ∙ sym q) in
          let low = timed.below k w (sym (get_or-set_other waiting t.key k (Some (kept t)) None other) ∙ g) in
          subst (λ (x : Waiting). number_of x.timer ≢ number_of w.timer) is (λ same. omega arith)))
          (λ m. ⊎_elim
          (λ e. (let is : kept t ≡ w = (let e2 = sym (ap (at (set waiting t.key (Some (kept t)))) e ∙ get_or-set_same waiting t.key
          (Some (kept t)) None lt) ∙ g in cc e2) in
          let low = timed.below j v (sym (get_or-set_other waiting t.key j (Some (kept t)) None m) ∙ h) in
          subst (λ (x : Waiting). number_of v.timer ≢ number_of x.timer) is (λ same. omega arith)))
          (λ other. timed.apart j k v w n (sym (get_or-set_other waiting t.key j (Some (kept t)) None m) ∙ h)
          (sym (get_or-set_other waiting t.key k (Some (kept t)) None other) ∙ g))
          (cases_eq k t.key))
          (cases_eq j t.key);
    }
  where
    order_below : (o : Option Waiting) (n : Moment) → ((w : Waiting) → o ≡ Some w → number_of w.timer ≤ last) → option_map moment o
        ≡ Some n → n.order < number_of t.handle
    order_below None n h e = cc e
    order_below (Some w) n h e = (let is : moment w ≡ n = cc e in let low = h w refl in subst
        (λ (x : Moment). x.order < number_of t.handle) is (omega arith))

-- the timers as an event gets a deadline in place of another
pub IsTimed-replace : (pending : List Timer) (waiting : List (Option Waiting)) (last : ℕ) (t : Timer) (w : Waiting) → IsTimed
    pending waiting last → at waiting t.key ≡ Some w → t.key < length waiting → number_of t.handle ≡ last + 1 → IsTimed
    (without w.timer (with_timer t pending)) (set waiting t.key (Some (kept t))) (last + 1)
IsTimed-replace pending waiting last t w timed is lt number =
    let low = timed.below t.key w is in
    let stamps : t.handle.stamp ≡ w.timer.stamp → ⊥ = λ e. omega arith in
    let new : is_timer_of w.timer t ≡ false = and_right (nat_eq t.handle.slot w.timer.slot) (nat_eq t.handle.stamp w.timer.stamp)
    (ne_eqb t.handle.stamp w.timer.stamp stamps) in
    let rise = rise_from pending (at (moments waiting)) timed.rises (IsTimed-tells pending waiting last timed) in
    let placed = IsTimed-add (without w.timer pending) (set waiting t.key None) last t (IsTimed-clear pending waiting last t.key w timed is)
    (get_or-set_same waiting t.key None None lt) (rw (length-set waiting t.key None) lt) number in
    rw (without_with w.timer t pending new rise, ← set-set waiting t.key None (Some (kept t))) placed

-- the value of deadlines is told by its parts
abbrev pub value_of : List (Option Moment) → ℕ → List ℕ → DeadlinesValue
value_of moments last delays = record { moments = moments; last = last; delays = delays }

pub value_of-same : (a b : List (Option Moment)) (m n : ℕ) (c d : List ℕ) → a ≡ b → m ≡ n → c ≡ d → value_of a m c ≡ value_of b n d
value_of-same a b m n c d e f g = ap (λ xs. value_of xs m c) e ∙ ap (λ k. value_of b k c) f ∙ ap (value_of b n) g
