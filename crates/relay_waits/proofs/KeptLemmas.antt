-- The timers of sides and the handles that are kept for them.
use Rattle.std.proofs.Common.{◌≡◌, ℕ, ◌+◌, ◌^◌, ◌<◌, ◌≤◌, Bool, true, false, not, ◌&&◌, cond, nat_le, nat_lt, List, [], ◌∷◌, Some, None}
use Rattle.std.proofs.Common.{refl, sym, ◌∙◌, ap, subst, arith, inl, inr}
use Rattle.std.specs.Prelude.{◌==◌, nat_eq, All, filter, Option, Result, Ok, Err, IfOk, OnOk}
use Rattle.std.specs.List.{AllByRecursion}
use Rattle.std.specs.Map.{lookup}
use Rattle.std.proofs.lemmas.Bool.{leb-false, ltb-true, lt-ltb, eq-eqb, eqb-true, false_from_ne_true, and_parts}
use Rattle.std.proofs.lemmas.Bool.Decides.{eqb_tells, nat_tests}
use Rattle.std.proofs.lemmas.List.Elements.{All-nil, All-cons}
use Rattle.ev_types.specs.declared.side.SideId.{SideId}
use Rattle.ev_types.specs.Sides.{number}
use Rattle.min_timer.specs.declared.key.TimerKey.{TimerKey}
use Rattle.min_timer.specs.declared.timer.Timer as by_number
use Rattle.min_timer.specs.Queue.{is_timer_of, without, with_timer, first_due, after_due}
use Rattle.relay_model.specs.Plain.{Timer, placed, without_timer}
use Rattle.relay_waits.specs.Numbered.{side_numbered}
use Rattle.relay_waits.specs.TimerSides.{timer_of_side, timers_of}
use Rattle.relay_waits.specs.TimerLaws.{IsHandleOf, HasNone, DeadlinesRise}
use Rattle.relay_waits.specs.WaitsValue.{due_by, due_after}
use Rattle.relay_waits.specs.SideTimersView.{IsTimer, NoneHas, OneEach, AreTimers}
use Rattle.relay_waits.proofs.NumberLemmas.{side-of_number}
use Rattle.relay_waits.proofs.TimerLemmas.{timers-are_placed, timers-are_cancelled, rising-stays, none-due}

abbrev Handles : Type 0
Handles = List (ℕ × TimerKey)

-- the handles are as they were, but for one key
abbrev pub AreWith : ℕ → Option TimerKey → Handles → Handles → Type 0
AreWith n w old new = (q : ℕ) → lookup (nat_eq q) new ≡ cond (nat_eq n q) w (lookup (nat_eq q) old)

-- what each timer has, each has by its place
to-all : (P Q : by_number.Timer → Type 0) → ((t : by_number.Timer) → P t → Q t) → (ts : List by_number.Timer) → AllByRecursion P ts →
    All Q ts
to-all P Q f [] h = All-nil Q
to-all P Q f (t ∷ ts) h = All-cons Q t ts (f t h.0) (to-all P Q f ts h.1)

all-map : (P Q : by_number.Timer → Type 0) → ((t : by_number.Timer) → P t → Q t) → (ts : List by_number.Timer) → AllByRecursion P ts →
    AllByRecursion Q ts
all-map P Q f [] h = tt
all-map P Q f (t ∷ ts) h = (f t h.0, all-map P Q f ts h.1)

all-placed : (P : by_number.Timer → Type 0) (t : by_number.Timer) (ts : List by_number.Timer) → P t → AllByRecursion P ts →
    AllByRecursion P (with_timer t ts)
all-placed P t [] here all = (here, tt)
all-placed P t (x ∷ xs) here all = split (all-placed P t xs here all.1) (nat_lt t.deadline x.deadline)
  where
    split : AllByRecursion P (with_timer t xs) → (b : Bool) → AllByRecursion P (cond b (t ∷ x ∷ xs) (x ∷ with_timer t xs))
    split rest true = (here, all)
    split rest false = (all.0, rest)

all-filtered : (P : by_number.Timer → Type 0) (p : by_number.Timer → Bool) (ts : List by_number.Timer) → AllByRecursion P ts →
    AllByRecursion P (filter p ts)
all-filtered P p [] all = tt
all-filtered P p (t ∷ ts) all = split (all-filtered P p ts all.1) (p t)
  where
    split : AllByRecursion P (filter p ts) → (b : Bool) → AllByRecursion P (cond b (t ∷ filter p ts) (filter p ts))
    split rest true = (all.0, rest)
    split rest false = rest

-- One timer of each side

one-placed : (t : by_number.Timer) (ts : List by_number.Timer) → NoneHas t.key ts → OneEach ts → OneEach (with_timer t ts)
one-placed t [] none one = (tt, tt)
one-placed t (x ∷ xs) none one = split (one-placed t xs none.1 one.1) (nat_lt t.deadline x.deadline)
  where
    apart : nat_eq x.key t.key ≡ false
    apart = let h = none.0 in grind (arith, nat_tests, h)

    split : OneEach (with_timer t xs) → (b : Bool) → OneEach (cond b (t ∷ x ∷ xs) (x ∷ with_timer t xs))
    split rest true = (none, one)
    split rest false = (all-placed (λ (u : by_number.Timer). nat_eq x.key u.key ≡ false) t xs apart one.0, rest)

one-filtered : (p : by_number.Timer → Bool) (ts : List by_number.Timer) → OneEach ts → OneEach (filter p ts)
one-filtered p [] one = tt
one-filtered p (t ∷ ts) one = split (one-filtered p ts one.1) (p t)
  where
    split : OneEach (filter p ts) → (b : Bool) → OneEach (cond b (t ∷ filter p ts) (filter p ts))
    split rest true = (all-filtered (λ (u : by_number.Timer). nat_eq t.key u.key ≡ false) p ts one.0, rest)
    split rest false = rest

-- Handles

same-handle : (g h : TimerKey) → g ≡ h → (g.slot == h.slot && g.stamp == h.stamp) ≡ true
same-handle g h same =
    (λ i. eq-eqb g.slot h.slot (ap (λ (k : TimerKey). k.slot) same) i && eq-eqb g.stamp h.stamp (ap (λ (k : TimerKey). k.stamp) same) i)

same_some : (g h : TimerKey) → Some g ≡ Some h → g ≡ h
same_some g h e = cc

-- the handle that is kept for a key is that of the key's timer alone
pub handle-of_key : (n last : ℕ) (h : TimerKey) (ts : List by_number.Timer) (hs : Handles) → AreTimers ts last hs →
    lookup (nat_eq n) hs ≡ Some h → (t : by_number.Timer) → IsTimer hs t → is_timer_of h t ≡ nat_eq n t.key
handle-of_key n last h ts hs kept is t timer = elim (eqb_tells n t.key) [
  | inl same ↦ same-handle t.handle h (handle same.1) ∙ sym same.0
  | inr apart ↦ false_from_ne_true (is_timer_of h t) (λ k. apart.1 (stamps k)) ∙ sym apart.0
]
  where
    handle : n ≡ t.key → t.handle ≡ h
    handle e = same_some t.handle h (sym timer.handle ∙ ap (λ k. lookup (nat_eq k) hs) (sym e) ∙ is)

    stamps : is_timer_of h t ≡ true → n ≡ t.key
    stamps k =
        kept.apart n t.key h t.handle is timer.handle
        (sym (eqb-true t.handle.stamp h.stamp (and_parts (t.handle.slot == h.slot) (t.handle.stamp == h.stamp) k).1))

-- where no handle is kept for a key, no timer has it
pub none-of_key : (n : ℕ) (ts : List by_number.Timer) (hs : Handles) → AllByRecursion (IsTimer hs) ts → lookup (nat_eq n) hs ≡ None →
    NoneHas n ts
none-of_key n ts hs each none = all-map (IsTimer hs) (λ (t : by_number.Timer). nat_eq n t.key ≡ false) other ts each
  where
    other : (t : by_number.Timer) → IsTimer hs t → nat_eq n t.key ≡ false
    other t timer = elim (eqb_tells n t.key) [
      | inl same ↦ absurd (let bad = sym none ∙ ap (λ k. lookup (nat_eq k) hs) same.1 ∙ timer.handle in cc)
      | inr apart ↦ apart.0
    ]

pub has-none : (e : SideId) (ts : List by_number.Timer) → NoneHas (number e) ts → HasNone e ts
has-none e ts none =
    let P : by_number.Timer → Type 0 = λ (t : by_number.Timer). nat_eq (number e) t.key ≡ false in to-all P P (λ t h. h) ts none

pub is-handle_of : (e : SideId) (last : ℕ) (h : TimerKey) (ts : List by_number.Timer) (hs : Handles) → AreTimers ts last hs →
    lookup (nat_eq (number e)) hs ≡ Some h → IsHandleOf h e ts
is-handle_of e last h ts hs kept is =
    to-all (IsTimer hs) (λ (t : by_number.Timer). is_timer_of h t ≡ nat_eq (number e) t.key)
    (handle-of_key (number e) last h ts hs kept is) ts kept.each

-- with the timer of a key goes each that has the key
pub none-left : (n last : ℕ) (h : TimerKey) (ts : List by_number.Timer) (hs : Handles) → AreTimers ts last hs →
    lookup (nat_eq n) hs ≡ Some h → NoneHas n (without h ts)
none-left n last h ts hs kept is = go ts kept.each
  where
    go : (us : List by_number.Timer) → AllByRecursion (IsTimer hs) us → NoneHas n (without h us)
    go [] each = tt
    go (u ∷ us) each = split (go us each.1) (is_timer_of h u) refl
      where
        split : NoneHas n (without h us) → (b : Bool) → is_timer_of h u ≡ b → NoneHas n (cond (not b) (u ∷ without h us) (without h us))
        split rest true k = rest
        split rest false k = (sym (handle-of_key n last h ts hs kept is u each.0) ∙ k, rest)

-- What calls leave

-- timers of other keys are kept as they were
others-kept : (n : ℕ) (w : Option TimerKey) (us : List by_number.Timer) (old new : Handles) → AreWith n w old new →
    AllByRecursion (IsTimer old) us → NoneHas n us → AllByRecursion (IsTimer new) us
others-kept n w [] old new are each none = tt
others-kept n w (u ∷ us) old new are each none = (
  record {
    side = each.0.side;
    handle = are u.key ∙ ap (λ b. cond b w (lookup (nat_eq u.key) old)) none.0 ∙ each.0.handle;
  },
  others-kept n w us old new are each.1 none.1,
)

-- a timer less
pub kept-less : (n last : ℕ) (ts us : List by_number.Timer) (old new : Handles) → AreTimers ts last old → DeadlinesRise us →
    AllByRecursion (IsTimer old) us → OneEach us → NoneHas n us → AreWith n None old new → AreTimers us last new
kept-less n last ts us old new kept rise each one none are = record {
  rise = rise;
  each = others-kept n None us old new are each none;
  one = one;
  given = λ m h is. kept.given m h (before m h is);
  apart = λ m k g h is it same. kept.apart m k g h (before m g is) (before k h it) same;
}
  where
    before : (m : ℕ) (h : TimerKey) → lookup (nat_eq m) new ≡ Some h → lookup (nat_eq m) old ≡ Some h
    before m h is = split (nat_eq n m) (sym (are m) ∙ is)
      where
        split : (b : Bool) → cond b None (lookup (nat_eq m) old) ≡ Some h → lookup (nat_eq m) old ≡ Some h
        split true k = absurd (cc)
        split false k = k

-- a timer more, of a key that no other has
pub kept-more : (n last : ℕ) (t : by_number.Timer) (ts us : List by_number.Timer) (old new : Handles) → AreTimers ts last old →
    DeadlinesRise us → AllByRecursion (IsTimer old) us → OneEach us → NoneHas n us → t.key ≡ n → n < 2 ^ 33 →
    t.handle.stamp ≡ last + 1 → AreWith n (Some t.handle) old new → AreTimers (with_timer t us) (last + 1) new
kept-more n last t ts us old new kept rise each one none key low stamp are = record {
  rise = rising-stays.placed t us rise;
  each = all-placed (IsTimer new) t us here (others-kept n (Some t.handle) us old new are each none);
  one = one-placed t us (subst (λ k. NoneHas k us) (sym key) none) one;
  given = λ m h is. elim (eqb_tells n m) [
    | inl same ↦ let s = mine m h same.0 is in omega (arith, s, stamp)
    | inr other ↦ let s = kept.given m h (theirs m h other.0 is) in omega (arith, s)
  ];
  apart = λ m k g h is it same. elim (eqb_tells n m) [
    | inl first ↦ elim (eqb_tells n k) [
      | inl second ↦ sym first.1 ∙ second.1
      | inr second ↦ absurd
          (let a = mine m g first.0 is in let b = kept.given k h (theirs k h second.0 it) in omega (arith, a, b, stamp, same))
    ]
    | inr first ↦ elim (eqb_tells n k) [
      | inl second ↦ absurd
          (let a = mine k h second.0 it in let b = kept.given m g (theirs m g first.0 is) in omega (arith, a, b, stamp, same))
      | inr second ↦ kept.apart m k g h (theirs m g first.0 is) (theirs k h second.0 it) same
    ]
  ];
}
  where
    mine : (m : ℕ) (h : TimerKey) → nat_eq n m ≡ true → lookup (nat_eq m) new ≡ Some h → h.stamp ≡ t.handle.stamp
    mine m h same is =
        ap (λ (k : TimerKey). k.stamp)
        (same_some h t.handle (sym is ∙ are m ∙ ap (λ b. cond b (Some t.handle) (lookup (nat_eq m) old)) same))

    theirs : (m : ℕ) (h : TimerKey) → nat_eq n m ≡ false → lookup (nat_eq m) new ≡ Some h → lookup (nat_eq m) old ≡ Some h
    theirs m h other is = sym (are m ∙ ap (λ b. cond b (Some t.handle) (lookup (nat_eq m) old)) other) ∙ is

    here : IsTimer new t
    here = record {
      side = subst (λ k. k < 2 ^ 33) (sym key) low;
      handle =
          are t.key ∙ ap (λ b. cond b (Some t.handle) (lookup (nat_eq t.key) old)) (eq-eqb n t.key (sym key));
    }

-- the timer of a key is taken out
pub kept-cancelled : (n last : ℕ) (h : TimerKey) (ts : List by_number.Timer) (old new : Handles) → AreTimers ts last old →
    lookup (nat_eq n) old ≡ Some h → AreWith n None old new → AreTimers (without h ts) last new
kept-cancelled n last h ts old new kept is are =
    kept-less n last ts (without h ts) old new kept (rising-stays.cancelled h ts kept.rise)
    (all-filtered (IsTimer old) (λ t. not (is_timer_of h t)) ts kept.each) (one-filtered (λ t. not (is_timer_of h t)) ts kept.one)
    (none-left n last h ts old kept is) are

-- one comes in the place of it
pub kept-replaced : (n last : ℕ) (h : TimerKey) (t : by_number.Timer) (ts : List by_number.Timer) (old new : Handles) →
    AreTimers ts last old → lookup (nat_eq n) old ≡ Some h → t.key ≡ n → n < 2 ^ 33 → t.handle.stamp ≡ last + 1 →
    AreWith n (Some t.handle) old new → AreTimers (with_timer t (without h ts)) (last + 1) new
kept-replaced n last h t ts old new kept is key low stamp are =
    kept-more n last t ts (without h ts) old new kept (rising-stays.cancelled h ts kept.rise)
    (all-filtered (IsTimer old) (λ t. not (is_timer_of h t)) ts kept.each) (one-filtered (λ t. not (is_timer_of h t)) ts kept.one)
    (none-left n last h ts old kept is) key low stamp are

-- one comes where there was none
pub kept-added : (n last : ℕ) (t : by_number.Timer) (ts : List by_number.Timer) (old new : Handles) →
    AreTimers ts last old → lookup (nat_eq n) old ≡ None → t.key ≡ n → n < 2 ^ 33 → t.handle.stamp ≡ last + 1 →
    AreWith n (Some t.handle) old new → AreTimers (with_timer t ts) (last + 1) new
kept-added n last t ts old new kept none key low stamp are =
    kept-more n last t ts ts old new kept kept.rise kept.each kept.one (none-of_key n ts old kept.each none) key low stamp are

-- Adding and then cancelling is cancelling and then adding

-- a timer comes before those of later deadlines
placed-first : (t : by_number.Timer) (d : ℕ) (ts : List by_number.Timer) → t.deadline < d →
    AllByRecursion (λ (u : by_number.Timer). d ≤ u.deadline) ts → with_timer t ts ≡ t ∷ ts
placed-first t d [] lt all = refl
placed-first t d (x ∷ xs) lt all =
    let low = all.0 in
    ap (λ b. cond b (t ∷ x ∷ xs) (x ∷ with_timer t xs)) (lt-ltb t.deadline x.deadline (omega (arith, lt, low)))

pub without-placed : (h : TimerKey) (t : by_number.Timer) (ts : List by_number.Timer) → DeadlinesRise ts → is_timer_of h t ≡ false →
    without h (with_timer t ts) ≡ with_timer t (without h ts)
without-placed h t [] rise other = ap (λ b. cond (not b) (t ∷ []) []) other
without-placed h t (x ∷ xs) rise other =
    split (without-placed h t xs rise.1 other) (nat_lt t.deadline x.deadline) refl (is_timer_of h x) refl
  where
    first : (ys : List by_number.Timer) → cond (not (is_timer_of h t)) (t ∷ ys) ys ≡ t ∷ ys
    first ys = ap (λ b. cond (not b) (t ∷ ys) ys) other

    split : without h (with_timer t xs) ≡ with_timer t (without h xs) → (b : Bool) → nat_lt t.deadline x.deadline ≡ b →
        (c : Bool) → is_timer_of h x ≡ c →
        without h (cond b (t ∷ x ∷ xs) (x ∷ with_timer t xs)) ≡ with_timer t (cond (not c) (x ∷ without h xs) (without h xs))
    split rest true lt true is =
        first (without h (x ∷ xs)) ∙ ap (λ c. t ∷ cond (not c) (x ∷ without h xs) (without h xs)) is
        ∙ sym (placed-first t x.deadline (without h xs) (ltb-true t.deadline x.deadline lt)
        (all-filtered (λ (u : by_number.Timer). x.deadline ≤ u.deadline) (λ u. not (is_timer_of h u)) xs rise.0))
    split rest true lt false is =
        first (without h (x ∷ xs)) ∙ ap (λ c. t ∷ cond (not c) (x ∷ without h xs) (without h xs)) is
        ∙ sym (ap (λ b. cond b (t ∷ x ∷ without h xs) (x ∷ with_timer t (without h xs))) lt)
    split rest false lt true is =
        ap (λ c. cond (not c) (x ∷ without h (with_timer t xs)) (without h (with_timer t xs))) is ∙ rest
    split rest false lt false is =
        ap (λ c. cond (not c) (x ∷ without h (with_timer t xs)) (without h (with_timer t xs))) is ∙ ap (λ ys. x ∷ ys) rest
        ∙ sym (ap (λ b. cond b (t ∷ x ∷ without h xs) (x ∷ with_timer t (without h xs))) lt)

-- a handle that was given out is not that of a later timer
pub later-handle : (h : TimerKey) (t : by_number.Timer) (last : ℕ) → h.stamp ≤ last → t.handle.stamp ≡ last + 1 → is_timer_of h t ≡ false
later-handle h t last low stamp = false_from_ne_true (is_timer_of h t) (λ k.
    let same = eqb-true t.handle.stamp h.stamp (and_parts (t.handle.slot == h.slot) (t.handle.stamp == h.stamp) k).1 in
    omega (arith, same, low, stamp))

-- what adding a timer and then cancelling another leaves
pub after-replacing : (n last : ℕ) (h : TimerKey) (t : by_number.Timer) (ts more left : List by_number.Timer) (hs : Handles) →
    AreTimers ts last hs → lookup (nat_eq n) hs ≡ Some h → t.handle.stamp ≡ last + 1 → more ≡ with_timer t ts → left ≡ without h more →
    left ≡ with_timer t (without h ts)
after-replacing n last h t ts more left hs kept is stamp added cancelled =
    cancelled ∙ ap (without h) added ∙ without-placed h t ts kept.rise (later-handle h t last (kept.given n h is) stamp)

-- what an insertion that did not fail answered and left
pub was-kept : {E : Type 0} (r : Result (Option TimerKey) E) (x o : Option TimerKey) → r ≡ Ok x → IfOk r (λ old. old ≡ o) → o ≡ x
was-kept (Ok y) x o e h = sym h ∙ (let same : y ≡ x = cc in same)
was-kept (Err f) x o e h = absurd (cc)

pub is-ok : {T E P : Type 0} (r : Result T E) (x : T) → r ≡ Ok x → OnOk r P → P
is-ok (Ok y) x e p = p
is-ok (Err f) x e p = absurd (cc)

abbrev timer_at : SideId → ℕ → Timer
timer_at e d = record { side = e; deadline = d }

-- the timers of sides, once a side's is another
pub replaced : (e : SideId) (last : ℕ) (h : TimerKey) (t : by_number.Timer) (ts : List by_number.Timer) (hs : Handles) →
    AreTimers ts last hs → lookup (nat_eq (number e)) hs ≡ Some h → t.key ≡ number e →
    timers_of (with_timer t (without h ts)) ≡ placed (timer_at e t.deadline) (without_timer e (timers_of ts))
replaced e last h t ts hs kept is key =
    timers-are_placed t (without h ts)
    ∙ (λ i. placed (timer_at ((ap side_numbered key ∙ side-of_number e) i) t.deadline)
    (timers-are_cancelled.one h e ts (is-handle_of e last h ts hs kept is) i))

pub added : (e : SideId) (t : by_number.Timer) (ts : List by_number.Timer) (hs : Handles) →
    AllByRecursion (IsTimer hs) ts → lookup (nat_eq (number e)) hs ≡ None → t.key ≡ number e →
    timers_of (with_timer t ts) ≡ placed (timer_at e t.deadline) (without_timer e (timers_of ts))
added e t ts hs each none key =
    timers-are_placed t ts
    ∙ (λ i. placed (timer_at ((ap side_numbered key ∙ side-of_number e) i) t.deadline)
    (sym (timers-are_cancelled.none e ts (has-none e ts (none-of_key (number e) ts hs each none))) i))

pub cancelled-side : (e : SideId) (last : ℕ) (h : TimerKey) (ts : List by_number.Timer) (hs : Handles) → AreTimers ts last hs →
    lookup (nat_eq (number e)) hs ≡ Some h → timers_of (without h ts) ≡ without_timer e (timers_of ts)
cancelled-side e last h ts hs kept is = timers-are_cancelled.one h e ts (is-handle_of e last h ts hs kept is)

pub none-cancelled : (e : SideId) (ts : List by_number.Timer) (hs : Handles) → AllByRecursion (IsTimer hs) ts →
    lookup (nat_eq (number e)) hs ≡ None → timers_of ts ≡ without_timer e (timers_of ts)
none-cancelled e ts hs each none = sym (timers-are_cancelled.none e ts (has-none e ts (none-of_key (number e) ts hs each none)))

-- The first that is due

-- what it is that is taken
pub record Taken (now n d : ℕ) (ts : List by_number.Timer) : Type 0 where
  pub first : by_number.Timer
  pub others : List by_number.Timer
  pub were : ts ≡ first ∷ others
  pub due : nat_le first.deadline now ≡ true
  pub key : first.key ≡ n
  pub left : after_due now ts ≡ others

same_pair : (x y : ℕ × ℕ) → Some x ≡ Some y → x ≡ y
same_pair x y e = cc

pub taken : (now n d : ℕ) (ts : List by_number.Timer) → first_due now ts ≡ Some (n, d) → Taken now n d ts
taken now n d [] h = absurd (cc)
taken now n d (t ∷ ts) h = split (nat_le t.deadline now) refl
  where
    split : (b : Bool) → nat_le t.deadline now ≡ b → Taken now n d (t ∷ ts)
    split true k = record {
      first = t;
      others = ts;
      were = refl;
      due = k;
      key = ap (λ (p : ℕ × ℕ). p.0) (same_pair (t.key, t.deadline) (n, d) (sym (ap (λ b. cond b (Some (t.key, t.deadline)) None) k) ∙ h));
      left = ap (λ b. cond b ts (t ∷ ts)) k;
    }
    split false k = absurd (let bad : None ≡ Some (n, d) = sym (ap (λ b. cond b (Some (t.key, t.deadline)) None) k) ∙ h in cc)

-- what is left of the timers, once the first was taken
pub kept-taken : (now n d last : ℕ) (ts : List by_number.Timer) (old new : Handles) → AreTimers ts last old →
    first_due now ts ≡ Some (n, d) → AreWith n None old new → AreTimers (after_due now ts) last new
kept-taken now n d last ts old new kept h are =
    let x = taken now n d ts h in
    let all : AreTimers (x.first ∷ x.others) last old = subst (λ us. AreTimers us last old) x.were kept in
    subst (λ us. AreTimers us last new) (sym x.left)
    (kept-less n last (x.first ∷ x.others) x.others old new all all.rise.1 all.each.1 all.one.1
    (subst (λ k. NoneHas k x.others) x.key all.one.0) are)

-- where the first is not due, none is
pub none-first : (now : ℕ) (ts : List by_number.Timer) → DeadlinesRise ts → first_due now ts ≡ None →
    (due_by now (timers_of ts) ≡ []) × (timers_of ts ≡ due_after now (timers_of ts))
none-first now [] rise h = (refl, refl)
none-first now (t ∷ ts) rise h = split (nat_le t.deadline now) refl
  where
    split : (b : Bool) → nat_le t.deadline now ≡ b →
        (due_by now (timers_of (t ∷ ts)) ≡ []) × (timers_of (t ∷ ts) ≡ due_after now (timers_of (t ∷ ts)))
    split true k = absurd (let bad : Some (t.key, t.deadline) ≡ None = sym (ap (λ b. cond b (Some (t.key, t.deadline)) None) k) ∙ h in cc)
    split false k =
        let late = leb-false t.deadline now k in
        let rest = none-due now t.deadline ts late rise.0 in (
          ap (λ b. cond b (timer_of_side t ∷ due_by now (timers_of ts)) (due_by now (timers_of ts))) k ∙ rest.0,
          sym (ap (λ b. cond b (timer_of_side t ∷ due_after now (timers_of ts)) (due_after now (timers_of ts)))
              (lt-ltb now t.deadline late) ∙ ap (λ us. timer_of_side t ∷ us) rest.1),
        )

-- the same timers, by another name
pub kept-as : (last most : ℕ) (ts us : List by_number.Timer) (hs : Handles) → us ≡ ts → most ≡ last → AreTimers ts last hs →
    AreTimers us most hs
kept-as last most ts us hs same number kept =
    subst (λ n. AreTimers us n hs) (sym number) (subst (λ vs. AreTimers vs last hs) (sym same) kept)
