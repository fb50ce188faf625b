-- No timer has a number above the last, so the next handle is new; and a handle that is gone is handed out by no later call.
use Rattle.std.proofs.Common.{◌≡◌, ◌∙◌, sym, ap, refl, ℕ, ◌+◌, ◌≤◌, Bool, true, false, not, if◌then◌else◌, List, [], ◌∷◌, arith}
use Rattle.std.proofs.Common.{Some, None, All}
use Rattle.std.specs.Prelude.{nat_le}
use Rattle.std.specs.List.{find}
use Rattle.std.proofs.lemmas.Bool.{cond_both, false_from_ne_true}
use Rattle.std.proofs.lemmas.List.Elements.{All-weaker, All-filter, All-head, All-tail, All-nil, All-cons}
use Rattle.min_timer.specs.Queue.{TimerQueue, number_of, is_timer_of, after_due}
use Rattle.min_timer.specs.Handles.{TimerCall, next_handle, after, after_all, reached, HandlesAreNew, HandlesStayGone}
use Rattle.min_timer.specs.declared.key.TimerKey.{TimerKey}
use Rattle.min_timer.specs.declared.timer.Timer.{Timer}
use Rattle.min_timer.proofs.OrderLemmas.{All-with_timer}
use Rattle.min_timer.proofs.PlaceLemmas.{stamp_of_handle}

-- nothing is found exactly where no element passes
find-none : {X : Type 0} (p : X → Bool) (xs : List X) → All (λ x. p x ≡ false) xs → find p xs ≡ None
find-none p [] none = refl
find-none p (x ∷ xs) none =
    ap (λ b. if b then Some x else find p xs) (All-head (λ y. p y ≡ false) x xs none) ∙ find-none p xs
    (All-tail (λ y. p y ≡ false) x xs none)

pub All-from_none : {X : Type 0} (p : X → Bool) (xs : List X) → find p xs ≡ None → All (λ x. p x ≡ false) xs
All-from_none p [] e = All-nil (λ x. p x ≡ false)
All-from_none {X} p (x ∷ xs) e = go (All-from_none p xs) (p x) refl
  where
    here : (b : Bool) → p x ≡ b → (if b then Some x else find p xs) ≡ None
    here b h = ap (λ c. if c then Some x else find p xs) (sym h) ∙ e

    go : (find p xs ≡ None → All (λ y. p y ≡ false) xs) → (b : Bool) → p x ≡ b → All (λ y. p y ≡ false) (x ∷ xs)
    go rest true h = absurd (let found : Some x ≡ None = here true h in cc)
    go rest false h = All-cons (λ y. p y ≡ false) x xs h (rest (here false h))

All-after_due : (P : Timer → Type 0) (now : ℕ) (xs : List Timer) → All P xs → All P (after_due now xs)
All-after_due P now [] all = all
All-after_due P now (first ∷ rest) all =
    cond_both (nat_le first.deadline now) rest (first ∷ rest) (All P) (λ _. All-tail P first rest all) (λ _. all)

-- no number is above the last
abbrev Numbered : TimerQueue → Type 0
Numbered q = All (λ t. t.handle.stamp ≤ q.last) q.pending

-- no timer that waits has this handle, which was handed out
record Gone (handle : TimerKey) (q : TimerQueue) : Type 0 where
  old : number_of handle ≤ q.last
  none : All (λ t. is_timer_of handle t ≡ false) q.pending

numbered-after : (change : TimerCall) (q : TimerQueue) → Numbered q → Numbered (after change q)
numbered-after (TimerCall.Added deadline key slot) q all =
    All-with_timer (λ t. t.handle.stamp ≤ q.last + 1) (record { deadline = deadline; key = key; handle = next_handle q slot })
    q.pending (omega arith)
    (All-weaker (λ t. t.handle.stamp ≤ q.last) (λ t. t.handle.stamp ≤ q.last + 1) (λ t h. omega arith) q.pending all)
numbered-after (TimerCall.Cancelled handle) q all = All-filter (λ t. not (is_timer_of handle t)) (λ t. t.handle.stamp ≤ q.last)
    q.pending all
numbered-after (TimerCall.Registered delay) q all = all
numbered-after (TimerCall.TookDue now) q all = All-after_due (λ t. t.handle.stamp ≤ q.last) now q.pending all

numbered-after_all : (changes : List TimerCall) (q : TimerQueue) → Numbered q → Numbered (after_all changes q)
numbered-after_all [] q all = all
numbered-after_all (change ∷ rest) q all = numbered-after_all rest (after change q) (numbered-after change q all)

-- a timer of another number has another handle
other_number : (handle : TimerKey) (t : Timer) → (t.handle.stamp ≡ handle.stamp → ⊥) → is_timer_of handle t ≡ false
other_number handle t differs = false_from_ne_true (is_timer_of handle t) (λ yes. differs (stamp_of_handle handle t yes))

gone-after : (handle : TimerKey) (change : TimerCall) (q : TimerQueue) → Gone handle q → Gone handle (after change q)
gone-after handle (TimerCall.Added deadline key slot) q gone =
    record {
      old = omega (arith, gone.old);
      none = All-with_timer (λ t. is_timer_of handle t ≡ false)
          (record { deadline = deadline; key = key; handle = next_handle q slot }) q.pending
          (other_number handle (record { deadline = deadline; key = key; handle = next_handle q slot })
          (λ same. omega (arith, same, gone.old))) gone.none;
    }
gone-after handle (TimerCall.Cancelled other) q gone =
    record { old = gone.old; none = All-filter (λ t. not (is_timer_of other t)) (λ t. is_timer_of handle t ≡ false) q.pending gone.none }
gone-after handle (TimerCall.Registered delay) q gone = record { old = gone.old; none = gone.none }
gone-after handle (TimerCall.TookDue now) q gone =
    record { old = gone.old; none = All-after_due (λ t. is_timer_of handle t ≡ false) now q.pending gone.none }

gone-after_all : (handle : TimerKey) (changes : List TimerCall) (q : TimerQueue) → Gone handle q → Gone handle (after_all changes q)
gone-after_all handle [] q gone = gone
gone-after_all handle (change ∷ rest) q gone = gone-after_all handle rest (after change q) (gone-after handle change q gone)

pub handles-are_new : HandlesAreNew
handles-are_new changes slot =
    let all : Numbered (reached changes) = numbered-after_all changes (record { pending = []; last = 0; delays = [] })
    (All-nil (λ t. t.handle.stamp ≤ 0)) in
    find-none (is_timer_of (next_handle (reached changes) slot)) (reached changes).pending
    (All-weaker (λ t. t.handle.stamp ≤ (reached changes).last) (λ t. is_timer_of (next_handle (reached changes) slot) t ≡ false)
    (λ t low. other_number (next_handle (reached changes) slot) t (λ same. omega (arith, same, low))) (reached changes).pending all)

pub handles-stay_gone : HandlesStayGone
handles-stay_gone before more handle old none =
    let gone : Gone handle (reached before) = record {
      old = old;
      none = All-from_none (is_timer_of handle)
          (reached before).pending none;
    } in
    find-none (is_timer_of handle) (after_all more (reached before)).pending (gone-after_all handle more (reached before) gone).none
