-- Where a call wants memory: an event is due, or a timeout is set again.
use Rattle.std.proofs.Common.{◌≡◌, ℕ, ◌<◌, ◌≤◌, nat_le, true, false, cond, List, [], ◌∷◌, length, slice_get, Option, Some, None, option_map}
use Rattle.std.proofs.Common.{refl, sym, ◌∙◌, ap, subst, arith}
use Rattle.std.proofs.lemmas.Bool.{le-leb, lt-leb}
use Rattle.std.proofs.lemmas.List.Folds.{list_any_at}
use Rattle.std.specs.List.{list_any}
use Rattle.std.specs.Option.{option_map_or}
use Rattle.event_base.specs.declared.event.Event.{Event}
use Rattle.event_base.specs.declared.event.Timeout.{Timeout}
use Rattle.event_base.specs.Base.{BaseValue}
use Rattle.event_base.specs.Rising.{at, Rises}
use Rattle.event_base.specs.Ready.{IsLeast}
use Rattle.event_base.specs.Deadlines.{Moment, IsSooner, deadlines, if_due, due_at}
use Rattle.event_base.specs.Events.{made}
use Rattle.event_base.specs.Fires.{is_set_again}
use Rattle.event_base.specs.Turns.{is_due, next_event}
use Rattle.event_base.specs.Rousing.{event_of, wakers}
use Rattle.event_base.specs.Tied.{moment_of, moment_at as mom}
use Rattle.event_base.specs.SetsAgain.{sets_again}
use Rattle.event_base.proofs.CallLemmas.{next_call-event}

-- where events become active there are numbers of events
pub numbers-some : (events : List Event) (ks : List ℕ) → 0 < length (wakers events ks) → 0 < length ks
numbers-some events [] some = some
numbers-some events (k ∷ ks) some = omega arith

-- the first of some numbers in a row has a value
pub Rises-some : (ks : List ℕ) (f : ℕ → Option Moment) → Rises IsSooner ks f → 0 < length ks → (k : ℕ) × (m : Moment) × (f k ≡ Some m)
Rises-some [] f r some = absurd (omega arith)
Rises-some (k ∷ ks) f r some = (k, r.0.value, r.0.has)

-- an event whose moment is due is due
pub due-any : (time : ℕ) (events : List Event) (k : ℕ) (m : Moment) → k < length events → moment_of (event_of events k) ≡ Some m
    → m.deadline ≤ time → list_any (is_due time) events ≡ true
due-any time events k m lt is low =
    list_any_at (is_due time) events k (made false None 0) lt (split (event_of events k).timeout is)
  where
    split : (o : Option Timeout) → option_map mom o ≡ Some m → option_map_or (λ (t : Timeout). nat_le t.deadline time) o false ≡ true
    split None h = cc h
    split (Some t) h = (let same : m ≡ mom t = cc h in le-leb t.deadline time (subst (λ (n : Moment). n.deadline ≤ time) same low))

-- The least deadline tells whether a moment is due.
with_deadline : (o : Option Moment) (n : ℕ) → option_map (λ (m : Moment). m.deadline) o ≡ Some n → (m : Moment) × (o ≡ Some m) × (m.deadline
    ≡ n)
with_deadline None n h = cc h
with_deadline (Some m) n h = (m, refl, cc h)

pub due-some : (time : ℕ) (moments : List (Option Moment)) (n : ℕ) → IsLeast (deadlines moments) (Some n) → n ≤ time
    → (k : ℕ) × (m : Moment) × (due_at time moments k ≡ Some m)
due-some time moments n least low =
    let k = least.0.0 in
    let there = with_deadline (at moments k) n least.0.1 in
    let m = there.0 in (
      k,
      m,
      ap (if_due time) there.1 ∙ ap (λ b. cond b (Some m) None)
          (le-leb m.deadline time (subst (λ d. d ≤ time) (sym there.2) low)),
    )

not_due : (time : ℕ) (o : Option Moment) → ((n : ℕ) → option_map (λ (m : Moment). m.deadline) o ≡ Some n → time < n) → if_due time o ≡ None
not_due time None late = refl
not_due time (Some m) late = ap (λ b. cond b (Some m) None) (lt-leb m.deadline time (late m.deadline refl))

pub due-none : (time : ℕ) (moments : List (Option Moment)) (o : Option ℕ) → IsLeast (deadlines moments) o
    → ((n : ℕ) → o ≡ Some n → time < n) → (k : ℕ) → due_at time moments k ≡ None
due-none time moments None least late k = not_due time (at moments k) (λ n is. (let none = least k in cc (none, is)))
due-none time moments (Some first) least late k =
    not_due time (at moments k) (λ n is. (let low = least.1 k n is in let here = late first refl in omega arith))

-- the callback of an event with a timeout to set again
pub sets_again-is : (b : BaseValue) (k : ℕ) (e : Event) → b.broken ≡ false → next_event b ≡ Some k → slice_get b.events k ≡ Some e
    → sets_again b ≡ is_set_again e
sets_again-is b k e broken next is =
    ap (λ (o : Option ℕ). option_map_or (λ number. option_map_or is_set_again (slice_get b.events number) false) o false)
    (next_call-event b (Some k) broken next)
    ∙ ap (λ (o : Option Event). option_map_or is_set_again o false) is
