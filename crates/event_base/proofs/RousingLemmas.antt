-- Events that get a flag one after another: what is kept beside them follows.
use Rattle.std.proofs.Common.{◌≡◌, ◌≢◌, ℕ, ◌+◌, ◌<◌, ◌≤◌, ◌==◌, nat_eq, Bool, true, false, not, ◌||◌, cond, List, [], ◌∷◌, ◌++◌, length}
use Rattle.std.proofs.Common.{set, get_or, slice_get, Option, Some, None, option_map, is_some, refl, sym, ◌∙◌, ap, subst, ⊎_elim, All}
use Rattle.std.proofs.Common.{add-zero, arith, rules}
use Rattle.std.proofs.lemmas.Bool.{cases_eq, cases_Bool, eq-eqb, true≢false}
use Rattle.std.proofs.lemmas.List.{get_or-set_same, get_or-set_other, length-set}
use Rattle.std.proofs.lemmas.Option.{slice_get-get_or}
use Rattle.std.proofs.lemmas.List.Elements.{All-nil, All-cons}
use Rattle.std.specs.List.{list_any}
use Rattle.std.specs.Option.{option_and_then}
use Rattle.event_base.specs.declared.event.Event.{Event}
use Rattle.event_base.specs.declared.event.Activation.{Activation}
use Rattle.event_base.specs.declared.ready.Place.{Place}
use Rattle.event_base.specs.declared.ready.Waking.{Waking}
use Rattle.event_base.specs.Rising.{at}
use Rattle.event_base.specs.Deadlines.{Moment, DeadlinesValue}
use Rattle.event_base.specs.Ready.{ReadyValue, CanWake, woken}
use Rattle.event_base.specs.Events.{made, is_active, joined, activated}
use Rattle.event_base.specs.Rousing.{event_of, needed, risen, wakers, AreApart, CanRise}
use Rattle.event_base.specs.Tied.{value_at, place_of, moment_of, AreKept}
use Rattle.event_base.proofs.TiedLemmas.{Mirrors-set, Mirrors-keep, AreKept-set, AreKept-keep, AreKept-place, priority-within}

-- an event that is there
pub slice_get-event_of : (events : List Event) (k : ℕ) → k < length events → slice_get events k ≡ Some (event_of events k)
slice_get-event_of events k lt = slice_get-get_or events k (made false None 0) lt

pub not_first : (x y : Bool) → (x || y) ≡ false → (x ≡ false) × (y ≡ false)
not_first true y h = cc h
not_first false y h = (refl, h)

-- the events that become active are the same where another one changes
pub wakers-set : (events : List Event) (k : ℕ) (new : Event) (ks : List ℕ) → list_any (λ j. j == k) ks ≡ false → wakers
    (set events k new) ks ≡ wakers events ks
wakers-set events k new [] h = refl
wakers-set events k new (j ∷ ks) h =
    let parts = not_first (nat_eq j k) (list_any (λ i. i == k) ks) h in
    let apart : j ≡ k → ⊥ = λ e. true≢false (sym (eq-eqb j k e) ∙ parts.0) in
    let same : event_of (set events k new) j ≡ event_of events j = get_or-set_other events k j new (made false None 0) apart in
    rw (same, wakers-set events k new ks parts.1) refl

-- the place of an event of this priority with this order number
abbrev pub placed_at : ℕ → ℕ → Place
placed_at priority order = record { priority = priority; order = order }

active_place : (o : Option Activation) (flag next first more priority : ℕ) → is_some o ≡ true → Some
    (placed_at priority (joined flag next first more o).order) ≡ option_map (λ (a : Activation). placed_at priority a.order) o
active_place None flag next first more priority h = cc h
active_place (Some a) flag next first more priority h = refl

fresh_place : (o : Option Activation) (flag next first more priority : ℕ) → is_some o ≡ false → Some
    (placed_at priority (joined flag next first more o).order) ≡ Some (placed_at priority next)
fresh_place None flag next first more priority h = refl
fresh_place (Some a) flag next first more priority h = cc h

no_place : (o : Option Activation) (priority : ℕ) → is_some o ≡ false → option_map (λ (a : Activation). placed_at priority a.order) o ≡ None
no_place None priority h = refl
no_place (Some a) priority h = cc h

-- what holds beside the events does not depend on the next order number
pub AreKept-next : (events : List Event) (deadlines : DeadlinesValue) (n : ℕ) (places : List (Option Place)) (next last : ℕ) →
    AreKept events deadlines (record { priorities = n; places = places; next = next }) → AreKept events deadlines
    (record { priorities = n; places = places; next = last })
AreKept-next events deadlines n places next last kept = record {
  placed = kept.placed;
  timed = kept.timed;
  places = kept.places;
  moments = kept.moments;
  few = kept.few;
  some = kept.some;
  within = kept.within;
}

-- The events that become active can do so in their queues, and then the queues have the events with the flag.
pub risen-kept : (flag first more : ℕ) (ks : List ℕ) (events : List Event) (deadlines : DeadlinesValue) (n : ℕ)
    (places : List (Option Place)) (next last : ℕ)
    → AreKept events deadlines (record { priorities = n; places = places; next = next }) → AreApart ks → CanRise flag first more
    events next ks
    → CanWake n places next (wakers events ks) × AreKept (risen flag first more events next ks) deadlines
    (record { priorities = n; places = woken places next (wakers events ks); next = last })
risen-kept flag first more [] events deadlines n places next last kept apart can = (
  tt,
  AreKept-next events deadlines n places next
      last kept,
)
risen-kept flag first more (k ∷ ks) events deadlines n places next last kept apart can =
    let e = event_of events k in
    let new = activated flag next first more e in
    let ready : ReadyValue = record { priorities = n; places = places; next = next } in
    let is : slice_get events k ≡ Some e = slice_get-event_of events k can.0 in
    let low : e.priority < n = priority-within events deadlines ready k e kept is in
    let ws = wakers events ks in
    let others : wakers (set events k new) ks ≡ ws = wakers-set events k new ks apart.0 in
    let w : Waking = record { event = k; priority = e.priority } in
    let claim : Bool → Type 0 = λ b. CanWake n places next (cond b ws (w ∷ ws)) × AreKept (risen flag first more (set events k new)
    (next + needed e) ks) deadlines (record { priorities = n; places = woken places next (cond b ws (w ∷ ws)); next = last }) in
    ⊎_elim
    (λ active. (let same : next + needed e ≡ next = ap (λ b. next + cond b 0 1) active ∙ add-zero next in
    let after : AreKept (set events k new) deadlines (record { priorities = n; places = places; next = next + needed e }) =
    AreKept-next (set events k new) deadlines n places next (next + needed e) (AreKept-keep events deadlines ready k e new kept
    is refl (active_place e.active flag next first more e.priority active) low) in
    let rest = risen-kept flag first more ks (set events k new) deadlines n places (next + needed e) last after apart.1 can.3 in
    subst claim (sym active) (
      subst (λ m. CanWake n places m ws) same (subst (λ (vs : List Waking). CanWake n places (next + needed e) vs) others rest.0),
      subst (λ m. AreKept (risen flag first more (set events k new) (next + needed e) ks) deadlines
          (record { priorities = n; places = woken places m ws; next = last })) same
          (subst (λ (vs : List Waking). AreKept (risen flag first more (set events k new) (next + needed e) ks) deadlines
          (record { priorities = n; places = woken places (next + needed e) vs; next = last })) others rest.1),
    )))
    (λ fresh. (let more_by : next + needed e ≡ next + 1 = ap (λ b. next + cond b 0 1) fresh in
    let place : Place = placed_at e.priority next in
    let after : AreKept (set events k new) deadlines
    (record { priorities = n; places = set places k (Some place); next = next + needed e }) = AreKept-next (set events k new)
    deadlines n (set places k (Some place)) next (next + needed e) (AreKept-place events deadlines ready k e new
    (Some place) kept is refl (fresh_place e.active flag next first more e.priority fresh) low) in
    let rest = risen-kept flag first more ks (set events k new) deadlines n (set places k (Some place)) (next + needed e) last
    after apart.1 can.3 in
    let none : at places k ≡ None = kept.placed k ∙ ap (option_and_then place_of) is ∙ no_place e.active e.priority fresh in
    let room : k < length places = (let lt = can.0 in let wide = kept.places in omega arith) in
    subst claim (sym fresh) (
      (
        room,
        none,
        low,
        subst (λ m. CanWake n (set places k (Some place)) m ws) more_by (subst
            (λ (vs : List Waking). CanWake n (set places k (Some place)) (next + needed e) vs) others rest.0),
      ),
      subst (λ m. AreKept (risen flag first more (set events k new) (next + needed e) ks) deadlines
          (record { priorities = n; places = woken (set places k (Some place)) m ws; next = last })) more_by
          (subst (λ (vs : List Waking). AreKept (risen flag first more (set events k new) (next + needed e) ks) deadlines
          (record { priorities = n; places = woken (set places k (Some place)) (next + needed e) vs; next = last })) others rest.1),
    )))
    (cases_Bool (is_active e))

-- each of the events is there
pub CanRise-known : (flag first more : ℕ) (ks : List ℕ) (events : List Event) (next size : ℕ) → length events ≡ size → CanRise flag
    first more events next ks → All (λ k. k < size) ks
CanRise-known flag first more [] events next size e can = All-nil (λ k. k < size)
CanRise-known flag first more (k ∷ ks) events next size e can =
    All-cons (λ k. k < size) k ks (rw (← e) can.0)
    (CanRise-known flag first more ks (set events k (activated flag next first more (event_of events k)))
    (next + needed (event_of events k)) size
    (length-set events k (activated flag next first more (event_of events k)) ∙ e) can.3)
