-- What is kept beside the events, as one of them changes or is made.
use Rattle.std.proofs.Common.{◌≡◌, ◌≢◌, ℕ, ◌+◌, ◌<◌, ◌≤◌, ◌^◌, zero, suc, Bool, true, false, cond, List, [], ◌∷◌, ◌++◌, length, set, get_or}
use Rattle.std.proofs.Common.{slice_get, Option, Some, None, option_map, refl, sym, ◌∙◌, ap, subst, ⊎_elim, All, arith, rules}
use Rattle.std.proofs.lemmas.Bool.{cases_eq, cases_lt}
use Rattle.std.proofs.lemmas.List.{get_or-set_same, get_or-set_other, length-set, length_push}
use Rattle.std.specs.Option.{option_and_then, option_map_or}
use Rattle.event_base.specs.declared.event.Event.{Event}
use Rattle.event_base.specs.Rising.{at}
use Rattle.event_base.specs.declared.ready.Place.{Place}
use Rattle.event_base.specs.Deadlines.{Moment, DeadlinesValue}
use Rattle.event_base.specs.Ready.{ReadyValue}
use Rattle.event_base.specs.Tied.{value_at, Mirrors, place_of, moment_of, AreKept}
use Rattle.std.proofs.lemmas.List.Elements.{All-set, All-push, All-get_or}

pub slice_get-set_same : {X : Type 0} (xs : List X) (k : ℕ) (x y : X) → slice_get xs k ≡ Some x → slice_get (set xs k y) k ≡ Some y
slice_get-set_same [] k x y h = cc h
slice_get-set_same (z ∷ xs) zero x y h = refl
slice_get-set_same (z ∷ xs) (suc k) x y h = slice_get-set_same xs k x y h

pub slice_get-set_other : {X : Type 0} (xs : List X) (k j : ℕ) (y : X) → (j ≡ k → ⊥) → slice_get (set xs k y) j ≡ slice_get xs j
slice_get-set_other [] k j y n = refl
slice_get-set_other (z ∷ xs) zero zero y n = absurd (n refl)
slice_get-set_other (z ∷ xs) zero (suc j) y n = refl
slice_get-set_other (z ∷ xs) (suc k) zero y n = refl
slice_get-set_other (z ∷ xs) (suc k) (suc j) y n = slice_get-set_other xs k j y (λ e. n (ap suc e))

-- an element is there below the length alone
pub slice_get-within : {X : Type 0} (xs : List X) (k : ℕ) (x : X) → slice_get xs k ≡ Some x → k < length xs
slice_get-within [] k x h = cc h
slice_get-within (z ∷ xs) zero x h = omega arith
slice_get-within (z ∷ xs) (suc k) x h = (let rest = slice_get-within xs k x h in omega arith)

pub slice_get-get_or : {X : Type 0} (xs : List X) (k : ℕ) (x d : X) → slice_get xs k ≡ Some x → get_or xs k d ≡ x
slice_get-get_or [] k x d h = cc h
slice_get-get_or (z ∷ xs) zero x d h = cc h
slice_get-get_or (z ∷ xs) (suc k) x d h = slice_get-get_or xs k x d h

pub slice_get-past : {X : Type 0} (xs : List X) (k : ℕ) → length xs ≤ k → slice_get xs k ≡ None
slice_get-past [] k h = refl
slice_get-past (z ∷ xs) zero h = absurd (omega arith)
slice_get-past (z ∷ xs) (suc k) h = slice_get-past xs k (omega arith)

-- an element that was added at the end
pub slice_get-push : {X : Type 0} (xs : List X) (y : X) (k : ℕ) → (k ≡ length xs → ⊥) → slice_get (xs ++ y ∷ []) k ≡ slice_get xs k
slice_get-push [] y zero n = absurd (n refl)
slice_get-push [] y (suc k) n = refl
slice_get-push (x ∷ xs) y zero n = refl
slice_get-push (x ∷ xs) y (suc k) n = slice_get-push xs y k (λ e. n (ap suc e))

pub slice_get-pushed : {X : Type 0} (xs : List X) (y : X) → slice_get (xs ++ y ∷ []) (length xs) ≡ Some y
slice_get-pushed [] y = refl
slice_get-pushed (x ∷ xs) y = slice_get-pushed xs y

-- what is kept of the events stays tied as both change for one event
pub Mirrors-set : {V : Type 0} (value : Event → Option V) (values : List (Option V)) (events : List Event) (k : ℕ) (e new : Event)
    (v : Option V) → Mirrors value values events → length events ≤ length values → slice_get events k ≡ Some e → value new ≡ v →
    Mirrors value (set values k v) (set events k new)
Mirrors-set value values events k e new v tied room is same j = ⊎_elim
    (λ q. ap (at (set values k v)) q ∙ get_or-set_same values k v None (let lt = slice_get-within events k e is in omega arith) ∙ sym same
    ∙ sym (ap (option_and_then value) (ap (slice_get (set events k new)) q ∙ slice_get-set_same events k e new is)))
    (λ n. get_or-set_other values k j v None n ∙ tied j ∙ ap (option_and_then value) (sym (slice_get-set_other events k j new n)))
    (cases_eq j k)

-- what is kept of an event does not change with the rest of it
pub Mirrors-keep : {V : Type 0} (value : Event → Option V) (values : List (Option V)) (events : List Event) (k : ℕ) (e new : Event)
    → Mirrors value values events → slice_get events k ≡ Some e → value new ≡ value e → Mirrors value values (set events k new)
Mirrors-keep value values events k e new tied is same j = ⊎_elim
    (λ q. tied j ∙ ap (value_at value events) q ∙ ap (option_and_then value) is ∙ sym same ∙ sym
    (ap (option_and_then value) (slice_get-set_same events k e new is)) ∙ sym (ap (value_at value (set events k new)) q))
    (λ n. tied j ∙ ap (option_and_then value) (sym (slice_get-set_other events k j new n)))
    (cases_eq j k)

-- nothing is kept of a new event
pub Mirrors-push : {V : Type 0} (value : Event → Option V) (values : List (Option V)) (events : List Event) (new : Event) → Mirrors
    value values events → value new ≡ None → Mirrors value values (events ++ new ∷ [])
Mirrors-push value values events new tied none j = ⊎_elim
    (λ q. tied j ∙ ap (value_at value events) q ∙ ap (option_and_then value) (slice_get-past events (length events) (omega arith))
    ∙ sym none ∙ sym (ap (option_and_then value) (slice_get-pushed events new)) ∙ sym (ap (value_at value (events ++ new ∷ [])) q))
    (λ n. tied j ∙ ap (option_and_then value) (sym (slice_get-push events new j n)))
    (cases_eq j (length events))

-- what is kept stays tied where the values of all numbers stay
pub Mirrors-same : {V : Type 0} (value : Event → Option V) (values more : List (Option V)) (events : List Event) →
    ((k : ℕ) → at more k ≡ at values k) → Mirrors value values events → Mirrors value more events
Mirrors-same value values more events e tied k = e k ∙ tied k

-- the events and what is kept beside them as one event changes
pub AreKept-set : (events : List Event) (deadlines : DeadlinesValue) (ready : ReadyValue) (k : ℕ) (e new : Event)
    (m : Option Moment) (p : Option Place) → AreKept events deadlines ready → slice_get events k ≡ Some e → moment_of new ≡ m →
    place_of new ≡ p → new.priority < ready.priorities → AreKept (set events k new)
    (record deadlines { moments = set deadlines.moments k m }) (record ready { places = set ready.places k p })
AreKept-set events deadlines ready k e new m p kept is moment place low = record {
  placed = Mirrors-set place_of ready.places events k e new p kept.placed kept.places is place;
  timed = Mirrors-set moment_of deadlines.moments events k e new m kept.timed kept.moments is moment;
  places = rw (length-set events k new, length-set ready.places k p) kept.places;
  moments = rw (length-set events k new, length-set deadlines.moments k m) kept.moments;
  few = rw (length-set events k new) kept.few;
  some = kept.some;
  within = All-set (λ (e : Event). e.priority < ready.priorities) events k new low kept.within;
}

-- the same, where the event stays as active as it was
pub AreKept-moment : (events : List Event) (deadlines : DeadlinesValue) (ready : ReadyValue) (k : ℕ) (e new : Event)
    (m : Option Moment) → AreKept events deadlines ready → slice_get events k ≡ Some e → moment_of new ≡ m → place_of new ≡
    place_of e → new.priority < ready.priorities → AreKept (set events k new)
    (record deadlines { moments = set deadlines.moments k m }) ready
AreKept-moment events deadlines ready k e new m kept is moment place low = record {
  placed = Mirrors-keep place_of ready.places events k e new kept.placed is place;
  timed = Mirrors-set moment_of deadlines.moments events k e new m kept.timed kept.moments is moment;
  places = rw (length-set events k new) kept.places;
  moments = rw (length-set events k new, length-set deadlines.moments k m) kept.moments;
  few = rw (length-set events k new) kept.few;
  some = kept.some;
  within = All-set (λ (e : Event). e.priority < ready.priorities) events k new low kept.within;
}

-- more room changes nothing
pub AreKept-grow : (events : List Event) (deadlines more : DeadlinesValue) (ready room : ReadyValue) → AreKept events deadlines
    ready → ((k : ℕ) → at more.moments k ≡ at deadlines.moments k) → ((k : ℕ) → at room.places k ≡ at ready.places k) → length
    events ≤ length more.moments → length events ≤ length room.places → room.priorities ≡ ready.priorities → AreKept events more room
AreKept-grow events deadlines more ready room kept moments places longer wider same = record {
  placed = Mirrors-same place_of ready.places room.places events places kept.placed;
  timed = Mirrors-same moment_of deadlines.moments more.moments events moments kept.timed;
  places = wider;
  moments = longer;
  few = kept.few;
  some = rw same kept.some;
  within = rw same kept.within;
}

-- a new event
pub AreKept-push : (events : List Event) (deadlines : DeadlinesValue) (ready : ReadyValue) (new : Event) → AreKept events deadlines
    ready → length events + 1 ≤ 2 ^ 32 → length events + 1 ≤ length deadlines.moments → length events + 1 ≤ length ready.places →
    moment_of new ≡ None → place_of new ≡ None → new.priority < ready.priorities → AreKept (events ++ new ∷ []) deadlines ready
AreKept-push events deadlines ready new kept few longer wider moment place low = record {
  placed = Mirrors-push place_of ready.places events new kept.placed place;
  timed = Mirrors-push moment_of deadlines.moments events new kept.timed moment;
  places = rw (length_push events new) wider;
  moments = rw (length_push events new) longer;
  few = rw (length_push events new) few;
  some = kept.some;
  within = All-push (λ (e : Event). e.priority < ready.priorities) events new kept.within low;
}

-- an event that is there has one of the priorities
pub priority-within : (events : List Event) (deadlines : DeadlinesValue) (ready : ReadyValue) (k : ℕ) (e : Event) → AreKept events
    deadlines ready → slice_get events k ≡ Some e → e.priority < ready.priorities
priority-within events deadlines ready k e kept is =
    let low = All-get_or (λ (e : Event). e.priority < ready.priorities) events k e (slice_get-within events k e is) kept.within in
    subst (λ (x : Event). x.priority < ready.priorities) (slice_get-get_or events k e e is) low

-- the events as one changes in what is not kept beside them
pub AreKept-keep : (events : List Event) (deadlines : DeadlinesValue) (ready : ReadyValue) (k : ℕ) (e new : Event) → AreKept events
    deadlines ready → slice_get events k ≡ Some e → moment_of new ≡ moment_of e → place_of new ≡ place_of e → new.priority <
    ready.priorities → AreKept (set events k new) deadlines ready
AreKept-keep events deadlines ready k e new kept is moment place low = record {
  placed = Mirrors-keep place_of ready.places events k e new kept.placed is place;
  timed = Mirrors-keep moment_of deadlines.moments events k e new kept.timed is moment;
  places = rw (length-set events k new) kept.places;
  moments = rw (length-set events k new) kept.moments;
  few = rw (length-set events k new) kept.few;
  some = kept.some;
  within = All-set (λ (e : Event). e.priority < ready.priorities) events k new low kept.within;
}

-- the events as one becomes active or inactive
pub AreKept-place : (events : List Event) (deadlines : DeadlinesValue) (ready : ReadyValue) (k : ℕ) (e new : Event)
    (p : Option Place) → AreKept events deadlines ready → slice_get events k ≡ Some e → moment_of new ≡ moment_of e → place_of new
    ≡ p → new.priority < ready.priorities → AreKept (set events k new) deadlines (record ready { places = set ready.places k p })
AreKept-place events deadlines ready k e new p kept is moment place low = record {
  placed = Mirrors-set place_of ready.places events k e new p kept.placed kept.places is place;
  timed = Mirrors-keep moment_of deadlines.moments events k e new kept.timed is moment;
  places = rw (length-set events k new, length-set ready.places k p) kept.places;
  moments = rw (length-set events k new) kept.moments;
  few = rw (length-set events k new) kept.few;
  some = kept.some;
  within = All-set (λ (e : Event). e.priority < ready.priorities) events k new low kept.within;
}

-- what holds beside the events does not depend on the last order number of adding
pub AreKept-last : (events : List Event) (deadlines : DeadlinesValue) (last : ℕ) (ready : ReadyValue) → AreKept events deadlines ready
    → AreKept events (record deadlines { last = last }) ready
AreKept-last events deadlines last ready kept = record {
  placed = kept.placed;
  timed = kept.timed;
  places = kept.places;
  moments = kept.moments;
  few = kept.few;
  some = kept.some;
  within = kept.within;
}

-- what holds beside the events goes by the moments alone
pub AreKept-as : (events : List Event) (deadlines others : DeadlinesValue) (ready : ReadyValue) → others.moments ≡
    deadlines.moments → AreKept events deadlines ready → AreKept events others ready
AreKept-as events deadlines others ready same kept = record {
  placed = kept.placed;
  timed = subst (λ ms. Mirrors moment_of ms events) (sym same) kept.timed;
  places = kept.places;
  moments = subst (λ (ms : List (Option Moment)). length events ≤ length ms) (sym same) kept.moments;
  few = kept.few;
  some = kept.some;
  within = kept.within;
}
