-- The definitions at worked runs, so that a wrong rule in them does not check.
use Rattle.std.proofs.Common.{◌≡◌, ℕ, Bool, true, false, List, [], ◌∷◌, refl, Option, None, Some, Result, Ok, Err}
use Rattle.event_base.specs.declared.fault.BaseFault.{BaseFault}
use Rattle.event_base.specs.declared.fault.BaseFault.TheVariants.{NoEvent}
use Rattle.event_base.specs.Base.{BaseValue}
use Rattle.event_base.specs.Freeing.{free_event, is_pending}
use Rattle.event_base.specs.Calls.{Step, new_base, new_event, set_priority, add_event, del_event, activate, signal, begin_turn, next_active}
use Rattle.event_base.specs.Calls.{next_fire, poll_timeout, loop_break, loop_exit, ended}

-- the base behind some calls in their order, unless one is refused
abbrev run : BaseValue → List (BaseValue → Step) → Step
run b [] = Ok b
run b (c ∷ cs) = elim (c b) [ Ok next ↦ run next cs | Err fault ↦ Err fault ]

-- what is fired next after some calls, and how long to wait
abbrev sees : Step → Option (Option (ℕ × ℕ) × Option ℕ)
sees (Ok b) = Some (next_fire b, poll_timeout b)
sees (Err fault) = None

abbrev once : BaseValue → Step
once b = new_event b false None

abbrev persists : BaseValue → Step
persists b = new_event b true None

abbrev adds : ℕ → ℕ → BaseValue → Step
adds event delay b = add_event b event (Some delay)

abbrev turn : ℕ → BaseValue → Step
turn now b = begin_turn b now

abbrev dels : ℕ → BaseValue → Step
dels event b = del_event b event

-- a persistent timer is set again from its scheduled moment, and from now where that is past
abbrev periodic : Step
periodic = run (new_base 1) (persists ∷ adds 0 100 ∷ turn 100 ∷ [])

pub known_periodic : (sees periodic ≡ Some (Some (0, 1), Some 0))
    × (sees (run (new_base 1) (persists ∷ adds 0 100 ∷ turn 100 ∷ next_active ∷ turn 150 ∷ [])) ≡ Some (None, Some 50))
    × (sees (run (new_base 1) (persists ∷ adds 0 100 ∷ turn 100 ∷ next_active ∷ turn 230 ∷ next_active ∷ [])) ≡ Some (None, Some 70))
    × (sees (run (new_base 1) (persists ∷ adds 0 100 ∷ turn 100 ∷ next_active ∷ turn 230 ∷ next_active ∷ turn 430 ∷ next_active ∷
    [])) ≡ Some (None, Some 100))
known_periodic = (refl, refl, refl, refl)

-- a signal event is called once for each count, until it is deleted
abbrev signalling : List (BaseValue → Step)
signalling = (λ b. new_event b true (Some 5)) ∷ (λ b. set_priority b 0 0) ∷ (λ b. add_event b 0 None) ∷ (λ b. signal b 5 2) ∷ turn
    0 ∷ next_active ∷ []

pub known_signals : (sees (run (new_base 2) signalling) ≡ Some (Some (0, 8), Some 0))
    × (sees (elim (run (new_base 2) signalling) [ Ok b ↦ run b (next_active ∷ []) | Err f ↦ Err f ]) ≡ Some (None, None))
    × (sees (elim (run (new_base 2) signalling) [ Ok b ↦ run b (dels 0 ∷ []) | Err f ↦ Err f ]) ≡ Some (None, None))
known_signals = (refl, refl, refl)

-- Equal deadlines fire in the order of adding, and less urgent events in a later turn.
pub known_crowd : (sees (run (new_base 2) ((λ b. new_event b false None) ∷ (λ b. set_priority b 0 2) ∷ [])) ≡ None)
    × (sees (run (new_base 3) (once ∷ once ∷ once ∷ (λ b. set_priority b 2 0) ∷ adds 2 5 ∷ adds 1 5 ∷ adds 0 5 ∷ turn 7 ∷ [])) ≡
    Some (Some (2, 1), Some 0))
    × (sees (run (new_base 3) (once ∷ once ∷ once ∷ (λ b. set_priority b 2 0) ∷ adds 2 5 ∷ adds 1 5 ∷ adds 0 5 ∷ turn 7 ∷
    next_active ∷ [])) ≡ Some (None, Some 0))
    × (sees (run (new_base 3) (once ∷ once ∷ once ∷ (λ b. set_priority b 2 0) ∷ adds 2 5 ∷ adds 1 5 ∷ adds 0 5 ∷ turn 7 ∷
    next_active ∷ turn 8 ∷ [])) ≡ Some (Some (1, 1), Some 0))
    × (sees (run (new_base 3) (once ∷ once ∷ once ∷ (λ b. set_priority b 2 0) ∷ adds 2 5 ∷ adds 1 5 ∷ adds 0 5 ∷ turn 7 ∷
    next_active ∷ turn 8 ∷ next_active ∷ [])) ≡ Some (Some (0, 1), Some 0))
known_crowd = (refl, refl, refl, refl, refl)

-- an event that was deleted and made active anew waits for a later turn
pub known_anew : sees (run (new_base 1) (once ∷ once ∷ (λ b. activate b 0 2) ∷ (λ b. activate b 1 2) ∷ turn 0 ∷ next_active ∷ dels
    1 ∷ (λ b. activate b 1 2) ∷ [])) ≡ Some (None, Some 0)
known_anew = refl

-- a timeout, a signal and a call join their flags, and only the signal adds a call
pub known_joined : (sees (run (new_base 1) ((λ b. new_event b false (Some 3)) ∷ adds 0 1 ∷ turn 1 ∷ (λ b. signal b 3 1) ∷
    (λ b. activate b 0 2) ∷ [])) ≡ Some (Some (0, 11), Some 0))
    × (sees (run (new_base 1) ((λ b. new_event b false (Some 3)) ∷ adds 0 1 ∷ turn 1 ∷ (λ b. signal b 3 1) ∷ (λ b. activate b 0 2)
    ∷ next_active ∷ [])) ≡ Some (Some (0, 11), Some 0))
    × (sees (run (new_base 1) ((λ b. new_event b false (Some 3)) ∷ adds 0 1 ∷ turn 1 ∷ (λ b. signal b 3 1) ∷ (λ b. activate b 0 2)
    ∷ next_active ∷ next_active ∷ [])) ≡ Some (None, None))
    × (sees (run (new_base 1) ((λ b. new_event b false (Some 3)) ∷ adds 0 1 ∷ turn 1 ∷ (λ b. signal b 3 1) ∷ adds 0 4 ∷ [])) ≡ Some
    (None, Some 4))
known_joined = (refl, refl, refl, refl)

-- a freed event has no callback, and no call finds it; the others go on
abbrev frees : Step
frees = run (new_base 1) (persists ∷ once ∷ adds 0 5 ∷ adds 1 5 ∷ turn 5 ∷ (λ b. free_event b 0) ∷ [])

-- whether an event is pending after some calls
abbrev tells : ℕ → Step → Option (Result Bool BaseFault)
tells event (Ok b) = Some (is_pending b event)
tells event (Err fault) = None

pub known_freed : (sees frees ≡ Some (Some (1, 1), Some 0))
    × (sees (elim frees [ Ok b ↦ run b (adds 0 1 ∷ []) | Err f ↦ Err f ]) ≡ None)
    × (tells 1 frees ≡ Some (Ok true))
    × (tells 0 frees ≡ Some (Err NoEvent))
known_freed = (refl, refl, refl, refl)
