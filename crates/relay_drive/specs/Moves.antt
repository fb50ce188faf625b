-- How a clause of the drive says what a call does: with the port, the scribe and the run that are called, it tells only what
-- is done, from which point of the turn to which, and what a refusal leaves.
use Rattle.std.specs.Prelude.{◌≡◌, ◌⊎◌, ⊤, Bool, false, List, Option, None, Result, MatchResult}
use Rattle.ev_types.specs.Trace.{Trace}
use Rattle.ev_port.specs.declared.port.Port as port
use Rattle.ev_port.specs.declared.scribe.Scribe as scribe
use Rattle.relay_model.specs.Settings.{Settings}
use Rattle.relay_steps.specs.Meaning.{LeftFor}
use Rattle.relay_state.specs.State.{State}
use Rattle.relay_drive.specs.declared.fault.DriveFault.{DriveFault}
use Rattle.relay_drive.specs.declared.fault.DriveFault.TheVariants as fault
use Rattle.relay_drive.specs.declared.run.Run.{Run}
use Rattle.relay_drive.specs.DriveValue.{DriveValue}
use Rattle.relay_drive.specs.declared.fault.TurnEnd.{TurnEnd}
use Rattle.relay_drive.specs.Steps.{Told}
use Rattle.relay_drive.specs.Phases.{is_open_fault, EndsTurn, CutTurn}
use Rattle.relay_drive.specs.Seats.{Telling, HooksTell, HooksTellBut}
use Rattle.relay_drive.specs.Known.{known, Point, Question}
use Rattle.relay_drive.specs.Advances.{Advances}
use Rattle.relay_drive.specs.DriveStands.{DriveWent, turn_answer_of, turn_end_of}

-- what is done to the relay's state, with the entries that are put for it
abbrev pub Change : Type 1
Change = State → Trace → State → Type 0

-- what is known of a port at a point of the turn
abbrev pub knows : {P : Type 0} → (g : port.Ghosts P) → Point → P → Settings → Question g.Plan → Trace → Type 0
knows g at p = known at (g.vouches p) g.none_waits (g.told p) (g.ends p)

-- From one point of the turn to another the relay does this, and the listener failed or not.
abbrev pub Moves : {P S : Type 0} → port.Ghosts P → scribe.Ghosts S → Point → Point → Bool → Change → Run × P × S → Run × P × S → Type 0
Moves g h was is failed R old new =
    Advances R failed old.0 new.0 (h.trace old.2) (h.trace new.2) (knows g was old.1) (knows g is new.1) (g.faults old.1) (g.faults new.1)

-- A call from one point of the turn is answered at another, where this was done; or it is refused where that was done and more
-- links may be opened, and the listener failed exactly where the refusal says so.
abbrev pub GetsTo : {P S T : Type 0} → port.Ghosts P → scribe.Ghosts S → Result T DriveFault → Point → Point → (T → Change) →
    (DriveFault → Change) → Run × P × S → Run × P × S → Type 0
GetsTo g h result was is Done Cut old new =
    MatchResult result (λ x. Moves g h was is false (Done x) old new)
    (λ fault. Moves g h was Point.Accepting (is_open_fault fault) (Cut fault) old new)

-- Once accepting has ended, a call is answered where this was done, and refused where that was.
abbrev pub Does : {P S T : Type 0} → port.Ghosts P → scribe.Ghosts S → Result T DriveFault → (T → Change) → Change → Run × P × S →
    Run × P × S → Type 0
Does g h result Done Cut old new =
    MatchResult result (λ x. Moves g h Point.Accepted Point.Accepted false (Done x) old new)
    (λ _. Moves g h Point.Accepted Point.Accepted false Cut old new)

-- a call is refused only for want of memory
abbrev pub OnlyForMemory : {T : Type 0} → Result T DriveFault → Type 0
OnlyForMemory result = MatchResult result (λ _. ⊤) (λ why. why ≡ fault.Memory)

-- or, where it accepts links, because the listener failed
abbrev pub OnlyForMemoryOrListener : {T : Type 0} → Result T DriveFault → Type 0
OnlyForMemoryOrListener result = MatchResult result (λ _. ⊤) (λ why. (why ≡ fault.Memory) ⊎ (why ≡ fault.OpenFault))

-- A turn comes to this point, and for a trace for which the relay stood before, `After` holds of the trace with its entries. Hooks tell
-- what the entries say.
abbrev pub TurnsTo : {P S : Type 0} → port.Ghosts P → scribe.Ghosts S → Point → Bool → Change → (Trace → State → Type 0) →
    (Trace → Type 0) →
    DriveValue × P × S → DriveValue × P × S → Type 0
TurnsTo g h is failed R After Tells old new =
    DriveWent R After Tells failed old.0 new.0 (h.trace old.2) (h.trace new.2) (knows g Point.Between old.1) (knows g is new.1)
    (g.faults old.1) (g.faults new.1)

-- A turn of a run ends so, or is refused so, and hooks tell what its entries say, but for one at most where it is refused.
abbrev pub EndsTold : {P S H : Type 0} → port.Ghosts P → scribe.Ghosts S → Telling H → Result TurnEnd DriveFault → Run × P × S → Run ×
    P × S →
    List (Option H) → List (Option H) → List (Option H) → List (Option H) → Type 0
EndsTold g h tells result old new hooks gone hooks' gone' =
    GetsTo g h result Point.Between Point.Accepted (λ end. Told (EndsTurn end) (HooksTell tells None hooks gone hooks' gone'))
    (λ fault. Told (CutTurn fault) (HooksTellBut tells hooks gone hooks' gone')) old new

-- A turn of a drive ends so, or is cut off as its refusal says. Whatever trace the relay stood for, it stands for that trace with the
-- turn's entries, where such an answer may come; and hooks tell what they say, but for one at most where the turn is refused.
abbrev pub TurnTold : {P S H : Type 0} → port.Ghosts P → scribe.Ghosts S → Telling H → Result TurnEnd DriveFault →
    DriveValue × P × S → DriveValue × P × S → List (Option H) → List (Option H) → List (Option H) → List (Option H) → Type 0
TurnTold g h tells result old new hooks gone hooks' gone' =
    MatchResult result
    (λ end. TurnsTo g h Point.Accepted false (EndsTurn end) (LeftFor (turn_end_of end))
    (HooksTell tells None hooks gone hooks' gone') old new)
    (λ why. TurnsTo g h Point.Accepting (is_open_fault why) (CutTurn why) (LeftFor (turn_answer_of why))
    (HooksTellBut tells hooks gone hooks' gone') old new)

-- A call leaves the port and the scribe as they were, and every hook.
abbrev pub TouchesNothing : {P S H : Type 0} → P × S → P × S → List (Option H) → List (Option H) → List (Option H) → List (Option H) →
    Type 0
TouchesNothing old new hooks gone hooks' gone' = (new.0 ≡ old.0) × (new.1 ≡ old.1) × (hooks' ≡ hooks) × (gone' ≡ gone)
