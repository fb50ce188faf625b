-- What a run does is what its drive does.
use Rattle.std.proofs.Common.{◌≡◌, Bool, false, ◌++◌, List, Option, Some, None, Result, Ok, Err, refl, sym, subst, arith, length-append}
use Rattle.ev_types.specs.AskNumbers.{AsksFit}
use Rattle.ev_types.specs.Trace.{Trace}
use Rattle.ev_port.specs.declared.port.Port as port
use Rattle.ev_port.specs.declared.scribe.Scribe as scribe
use Rattle.ev_port.specs.Faults.{Faults}
use Rattle.std.specs.Prelude.{IfSome}
use Rattle.relay_state.specs.State.{State}
use Rattle.relay_drive.specs.declared.fault.DriveFault.{DriveFault}
use Rattle.relay_drive.specs.declared.fault.TurnEnd.{TurnEnd}
use Rattle.relay_drive.specs.declared.fault.TurnEnd.TheVariants as end
use Rattle.relay_drive.specs.declared.run.Run.{Run}
use Rattle.relay_drive.specs.DriveValue.{DriveValue, kept_of}
use Rattle.relay_drive.specs.Advances.{Advances}
use Rattle.relay_drive.specs.DriveStands.{StandsBetween, DriveWent}
use Rattle.relay_drive.specs.Moves.{EndsTold, TurnTold}
use Rattle.relay_drive.specs.Seats.{Telling}
use Rattle.relay_drive.specs.Steps.{Told}
use Rattle.relay_drive.proofs.GoesLemmas.{Known}
use Rattle.relay_drive.proofs.HookEvents.{asks_fit-append, ends-fit, cut_turn-fits}
use Rattle.relay_drive.proofs.MeantTurn.{ends-leave, cut_turn_leaves}

-- a run with a kept answer
abbrev pub drive_value : Run → Option (Result TurnEnd DriveFault) → DriveValue
drive_value run r = record { state = run.relay.state; entries = run.entries; kept = r }

-- What the relay does keeps what it stands for, its asks fit, and hooks tell what the entries say.
pub went_of : {Plan : Type 0} → {R : State → Trace → State → Type 0} {After : Trace → State → Type 0} {Tells : Trace → Type 0} →
    ((t : Trace) (s new : State) (a : Trace) → StandsBetween t s → R s a new → After (t ++ a) new) →
    ((s new : State) (a : Trace) → R s a new → AsksFit a) →
    {failed : Bool} {old new : DriveValue} {run run' : Run} {log log' : Option Trace} {v v' : Known Plan} {f f' : Faults}
    (r r' : Option (Result TurnEnd DriveFault)) → old ≡ drive_value run r → new ≡ drive_value run' r' →
    (g : Advances R failed run run' log log' v v' f f') → Tells g.added → DriveWent R After Tells failed old new log log' v v' f f'
went_of {R = R} {After = After} {Tells = Tells} law fit {failed = failed} {new = new} {run = run} {run' = run'} {log = log} {log' = log'}
    {v = v} {v' = v'} {f = f} {f' = f'} r r' p q g told =
    subst (λ z. DriveWent R After Tells failed z new log log' v v' f f') (sym p)
    (subst (λ z. DriveWent R After Tells failed (drive_value run r) z log log' v v' f f') (sym q) (record {
      added = g.added;
      does = g.does;
      means = λ t k. law t run.relay.state run'.relay.state g.added k g.does;
      list = g.list;
      settings = g.settings;
      stands = λ t k. record {
        fits = (g.told t k.fits).0;
        asks = asks_fit-append t g.added k.asks (fit run.relay.state run'.relay.state g.added g.does);
        entries = (let a = k.entries in let b = g.entries in omega (arith, a, b, length-append t g.added));
      };
      told = λ x t k. (g.told t k.fits).1 x;
      heard = g.heard;
      hooked = told;
    }))

-- The same where it is told of the entries with what the relay does.
pub went_told : {Plan : Type 0} → {R : State → Trace → State → Type 0} {After : Trace → State → Type 0} {Tells : Trace → Type 0} →
    ((t : Trace) (s new : State) (a : Trace) → StandsBetween t s → R s a new → After (t ++ a) new) →
    ((s new : State) (a : Trace) → R s a new → AsksFit a) →
    {failed : Bool} {old new : DriveValue} {run run' : Run} {log log' : Option Trace} {v v' : Known Plan} {f f' : Faults}
    (r r' : Option (Result TurnEnd DriveFault)) → old ≡ drive_value run r → new ≡ drive_value run' r' →
    Advances (Told R Tells) failed run run' log log' v v' f f' → DriveWent R After Tells failed old new log log' v v' f f'
went_told {R = R} {Tells = Tells} law fit {run = run} {run' = run'} r r' p q g =
    went_of {R = R} {Tells = Tells} law fit {run = run} {run' = run'} r r' p q (record {
      added = g.added;
      does = g.does.0;
      entries = g.entries;
      list = g.list;
      settings = g.settings;
      told = g.told;
      heard = g.heard;
    }) g.does.1

-- So it is of a turn, whatever it answers.
pub went_all : {P S H : Type 0} (g : port.Ghosts P) (h : scribe.Ghosts S) (tells : Telling H) (result : Result TurnEnd DriveFault)
    (x x' : Run × P × S) (hooks gone hooks' gone' : List (Option H)) {old new : DriveValue}
    (r r' : Option (Result TurnEnd DriveFault)) → old ≡ drive_value x.0 r → new ≡ drive_value x'.0 r' →
    EndsTold g h tells result x x' hooks gone hooks' gone' →
    TurnTold g h tells result (old, x.1, x.2) (new, x'.1, x'.2) hooks gone hooks' gone'
went_all g h tells (Ok end) x x' hooks gone hooks' gone' r r' was now told =
    went_told (ends-leave end) (ends-fit end) {run = x.0} {run' = x'.0} r r' was now told
went_all g h tells (Err fault) x x' hooks gone hooks' gone' r r' was now told =
    went_told (cut_turn_leaves fault) (cut_turn-fits fault) {run = x.0} {run' = x'.0} r r' was now told

-- Kept answers

pub kept-twice : (x : Result TurnEnd DriveFault) → IfSome (kept_of x) (λ a. kept_of a ≡ Some a)
kept-twice (Ok end.Went) = tt
kept-twice (Ok (end.Stopped link)) = refl
kept-twice (Err fault) = refl

pub kept-none : (x : Result TurnEnd DriveFault) → kept_of x ≡ None → x ≡ Ok end.Went
kept-none (Ok end.Went) h = refl
kept-none (Ok (end.Stopped link)) h = absurd (cc)
kept-none (Err fault) h = absurd (cc)
