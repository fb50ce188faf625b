-- The laws of what a turn counts, for the functions that state them, and the forms in which a caller uses them.
use Rattle.std.proofs.Common.{◌≡◌, ℕ, ◌+◌, ◌^◌, ◌≤◌, Bool, false, ◌||◌, nat_le, Option, arith, length-append}
use Rattle.std.proofs.lemmas.Bool.{lt-leb}
use Rattle.ev_types.specs.Trace.{Trace}
use Rattle.ev_port.specs.Faults.{Faults}
use Rattle.relay_model.specs.Settings.{Settings}
use Rattle.relay_model.specs.Stages.{Stage}
use Rattle.relay_state.specs.State.{State}
use Rattle.relay_steps.proofs.CountLemmas.{not_spent}
use Rattle.relay_drive.specs.DriveValue.{DriveValue}
use Rattle.relay_drive.specs.Phases.{Turns}
use Rattle.relay_drive.specs.Known.{Question}
use Rattle.relay_drive.specs.DriveStands.{DriveStands, DriveWent}
use Rattle.relay_drive.specs.Bounds.{IsWithin, most_of_turn, NewDriveIsWithin, TurnIsBounded, WithinIsNotWorn}
use Rattle.relay_drive.proofs.BoundSteps.{within-more, turn_raises}

pub new_drive_is_within : NewDriveIsWithin
new_drive_is_within settings given hooks = record {
  state = record { allowed = omega arith; opened = omega arith; hooked = omega arith; turns = omega arith; reads = λ i. omega arith };
  entries = omega arith;
}

pub turn_is_bounded : TurnIsBounded
turn_is_bounded n links hooks old new t a w h before after =
    let r = turn_raises links hooks n old.state new.state a w.state h in
    let l = length-append t a in
    let x = w.entries in
    let y = before.entries in
    let z = after.entries in
    (record { state = r.within; entries = omega (arith, x, y, z, r.entries, l) }, r.settings)

-- the same of what a turn's contract says
pub went_is_bounded : {Plan : Type 0} {After : Trace → State → Type 0} {Tells : Trace → Type 0} {old new : DriveValue}
    {log log' : Option Trace} {v v' : Settings → Question Plan → Trace → Type 0} {f f' : Faults} (n links hooks : ℕ) (t : Trace) →
    IsWithin n links hooks old → DriveStands t old → DriveWent Turns After Tells false old new log log' v v' f f' →
    IsWithin (n + most_of_turn links hooks) links hooks new × (new.state.settings ≡ old.state.settings)
went_is_bounded {old = old} {new = new} n links hooks t w k h =
    turn_is_bounded n links hooks old new t h.added w h.does k (h.stands t k)

-- a greater bound holds too
pub is_within-more : (n m links hooks : ℕ) (d : DriveValue) → n ≤ m → IsWithin n links hooks d → IsWithin m links hooks d
is_within-more n m links hooks d h w = let e = w.entries in
    record { state = within-more links hooks n m d.state h w.state; entries = omega (arith, h, e) }

neither : (a b : Bool) → a ≡ false → b ≡ false → (a || b) ≡ false
neither a b p q = cc

pub within_is_not_worn : WithinIsNotWorn
within_is_not_worn n links hooks d t w k h =
    let e = w.entries in
    let few : nat_le (2 ^ 62) d.entries ≡ false = lt-leb (2 ^ 62) d.entries (omega (arith, h, e)) in
    neither _ _ few (not_spent t Stage.Between d.state k n h w.state.reads w.state.turns)
