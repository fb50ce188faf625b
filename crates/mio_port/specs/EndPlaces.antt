-- The counts of faults of all ends, which wants the ends are ready for, and which end of writing is pending.
use Rattle.std.specs.Prelude.{◌≡◌, ◌≢◌, ◌==◌, ℕ, Bool, true, false, not, ◌&&◌, ◌||◌, if◌then◌else◌, nat_le, List, length, map}
use Rattle.std.specs.Prelude.{Option, Some, None, slice_index_or, option_map}
use Rattle.ev_port.specs.FaultCounts.{Counted}
use Rattle.ev_types.specs.declared.side.Side.TheVariants.{In, Out}
use Rattle.ev_types.specs.declared.side.SideId.{SideId}
use Rattle.ev_types.specs.Sides.{number}
use Rattle.ev_port.specs.declared.port.Want.{Want}
use Rattle.mio_port.specs.declared.end.End.{End}
use Rattle.mio_port.specs.OneEnd.{handed_on_end, undelayed_end}

-- an end that isn't there met no fault
abbrev pub faults_of : Option End → ℕ
faults_of None = 0
faults_of (Some e) = e.faults

-- the count of the end with this number; 0 for one behind the list
abbrev pub faults_at : List (Option End) → ℕ → ℕ
faults_at ends n = faults_of (slice_index_or ends n None)

abbrev pub end_faults : List (Option End) → SideId → ℕ
end_faults ends e = faults_at ends (number e)

-- every count stays
abbrev pub CountsStay : List (Option End) → List (Option End) → Type 0
CountsStay old new = (n : ℕ) → faults_at new n ≡ faults_at old n

-- the count of one end rose if the call was a fault, and every other count stays
pub record CountsAt (old new : List (Option End)) (end : SideId) (is_fault : Bool) : Type 0 where
  pub own : Counted (end_faults old end) (end_faults new end) is_fault
  pub others : (e : SideId) → e ≢ end → end_faults new e ≡ end_faults old e

-- every place is as it was, and no end stands in a place that was added
abbrev pub PlacesStay : List (Option End) → List (Option End) → Type 0
PlacesStay old new = (n : ℕ) → slice_index_or new n None ≡ slice_index_or old n None

-- the end at one place changed so, where there is one, and every other place is as it was
pub record PlaceWent (old new : List (Option End)) (place : ℕ) (change : End → End) : Type 0 where
  pub own : slice_index_or new place None ≡ option_map change (slice_index_or old place None)
  pub others : (n : ℕ) → n ≢ place → slice_index_or new n None ≡ slice_index_or old n None

abbrev pub is_there : Option End → Bool
is_there None = false
is_there (Some e) = true

-- this end was made
abbrev pub is_made : List (Option End) → SideId → Bool
is_made ends e = is_there (slice_index_or ends (number e) None)

-- one of the two ends of this link was made
abbrev pub holds : List (Option End) → ℕ → Bool
holds ends link = is_made ends (record { link = link; side = In }) || is_made ends (record { link = link; side = Out })

abbrev pub is_read_ready : Option End → Bool
is_read_ready None = false
is_read_ready (Some e) = e.read_ready

-- it is ready for reading, and none of its last two reads filled its room
abbrev pub is_prompt : Option End → Bool
is_prompt None = false
is_prompt (Some e) = e.read_ready && not e.bulky

-- it is ready for reading, and one of its last two reads filled its room
abbrev pub is_bulky : Option End → Bool
is_bulky None = false
is_bulky (Some e) = e.read_ready && e.bulky

abbrev pub is_write_ready : Option End → Bool
is_write_ready None = false
is_write_ready (Some e) = e.write_ready

-- its last write took less than it was given, or would have blocked
abbrev pub came_short : Option End → Bool
came_short None = false
came_short (Some e) = e.came_short

-- its last read filled the room that it was given
abbrev pub has_filled : Option End → Bool
has_filled None = false
has_filled (Some e) = e.filled

-- More is likely to follow these bytes to an end: they are a whole block, and the last read of its peer filled its room.
abbrev pub more_follows : Option End → List ℕ → Bool
more_follows peer from = nat_le 16384 (length from) && has_filled peer

-- an end beside its peer: where the peer's last read didn't fill its room, nothing is kept back
abbrev pub undelayed_beside : Option End → Option End → Option End
undelayed_beside None place = place
undelayed_beside (Some peer) place = if peer.filled then place else option_map undelayed_end place

-- its writing is to be ended, and the system was not told yet
abbrev pub is_ending : Option End → Bool
is_ending None = false
is_ending (Some e) = e.ending

-- what each end is ready for, its count of faults, and what is pending of it, stay
pub record AlikeBesideDelay (old new : List (Option End)) : Type 0 where
  pub prompt : (n : ℕ) → is_prompt (slice_index_or new n None) ≡ is_prompt (slice_index_or old n None)
  pub bulky : (n : ℕ) → is_bulky (slice_index_or new n None) ≡ is_bulky (slice_index_or old n None)
  pub writable : (n : ℕ) → is_write_ready (slice_index_or new n None) ≡ is_write_ready (slice_index_or old n None)
  pub ending : (n : ℕ) → is_ending (slice_index_or new n None) ≡ is_ending (slice_index_or old n None)
  pub faults : CountsStay old new

-- of at most one number: this is it
abbrev pub is_at_number : Option ℕ → ℕ → Bool
is_at_number None n = false
is_at_number (Some at) n = n == at

-- all ends, after what was pending is handed to the system
abbrev pub all_handed_on : List (Option End) → List (Option End)
all_handed_on ends = map (option_map handed_on_end) ends

abbrev pub can_read : List (Option End) → Want → Bool
can_read ends want = want.read && is_read_ready (slice_index_or ends (number want.side) None)

abbrev pub can_write : List (Option End) → Want → Bool
can_write ends want = want.write && is_write_ready (slice_index_or ends (number want.side) None)

-- a want with its marks: wanted, and the end has the ready bit
abbrev pub marked : List (Option End) → Want → Want
marked ends want = record want { can_read = can_read ends want; can_write = can_write ends want }

-- something of this want can be done
abbrev pub wants_ready : List (Option End) → Want → Bool
wants_ready ends want = can_read ends want || can_write ends want

abbrev pub unmarked : Want → Want
unmarked want = record want { can_read = false; can_write = false }
