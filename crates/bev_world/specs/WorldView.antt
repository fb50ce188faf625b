-- How a world keeps what it shows.
use Rattle.std.specs.Prelude.{◌≡◌, ◌≢◌, ◌≤◌, ◌<◌, ◌+◌, ◌^◌, ℕ, zero, suc, if◌then◌else◌, Bool, true, ⊤, List, length, slice_index_or}
use Rattle.std.specs.Prelude.{vec_capacity}
use Rattle.deferred_cb.specs.DueCalls.{Entry, has_entry}
use Rattle.bev_world.specs.WorldValue.{WorldValue, no_slot}
use Rattle.bev_world.specs.declared.slot.Kind.{Kind}
use Rattle.bev_world.specs.declared.slot.Kind.TheVariants as kind
use Rattle.bev_world.specs.declared.slot.Slot.{Slot}
use Rattle.bev_world.specs.declared.world.World.TheInside as world

abbrev pub world_of : world.Inside → WorldValue
world_of w = record {
  slots = w.slots.items;
  pending = w.due.pending;
  batch = w.due.batch;
  cut = w.cut;
  spare = w.spare;
  chunked = w.chunked;
}

-- how many of the first n numbers are not so
abbrev pub lacking : ℕ → (ℕ → Bool) → ℕ
lacking zero is_so = 0
lacking (suc n) is_so = lacking n is_so + (if is_so n then 0 else 1)

-- of so many bufferevents, the other half of this one is another, and the one under it was made before it
abbrev pub IsJoined : ℕ → ℕ → Kind → Type 0
IsJoined count n kind.Socket = ⊤
IsJoined count n (kind.Half other) = (other < count) × (other ≢ n)
IsJoined count n (kind.Filter under) = under < n

-- a slot of so many, at this number, in a world whose buffers may lie in several chunks, or not
pub record IsSlot (chunked : Bool) (count n : ℕ) (s : Slot) : Type 0 where
  pub joined : IsJoined count n s.kind
  pub room : s.room ≤ s.bev.input.spare
  pub mode : s.bev.chunked ≡ chunked

-- a slot that comes to so many, at this number: a live one without sure room
pub record IsNew (chunked : Bool) (count n : ℕ) (s : Slot) : Type 0 where
  pub joined : IsJoined count n s.kind
  pub live : s.bev.live ≡ true
  pub room : s.room ≡ 0
  pub mode : s.bev.chunked ≡ chunked

-- So many entries more can be made as `free` says. Every bufferevent without a pending entry has room for one, and so have so many
-- bufferevents more, which their slots have room for. The buffers of all of them may lie in several chunks, or none may.
pub record Holds (chunked : Bool) (slots : List Slot) (pending : List Entry) (free more capacity : ℕ) : Type 0 where
  pub few : length slots < 2 ^ 32
  pub room : lacking (length slots) (λ n. has_entry n pending) + more ≤ free
  pub fits : length slots + more ≤ capacity
  pub each : (n : ℕ) → n < length slots → IsSlot chunked (length slots) n (slice_index_or slots n no_slot)

abbrev pub IsWorld : world.Inside → Type 0
IsWorld w = Holds w.chunked w.slots.items w.due.pending w.due.spare w.spare (vec_capacity w.slots)
