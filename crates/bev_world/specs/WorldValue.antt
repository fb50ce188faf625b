-- What contracts see of a world: its bufferevents by their numbers, and the reasons for which callbacks are due.
use Rattle.std.specs.Prelude.{ℕ, ◌+◌, ◌-◌, max, [], ◌∷◌, ◌++◌, Bool, true, false, not, ◌&&◌, nat_lt, if◌then◌else◌, List, Option, length}
use Rattle.std.specs.Prelude.{slice_index_or, slice_set}
use Rattle.token_bucket.specs.declared.limit.Dir.{Dir}
use Rattle.token_bucket.specs.declared.limit.Dir.TheVariants.{Read, Write}
use Rattle.ev_types.specs.declared.filter.FilterKind.{FilterKind}
use Rattle.ev_types.specs.declared.filter.FilterKind.TheVariants as filter
use Rattle.ev_types.specs.declared.why.Why.{Why}
use Rattle.ev_types.specs.declared.why.Why.TheVariants as why
use Rattle.filter_model.specs.FilterStep.{begun}
use Rattle.deferred_cb.specs.DueCalls.{Entry, Call, with_reason}
use Rattle.bev_core.specs.BevValue.{BevValue, new_bev, new_chunked}
use Rattle.bev_socket.specs.Rooms.{read_room, write_room}
use Rattle.bev_world.specs.declared.slot.Kind.{Kind}
use Rattle.bev_world.specs.declared.slot.Kind.TheVariants as kind
use Rattle.bev_world.specs.declared.slot.Slot.{Slot}

-- The bufferevents at their numbers, freed ones among them; the reasons that wait for the next batch; what is left of the batch
-- that runs; whether that batch was cut off by want of memory; how many bufferevents more are made without taking memory; and whether
-- a buffer of its bufferevents may lie in several chunks.
pub record WorldValue : Type 0 where
  pub slots : List Slot
  pub pending : List Entry
  pub batch : List Call
  pub cut : Bool
  pub spare : ℕ
  pub chunked : Bool

-- a new bufferevent that this carries, with filters of these kinds, each of whose buffers lies in one piece
abbrev pub new_slot : Kind → FilterKind → FilterKind → Slot
new_slot k input output = record {
  bev = new_bev;
  kind = k;
  taken = false;
  room = 0;
  read_filter = begun input;
  write_filter = begun output;
}

-- a new one whose buffers may lie in several chunks, or not
abbrev pub made_slot : Bool → Kind → FilterKind → FilterKind → Slot
made_slot chunked k input output = record (new_slot k input output) { bev = new_chunked chunked }

-- what an unknown number shows: a freed bufferevent
abbrev pub no_slot : Slot
no_slot = record (new_slot kind.Socket filter.None filter.None) { bev = record new_bev { live = false } }

abbrev pub slot_at : WorldValue → ℕ → Slot
slot_at w n = slice_index_or w.slots n no_slot

abbrev pub bev_at : WorldValue → ℕ → BevValue
bev_at w n = (slot_at w n).bev

abbrev pub is_live : WorldValue → ℕ → Bool
is_live w n = (bev_at w n).live

-- it was made, and was freed
abbrev pub is_freed : WorldValue → ℕ → Bool
is_freed w n = nat_lt n (length w.slots) && not (is_live w n)

-- how many bytes it may read, or write
abbrev pub room_at : WorldValue → ℕ → Dir → Option ℕ → Option ℕ → ℕ
room_at w n Read allowance share = read_room (bev_at w n) allowance share
room_at w n Write allowance share = write_room (bev_at w n) allowance share

-- one slot is another
abbrev pub with_slot : WorldValue → ℕ → Slot → WorldValue
with_slot w n s = record w { slots = slice_set w.slots n s }

-- the bufferevent of one slot is another
abbrev pub with_bev : WorldValue → ℕ → BevValue → WorldValue
with_bev w n b = with_slot w n (record (slot_at w n) { bev = b })

-- more slots come behind the others, into the room that there is
abbrev pub with_new : List Slot → WorldValue → WorldValue
with_new new w = record w { slots = w.slots ++ new; spare = w.spare - length new }

-- there is room for so many bufferevents more, or for as many as before where that is more
abbrev pub with_room : ℕ → WorldValue → WorldValue
with_room more w = record w { spare = max w.spare more }

-- both halves of a pair, of which the first has this number
abbrev pub pair_slots : Bool → ℕ → List Slot
pair_slots chunked n =
    made_slot chunked (kind.Half (n + 1)) filter.None filter.None ∷ made_slot chunked (kind.Half n) filter.None filter.None ∷ []

-- a filter was made over it
abbrev pub with_taken : WorldValue → ℕ → WorldValue
with_taken w n = with_slot w n (record (slot_at w n) { taken = true })

-- the room of an input is other
abbrev pub with_input_room : WorldValue → ℕ → ℕ → ℕ → WorldValue
with_input_room w n room spare =
    with_slot w n (record (slot_at w n) { room = room; bev = record (bev_at w n) { input = record (bev_at w n).input { spare = spare } } })

-- the reason of a direction
abbrev pub reason_of : Dir → Why
reason_of Read = why.Read
reason_of Write = why.Write

-- a reason is due for a bufferevent, in the next batch
abbrev pub raised : WorldValue → ℕ → Why → WorldValue
raised w n why = record w { pending = with_reason n why w.pending }

abbrev pub raised_if : Bool → WorldValue → ℕ → Why → WorldValue
raised_if due w n why = if due then raised w n why else w
