-- What each call of the port, with its entry, does to the relay's state.
use Rattle.std.specs.Prelude.{◌≡◌, ℕ, ◌^◌, ◌<◌, Bool, true, false, List, [], ◌∷◌, length, min, max}
use Rattle.ev_types.specs.declared.side.SideId.{SideId}
use Rattle.ev_types.specs.declared.answer.ConnAnswer.{ConnAnswer}
use Rattle.ev_types.specs.declared.answer.ReadAnswer.{ReadAnswer}
use Rattle.ev_types.specs.declared.answer.WriteAnswer.{WriteAnswer}
use Rattle.ev_types.specs.declared.answer.WriteAnswer.TheVariants as write
use Rattle.ev_types.specs.declared.entry.Entry.TheVariants as entry
use Rattle.ev_types.specs.Trace.{Trace}
use Rattle.ev_port.specs.Ends.{conn_events, ReadWithin, got_bytes, read_events, WriteWithin, write_events}
use Rattle.relay_state.specs.State.{State}
use Rattle.relay_state.specs.Opening.{after_opened}
use Rattle.relay_state.specs.Rooms.{offer}
use Rattle.relay_state.specs.Time.{begun}
pub use Rattle.relay_state.specs.Serving.{after_conn, after_read, after_write}

-- The clock is read: the reading, cut at 2^62, becomes the time unless the time is greater, and a turn begins.
pub record Ticks (reading : ℕ) (s : State) (a : Trace) (new : State) : Type 0 where
  pub entries : a ≡ (entry.Turn (max s.plain.time (min reading (2 ^ 62))), []) ∷ []
  pub state : new ≡ begun s (max s.plain.time (min reading (2 ^ 62)))

-- A link is opened, where fewer were than the settings allow.
pub record Opens (connected : Bool) (s : State) (a : Trace) (new : State) : Type 0 where
  pub allowed : s.plain.opened < s.settings.links
  pub entries : a ≡ (entry.Opened s.plain.opened connected, []) ∷ []
  pub state : new ≡ after_opened s connected

-- A side's end was asked whether it is connected.
pub record Checks (e : SideId) (answer : ConnAnswer) (s : State) (a : Trace) (new : State) : Type 0 where
  pub entries : a ≡ conn_events e answer
  pub state : new ≡ after_conn s e answer

-- A side's end was read, which put bytes in front of a slice.
pub record Reads (e : SideId) (answer : ReadAnswer) (into : List ℕ) (s : State) (a : Trace) (new : State) : Type 0 where
  pub within : ReadWithin answer (length into)
  pub entries : a ≡ read_events e into answer
  pub state : new ≡ after_read s e answer (got_bytes answer into)

-- and into one of this length
abbrev pub ReadsSome : SideId → ReadAnswer → ℕ → State → Trace → State → Type 0
ReadsSome e answer room s a new = (into : List ℕ) × (length into ≡ room) × Reads e answer into s a new

abbrev pub is_memory : WriteAnswer → Bool
is_memory write.NoMemory = true
is_memory _ = false

-- A side's end was given what is offered to it, and this was no want of memory.
pub record Writes (e : SideId) (answer : WriteAnswer) (s : State) (a : Trace) (new : State) : Type 0 where
  pub done : is_memory answer ≡ false
  pub within : WriteWithin answer (length (offer s e))
  pub entries : a ≡ write_events e (offer s e) answer
  pub state : new ≡ after_write s e answer
