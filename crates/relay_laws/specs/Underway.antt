-- How many bytes are under way, read and not given yet: told from a trace and the counts of the state that it leads to.
use Rattle.std.specs.Prelude.{◌≡◌, ℕ, zero, suc, ◌+◌, ◌-◌, ◌<◌, false, true, if◌then◌else◌, length}
use Rattle.ev_types.specs.declared.side.SideId.{SideId}
use Rattle.ev_types.specs.Sides.{peer}
use Rattle.ev_types.specs.Trace.{Trace}
use Rattle.relay_model.specs.Trace.{bytes_read, bytes_given}
use Rattle.relay_model.specs.Flow.{raw_input, input, output, raw_output}
use Rattle.relay_model.specs.Plain.{flow_at, is_live}
use Rattle.relay_model.specs.Rooms.{read_filter, write_filter}
use Rattle.relay_model.specs.Stages.{Stage}
use Rattle.relay_model.specs.Told.{is_freed}
use Rattle.relay_model.specs.Totals.{opened}
use Rattle.relay_state.specs.State.{State}
use Rattle.relay_state.specs.Closing.{in_side, out_side}
use Rattle.relay_state.specs.Counting.{buffered_at, buffered_below}
use Rattle.relay_steps.specs.Meaning.{StandsFor}
use Rattle.relay_laws.specs.Links.{AllRecorded}
use Rattle.relay_laws.specs.Plainly.{HasNoFilters}

-- what was read from a side's end and not used by its read filter, and what that made and was not moved
abbrev pub not_moved : Trace → State → SideId → ℕ
not_moved t s e =
    let f = flow_at s.plain e in
    let read = bytes_read e t in
    length (raw_input read f) + length (input (read_filter s.settings s.plain e) read f)

-- what was moved to a side and not used by its write filter, and what that made and was not given to its end
abbrev pub not_taken : Trace → State → SideId → ℕ
not_taken t s e =
    let f = flow_at s.plain (peer e) in
    let read = bytes_read (peer e) t in
    let r = read_filter s.settings s.plain (peer e) in
    length (output r read f) + length (raw_output r (write_filter s.settings s.plain e) read f)

-- A live side holds both.
abbrev pub underway_at : Trace → State → SideId → ℕ
underway_at t s e = if is_live s.plain e then not_moved t s e + not_taken t s e else 0

-- what the sides of the first links hold
abbrev pub underway_below : Trace → State → ℕ → ℕ
underway_below t s zero = 0
underway_below t s (suc n) = underway_below t s n + underway_at t s (in_side n) + underway_at t s (out_side n)

-- what was read at a side and not given to its peer
abbrev pub not_given : Trace → SideId → ℕ
not_given t e = length (bytes_read e t) - length (bytes_given (peer e) t)

-- The buffers of live sides hold exactly what is under way; a side that was freed holds nothing. Where no filter is set, all frees are
-- recorded and both sides of a link live, that is what was read at either and not given to the other.
pub record UnderwayIs (t : Trace) (x : Stage) (s : State) : Type 0 where
  pub all : buffered_below s s.plain.opened ≡ underway_below t s (opened t)
  pub each : (e : SideId) → e.link < opened t → buffered_at s e ≡ underway_at t s e
  pub both : HasNoFilters s.settings → AllRecorded x → (link : ℕ) → link < opened t → is_freed (in_side link) t ≡ false →
      is_freed (out_side link) t ≡ false →
      buffered_at s (in_side link) + buffered_at s (out_side link) ≡ not_given t (in_side link) + not_given t (out_side link)
  pub gone : (e : SideId) → e.link < opened t → is_freed e t ≡ true → buffered_at s e ≡ 0

-- So it is of every trace for which the relay stands.
abbrev pub BufferedIsUnderway : Type 0
BufferedIsUnderway = (t : Trace) (x : Stage) (s : State) → StandsFor t x s → UnderwayIs t x s
