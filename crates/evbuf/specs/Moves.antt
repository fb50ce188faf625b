-- Bytes that go from one of several buffers to another.
use Rattle.std.specs.Prelude.{◌≡◌, ℕ, ◌==◌, min, if◌then◌else◌, Option, List, length, slice_index_or, slice_set}
use Rattle.evbuf.specs.Evbuffered.{Evbuffered}
use Rattle.evbuf.specs.Refusals.{move_refusal, same_refusal}
use Rattle.evbuf.specs.Steps.{new_buffer, after_giving, after_taking, after_giving_all, after_taking_all}
use Rattle.evbuf.specs.declared.fault.BufFault.{BufFault}

-- the buffer of a number
abbrev pub buffer_at : List Evbuffered → ℕ → Evbuffered
buffer_at buffers i = slice_index_or buffers i new_buffer

-- why so many bytes don't go from one buffer to another
abbrev pub moves_refusal : List Evbuffered → ℕ → ℕ → ℕ → Option BufFault
moves_refusal buffers to from n =
    if to == from then same_refusal (buffer_at buffers to)
    else move_refusal (buffer_at buffers to) (buffer_at buffers from) n

-- why all bytes of a buffer don't go to another
abbrev pub move_all_refusal : List Evbuffered → ℕ → ℕ → Option BufFault
move_all_refusal buffers to from = moves_refusal buffers to from (length (buffer_at buffers from).bytes)

-- why the first n bytes of a buffer, or all where there are fewer, don't go to another
abbrev pub move_some_refusal : List Evbuffered → ℕ → ℕ → ℕ → Option BufFault
move_some_refusal buffers from to n = moves_refusal buffers to from (min n (length (buffer_at buffers from).bytes))

-- all bytes of a buffer went to another, and no further buffer has changed
pub record MovesAll (old : List Evbuffered) (to from : ℕ) (new : List Evbuffered) : Type 0 where
  pub taken : buffer_at new to ≡ after_taking_all (buffer_at old to) (buffer_at old from) (buffer_at new to).spare
  pub given : buffer_at new from ≡ after_giving_all (buffer_at old from) (buffer_at new from).spare
  pub others : new ≡ slice_set (slice_set old to (buffer_at new to)) from (buffer_at new from)

-- the first n bytes of a buffer, or all where there are fewer, went to another, and no further buffer has changed
pub record MovesSome (old : List Evbuffered) (from to n : ℕ) (new : List Evbuffered) : Type 0 where
  pub taken : buffer_at new to ≡ after_taking (buffer_at old to) (buffer_at old from) n (buffer_at new to).spare
  pub given : buffer_at new from ≡ after_giving (buffer_at old from) n (buffer_at new from).spare
  pub others : new ≡ slice_set (slice_set old to (buffer_at new to)) from (buffer_at new from)
