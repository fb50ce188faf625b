-- The parts of a round of passing, on the counts of one direction. Its read filter is r and its write filter w; read is
-- all that was read where it begins. A part looks at how much the four buffers hold, and never at a byte but to know a
-- bad one.
use Rattle.std.specs.Prelude.{ℕ, zero, suc, ◌+◌, ◌-◌, ◌/◌, Bool, true, false, ◌==◌, ◌&&◌, ◌||◌, not, nat_lt, nat_le, if◌then◌else◌, List}
use Rattle.std.specs.Prelude.{length, take, Option, None, is_some, is_none}
use Rattle.filter_model.specs.Filter.{Filter, met}
use Rattle.filter_model.specs.Stopping.{first_from, is_over}
use Rattle.relay_model.specs.Flow.{Flow, middle, input, output, raw_output}
use Rattle.relay_model.specs.Conserved.{all_moved}

module _ (r : Filter) (read : List ℕ) where
  -- Must the read filter stop at a place? The input is at the read mark, or the next byte is bad.
  abbrev pub read_stops : ℕ → Flow → ℕ → Bool
  read_stops mark f n = nat_le mark (length (input r read (record f { used = n }))) || is_some (r.bad (take (n + 1) read))

  -- The read filter runs until it must stop, or all is used.
  abbrev pub with_used : ℕ → Flow → Flow
  with_used mark f = record f { used = first_from (read_stops mark f) f.used (length read - f.used) }

  -- the bad place that it meets
  abbrev pub read_place : ℕ → Bool → Flow → Option ℕ
  read_place mark ended f = met r read f.used ended (nat_lt (length (input r read f)) mark)

  -- It is finished where the end has come and all is used.
  abbrev pub with_read_done : ℕ → Bool → Flow → Flow
  with_read_done mark ended f =
      record f { read_done = f.read_done || (ended && f.used == length read && is_over r read (nat_lt (length (input r read f)) mark)) }

  -- The input goes whole to an empty output, unless the direction is held.
  abbrev pub with_moved : Flow → Flow
  with_moved f = if not f.held && length (output r read f) == 0 then record f { moved = length (middle r read f) } else f

module _ (r w : Filter) (read : List ℕ) where
  -- The direction becomes held where the raw output is at the hold mark or above. It stops being held where that is at
  -- half of the mark or below.
  abbrev pub with_held : ℕ → Flow → Flow
  with_held hold f =
      let n = length (raw_output r w read f) in
      record f { held = if nat_le hold n then true else (if nat_le n (hold / 2) then false else f.held) }

  -- Must the write filter stop at a place? The raw output is at the hold mark, or the next byte is bad.
  abbrev pub write_stops : ℕ → Flow → ℕ → Bool
  write_stops hold f n = nat_le hold (length (raw_output r w read (record f { turned = n }))) || is_some (w.bad (take (n + 1) (middle r read f)))

  -- The write filter runs until it must stop, or the output is used up, unless the direction is held.
  abbrev pub with_turned : ℕ → Flow → Flow
  with_turned hold f = if f.held then f else record f { turned = first_from (write_stops hold f) f.turned (f.moved - f.turned) }

  -- the bad place that it meets, where its end may come or not
  abbrev pub write_place : ℕ → Bool → Flow → Option ℕ
  write_place hold may_end f =
      if f.held then None
      else met w (take f.moved (middle r read f)) f.turned (may_end && all_moved r read f) (nat_lt (length (raw_output r w read f)) hold)

  -- It is finished where all was moved and used, unless the direction is held.
  abbrev pub with_write_done : ℕ → Flow → Flow
  with_write_done hold f =
      if f.held then f
      else record f {
        write_done = f.write_done || (all_moved r read f && f.turned == f.moved && is_over w (middle r read f) (nat_lt (length (raw_output r w read f)) hold));
      }
