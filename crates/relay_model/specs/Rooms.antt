-- How much a side may read and write now, and what it wants of the poll. Lengths are those of the four buffers that the
-- counts of a direction and the bytes of the past make.
use Rattle.std.specs.Prelude.{ℕ, ◌+◌, ◌-◌, min, Bool, ◌==◌, ◌&&◌, ◌||◌, not, nat_le, if◌then◌else◌, List, length, filter, map, Option, Some}
use Rattle.std.specs.Prelude.{None, option_map, slice_get}
use Rattle.token_bucket.specs.declared.limit.Dir.{Dir}
use Rattle.token_bucket.specs.declared.limit.Dir.TheVariants as dir
use Rattle.ev_types.specs.declared.side.Side.{Side}
use Rattle.ev_types.specs.declared.side.Side.TheVariants.{In, Out}
use Rattle.ev_types.specs.declared.side.SideId.{SideId}
use Rattle.ev_types.specs.declared.filter.FilterKind.{FilterKind}
use Rattle.ev_types.specs.Sides.{peer}
use Rattle.filter_model.specs.Filter.{Filter, filter_of}
use Rattle.relay_model.specs.Flow.{raw_input, input, output, raw_output}
use Rattle.relay_model.specs.Settings.{Settings}
use Rattle.relay_model.specs.Plain.{Plain, PlainSide, side_at, flow_at, all_sides}
use Rattle.relay_model.specs.Rates.{standing_level}
use Rattle.relay_model.specs.Groups.{members, share_among}
use Rattle.relay_model.specs.Past.{Past}

-- the filters of a side
abbrev pub read_kind : Settings → Side → FilterKind
read_kind g In = g.in_read
read_kind g Out = g.out_read

abbrev pub write_kind : Settings → Side → FilterKind
write_kind g In = g.in_write
write_kind g Out = g.out_write

abbrev pub read_filter : Settings → Plain → SideId → Filter
read_filter g s e = filter_of (read_kind g e.side)

abbrev pub write_filter : Settings → Plain → SideId → Filter
write_filter g s e = filter_of (write_kind g e.side)

-- the most bytes of one read or write, and the read mark where none is set
abbrev pub most_at_once : ℕ
most_at_once = 16384

abbrev pub mark_or : ℕ → ℕ → ℕ
mark_or set usual = if set == 0 then usual else set

-- reading stops while the input length is at this mark or above it
abbrev pub read_mark : Plain → SideId → ℕ
read_mark s e = mark_or (side_at s e).marks.read_high most_at_once

-- a direction is held once the raw output of the side that it ends at is at this mark or above it
abbrev pub hold_mark : Settings → Plain → SideId → ℕ
hold_mark g s e = mark_or (side_at s e).marks.write_high g.hold

-- the two buffers of the direction that begins at a side
abbrev pub raw_input_at : Past → Plain → SideId → List ℕ
raw_input_at p s e = raw_input (p.read e) (flow_at s e)

abbrev pub input_at : Settings → Past → Plain → SideId → List ℕ
input_at g p s e = input (read_filter g s e) (p.read e) (flow_at s e)

-- the two buffers of the direction that ends at a side
abbrev pub output_at : Settings → Past → Plain → SideId → List ℕ
output_at g p s e = output (read_filter g s (peer e)) (p.read (peer e)) (flow_at s (peer e))

abbrev pub raw_output_at : Settings → Past → Plain → SideId → List ℕ
raw_output_at g p s e = raw_output (read_filter g s (peer e)) (write_filter g s e) (p.read (peer e)) (flow_at s (peer e))

abbrev pub input_length : Settings → Past → Plain → SideId → ℕ
input_length g p s e = length (raw_input_at p s e) + length (input_at g p s e)

abbrev pub output_length : Settings → Past → Plain → SideId → ℕ
output_length g p s e = length (output_at g p s e) + length (raw_output_at g p s e)

-- what a side's own bucket holds, where it has a limit
abbrev pub allowance : Past → Plain → SideId → Dir → Option ℕ
allowance p s e d = option_map (λ x. standing_level x d (p.turns e d) s.time) (side_at s e).limit

-- what its group leaves to it, where it is in one
abbrev pub share_in : Settings → Past → Plain → Dir → Option ℕ → Option ℕ
share_in g p s d None = None
share_in g p s d (Some n) = option_map (λ x. share_among x d (p.group_turns n d) s.time (members s n)) (slice_get g.groups n)

abbrev pub share : Settings → Past → Plain → SideId → Dir → Option ℕ
share g p s e d = share_in g p s d (side_at s e).group

abbrev pub at_most : Option ℕ → ℕ → ℕ
at_most None n = n
at_most (Some most) n = min most n

-- what limit and group leave of a number of bytes
abbrev pub within_rates : Settings → Past → Plain → SideId → Dir → ℕ → ℕ
within_rates g p s e d n = at_most (share g p s e d) (at_most (allowance p s e d) n)

-- A side may be read: it is live, connected, enabled for reading, neither ended nor failed, and its peer is live.
abbrev pub is_readable : PlainSide → PlainSide → Bool
is_readable x other = x.live && not x.connecting && x.reads && not x.ended && not x.failed && other.live

-- It may be written: it is live, connected, enabled for writing, not failed, and its writing was not ended.
abbrev pub is_writable : PlainSide → Bool
is_writable x = x.live && not x.connecting && x.writes && not x.failed && not x.write_ended

abbrev pub may_read : Plain → SideId → Bool
may_read s e = is_readable (side_at s e) (side_at s (peer e))

abbrev pub may_write : Plain → SideId → Bool
may_write s e = is_writable (side_at s e)

-- how many bytes it may read now
abbrev pub read_room : Settings → Past → Plain → SideId → ℕ
read_room g p s e =
    if may_read s e then within_rates g p s e dir.Read (min most_at_once (read_mark s e - input_length g p s e)) else 0

-- how many bytes it may write now
abbrev pub write_room : Settings → Past → Plain → SideId → ℕ
write_room g p s e = if may_write s e then within_rates g p s e dir.Write (min most_at_once (length (raw_output_at g p s e))) else 0

abbrev pub is_connecting : Plain → SideId → Bool
is_connecting s e = let x = side_at s e in x.live && x.connecting

-- It wants to read where it may read a byte. It wants to write where it may write one, or is connecting and not failed.
abbrev pub wants : Settings → Past → Plain → SideId → Dir → Bool
wants g p s e dir.Read = nat_le 1 (read_room g p s e)
wants g p s e dir.Write = nat_le 1 (write_room g p s e) || (is_connecting s e && not (side_at s e).failed)

-- a side with what it wants, or with what the poll marked of that
pub record Want : Type 0 where
  pub side : SideId
  pub read : Bool
  pub write : Bool

abbrev pub want_of : Settings → Past → Plain → SideId → Want
want_of g p s e = record { side = e; read = wants g p s e dir.Read; write = wants g p s e dir.Write }

-- the wanted list: each side that wants something, in number order
abbrev pub wanted : Settings → Past → Plain → List Want
wanted g p s = filter (λ w. w.read || w.write) (map (want_of g p s) (all_sides s))
