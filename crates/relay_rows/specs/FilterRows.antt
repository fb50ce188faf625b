-- Worked runs with filters, marks and limits. Each line was worked out by hand from the rules.
use Rattle.std.specs.Prelude.{[], ◌∷◌}
use Rattle.ev_types.specs.declared.filter.FilterKind.TheVariants as kind
use Rattle.ev_types.specs.declared.why.Cause.TheVariants as cause
use Rattle.ev_types.specs.Trace.{Trace}
use Rattle.relay_model.specs.Settings.{Settings, usual}
use Rattle.relay_rows.specs.RowWords.{in_of, out_of, turn, poll, wants_read, wants_write, wants_both, can_read, can_write, opens, gets}
use Rattle.relay_rows.specs.RowWords.{ends, read_fails, takes, frees, ends_writing, closes}

abbrev pub lf_in : Settings
lf_in = record usual { in_read = kind.ToLf }

-- A CR that ends a read is held until the next byte, an LF, which takes its place.
abbrev pub line_end_in_two_reads : Trace
line_end_in_two_reads =
    turn 0 ∷ poll ∷ opens 0
    ∷ turn 1 ∷ poll ∷ wants_read (in_of 0) ∷ wants_read (out_of 0) ∷ can_read (in_of 0) ∷ gets (in_of 0) 16384 (97 ∷ 13 ∷ [])
    ∷ turn 2 ∷ poll ∷ wants_read (in_of 0) ∷ wants_both (out_of 0) ∷ can_read (in_of 0) ∷ can_write (out_of 0)
    ∷ gets (in_of 0) 16384 (10 ∷ 98 ∷ []) ∷ takes (out_of 0) 1 (97 ∷ [])
    ∷ turn 3 ∷ poll ∷ wants_read (in_of 0) ∷ wants_both (out_of 0) ∷ can_read (in_of 0) ∷ can_write (out_of 0)
    ∷ ends (in_of 0) 16384 ∷ takes (out_of 0) 2 (10 ∷ 98 ∷ []) ∷ ends_writing (out_of 0)
    ∷ []

-- A CR that is the last byte of all is given once the end has come.
abbrev pub held_to_the_end : Trace
held_to_the_end =
    turn 0 ∷ poll ∷ opens 0
    ∷ turn 1 ∷ poll ∷ wants_read (in_of 0) ∷ wants_read (out_of 0) ∷ can_read (in_of 0) ∷ gets (in_of 0) 16384 (13 ∷ [])
    ∷ turn 2 ∷ poll ∷ wants_read (in_of 0) ∷ wants_read (out_of 0) ∷ can_read (in_of 0) ∷ ends (in_of 0) 16384
    ∷ turn 3 ∷ poll ∷ wants_both (out_of 0) ∷ can_write (out_of 0) ∷ takes (out_of 0) 1 (13 ∷ []) ∷ ends_writing (out_of 0)
    ∷ []

abbrev pub crlf_out : Settings
crlf_out = record usual { out_write = kind.ToCrlf }

-- Each LF of a request becomes CR LF.
abbrev pub line_ends_added : Trace
line_ends_added =
    turn 0 ∷ poll ∷ opens 0
    ∷ turn 1 ∷ poll ∷ wants_read (in_of 0) ∷ wants_read (out_of 0) ∷ can_read (in_of 0)
    ∷ gets (in_of 0) 16384 (71 ∷ 69 ∷ 84 ∷ 32 ∷ 47 ∷ 10 ∷ 10 ∷ [])
    ∷ turn 2 ∷ poll ∷ wants_read (in_of 0) ∷ wants_both (out_of 0) ∷ can_read (in_of 0) ∷ can_write (out_of 0)
    ∷ ends (in_of 0) 16384 ∷ takes (out_of 0) 9 (71 ∷ 69 ∷ 84 ∷ 32 ∷ 47 ∷ 13 ∷ 10 ∷ 13 ∷ 10 ∷ []) ∷ ends_writing (out_of 0)
    ∷ []

-- A CR before an LF is there already.
abbrev pub line_end_kept : Trace
line_end_kept =
    turn 0 ∷ poll ∷ opens 0
    ∷ turn 1 ∷ poll ∷ wants_read (in_of 0) ∷ wants_read (out_of 0) ∷ can_read (in_of 0) ∷ gets (in_of 0) 16384 (13 ∷ 10 ∷ 10 ∷ [])
    ∷ turn 2 ∷ poll ∷ wants_read (in_of 0) ∷ wants_both (out_of 0) ∷ can_read (in_of 0) ∷ can_write (out_of 0)
    ∷ ends (in_of 0) 16384 ∷ takes (out_of 0) 4 (13 ∷ 10 ∷ 13 ∷ 10 ∷ []) ∷ ends_writing (out_of 0)
    ∷ []

abbrev pub hex_in : Settings
hex_in = record usual { in_read = kind.HexIn }

-- An odd digit at the end is a bad end. What stands before it is given first.
abbrev pub odd_digit : Trace
odd_digit =
    turn 0 ∷ poll ∷ opens 0
    ∷ turn 1 ∷ poll ∷ wants_read (in_of 0) ∷ wants_read (out_of 0) ∷ can_read (in_of 0) ∷ gets (in_of 0) 16384 (52 ∷ 97 ∷ 52 ∷ [])
    ∷ turn 2 ∷ poll ∷ wants_read (in_of 0) ∷ wants_both (out_of 0) ∷ can_read (in_of 0) ∷ can_write (out_of 0)
    ∷ ends (in_of 0) 16384 ∷ takes (out_of 0) 1 (74 ∷ [])
    ∷ frees (in_of 0) (cause.Filter 3) 1 0 ∷ frees (out_of 0) cause.PeerGone 0 1 ∷ closes (in_of 0) ∷ closes (out_of 0)
    ∷ []

-- A byte that is no digit frees the side in the turn in which it came.
abbrev pub no_digit : Trace
no_digit =
    turn 0 ∷ poll ∷ opens 0
    ∷ turn 1 ∷ poll ∷ wants_read (in_of 0) ∷ wants_read (out_of 0) ∷ can_read (in_of 0) ∷ gets (in_of 0) 16384 (52 ∷ 103 ∷ [])
    ∷ frees (in_of 0) (cause.Filter 1) 0 0 ∷ frees (out_of 0) cause.PeerGone 0 0 ∷ closes (in_of 0) ∷ closes (out_of 0)
    ∷ []

abbrev pub held_at_four : Settings
held_at_four = record usual { hold = 4 }

-- The raw output fills up to the mark. Passing goes on once half of that or less is left.
abbrev pub held_back : Trace
held_back =
    turn 0 ∷ poll ∷ opens 0
    ∷ turn 1 ∷ poll ∷ wants_read (in_of 0) ∷ wants_read (out_of 0) ∷ can_read (in_of 0)
    ∷ gets (in_of 0) 16384 (48 ∷ 49 ∷ 50 ∷ 51 ∷ 52 ∷ 53 ∷ 54 ∷ 55 ∷ 56 ∷ 57 ∷ [])
    ∷ turn 2 ∷ poll ∷ wants_read (in_of 0) ∷ wants_both (out_of 0) ∷ can_write (out_of 0) ∷ takes (out_of 0) 4 (48 ∷ [])
    ∷ turn 3 ∷ poll ∷ wants_read (in_of 0) ∷ wants_both (out_of 0) ∷ can_write (out_of 0) ∷ takes (out_of 0) 3 (49 ∷ [])
    ∷ turn 4 ∷ poll ∷ wants_read (in_of 0) ∷ wants_both (out_of 0) ∷ can_write (out_of 0) ∷ takes (out_of 0) 4 (50 ∷ 51 ∷ 52 ∷ 53 ∷ [])
    ∷ turn 5 ∷ poll ∷ wants_read (in_of 0) ∷ wants_both (out_of 0) ∷ can_write (out_of 0) ∷ takes (out_of 0) 4 (54 ∷ 55 ∷ 56 ∷ 57 ∷ [])
    ∷ []

-- In fails while its direction is held. The rest of what was moved passes Out's write filter as there is room.
abbrev pub held_and_drained : Trace
held_and_drained =
    turn 0 ∷ poll ∷ opens 0
    ∷ turn 1 ∷ poll ∷ wants_read (in_of 0) ∷ wants_read (out_of 0) ∷ can_read (in_of 0)
    ∷ gets (in_of 0) 16384 (48 ∷ 49 ∷ 50 ∷ 51 ∷ 52 ∷ 53 ∷ 54 ∷ 55 ∷ 56 ∷ 57 ∷ [])
    ∷ turn 2 ∷ poll ∷ wants_read (in_of 0) ∷ wants_both (out_of 0) ∷ can_read (in_of 0) ∷ read_fails (in_of 0) 16384
    ∷ frees (in_of 0) cause.Failed 10 0 ∷ closes (in_of 0)
    ∷ turn 3 ∷ poll ∷ wants_write (out_of 0) ∷ can_write (out_of 0) ∷ takes (out_of 0) 4 (48 ∷ 49 ∷ 50 ∷ 51 ∷ [])
    ∷ turn 4 ∷ poll ∷ wants_write (out_of 0) ∷ can_write (out_of 0) ∷ takes (out_of 0) 4 (52 ∷ 53 ∷ 54 ∷ 55 ∷ [])
    ∷ turn 5 ∷ poll ∷ wants_write (out_of 0) ∷ can_write (out_of 0) ∷ takes (out_of 0) 2 (56 ∷ 57 ∷ [])
    ∷ frees (out_of 0) cause.PeerGone 0 10 ∷ closes (out_of 0)
    ∷ []

abbrev pub five_at_once : Settings
five_at_once = record usual { hold = 1; in_marks = record { read_low = 0; read_high = 5; write_low = 0; write_high = 0 } }

-- Five bytes stand at In, and it isn't wanted until they have gone on: only once the output before them is used up.
abbrev pub read_mark_reached : Trace
read_mark_reached =
    turn 0 ∷ poll ∷ opens 0
    ∷ turn 1 ∷ poll ∷ wants_read (in_of 0) ∷ wants_read (out_of 0) ∷ can_read (in_of 0) ∷ gets (in_of 0) 5 (48 ∷ 49 ∷ 50 ∷ 51 ∷ 52 ∷ [])
    ∷ turn 2 ∷ poll ∷ wants_read (in_of 0) ∷ wants_both (out_of 0) ∷ can_read (in_of 0) ∷ gets (in_of 0) 5 (53 ∷ 54 ∷ 55 ∷ 56 ∷ 57 ∷ [])
    ∷ turn 3 ∷ poll ∷ wants_both (out_of 0)
    ∷ turn 4 ∷ poll ∷ wants_both (out_of 0) ∷ can_write (out_of 0) ∷ takes (out_of 0) 1 (48 ∷ [])
    ∷ turn 5 ∷ poll ∷ wants_both (out_of 0) ∷ can_write (out_of 0) ∷ takes (out_of 0) 1 (49 ∷ [])
    ∷ turn 6 ∷ poll ∷ wants_both (out_of 0) ∷ can_write (out_of 0) ∷ takes (out_of 0) 1 (50 ∷ [])
    ∷ turn 7 ∷ poll ∷ wants_both (out_of 0) ∷ can_write (out_of 0) ∷ takes (out_of 0) 1 (51 ∷ [])
    ∷ turn 8 ∷ poll ∷ wants_both (out_of 0) ∷ can_write (out_of 0) ∷ takes (out_of 0) 1 (52 ∷ [])
    ∷ turn 9 ∷ poll ∷ wants_read (in_of 0) ∷ wants_both (out_of 0) ∷ can_read (in_of 0) ∷ can_write (out_of 0)
    ∷ gets (in_of 0) 5 (58 ∷ 59 ∷ 60 ∷ []) ∷ takes (out_of 0) 1 (53 ∷ [])
    ∷ []
