-- Each run with filters or marks is accepted.
use Rattle.std.specs.Prelude.{refl}
use Rattle.relay_rows.specs.Laws.{Goes}
use Rattle.relay_rows.specs.FilterRows.{held_and_drained, line_end_in_two_reads, held_to_the_end, line_ends_added, line_end_kept, odd_digit}
use Rattle.relay_rows.specs.FilterRows.{no_digit, held_back, read_mark_reached, crlf_out, five_at_once, held_at_four, hex_in, lf_in}
use Rattle.relay_rows.proofs.AcceptLemmas.{rests-went}

pub line_end_in_two_reads-goes : Goes lf_in line_end_in_two_reads
line_end_in_two_reads-goes = rests-went lf_in line_end_in_two_reads refl

pub held_to_the_end-goes : Goes lf_in held_to_the_end
held_to_the_end-goes = rests-went lf_in held_to_the_end refl

pub line_ends_added-goes : Goes crlf_out line_ends_added
line_ends_added-goes = rests-went crlf_out line_ends_added refl

pub line_end_kept-goes : Goes crlf_out line_end_kept
line_end_kept-goes = rests-went crlf_out line_end_kept refl

pub odd_digit-goes : Goes hex_in odd_digit
odd_digit-goes = rests-went hex_in odd_digit refl

pub no_digit-goes : Goes hex_in no_digit
no_digit-goes = rests-went hex_in no_digit refl

pub held_back-goes : Goes held_at_four held_back
held_back-goes = rests-went held_at_four held_back refl

pub held_and_drained-goes : Goes held_at_four held_and_drained
held_and_drained-goes = rests-went held_at_four held_and_drained refl

pub read_mark_reached-goes : Goes five_at_once read_mark_reached
read_mark_reached-goes = rests-went five_at_once read_mark_reached refl
