-- Each run at an edge of the rules is accepted.
use Rattle.std.specs.Prelude.{refl}
use Rattle.relay_model.specs.Settings.{usual}
use Rattle.relay_rows.specs.Laws.{Goes}
use Rattle.relay_rows.specs.EdgeRows.{read_filter_stops_at_the_mark, hex_in_marked_at_six, bad_byte_while_held, hex_out_held_at_four}
use Rattle.relay_rows.specs.EdgeRows.{writing_is_activity, rest_given_after_a_free, both_end_at_once, ended_before_it_connects}
use Rattle.relay_rows.specs.EdgeRows.{nothing_was_ready, bad_byte_behind_the_mark, connects_too_late, failed_and_expired}
use Rattle.relay_rows.specs.EdgeRows.{hex_out_held_at_one, read_timeout_out, write_timeout_out}
use Rattle.relay_rows.proofs.AcceptLemmas.{rests-went}

pub rest_given_after_a_free-goes : Goes usual rest_given_after_a_free
rest_given_after_a_free-goes = rests-went usual rest_given_after_a_free refl

pub both_end_at_once-goes : Goes usual both_end_at_once
both_end_at_once-goes = rests-went usual both_end_at_once refl

pub ended_before_it_connects-goes : Goes usual ended_before_it_connects
ended_before_it_connects-goes = rests-went usual ended_before_it_connects refl

pub nothing_was_ready-goes : Goes usual nothing_was_ready
nothing_was_ready-goes = rests-went usual nothing_was_ready refl

pub bad_byte_behind_the_mark-goes : Goes hex_out_held_at_one bad_byte_behind_the_mark
bad_byte_behind_the_mark-goes = rests-went hex_out_held_at_one bad_byte_behind_the_mark refl

pub bad_byte_while_held-goes : Goes hex_out_held_at_four bad_byte_while_held
bad_byte_while_held-goes = rests-went hex_out_held_at_four bad_byte_while_held refl

pub read_filter_stops_at_the_mark-goes : Goes hex_in_marked_at_six read_filter_stops_at_the_mark
read_filter_stops_at_the_mark-goes = rests-went hex_in_marked_at_six read_filter_stops_at_the_mark refl

pub connects_too_late-goes : Goes write_timeout_out connects_too_late
connects_too_late-goes = rests-went write_timeout_out connects_too_late refl

pub writing_is_activity-goes : Goes write_timeout_out writing_is_activity
writing_is_activity-goes = rests-went write_timeout_out writing_is_activity refl

pub failed_and_expired-goes : Goes read_timeout_out failed_and_expired
failed_and_expired-goes = rests-went read_timeout_out failed_and_expired refl
