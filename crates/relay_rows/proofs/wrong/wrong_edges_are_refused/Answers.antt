use Rattle.relay_rows.proofs.WrongEdgesRefused.{link_past_the_64th-is_wrong, link_past_the_last-is_wrong, time_past_the_last-is_wrong}
use Rattle.relay_rows.proofs.WrongEdgesRefused.{nothing_got-is_wrong, more_than_the_room-is_wrong, ended_side_wanted-is_wrong}
use Rattle.relay_rows.proofs.WrongEdgesRefused.{written_as_it_connects-is_wrong, writing_ended_while_connecting-is_wrong}
use Rattle.relay_rows.proofs.WrongEdgesRefused.{held_byte_forgotten-is_wrong, held_byte_given-is_wrong, bad_byte_met_without_room-is_wrong}
use Rattle.relay_rows.proofs.WrongEdgesRefused.{filled_above_half-is_wrong, wanted_at_the_read_mark-is_wrong}
use Rattle.relay_rows.proofs.WrongEdgesRefused.{wanted_with_an_empty_bucket-is_wrong, read_while_suspended-is_wrong}
use Rattle.relay_rows.proofs.WrongEdgesRefused.{fired_below_the_low_mark-is_wrong, timeouts_told_apart-is_wrong}
use Rattle.relay_rows.proofs.WrongEdgesRefused.{fired_in_the_turn_of_its_ask-is_wrong}
use Rattle.relay_rows.proofs.wrong.wrong_edges_are_refused.Goals as goal

pub returns-clause-ended_side_wanted : goal.returns-clause-ended_side_wanted
returns-clause-ended_side_wanted c = ended_side_wanted-is_wrong

pub returns-clause-written_as_it_connects : goal.returns-clause-written_as_it_connects
returns-clause-written_as_it_connects c = written_as_it_connects-is_wrong

pub returns-clause-writing_ended_while_connecting : goal.returns-clause-writing_ended_while_connecting
returns-clause-writing_ended_while_connecting c = writing_ended_while_connecting-is_wrong

pub returns-clause-held_byte_forgotten : goal.returns-clause-held_byte_forgotten
returns-clause-held_byte_forgotten c = held_byte_forgotten-is_wrong

pub returns-clause-held_byte_given : goal.returns-clause-held_byte_given
returns-clause-held_byte_given c = held_byte_given-is_wrong

pub returns-clause-bad_byte_met_without_room : goal.returns-clause-bad_byte_met_without_room
returns-clause-bad_byte_met_without_room c = bad_byte_met_without_room-is_wrong

pub returns-clause-filled_above_half : goal.returns-clause-filled_above_half
returns-clause-filled_above_half c = filled_above_half-is_wrong

pub returns-clause-wanted_at_the_read_mark : goal.returns-clause-wanted_at_the_read_mark
returns-clause-wanted_at_the_read_mark c = wanted_at_the_read_mark-is_wrong

pub returns-clause-wanted_with_an_empty_bucket : goal.returns-clause-wanted_with_an_empty_bucket
returns-clause-wanted_with_an_empty_bucket c = wanted_with_an_empty_bucket-is_wrong

pub returns-clause-read_while_suspended : goal.returns-clause-read_while_suspended
returns-clause-read_while_suspended c = read_while_suspended-is_wrong

pub returns-clause-fired_below_the_low_mark : goal.returns-clause-fired_below_the_low_mark
returns-clause-fired_below_the_low_mark c = fired_below_the_low_mark-is_wrong

pub returns-clause-timeouts_told_apart : goal.returns-clause-timeouts_told_apart
returns-clause-timeouts_told_apart c = timeouts_told_apart-is_wrong

pub returns-clause-fired_in_the_turn_of_its_ask : goal.returns-clause-fired_in_the_turn_of_its_ask
returns-clause-fired_in_the_turn_of_its_ask c = fired_in_the_turn_of_its_ask-is_wrong

pub returns-clause-link_past_the_64th : goal.returns-clause-link_past_the_64th
returns-clause-link_past_the_64th c = link_past_the_64th-is_wrong

pub returns-clause-link_past_the_last : goal.returns-clause-link_past_the_last
returns-clause-link_past_the_last c = link_past_the_last-is_wrong

pub returns-clause-time_past_the_last : goal.returns-clause-time_past_the_last
returns-clause-time_past_the_last c = time_past_the_last-is_wrong

pub returns-clause-nothing_got : goal.returns-clause-nothing_got
returns-clause-nothing_got c = nothing_got-is_wrong

pub returns-clause-more_than_the_room : goal.returns-clause-more_than_the_room
returns-clause-more_than_the_room c = more_than_the_room-is_wrong
