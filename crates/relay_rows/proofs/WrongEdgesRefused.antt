-- Each wrong event at an edge is refused.
use Rattle.std.specs.Prelude.{refl}
use Rattle.relay_rows.specs.Wrong.{IsWrong}
use Rattle.relay_rows.specs.WrongEdges.{link_past_the_64th, link_past_the_last, time_past_the_last, nothing_got, more_than_the_room}
use Rattle.relay_rows.specs.WrongEdges.{ended_side_wanted, written_as_it_connects, writing_ended_while_connecting, held_byte_forgotten}
use Rattle.relay_rows.specs.WrongEdges.{held_byte_given, bad_byte_met_without_room, filled_above_half, wanted_at_the_read_mark}
use Rattle.relay_rows.specs.WrongEdges.{wanted_with_an_empty_bucket, read_while_suspended, fired_below_the_low_mark, timeouts_told_apart}
use Rattle.relay_rows.specs.WrongEdges.{fired_in_the_turn_of_its_ask}
use Rattle.relay_rows.proofs.IllegalLemmas.{refuses-is}

pub ended_side_wanted-is_wrong : IsWrong ended_side_wanted
ended_side_wanted-is_wrong = refuses-is ended_side_wanted.settings ended_side_wanted.before ended_side_wanted.event refl

pub written_as_it_connects-is_wrong : IsWrong written_as_it_connects
written_as_it_connects-is_wrong = refuses-is written_as_it_connects.settings written_as_it_connects.before written_as_it_connects.event refl

pub writing_ended_while_connecting-is_wrong : IsWrong writing_ended_while_connecting
writing_ended_while_connecting-is_wrong = refuses-is writing_ended_while_connecting.settings writing_ended_while_connecting.before
    writing_ended_while_connecting.event refl

pub held_byte_forgotten-is_wrong : IsWrong held_byte_forgotten
held_byte_forgotten-is_wrong = refuses-is held_byte_forgotten.settings held_byte_forgotten.before held_byte_forgotten.event refl

pub held_byte_given-is_wrong : IsWrong held_byte_given
held_byte_given-is_wrong = refuses-is held_byte_given.settings held_byte_given.before held_byte_given.event refl

pub bad_byte_met_without_room-is_wrong : IsWrong bad_byte_met_without_room
bad_byte_met_without_room-is_wrong = refuses-is bad_byte_met_without_room.settings bad_byte_met_without_room.before
    bad_byte_met_without_room.event refl

pub filled_above_half-is_wrong : IsWrong filled_above_half
filled_above_half-is_wrong = refuses-is filled_above_half.settings filled_above_half.before filled_above_half.event refl

pub wanted_at_the_read_mark-is_wrong : IsWrong wanted_at_the_read_mark
wanted_at_the_read_mark-is_wrong = refuses-is wanted_at_the_read_mark.settings wanted_at_the_read_mark.before
    wanted_at_the_read_mark.event refl

pub wanted_with_an_empty_bucket-is_wrong : IsWrong wanted_with_an_empty_bucket
wanted_with_an_empty_bucket-is_wrong = refuses-is wanted_with_an_empty_bucket.settings wanted_with_an_empty_bucket.before
    wanted_with_an_empty_bucket.event refl

pub read_while_suspended-is_wrong : IsWrong read_while_suspended
read_while_suspended-is_wrong = refuses-is read_while_suspended.settings read_while_suspended.before read_while_suspended.event refl

pub fired_below_the_low_mark-is_wrong : IsWrong fired_below_the_low_mark
fired_below_the_low_mark-is_wrong = refuses-is fired_below_the_low_mark.settings fired_below_the_low_mark.before
    fired_below_the_low_mark.event refl

pub timeouts_told_apart-is_wrong : IsWrong timeouts_told_apart
timeouts_told_apart-is_wrong = refuses-is timeouts_told_apart.settings timeouts_told_apart.before timeouts_told_apart.event refl

pub fired_in_the_turn_of_its_ask-is_wrong : IsWrong fired_in_the_turn_of_its_ask
fired_in_the_turn_of_its_ask-is_wrong = refuses-is fired_in_the_turn_of_its_ask.settings fired_in_the_turn_of_its_ask.before
    fired_in_the_turn_of_its_ask.event refl

pub link_past_the_64th-is_wrong : IsWrong link_past_the_64th
link_past_the_64th-is_wrong = refuses-is link_past_the_64th.settings link_past_the_64th.before link_past_the_64th.event refl

pub link_past_the_last-is_wrong : IsWrong link_past_the_last
link_past_the_last-is_wrong = refuses-is link_past_the_last.settings link_past_the_last.before link_past_the_last.event refl

pub time_past_the_last-is_wrong : IsWrong time_past_the_last
time_past_the_last-is_wrong = refuses-is time_past_the_last.settings time_past_the_last.before time_past_the_last.event refl

pub nothing_got-is_wrong : IsWrong nothing_got
nothing_got-is_wrong = refuses-is nothing_got.settings nothing_got.before nothing_got.event refl

pub more_than_the_room-is_wrong : IsWrong more_than_the_room
more_than_the_room-is_wrong = refuses-is more_than_the_room.settings more_than_the_room.before more_than_the_room.event refl
