-- Each wrong event is refused.
use Rattle.std.specs.Prelude.{refl}
use Rattle.relay_rows.specs.Wrong.{IsWrong}
use Rattle.relay_rows.specs.WrongRows.{time_falls, turn_after_a_failed_poll, turn_within_a_turn, link_out_of_order, want_left_out}
use Rattle.relay_rows.specs.WrongRows.{mark_not_wanted, read_with_a_wrong_room, read_without_a_mark, write_offers_too_little, wait_too_long}
use Rattle.relay_rows.specs.WrongRows.{writing_ended_early, peer_gone_without_cause, done_too_early, output_of_a_freed_side_dropped}
use Rattle.relay_rows.specs.WrongRows.{freed_twice, live_end_closed, wrong_cause, fired_on_a_freed_side, write_reason_above_the_low_mark}
use Rattle.relay_rows.specs.WrongRows.{fired_without_a_reason, fire_after_a_stop, asked_by_another, refused_without_cause, one_ask_too_many}
use Rattle.relay_rows.proofs.IllegalLemmas.{refuses-is}

pub time_falls-is_wrong : IsWrong time_falls
time_falls-is_wrong = refuses-is time_falls.settings time_falls.before time_falls.event refl

pub turn_after_a_failed_poll-is_wrong : IsWrong turn_after_a_failed_poll
turn_after_a_failed_poll-is_wrong = refuses-is turn_after_a_failed_poll.settings turn_after_a_failed_poll.before
    turn_after_a_failed_poll.event refl

pub turn_within_a_turn-is_wrong : IsWrong turn_within_a_turn
turn_within_a_turn-is_wrong = refuses-is turn_within_a_turn.settings turn_within_a_turn.before turn_within_a_turn.event refl

pub link_out_of_order-is_wrong : IsWrong link_out_of_order
link_out_of_order-is_wrong = refuses-is link_out_of_order.settings link_out_of_order.before link_out_of_order.event refl

pub want_left_out-is_wrong : IsWrong want_left_out
want_left_out-is_wrong = refuses-is want_left_out.settings want_left_out.before want_left_out.event refl

pub mark_not_wanted-is_wrong : IsWrong mark_not_wanted
mark_not_wanted-is_wrong = refuses-is mark_not_wanted.settings mark_not_wanted.before mark_not_wanted.event refl

pub read_with_a_wrong_room-is_wrong : IsWrong read_with_a_wrong_room
read_with_a_wrong_room-is_wrong = refuses-is read_with_a_wrong_room.settings read_with_a_wrong_room.before read_with_a_wrong_room.event refl

pub read_without_a_mark-is_wrong : IsWrong read_without_a_mark
read_without_a_mark-is_wrong = refuses-is read_without_a_mark.settings read_without_a_mark.before read_without_a_mark.event refl

pub write_offers_too_little-is_wrong : IsWrong write_offers_too_little
write_offers_too_little-is_wrong = refuses-is write_offers_too_little.settings write_offers_too_little.before
    write_offers_too_little.event refl

pub wait_too_long-is_wrong : IsWrong wait_too_long
wait_too_long-is_wrong = refuses-is wait_too_long.settings wait_too_long.before wait_too_long.event refl

pub writing_ended_early-is_wrong : IsWrong writing_ended_early
writing_ended_early-is_wrong = refuses-is writing_ended_early.settings writing_ended_early.before writing_ended_early.event refl

pub peer_gone_without_cause-is_wrong : IsWrong peer_gone_without_cause
peer_gone_without_cause-is_wrong = refuses-is peer_gone_without_cause.settings peer_gone_without_cause.before
    peer_gone_without_cause.event refl

pub done_too_early-is_wrong : IsWrong done_too_early
done_too_early-is_wrong = refuses-is done_too_early.settings done_too_early.before done_too_early.event refl

pub output_of_a_freed_side_dropped-is_wrong : IsWrong output_of_a_freed_side_dropped
output_of_a_freed_side_dropped-is_wrong = refuses-is output_of_a_freed_side_dropped.settings output_of_a_freed_side_dropped.before
    output_of_a_freed_side_dropped.event refl

pub freed_twice-is_wrong : IsWrong freed_twice
freed_twice-is_wrong = refuses-is freed_twice.settings freed_twice.before freed_twice.event refl

pub live_end_closed-is_wrong : IsWrong live_end_closed
live_end_closed-is_wrong = refuses-is live_end_closed.settings live_end_closed.before live_end_closed.event refl

pub wrong_cause-is_wrong : IsWrong wrong_cause
wrong_cause-is_wrong = refuses-is wrong_cause.settings wrong_cause.before wrong_cause.event refl

pub fired_on_a_freed_side-is_wrong : IsWrong fired_on_a_freed_side
fired_on_a_freed_side-is_wrong = refuses-is fired_on_a_freed_side.settings fired_on_a_freed_side.before fired_on_a_freed_side.event refl

pub write_reason_above_the_low_mark-is_wrong : IsWrong write_reason_above_the_low_mark
write_reason_above_the_low_mark-is_wrong = refuses-is write_reason_above_the_low_mark.settings
    write_reason_above_the_low_mark.before write_reason_above_the_low_mark.event refl

pub fired_without_a_reason-is_wrong : IsWrong fired_without_a_reason
fired_without_a_reason-is_wrong = refuses-is fired_without_a_reason.settings fired_without_a_reason.before fired_without_a_reason.event refl

pub fire_after_a_stop-is_wrong : IsWrong fire_after_a_stop
fire_after_a_stop-is_wrong = refuses-is fire_after_a_stop.settings fire_after_a_stop.before fire_after_a_stop.event refl

pub asked_by_another-is_wrong : IsWrong asked_by_another
asked_by_another-is_wrong = refuses-is asked_by_another.settings asked_by_another.before asked_by_another.event refl

pub refused_without_cause-is_wrong : IsWrong refused_without_cause
refused_without_cause-is_wrong = refuses-is refused_without_cause.settings refused_without_cause.before refused_without_cause.event refl

pub one_ask_too_many-is_wrong : IsWrong one_ask_too_many
one_ask_too_many-is_wrong = refuses-is one_ask_too_many.settings one_ask_too_many.before one_ask_too_many.event refl
