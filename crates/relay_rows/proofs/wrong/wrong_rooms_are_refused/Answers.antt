use Rattle.relay_rows.proofs.WrongRowsRefused.{want_left_out-is_wrong, mark_not_wanted-is_wrong, read_with_a_wrong_room-is_wrong}
use Rattle.relay_rows.proofs.WrongRowsRefused.{read_without_a_mark-is_wrong, write_offers_too_little-is_wrong, wait_too_long-is_wrong}
use Rattle.relay_rows.proofs.wrong.wrong_rooms_are_refused.Goals as goal

pub returns-clause-want_left_out : goal.returns-clause-want_left_out
returns-clause-want_left_out c = want_left_out-is_wrong

pub returns-clause-mark_not_wanted : goal.returns-clause-mark_not_wanted
returns-clause-mark_not_wanted c = mark_not_wanted-is_wrong

pub returns-clause-read_with_a_wrong_room : goal.returns-clause-read_with_a_wrong_room
returns-clause-read_with_a_wrong_room c = read_with_a_wrong_room-is_wrong

pub returns-clause-read_without_a_mark : goal.returns-clause-read_without_a_mark
returns-clause-read_without_a_mark c = read_without_a_mark-is_wrong

pub returns-clause-write_offers_too_little : goal.returns-clause-write_offers_too_little
returns-clause-write_offers_too_little c = write_offers_too_little-is_wrong

pub returns-clause-wait_too_long : goal.returns-clause-wait_too_long
returns-clause-wait_too_long c = wait_too_long-is_wrong
