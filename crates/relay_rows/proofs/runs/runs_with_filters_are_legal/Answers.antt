use Rattle.relay_rows.proofs.FilterRowsReplayed.{held_and_drained-goes, line_end_in_two_reads-goes, held_to_the_end-goes}
use Rattle.relay_rows.proofs.FilterRowsReplayed.{line_ends_added-goes, line_end_kept-goes, odd_digit-goes, no_digit-goes, held_back-goes}
use Rattle.relay_rows.proofs.FilterRowsReplayed.{read_mark_reached-goes}
use Rattle.relay_rows.proofs.runs.runs_with_filters_are_legal.Goals as goal

pub returns-clause-line_end_in_two_reads : goal.returns-clause-line_end_in_two_reads
returns-clause-line_end_in_two_reads c = line_end_in_two_reads-goes

pub returns-clause-held_to_the_end : goal.returns-clause-held_to_the_end
returns-clause-held_to_the_end c = held_to_the_end-goes

pub returns-clause-line_ends_added : goal.returns-clause-line_ends_added
returns-clause-line_ends_added c = line_ends_added-goes

pub returns-clause-line_end_kept : goal.returns-clause-line_end_kept
returns-clause-line_end_kept c = line_end_kept-goes

pub returns-clause-odd_digit : goal.returns-clause-odd_digit
returns-clause-odd_digit c = odd_digit-goes

pub returns-clause-no_digit : goal.returns-clause-no_digit
returns-clause-no_digit c = no_digit-goes

pub returns-clause-held_back : goal.returns-clause-held_back
returns-clause-held_back c = held_back-goes

pub returns-clause-read_mark_reached : goal.returns-clause-read_mark_reached
returns-clause-read_mark_reached c = read_mark_reached-goes

pub returns-clause-held_and_drained : goal.returns-clause-held_and_drained
returns-clause-held_and_drained c = held_and_drained-goes
