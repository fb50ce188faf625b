use Rattle.relay_rows.proofs.HookRowsReplayed.{reading_is_activity-goes, held_byte_dropped-goes, frees_another_link-goes}
use Rattle.relay_rows.proofs.HookRowsReplayed.{frees_the_peer_twice-goes, read_timeout-goes, timer_fires-goes, hook_stops-is_stopped}
use Rattle.relay_rows.proofs.runs.runs_with_hooks_are_legal.Goals as goal

pub returns-clause-held_byte_dropped : goal.returns-clause-held_byte_dropped
returns-clause-held_byte_dropped c = held_byte_dropped-goes

pub returns-clause-frees_another_link : goal.returns-clause-frees_another_link
returns-clause-frees_another_link c = frees_another_link-goes

pub returns-clause-frees_the_peer_twice : goal.returns-clause-frees_the_peer_twice
returns-clause-frees_the_peer_twice c = frees_the_peer_twice-goes

pub returns-clause-read_timeout : goal.returns-clause-read_timeout
returns-clause-read_timeout c = read_timeout-goes

pub returns-clause-timer_fires : goal.returns-clause-timer_fires
returns-clause-timer_fires c = timer_fires-goes

pub returns-clause-hook_stops : goal.returns-clause-hook_stops
returns-clause-hook_stops c = hook_stops-is_stopped

pub returns-clause-reading_is_activity : goal.returns-clause-reading_is_activity
returns-clause-reading_is_activity c = reading_is_activity-goes
