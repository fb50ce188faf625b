-- Each run with hooks or timeouts is accepted.
use Rattle.std.specs.Prelude.{refl}
use Rattle.relay_rows.specs.Laws.{Goes, IsStoppedBy}
use Rattle.relay_rows.specs.HookRows.{reading_is_activity, held_byte_dropped, frees_another_link, frees_the_peer_twice, read_timeout}
use Rattle.relay_rows.specs.HookRows.{timer_fires, hook_stops, hook_and_lf_in, hook_in, three_hooks, timeout_in}
use Rattle.relay_rows.proofs.AcceptLemmas.{rests-went, rests-stopped}

pub held_byte_dropped-goes : Goes hook_and_lf_in held_byte_dropped
held_byte_dropped-goes = rests-went hook_and_lf_in held_byte_dropped refl

pub frees_another_link-goes : Goes three_hooks frees_another_link
frees_another_link-goes = rests-went three_hooks frees_another_link refl

pub frees_the_peer_twice-goes : Goes hook_in frees_the_peer_twice
frees_the_peer_twice-goes = rests-went hook_in frees_the_peer_twice refl

pub read_timeout-goes : Goes timeout_in read_timeout
read_timeout-goes = rests-went timeout_in read_timeout refl

pub reading_is_activity-goes : Goes timeout_in reading_is_activity
reading_is_activity-goes = rests-went timeout_in reading_is_activity refl

pub timer_fires-goes : Goes hook_in timer_fires
timer_fires-goes = rests-went hook_in timer_fires refl

pub hook_stops-is_stopped : IsStoppedBy 0 hook_in hook_stops
hook_stops-is_stopped = rests-stopped 0 hook_in hook_stops refl
