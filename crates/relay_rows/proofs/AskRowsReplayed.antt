-- Each run of asks is accepted.
use Rattle.std.specs.Prelude.{refl}
use Rattle.relay_rows.specs.HookRows.{hook_in}
use Rattle.relay_rows.specs.Laws.{Goes}
use Rattle.relay_rows.specs.AskRows.{no_end_behind_a_free, hook_in_and_hex_out, end_and_fault_told, connected_and_written}
use Rattle.relay_rows.specs.AskRows.{two_timeouts_joined, low_mark_reached, writing_disabled_for_a_turn, asks_refused, triggered}
use Rattle.relay_rows.specs.AskRows.{limit_asked_for, hook_and_low_mark_in, hook_and_timeouts_out, two_hooks}
use Rattle.relay_rows.proofs.AcceptLemmas.{rests-went}

pub end_and_fault_told-goes : Goes two_hooks end_and_fault_told
end_and_fault_told-goes = rests-went two_hooks end_and_fault_told refl

pub connected_and_written-goes : Goes two_hooks connected_and_written
connected_and_written-goes = rests-went two_hooks connected_and_written refl

pub two_timeouts_joined-goes : Goes hook_and_timeouts_out two_timeouts_joined
two_timeouts_joined-goes = rests-went hook_and_timeouts_out two_timeouts_joined refl

pub low_mark_reached-goes : Goes hook_and_low_mark_in low_mark_reached
low_mark_reached-goes = rests-went hook_and_low_mark_in low_mark_reached refl

pub writing_disabled_for_a_turn-goes : Goes two_hooks writing_disabled_for_a_turn
writing_disabled_for_a_turn-goes = rests-went two_hooks writing_disabled_for_a_turn refl

pub asks_refused-goes : Goes hook_in asks_refused
asks_refused-goes = rests-went hook_in asks_refused refl

pub triggered-goes : Goes hook_in triggered
triggered-goes = rests-went hook_in triggered refl

pub limit_asked_for-goes : Goes hook_in limit_asked_for
limit_asked_for-goes = rests-went hook_in limit_asked_for refl

pub no_end_behind_a_free-goes : Goes hook_in_and_hex_out no_end_behind_a_free
no_end_behind_a_free-goes = rests-went hook_in_and_hex_out no_end_behind_a_free refl
