-- Each run of marks and of what is enabled is accepted.
use Rattle.std.specs.Prelude.{refl}
use Rattle.relay_rows.specs.Laws.{Goes}
use Rattle.relay_rows.specs.MarkRows.{marks_asked_for, write_low_mark_reached, timers_in_order, enabled_behind_the_end, reading_disabled}
use Rattle.relay_rows.specs.MarkRows.{hook_and_low_mark_out, hook_at_in, hooks_of_two_links}
use Rattle.relay_rows.proofs.AcceptLemmas.{rests-went}

pub marks_asked_for-goes : Goes hook_at_in marks_asked_for
marks_asked_for-goes = rests-went hook_at_in marks_asked_for refl

pub write_low_mark_reached-goes : Goes hook_and_low_mark_out write_low_mark_reached
write_low_mark_reached-goes = rests-went hook_and_low_mark_out write_low_mark_reached refl

pub timers_in_order-goes : Goes hooks_of_two_links timers_in_order
timers_in_order-goes = rests-went hooks_of_two_links timers_in_order refl

pub enabled_behind_the_end-goes : Goes hook_at_in enabled_behind_the_end
enabled_behind_the_end-goes = rests-went hook_at_in enabled_behind_the_end refl

pub reading_disabled-goes : Goes hook_at_in reading_disabled
reading_disabled-goes = rests-went hook_at_in reading_disabled refl
