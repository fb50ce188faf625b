-- Each run of reasons, timers and limits that are set is accepted.
use Rattle.std.specs.Prelude.{refl}
use Rattle.relay_rows.specs.HookRows.{hook_in}
use Rattle.relay_rows.specs.Laws.{Goes, IsStoppedBy}
use Rattle.relay_rows.specs.ReasonRows.{suspended_without_members, hook_of_a_member, reasons_in_order, first_due_first_fired}
use Rattle.relay_rows.specs.ReasonRows.{asks_behind_a_stop, forgotten_with_the_side, timer_replaced_and_cancelled, timeout_asked_for}
use Rattle.relay_rows.specs.ReasonRows.{group_joined_and_left, limit_changed, hook_and_group, hook_and_limit, hook_out, two_links}
use Rattle.relay_rows.proofs.AcceptLemmas.{rests-went, rests-stopped}

pub reasons_in_order-goes : Goes hook_out reasons_in_order
reasons_in_order-goes = rests-went hook_out reasons_in_order refl

pub first_due_first_fired-goes : Goes two_links first_due_first_fired
first_due_first_fired-goes = rests-went two_links first_due_first_fired refl

pub asks_behind_a_stop-is_stopped : IsStoppedBy 1 two_links asks_behind_a_stop
asks_behind_a_stop-is_stopped = rests-stopped 1 two_links asks_behind_a_stop refl

pub forgotten_with_the_side-goes : Goes hook_in forgotten_with_the_side
forgotten_with_the_side-goes = rests-went hook_in forgotten_with_the_side refl

pub timer_replaced_and_cancelled-goes : Goes hook_in timer_replaced_and_cancelled
timer_replaced_and_cancelled-goes = rests-went hook_in timer_replaced_and_cancelled refl

pub timeout_asked_for-goes : Goes hook_in timeout_asked_for
timeout_asked_for-goes = rests-went hook_in timeout_asked_for refl

pub group_joined_and_left-goes : Goes hook_and_group group_joined_and_left
group_joined_and_left-goes = rests-went hook_and_group group_joined_and_left refl

pub suspended_without_members-goes : Goes hook_of_a_member suspended_without_members
suspended_without_members-goes = rests-went hook_of_a_member suspended_without_members refl

pub limit_changed-goes : Goes hook_and_limit limit_changed
limit_changed-goes = rests-went hook_and_limit limit_changed refl
