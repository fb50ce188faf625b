-- Timers by their handles.
use Rattle.std.proofs.Common.{◌≡◌, true}
use Rattle.std.proofs.lemmas.Bool.{and_parts, eqb-true}
use Rattle.min_timer.specs.Queue.{is_timer_of}
use Rattle.min_timer.specs.declared.key.TimerKey.{TimerKey}
use Rattle.min_timer.specs.declared.timer.Timer.{Timer}

-- the slot of a timer of the handle is the handle's
pub slot_of_handle : (handle : TimerKey) (x : Timer) → is_timer_of handle x ≡ true → x.handle.slot ≡ handle.slot
slot_of_handle handle x h = eqb-true x.handle.slot handle.slot (and_parts _ _ h).0

-- the stamp of a timer of the handle is the handle's
pub stamp_of_handle : (handle : TimerKey) (x : Timer) → is_timer_of handle x ≡ true → x.handle.stamp ≡ handle.stamp
stamp_of_handle handle x h = eqb-true x.handle.stamp handle.stamp (and_parts _ _ h).1
