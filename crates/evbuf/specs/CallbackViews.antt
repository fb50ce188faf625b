-- How the size callbacks of a buffer are kept.
use Rattle.std.specs.Prelude.{◌≡◌, ◌≤◌, ◌^◌, Option, Some, None, Box, [], drop, vec_len}
use Rattle.std.specs.Box.{box_value}
use Rattle.evbuf.specs.Callbacks.{newest_waiting}
use Rattle.evbuf.specs.Evbuffered.{Called}
use Rattle.evbuf.specs.declared.callback_list.CallbackList.TheInside.{Inside}

abbrev pub called : Inside → Called
called list = record { callbacks = list.items.items; next = list.next }

-- none has a report to make from a place on, and the next number is at most 2^32
abbrev pub IsCallbackList : Inside → Type 0
IsCallbackList list = (list.waiting ≤ vec_len list.items) × (newest_waiting (drop list.waiting list.items.items) ≡ None) × (list.next ≤ 2 ^ 32)

-- without a list there is no callback, and the next one gets the number 0
abbrev pub made_called : {Z : Type 0} → Option (Box Called Z) → Called
made_called None = record { callbacks = []; next = 0 }
made_called (Some list) = box_value list
