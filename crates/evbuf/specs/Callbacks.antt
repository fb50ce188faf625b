-- The size callbacks of a buffer: what each has summed, and whose report comes next.
use Rattle.std.specs.Prelude.{ℕ, ◌+◌, ◌-◌, ◌^◌, ◌==◌, ◌&&◌, min, nat_lt, if◌then◌else◌, Bool, true, Option, Some, None, is_some, List, []}
use Rattle.std.specs.Prelude.{◌∷◌, map, filter, not}
use Rattle.std.specs.List.{list_any}
use Rattle.std.specs.Option.{option_or}
use Rattle.evbuf.specs.declared.callback.SizeCallback.{SizeCallback}
use Rattle.evbuf.specs.declared.callback.Report.{Report}

-- the size callbacks of a buffer, in the order in which they were added
abbrev pub Callbacks : Type 0
Callbacks = List SizeCallback

-- a callback has a report to make where one of its sums isn't 0
abbrev pub waits : SizeCallback → Bool
waits callback = nat_lt 0 (callback.added + callback.deleted)

-- a sum that stays at 2^64 - 1
abbrev pub capped : ℕ → ℕ
capped n = min n (2 ^ 64 - 1)

-- A callback after a change from a length, by bytes that came and bytes that went. While enabled it adds the change
-- to its sums, and the first change that it sums leaves the length before it. A change of no bytes is none.
abbrev pub after_change : ℕ → ℕ → ℕ → SizeCallback → SizeCallback
after_change before came went callback =
    if callback.enabled && nat_lt 0 (came + went)
    then record callback {
      before = (if waits callback then callback.before else before);
      added = capped (callback.added + came);
      deleted = capped (callback.deleted + went);
    }
    else callback

-- all callbacks of a buffer after such a change
abbrev pub all_after_change : ℕ → ℕ → ℕ → Callbacks → Callbacks
all_after_change before came went callbacks = map (after_change before came went) callbacks

-- a new callback: enabled, with nothing summed
abbrev pub new_callback : ℕ → SizeCallback
new_callback its_number = record { number = its_number; enabled = true; before = 0; added = 0; deleted = 0 }

-- a callback with a number is there
abbrev pub has_callback : ℕ → Callbacks → Bool
has_callback cb callbacks = list_any (λ callback. callback.number == cb) callbacks

-- the callbacks without the one of a number
abbrev pub without : ℕ → Callbacks → Callbacks
without cb callbacks = filter (λ callback. not (callback.number == cb)) callbacks

-- a callback, enabled or not as said where it has the number; its sums stay
abbrev pub enabled_at : ℕ → Bool → SizeCallback → SizeCallback
enabled_at cb on callback = if callback.number == cb then record callback { enabled = on } else callback

-- the callbacks, of which the one of a number is enabled or not, as said
abbrev pub with_enabled : ℕ → Bool → Callbacks → Callbacks
with_enabled cb on callbacks = map (enabled_at cb on) callbacks

-- the report of a callback: its number, the length before the first summed change, and the sums
abbrev pub report_of : SizeCallback → Report
report_of callback =
    record { cb = callback.number; old = callback.before; added = callback.added; deleted = callback.deleted }

-- a callback that has reported: nothing is summed
abbrev pub reported : SizeCallback → SizeCallback
reported callback = record callback { before = 0; added = 0; deleted = 0 }

-- the newest callback that has a report to make, or none
abbrev pub newest_waiting : Callbacks → Option SizeCallback
newest_waiting [] = None
newest_waiting (callback ∷ newer) = option_or (newest_waiting newer) (if waits callback then Some callback else None)

-- the callbacks after the newest one that had a report to make has made it
abbrev pub after_report : Callbacks → Callbacks
after_report [] = []
after_report (callback ∷ newer) =
    if is_some (newest_waiting newer) then callback ∷ after_report newer
    else ((if waits callback then reported callback else callback) ∷ newer)
