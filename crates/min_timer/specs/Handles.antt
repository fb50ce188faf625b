-- What becomes of handles over any calls: the number that is handed out next was never handed out before, and a handle
-- whose timer is gone stays without one.
use Rattle.std.specs.Prelude.{◌≡◌, ℕ, ◌+◌, ◌≤◌, List, [], ◌∷◌, None}
use Rattle.min_timer.specs.Queue.{TimerQueue, number_of, timer_of, without, with_timer, after_due, with_delay}
use Rattle.min_timer.specs.declared.key.TimerKey.{TimerKey}

-- a call that changed the timers
pub data TimerCall : Type 0 where
  Added : ℕ → ℕ → ℕ → TimerCall  -- a deadline, a key, and the slot of the handle that was handed out
  Cancelled : TimerKey → TimerCall  -- the timer of this handle, if one waited
  TookDue : ℕ → TimerCall  -- the first timer, if it was due at this moment
  Registered : ℕ → TimerCall  -- this delay

-- the handle of the next timer, in this slot
abbrev pub next_handle : TimerQueue → ℕ → TimerKey
next_handle q slot = record { slot = slot; stamp = q.last + 1 }

-- what a call leaves
abbrev pub after : TimerCall → TimerQueue → TimerQueue
after (TimerCall.Added deadline key slot) q =
    record q { pending = with_timer (record { deadline = deadline; key = key; handle = next_handle q slot }) q.pending; last = q.last + 1 }
after (TimerCall.Cancelled handle) q = record q { pending = without handle q.pending }
after (TimerCall.TookDue now) q = record q { pending = after_due now q.pending }
after (TimerCall.Registered delay) q = record q { delays = with_delay delay q.delays }

-- what calls in a row leave
abbrev pub after_all : List TimerCall → TimerQueue → TimerQueue
after_all [] q = q
after_all (change ∷ rest) q = after_all rest (after change q)

-- what calls leave of new timers
abbrev pub reached : List TimerCall → TimerQueue
reached changes = after_all changes (record { pending = []; last = 0; delays = [] })

-- Whatever calls were made, the handle that is handed out next is that of no timer that waits.
abbrev pub HandlesAreNew : Type 0
HandlesAreNew = (changes : List TimerCall) (slot : ℕ) → timer_of (next_handle (reached changes) slot) (reached changes).pending ≡ None

-- Whatever calls were made, a handle that was handed out and whose timer fired or was cancelled is that of no timer after any
-- further calls.
abbrev pub HandlesStayGone : Type 0
HandlesStayGone = (before more : List TimerCall) (handle : TimerKey) → number_of handle ≤ (reached before).last →
    timer_of handle (reached before).pending ≡ None → timer_of handle (after_all more (reached before)).pending ≡ None
