use Rattle.std.proofs.Common.{◌≡◌, ◌≤◌, length, drop, None}
use Rattle.evbuf.specs.Callbacks.{newest_waiting}
use Rattle.evbuf.proofs.callback_list.newest.Given as goal

abbrev pub invariant-loop-waiting : goal.invariant-loop-waiting
invariant-loop-waiting l = record {
  there : l.waiting ≤ length l.items;
  behind : newest_waiting (drop l.waiting l.items) ≡ None;
}

abbrev pub decreases-loop-waiting : goal.decreases-loop-waiting
decreases-loop-waiting l = l.waiting
