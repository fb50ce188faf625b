use Rattle.std.proofs.Common.{◌≡◌, ◌≤◌, ◌<◌, ◌-◌, ℕ, false}
use Rattle.mio_port.specs.ReadTurns.{in_turn}
use Rattle.mio_port.proofs.turn.first_in_turn.Given as goal

-- none was passed that takes turns
abbrev pub invariant-loop-number : goal.invariant-loop-number
invariant-loop-number l = record {
  reached : l.initial.at ≤ l.at;
  none : (n : ℕ) → l.initial.at ≤ n → n < l.at → in_turn l.wants l.bulky n ≡ false;
}

abbrev pub decreases-loop-number : goal.decreases-loop-number
decreases-loop-number l = l.bulky.len - l.at
