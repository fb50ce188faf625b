use Rattle.std.proofs.Common.{◌≡◌, ℕ, None, length}
use Rattle.relay_drive.specs.Seats.{hook_at}
use Rattle.relay_drive.proofs.seats.Seats.new.Given as goal

abbrev pub invariant-loop : goal.invariant-loop
invariant-loop g l = record {
  many : length l.gone.items ≡ l.counter;
  none : (n : ℕ) → hook_at l.gone.items n ≡ None;
}
