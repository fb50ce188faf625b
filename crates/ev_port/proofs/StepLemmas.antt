-- What is told goes on by nothing.
use Rattle.std.proofs.Common.{◌≡◌, ℕ, ◌+◌, ◌-◌, ◌^◌, ◌<◌, Bool, false, ◌||◌, List, [], ◌++◌, Option, Some, None, sym, ap, arith, append-nil}
use Rattle.std.proofs.Math.Bool.{or-false}
use Rattle.ev_types.specs.Told.{EndTold, Adds, Raises, Counts}
use Rattle.ev_port.specs.Counting.{counted}
use Rattle.ev_port.specs.EndSteps.{no_step, EndWent}

pub adds_none : (xs : List ℕ) → Some xs ≡ Some (xs ++ [])
adds_none xs = ap Some (sym (append-nil xs))

pub raises_none : (b : Bool) → Some b ≡ Some (b || false)
raises_none b = ap Some (sym (or-false b))

pub counts_none : (n : ℕ) → n + 0 < 2 ^ 64 - 1 → Some n ≡ Some (n + 0)
counts_none n h = ap Some (omega arith)

pub counts_more : (n more : ℕ) → n + more < 2 ^ 64 - 1 → Some (counted n more) ≡ Some (n + more)
counts_more n more h = ap Some (omega arith)

Adds-none : (o : Option (List ℕ)) → Adds o o []
Adds-none None = tt
Adds-none (Some xs) = adds_none xs

Raises-none : (o : Option Bool) → Raises o o false
Raises-none None = tt
Raises-none (Some b) = raises_none b

Counts-none : (o : Option ℕ) → Counts o o 0
Counts-none None = tt
Counts-none (Some n) = counts_none n

pub EndWent-none : (t : EndTold) → EndWent t t no_step
EndWent-none t = record {
  handed_out = Adds-none t.handed_out;
  taken = Adds-none t.taken;
  made_connected = Raises-none t.made_connected;
  ended = Raises-none t.ended;
  connected = Raises-none t.connected;
  write_ended = Raises-none t.write_ended;
  closed = Raises-none t.closed;
  reads = Counts-none t.reads;
  writes = Counts-none t.writes;
  checks = Counts-none t.checks;
  rooms = Counts-none t.rooms;
  offers = Counts-none t.offers;
  read_wants = Counts-none t.read_wants;
  write_wants = Counts-none t.write_wants;
  read_marks = Counts-none t.read_marks;
  write_marks = Counts-none t.write_marks;
}
