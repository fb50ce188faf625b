use Rattle.std.proofs.Common.{◌≡◌, ◌≤◌, ◌-◌, ℕ, max}
use Rattle.number_set.proofs.set.NumberSet.lengthen.Given as goal

abbrev pub invariant-loop-self : goal.invariant-loop-self
invariant-loop-self l = record {
  no_shorter : l.fn.self.len ≤ l.self.len;
  no_longer : l.self.len ≤ max l.fn.self.len l.len;
  members : (n : ℕ) → l.self.has n ≡ l.fn.self.has n;
}

abbrev pub decreases-loop-self : goal.decreases-loop-self
decreases-loop-self l = l.len - l.self.len
