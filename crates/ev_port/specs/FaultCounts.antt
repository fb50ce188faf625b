-- Counts of faults: a count never falls, and a fault is told only where it rose. Which call counts is said by the
-- trait that has the count.
use Rattle.std.specs.Prelude.{◌≡◌, ℕ, ◌+◌, ◌-◌, ◌^◌, ◌≤◌, Bool, true, false, min}

-- The count rose. One that stands at the end of its type is also said to have risen.
abbrev pub Rose : ℕ → ℕ → Type 0
Rose before now = min (before + 1) (2 ^ 64 - 1) ≤ now

-- A call that is answered by a fault raises the count, and every other call leaves it as it is.
pub record Counted (before now : ℕ) (is_fault : Bool) : Type 0 where
  pub later : before ≤ now
  pub fault : is_fault ≡ true → Rose before now
  pub none : is_fault ≡ false → now ≡ before
