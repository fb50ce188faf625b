-- What comes due before what is a strict order, and total among timers with stamps of their own.
use Rattle.std.proofs.Common.{◌≡◌, ◌≢◌, true, false, arith}
use Rattle.std.proofs.lemmas.Bool.Decides.{nat_tests}
use Rattle.min_timer.specs.Order.{is_earlier}
use Rattle.min_timer.specs.declared.timer.Timer.{Timer}

-- no timer comes before itself
pub earlier-irreflexive : (a : Timer) → is_earlier a a ≡ true → ⊥
earlier-irreflexive a h = grind (arith, nat_tests)

-- what comes before comes before what follows
pub earlier-trans : (a b c : Timer) → is_earlier a b ≡ true → is_earlier b c ≡ true → is_earlier a c ≡ true
earlier-trans a b c h k = grind (arith, nat_tests)

-- of two timers that come one before the other, the second does not come before the first
pub earlier-asym : (a b : Timer) → is_earlier a b ≡ true → is_earlier b a ≡ false
earlier-asym a b h = grind (arith, nat_tests)

-- what does not come before what doesn't come before a third does not come before that
pub not_earlier-trans : (a b c : Timer) → is_earlier a b ≡ false → is_earlier b c ≡ false → is_earlier a c ≡ false
not_earlier-trans a b c h k = grind (arith, nat_tests)

-- of two timers with different stamps one comes before the other
pub earlier-total : (a b : Timer) → a.handle.stamp ≢ b.handle.stamp → is_earlier a b ≡ false → is_earlier b a ≡ true
earlier-total a b differ h = grind (arith, nat_tests)
