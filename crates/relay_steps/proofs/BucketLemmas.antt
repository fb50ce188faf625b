-- The running number of a bucket is the least over all turns.
use Rattle.std.proofs.Common.{◌≡◌, ℕ, ◌+◌, ◌-◌, ◌*◌, ◌/◌, ◌<◌, ◌≤◌, min, List, [], ◌∷◌, sym, ◌∙◌, ap, arith}
use Rattle.std.proofs.lemmas.List.Sums.{sum_by-cons}
use Rattle.std.proofs.Math.Nat.{div-mul-le_self, mul-add}
use Rattle.std.proofs.lemmas.Nat.{le-div}
use Rattle.token_bucket.specs.Spells.{ticks, Spell, moved_in, since_each, least_with}
use Rattle.token_bucket.specs.Levels.{Limit}
use Rattle.relay_state.specs.Running.{short_after, Ascend}
use Rattle.relay_steps.specs.BucketLaws.{RunningIsLeast}

pub div-later : (a b k : ℕ) → 0 < k → a ≤ b → a / k ≤ b / k
div-later a b k pos le = le-div (a / k) b k pos (let q = div-mul-le_self a k in omega (arith, q))

pub ascend-le : (from : ℕ) (xs : List Spell) (time : ℕ) → Ascend from xs time → from ≤ time
ascend-le from [] time h = omega (arith, h)
ascend-le from (x ∷ xs) time h = let k = ascend-le x.time xs time h.1 in let a = h.0 in omega (arith, a, k)

-- ticks add up
pub ticks-join : (tick a b c : ℕ) → 0 < tick → a ≤ b → b ≤ c → ticks tick a c ≡ ticks tick a b + ticks tick b c
ticks-join tick a b c pos ab bc = let p = div-later a b tick pos ab in let q = div-later b c tick pos bc in omega (arith, p, q)

pub gain-join : (l : Limit) (a b c : ℕ) → 0 < l.tick → a ≤ b → b ≤ c →
    l.rate * ticks l.tick a c ≡ l.rate * ticks l.tick a b + l.rate * ticks l.tick b c
gain-join l a b c pos ab bc =
    ap (λ n. l.rate * n) (ticks-join l.tick a b c pos ab bc) ∙ mul-add l.rate (ticks l.tick a b) (ticks l.tick b c)

no_ticks : (tick a : ℕ) → ticks tick a a ≡ 0
no_ticks tick a = omega arith

no_gain : (l : Limit) (a : ℕ) → l.rate * ticks l.tick a a ≡ 0
no_gain l a = ap (λ n. l.rate * n) (no_ticks l.tick a) ∙ omega arith

-- The least, with the burst and all that came in place of what was held: by induction over the turns.
least-is : (l : Limit) (from short : ℕ) (xs : List Spell) (time : ℕ) → 0 < l.tick → Ascend from xs time →
    least_with (l.burst + l.rate * ticks l.tick from time - (short + moved_in xs)) (since_each l time xs)
    ≡ l.burst - short_after l from short xs
least-is l from short [] time pos h =
    let a : l.rate * ticks l.tick from time ≡ 0 = ap (λ z. l.rate * ticks l.tick from z) (sym h) ∙ no_gain l from in
    omega (arith, a)
least-is l from short (x ∷ xs) time pos h =
    let gain : ℕ = l.rate * ticks l.tick from x.time in
    let rest : ℕ = l.rate * ticks l.tick x.time time in
    let total = gain-join l from x.time time pos h.0 (ascend-le x.time xs time h.1) in
    let sum = sum_by-cons (λ (y : Spell). y.moved) x xs in
    let step : min (l.burst + l.rate * ticks l.tick from time - (short + moved_in (x ∷ xs))) (l.burst + rest - moved_in (x ∷ xs))
    ≡ l.burst + rest - ((short - gain + x.moved) + moved_in xs) = omega (arith, total, sum) in
    ap (λ n. least_with n (since_each l time xs)) step
    ∙ least-is l x.time (short - gain + x.moved) xs time pos h.1

pub running_is_least : RunningIsLeast
running_is_least l set_at held later time pos within h =
    let first : held + l.rate * ticks l.tick set_at time - moved_in later
    ≡ l.burst + l.rate * ticks l.tick set_at time - ((l.burst - held) + moved_in later) = omega (arith, within) in
    ap (λ n. least_with n (since_each l time later)) first ∙ least-is l set_at (l.burst - held) later time pos h
