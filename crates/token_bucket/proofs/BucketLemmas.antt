-- What a bucket keeps in one direction, over lists of calls.
use Rattle.std.proofs.Common.{◌≡◌, ◌∙◌, inl, inr, ℕ, zero, suc, ◌+◌, ◌-◌, ◌*◌, ◌/◌, ◌<◌, ◌≤◌, min, List, [], ◌∷◌, refl, sym, ap, subst}
use Rattle.std.proofs.Common.{arith}
use Rattle.std.specs.Prelude.{max, if◌then◌else◌}
use Rattle.std.proofs.lemmas.Bool.Decides.{eqb_tells}
use Rattle.std.proofs.lemmas.List.Sums.{sum_by-cons}
use Rattle.std.proofs.Math.Nat.{mul-le-mul_left, mul-add}
use Rattle.token_bucket.specs.declared.level.Level.{Level}
use Rattle.token_bucket.specs.Levels.{Limit, with_ticks, refilled, less, held, owed}
use Rattle.token_bucket.specs.Spells.{Spell, moved_in, since_each, least_with, Beat, Begins, Moves, moved_first, spells, moved_over}
use Rattle.token_bucket.specs.BucketLaws.{Kept, after_beat, after_beats, kept_at, LevelIsLeast, ChangeKeepsLess, WithinAllowance}
use Rattle.token_bucket.specs.BucketLaws.{LetsThroughAtMost}

-- how short a bucket is once so many ticks began
abbrev pub short_after : Limit → ℕ → ℕ → ℕ
short_after l n short = short - l.rate * n

pub none_comes : (rate n : ℕ) → n ≡ 0 → rate * n ≡ 0
none_comes rate n h = ap (λ z. rate * z) h ∙ omega arith

-- A refill, where no tick began or some did: the bucket is less short by what came.
pub refilled-is : (l : Limit) (n short : ℕ) →
    refilled l n (record { burst = l.burst; short = short }) ≡ record { burst = l.burst; short = short_after l n short }
refilled-is l n short = elim (eqb_tells n 0) [
  | inl k ↦
      let none = none_comes l.rate n k.1 in
      let same : short ≡ short - l.rate * n = omega (arith, none) in
      (λ i. if k.0 i then was else with_ticks l n was) ∙ (λ i. record { burst = l.burst; short = same i })
  | inr k ↦
      let less : (l.burst + short) - (l.burst + l.rate * n) ≡ short - l.rate * n = omega arith in
      (λ i. if k.0 i then was else with_ticks l n was) ∙ (λ i. record { burst = l.burst; short = less i })
]
  where
    was : Level
    was = record { burst = l.burst; short = short }

pub begins-is : (l : Limit) (tick short now : ℕ) → after_beat l (kept_at l tick short) (Begins now)
    ≡ kept_at l (max tick (now / l.tick)) (short_after l (now / l.tick - tick) short)
begins-is l tick short now =
    let e = refilled-is l (now / l.tick - tick) short in λ i. record { tick = max tick (now / l.tick); level = e i }

-- ticks are not taken back
pub tick-grows : (l : Limit) (x : Kept) (bs : List Beat) → x.tick ≤ (after_beats l x bs).tick
tick-grows l x [] = omega arith
tick-grows l x (Begins now ∷ bs) = let k = tick-grows l (after_beat l x (Begins now)) bs in omega (arith, k)
tick-grows l x (Moves n ∷ bs) = tick-grows l (after_beat l x (Moves n)) bs

-- the least of two numbers, of which one is counted from a refill
least-step : (l : Limit) (from short at last m : ℕ) → max from at ≤ last →
    min (l.burst + l.rate * (last - from) - (short + m)) (l.burst + l.rate * (last - at) - m)
    ≡ l.burst + l.rate * (last - max from at) - (short_after l (at - from) short + m)
least-step l from short at last m le = by (at - from) refl
  where
    by : (n : ℕ) → at - from ≡ n → min (l.burst + l.rate * (last - from) - (short + m)) (l.burst + l.rate * (last - at) - m)
        ≡ l.burst + l.rate * (last - max from at) - (short_after l (at - from) short + m)
    by zero e =
        let more : l.rate * (last - from) ≤ l.rate * (last - at) = mul-le-mul_left l.rate (omega (arith, e)) in
        let none = none_comes l.rate (at - from) e in
        let same : last - max from at ≡ last - from = omega (arith, e) in
        let rest : l.rate * (last - max from at) ≡ l.rate * (last - from) = ap (λ z. l.rate * z) same in
        omega (arith, more, none, rest)
    by (suc n) e =
        let split : last - from ≡ (at - from) + (last - at) = omega (arith, e, le) in
        let gain : l.rate * (last - from) ≡ l.rate * (at - from) + l.rate * (last - at) =
        ap (λ z. l.rate * z) split ∙ mul-add l.rate (at - from) (last - at) in
        let same : last - max from at ≡ last - at = omega (arith, e) in
        let rest : l.rate * (last - max from at) ≡ l.rate * (last - at) = ap (λ z. l.rate * z) same in
        omega (arith, gain, rest)

pub least-after : (l : Limit) (from short : ℕ) (bs : List Beat) (time : ℕ) →
    time / l.tick ≡ (after_beats l (kept_at l from short) bs).tick →
    least_with (l.burst + l.rate * (time / l.tick - from) - (short + (moved_first bs + moved_in (spells bs))))
    (since_each l time (spells bs))
    ≡ held (after_beats l (kept_at l from short) bs).level
least-after l from short [] time at =
    let none = none_comes l.rate (time / l.tick - from) (omega (arith, at)) in omega (arith, none)
least-after l from short (Moves n ∷ bs) time at =
    ap (λ z. least_with z (since_each l time (spells bs))) (omega arith) ∙ least-after l from (short + n) bs time at
least-after l from short (Begins now ∷ bs) time at =
    let is = begins-is l from short now in
    let on : after_beats l (kept_at l from short) (Begins now ∷ bs)
    ≡ after_beats l (kept_at l (max from (now / l.tick)) (short_after l (now / l.tick - from) short)) bs =
    ap (λ x. after_beats l x bs) is in
    let at_next = at ∙ ap (λ (x : Kept). x.tick) on in
    let grown = tick-grows l (kept_at l (max from (now / l.tick)) (short_after l (now / l.tick - from) short)) bs in
    let sum = sum_by-cons (λ (y : Spell). y.moved) (record { time = now; moved = moved_first bs }) (spells bs) in
    let front : 0 + moved_in (record { time = now; moved = moved_first bs } ∷ spells bs) ≡ moved_first bs + moved_in (spells bs) =
    omega (arith, sum) in
    let m : ℕ = moved_first bs + moved_in (spells bs) in
    let step = least-step l from short (now / l.tick) (time / l.tick) m (omega (arith, grown, at_next)) in
    ap (λ z. least_with z (since_each l time (spells bs)))
    ((λ i. min (l.burst + l.rate * (time / l.tick - from) - (short + front i))
    (l.burst + l.rate * (time / l.tick - now / l.tick) - sum i)) ∙ step)
    ∙ least-after l (max from (now / l.tick)) (short_after l (now / l.tick - from) short) bs time at_next
    ∙ ap (λ (x : Kept). held x.level) (sym on)

pub level-is_least : LevelIsLeast
level-is_least l set_at short bs time at =
    sym (ap (λ z. least_with z (since_each l time (spells bs))) (omega arith) ∙ least-after l set_at short bs time at)

pub change-keeps_less : ChangeKeepsLess
change-keeps_less l x = (omega arith, omega arith)

-- What is moved makes a bucket short, and a tick makes it less so by no more than the rate.
pub moved-short : (l : Limit) (from short : ℕ) (bs : List Beat) → short + moved_over bs
    ≤ (after_beats l (kept_at l from short) bs).level.short + l.rate * ((after_beats l (kept_at l from short) bs).tick - from)
moved-short l from short [] = omega arith
moved-short l from short (Moves n ∷ bs) = let k = moved-short l from (short + n) bs in omega (arith, k)
moved-short l from short (Begins now ∷ bs) =
    let to : ℕ = max from (now / l.tick) in
    let next : ℕ = short_after l (now / l.tick - from) short in
    let k = moved-short l to next bs in
    let grown = tick-grows l (kept_at l to next) bs in
    let last : ℕ = (after_beats l (kept_at l to next) bs).tick in
    let split : last - from ≡ (now / l.tick - from) + (last - to) = omega (arith, grown) in
    let gain : l.rate * (last - from) ≡ l.rate * (now / l.tick - from) + l.rate * (last - to) =
    ap (λ z. l.rate * z) split ∙ mul-add l.rate (now / l.tick - from) (last - to) in
    let all : short + moved_over bs ≤ (after_beats l (kept_at l to next) bs).level.short + l.rate * (last - from) =
    omega (arith, k, gain) in
    subst (λ (x : Kept). short + moved_over bs ≤ (after_beats l x bs).level.short + l.rate * ((after_beats l x bs).tick - from))
    (sym (begins-is l from short now)) all

-- A bucket that owes nothing owes nothing where no more is moved than it holds.
pub never-owes : (l : Limit) (from short : ℕ) (bs : List Beat) → short ≤ l.burst → WithinAllowance l (kept_at l from short) bs →
    (after_beats l (kept_at l from short) bs).level.short ≤ l.burst
never-owes l from short [] h w = h
never-owes l from short (Moves n ∷ bs) h w = let a = w.0 in never-owes l from (short + n) bs (omega (arith, a, h)) w.1
never-owes l from short (Begins now ∷ bs) h w =
    let is = begins-is l from short now in
    subst (λ (x : Kept). (after_beats l x bs).level.short ≤ l.burst) (sym is)
    (never-owes l (max from (now / l.tick)) (short_after l (now / l.tick - from) short) bs (omega (arith, h))
    (subst (λ (x : Kept). WithinAllowance l x bs) is w))

pub lets-through_at_most : LetsThroughAtMost
lets-through_at_most l tick short bs h w =
    let a = moved-short l tick short bs in
    let b = never-owes l tick short bs h w in
    omega (arith, a, b)
