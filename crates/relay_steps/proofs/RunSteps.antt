-- The running number of a bucket, step by step.
use Rattle.std.proofs.Common.{◌≡◌, ℕ, zero, suc, ◌+◌, ◌-◌, ◌<◌, ◌≤◌, List, [], ◌∷◌, ◌++◌, length, drop, refl, sym, ◌∙◌, ap, arith}
use Rattle.std.proofs.lemmas.List.{drop-append-le}
use Rattle.token_bucket.specs.Spells.{Spell, Beat, Begins, Moves, moved_first, spells}
use Rattle.token_bucket.specs.Levels.{Limit}
use Rattle.relay_state.specs.Running.{refilled, short_after, last_of, short_now, time_now, Ascend}

pub short-append : (l : Limit) (from short : ℕ) (xs ys : List Spell) →
    short_after l from short (xs ++ ys) ≡ short_after l (last_of from xs) (short_after l from short xs) ys
short-append l from short [] ys = refl
short-append l from short (x ∷ xs) ys = short-append l x.time (refilled l from x.time short + x.moved) xs ys

-- Spells

first-begins : (bs : List Beat) (ms : ℕ) → moved_first (bs ++ Begins ms ∷ []) ≡ moved_first bs
first-begins [] ms = refl
first-begins (Begins t ∷ bs) ms = refl
first-begins (Moves n ∷ bs) ms = ap (λ z. n + z) (first-begins bs ms)

pub spells-begins : (bs : List Beat) (ms : ℕ) → spells (bs ++ Begins ms ∷ []) ≡ spells bs ++ record { time = ms; moved = 0 } ∷ []
spells-begins [] ms = refl
spells-begins (Begins t ∷ bs) ms = let a = first-begins bs ms in let b = spells-begins bs ms in λ i. record { time = t; moved = a i } ∷ b i
spells-begins (Moves n ∷ bs) ms = spells-begins bs ms

abbrev first : List Spell → ℕ
first [] = 0
first (x ∷ xs) = x.moved

-- bytes count in the last turn
abbrev pub added : ℕ → List Spell → List Spell
added n [] = []
added n (x ∷ []) = record x { moved = x.moved + n } ∷ []
added n (x ∷ y ∷ xs) = x ∷ added n (y ∷ xs)

first-moves : (t n : ℕ) (bs : List Beat) →
    record { time = t; moved = moved_first (bs ++ Moves n ∷ []) } ∷ spells (bs ++ Moves n ∷ [])
    ≡ added n (record { time = t; moved = moved_first bs } ∷ spells bs)
first-moves t n [] = let e : n + 0 ≡ 0 + n = omega arith in λ i. record { time = t; moved = e i } ∷ []
first-moves t n (Begins u ∷ bs) = ap (λ z. record { time = t; moved = 0 } ∷ z) (first-moves u n bs)
first-moves t n (Moves m ∷ bs) =
    let h = first-moves t n bs in shift (moved_first bs) (moved_first (bs ++ Moves n ∷ [])) (spells bs) (spells (bs ++ Moves n ∷ [])) h
  where
    shift : (a b : ℕ) (xs ys : List Spell) → record { time = t; moved = b } ∷ ys ≡ added n (record { time = t; moved = a } ∷ xs) →
        record { time = t; moved = m + b } ∷ ys ≡ added n (record { time = t; moved = m + a } ∷ xs)
    shift a b [] ys h =
        let p : b ≡ a + n = ap first h in
        let q : ys ≡ [] = ap (drop 1) h in
        let r : m + b ≡ m + a + n = omega (arith, p) in
        λ i. record { time = t; moved = r i } ∷ q i
    shift a b (x ∷ xs) ys h =
        let p : b ≡ a = ap first h in
        let q : ys ≡ added n (x ∷ xs) = ap (drop 1) h in
        λ i. record { time = t; moved = m + p i } ∷ q i

pub spells-moves : (n : ℕ) (bs : List Beat) → spells (bs ++ Moves n ∷ []) ≡ added n (spells bs)
spells-moves n [] = refl
spells-moves n (Begins t ∷ bs) = first-moves t n bs
spells-moves n (Moves m ∷ bs) = spells-moves n bs

pub drop-added : (n k : ℕ) (xs : List Spell) → drop k (added n xs) ≡ added n (drop k xs)
drop-added n zero xs = refl
drop-added n (suc k) [] = refl
drop-added n (suc zero) (x ∷ []) = refl
drop-added n (suc (suc k)) (x ∷ []) = refl
drop-added n (suc k) (x ∷ y ∷ xs) = drop-added n k (y ∷ xs)

pub short-added : (l : Limit) (from short n : ℕ) (x : Spell) (xs : List Spell) →
    short_after l from short (added n (x ∷ xs)) ≡ short_after l from short (x ∷ xs) + n
short-added l from short n x [] = omega arith
short-added l from short n x (y ∷ xs) = short-added l x.time (refilled l from x.time short + x.moved) n y xs

pub some-left : (k : ℕ) (xs : List Spell) → k < length xs → (x : Spell) × (ys : List Spell) × (drop k xs ≡ x ∷ ys)
some-left zero [] h = absurd (omega (arith, h))
some-left zero (x ∷ xs) h = (x, xs, refl)
some-left (suc k) [] h = absurd (omega (arith, h))
some-left (suc k) (x ∷ xs) h = some-left k xs (omega (arith, h))

pub added-none : (xs : List Spell) → added 0 xs ≡ xs
added-none [] = refl
added-none (x ∷ []) = let e : x.moved + 0 ≡ x.moved = omega arith in λ i. record x { moved = e i } ∷ []
added-none (x ∷ y ∷ xs) = ap (λ z. x ∷ z) (added-none (y ∷ xs))

pub drop-begins : (turn ms : ℕ) (bs : List Beat) → turn ≤ length (spells bs) →
    drop turn (spells (bs ++ Begins ms ∷ [])) ≡ drop turn (spells bs) ++ record { time = ms; moved = 0 } ∷ []
drop-begins turn ms bs le = ap (drop turn) (spells-begins bs ms) ∙ drop-append-le turn (spells bs) (record { time = ms; moved = 0 } ∷ []) le

module _ (l : Limit) (set_at held turn : ℕ) (bs : List Beat) where
  pub turn-step : (ms : ℕ) → turn ≤ length (spells bs) →
      short_now l set_at held turn (bs ++ Begins ms ∷ []) ≡ refilled l (time_now set_at turn bs) ms (short_now l set_at held turn bs)
  turn-step ms le =
      ap (short_after l set_at (l.burst - held)) (drop-begins turn ms bs le)
      ∙ short-append l set_at (l.burst - held) (drop turn (spells bs)) (record { time = ms; moved = 0 } ∷ [])
      ∙ omega arith

  pub move-step : (n : ℕ) → turn < length (spells bs) →
      short_now l set_at held turn (bs ++ Moves n ∷ []) ≡ short_now l set_at held turn bs + n
  move-step n lt =
      let left = some-left turn (spells bs) lt in
      ap (λ z. short_after l set_at (l.burst - held) (drop turn z)) (spells-moves n bs)
      ∙ ap (short_after l set_at (l.burst - held)) (drop-added n turn (spells bs) ∙ ap (added n) left.2)
      ∙ short-added l set_at (l.burst - held) n left.0 left.1
      ∙ ap (λ z. short_after l set_at (l.burst - held) z + n) (sym left.2)

pub none-step : (bs : List Beat) → spells (bs ++ Moves 0 ∷ []) ≡ spells bs
none-step bs = spells-moves 0 bs ∙ added-none (spells bs)

pub ascend-added : (n from : ℕ) (xs : List Spell) (time : ℕ) → Ascend from xs time → Ascend from (added n xs) time
ascend-added n from [] time h = h
ascend-added n from (x ∷ []) time h = h
ascend-added n from (x ∷ y ∷ xs) time h = (h.0, ascend-added n x.time (y ∷ xs) time h.1)

pub ascend-push : (from : ℕ) (xs : List Spell) (time ms : ℕ) → time ≤ ms → Ascend from xs time →
    Ascend from (xs ++ record { time = ms; moved = 0 } ∷ []) ms
ascend-push from [] time ms le h = (omega (arith, le, h), refl)
ascend-push from (x ∷ xs) time ms le h = (h.0, ascend-push x.time xs time ms le h.1)

pub ascend-last : (from : ℕ) (xs : List Spell) (time : ℕ) → Ascend from xs time → last_of from xs ≡ time
ascend-last from [] time h = h
ascend-last from (x ∷ xs) time h = ascend-last x.time xs time h.1
