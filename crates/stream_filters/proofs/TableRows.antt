-- Tables of rows of places, tested row by row; and what is stored of a row's bytes.
use Rattle.std.proofs.Common.{◌≡◌, ℕ, zero, suc, ◌+◌, ◌*◌, ◌/◌, ◌<◌, ◌≤◌, Bool, true, false, ◌&&◌}
use Rattle.std.proofs.Common.{List, [], ◌∷◌, ◌++◌, length, take, drop, get_or, map, refl, sym, true≢false, ◌∙◌, ap, arith}
use Rattle.std.proofs.Common.{inl, inr, eqb, ltb, w8}
use Rattle.std.specs.Simd.Lanes.{put_chunk, Each1}
use Rattle.std.proofs.lemmas.Bool.{cases_lt, eqb-true, ltb-true}
use Rattle.std.proofs.lemmas.List.{ext_get_or, length-map, get_or-map, length-take-le, take-append-le, take_all, drop-append-le, drop_all}
use Rattle.std.proofs.Math.Seq.{take-add}
use Rattle.std.proofs.lemmas.Simd.{put_chunk_is, swz_l, SwzOk, SwzOk-from_below, get_or-swz_l_below, length-swz_l, Each1-get_or}

pub both-true : (a b : Bool) → (a && b) ≡ true → (a ≡ true) × (b ≡ true)
both-true true b h = (refl, h)
both-true false b h = absurd (true≢false (sym h))

-- are two lists the same
abbrev pub same : List ℕ → List ℕ → Bool
same [] [] = true
same [] (y ∷ ys) = false
same (x ∷ xs) [] = false
same (x ∷ xs) (y ∷ ys) = eqb x y && same xs ys

pub same-eq : (xs ys : List ℕ) → same xs ys ≡ true → xs ≡ ys
same-eq [] [] h = refl
same-eq [] (y ∷ ys) h = absurd (true≢false (sym h))
same-eq (x ∷ xs) [] h = absurd (true≢false (sym h))
same-eq (x ∷ xs) (y ∷ ys) h =
    let both = both-true (eqb x y) (same xs ys) h in
    let first = eqb-true x y both.0 in
    let rest = same-eq xs ys both.1 in
    λ i. first i ∷ rest i

-- are all numbers of a list below 16
abbrev pub all_low : List ℕ → Bool
all_low [] = true
all_low (x ∷ xs) = ltb x 16 && all_low xs

pub low-each : (xs : List ℕ) → all_low xs ≡ true → Each1 (λ j. j < 16) xs
low-each [] h = tt
low-each (x ∷ xs) h = let both = both-true (ltb x 16) (all_low xs) h in (ltb-true x 16 both.0, low-each xs both.1)

-- does each number below one pass a test
abbrev pub all_under : (ℕ → Bool) → ℕ → Bool
all_under test zero = true
all_under test (suc n) = test n && all_under test n

pub each_under : (test : ℕ → Bool) (n k : ℕ) → all_under test n ≡ true → k < n → test k ≡ true
each_under test zero k h l = absurd (omega arith)
each_under test (suc n) k h l =
    let both = both-true (test n) (all_under test n) h in
    elim (cases_lt k n) [ inl a ↦ each_under test n k both.1 a | inr a ↦ let e : n ≡ k = omega arith in ap test (sym e) ∙ both.0 ]

-- the bytes that 16 places below 16 pick
pub record Picks (xs js : List ℕ) : Type 0 where
  pub ok : SwzOk w8 16 16 0 js
  pub long : length (swz_l w8 16 xs 0 js) ≡ 16
  pub bytes : swz_l w8 16 xs 0 js ≡ map (λ j. get_or xs j 0) js

pub picks : (xs js : List ℕ) → length js ≡ 16 → Each1 (λ j. j < 16) js → Picks xs js
picks xs js long low =
    let many = length-swz_l w8 16 xs 0 js in
    record {
      ok = SwzOk-from_below w8 16 1 16 0 js (omega arith) (omega (arith, long)) low;
      long = many ∙ long;
      bytes = ext_get_or 0 _ _ (many ∙ sym (length-map js (λ j. get_or xs j 0))) (λ i l.
          let within : i < length js = omega (arith, l, many) in
          let first : 16 * ((0 + i) / 16) + get_or js i 0 ≡ get_or js i 0 = omega (arith, within, long) in
          get_or-swz_l_below w8 16 xs 0 js i within (Each1-get_or (λ j. j < 16) js i 0 within low)
          ∙ ap (λ j. get_or xs j 0) first ∙ sym (get_or-map (λ j. get_or xs j 0) js i 0 0 within));
    }

-- past the first list, of two
take-past : (i n : ℕ) (xs ys : List ℕ) → length xs ≡ i → take (i + n) (xs ++ ys) ≡ xs ++ take n ys
take-past i n xs ys long = take-add i n (xs ++ ys)
    ∙ (λ j. take-front j ++ take n (drop-front j))
  where
    take-front : take i (xs ++ ys) ≡ xs
    take-front = take-append-le i xs ys (omega (arith, long)) ∙ take_all i xs (omega (arith, long))

    drop-front : drop i (xs ++ ys) ≡ ys
    drop-front = drop-append-le i xs ys (omega (arith, long)) ∙ ap (λ zs. zs ++ ys) (drop_all i xs (omega (arith, long)))

-- the front of what is stored
pub stored-front : (i m n : ℕ) (xs ys : List ℕ) → m ≡ i + n → n ≤ length ys → i + length ys ≤ length xs →
    take m (put_chunk i xs ys) ≡ take i xs ++ take n ys
stored-front i m n xs ys sum some room =
    let front : length (take i xs) ≡ i = length-take-le i xs (omega (arith, room)) in
    (λ j. take (sum j) (put_chunk_is i xs ys room j))
    ∙ take-past i n (take i xs) (ys ++ drop (length ys) (drop i xs)) front
    ∙ ap (λ zs. take i xs ++ zs) (take-append-le n ys (drop (length ys) (drop i xs)) some)
