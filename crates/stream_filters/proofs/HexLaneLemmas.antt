-- What vectors hold when bytes go to hex digits and back.
use Rattle.std.proofs.Common.{◌≡◌, ℕ, zero, suc, ◌+◌, ◌-◌, ◌*◌, ◌/◌, ◌%◌, ◌^◌, ◌<◌, ◌≤◌, Bool, true, false, not, cond, ltb, leb, eqb, ◌&&◌}
use Rattle.std.proofs.Common.{if◌then◌else◌, List, [], ◌∷◌, ◌++◌, length, get_or, map, replicate, refl, sym, ap, subst, ◌∙◌, arith}
use Rattle.std.proofs.Common.{w8, bit_and, bit_or, Fits}
use Rattle.std.specs.Prelude.{nat_lt}
use Rattle.std.specs.List.{list_all}
use Rattle.std.specs.Simd.Lanes.{Each1, zip2, sel_l, top, pick_l}
use Rattle.std.proofs.lemmas.Bool.{and_parts}
use Rattle.std.proofs.lemmas.Bool.Decides.{nat_tests}
use Rattle.std.proofs.lemmas.List.{length-map}
use Rattle.std.proofs.lemmas.Nat.{and_mask}
use Rattle.std.proofs.lemmas.Simd.{swz_l, get_or-swz_l_below, zip2_splat, pick_l_whole, Each1-zip2}
use Rattle.std.proofs.lemmas.Simd.{Each2-splat, Each1-all, Each1-weaker}
use Rattle.filter_model.specs.Filter.{hex_out, hex_in, hex_digit, is_hex, hex_value}

-- ---- a test that holds at each number below another

abbrev holds_below : ℕ → (ℕ → Bool) → Bool
holds_below zero p = true
holds_below (suc n) p = p n && holds_below n p

test_below : (n : ℕ) (p : ℕ → Bool) → holds_below n p ≡ true → (x : ℕ) → x < n → p x ≡ true
test_below zero p all x below = absurd (omega (arith, below))
test_below (suc n) p all x below =
    let parts = and_parts (p n) (holds_below n p) all in
    go (eqb x n) refl parts.0 (test_below n p parts.1 x)
  where
    go : (b : Bool) → eqb x n ≡ b → p n ≡ true → (x < n → p x ≡ true) → p x ≡ true
    go true same last others = ap p (let e : x ≡ n = grind (arith, nat_tests, same) in e) ∙ last
    go false apart last others = others (let e : x < n = grind (arith, nat_tests, apart, below) in e)

-- ---- digits by a table

abbrev pub table : List ℕ
table = 48 ∷ 49 ∷ 50 ∷ 51 ∷ 52 ∷ 53 ∷ 54 ∷ 55 ∷ 56 ∷ 57 ∷ 97 ∷ 98 ∷ 99 ∷ 100 ∷ 101 ∷ 102 ∷ []

digit_at : (j : ℕ) → j < 16 → get_or table j 0 ≡ hex_digit j
digit_at j small =
    let same : eqb (get_or table j 0) (hex_digit j) ≡ true = test_below 16 (λ j. eqb (get_or table j 0) (hex_digit j)) refl j small in
    grind (arith, nat_tests, same)

pub digits_are : (i : ℕ) (js : List ℕ) → i + length js ≤ 16 → Each1 (λ j. j < 16) js → swz_l w8 16 table i js ≡ map hex_digit js
digits_are i [] long all = refl
digits_are i (j ∷ js) long all =
    let place : 16 * ((i + 0) / 16) + j ≡ j = omega (arith, long) in
    let digit = get_or-swz_l_below w8 16 table i (j ∷ js) 0 (omega arith) all.0 ∙ ap (λ n. get_or table n 0) place ∙ digit_at j all.0 in
    let rest = digits_are (suc i) js (omega (arith, long)) all.1 in
    λ k. digit k ∷ rest k

-- the four high bits, and the four low bits, are a place in the table
pub high_small : (v : List ℕ) → Each1 (Fits w8) v → Each1 (λ x. x < 16) (zip2 (λ a b. a / 2 ^ b) v (replicate 16 4))
high_small v fits =
    Each1-zip2 (λ a b. a / 2 ^ b) (λ x. x < 16) v (replicate 16 4)
    (Each2-splat (λ a b. a / 2 ^ b < 16) v 16 4 (Each1-weaker (Fits w8) (λ a. a / 2 ^ 4 < 16) (λ a h. omega (arith, h.fits)) v fits))

pub low_small : (v : List ℕ) → Each1 (λ x. x < 16) (zip2 bit_and v (replicate 16 15))
low_small v =
    Each1-zip2 bit_and (λ x. x < 16) v (replicate 16 15)
    (Each2-splat (λ a b. bit_and a b < 16) v 16 15 (Each1-all (λ a. bit_and a 15 < 16) (λ a. omega (arith, and_mask a 4)) v))

abbrev weave : List ℕ
weave = 0 ∷ 16 ∷ 1 ∷ 17 ∷ 2 ∷ 18 ∷ 3 ∷ 19 ∷ 4 ∷ 20 ∷ 5 ∷ 21 ∷ 6 ∷ 22 ∷ 7 ∷ 23 ∷ 8 ∷ 24 ∷ 9 ∷ 25 ∷ 10 ∷ 26 ∷ 11 ∷ 27 ∷ 12 ∷ 28 ∷ 13 ∷ 29
    ∷ 14 ∷ 30 ∷ 15 ∷ 31 ∷ []

-- high and low digits in turn are the digits of each byte
pub woven : (v high low : List ℕ) → length v ≡ 16 → high ≡ map hex_digit (zip2 (λ a b. a / 2 ^ b) v (replicate 16 4)) →
    low ≡ map hex_digit (zip2 bit_and v (replicate 16 15)) → pick_l 0 (high ++ low) weave ≡ hex_out v
woven v high low long h l =
    let first : high ≡ map hex_digit (map (λ a. a / 16) v) = h ∙ ap (map hex_digit) (zip2_splat (λ a b. a / 2 ^ b) v 16 4 long) in
    let rests : map (λ a. bit_and a 15) v ≡ map (λ a. a % 16) v = λ i. map (λ a. and_mask a 4 i) v in
    let second : low ≡ map hex_digit (map (λ a. a % 16) v) = l ∙ ap (map hex_digit) (zip2_splat bit_and v 16 15 long ∙ rests) in
    (λ i. pick_l 0 (first i ++ second i) weave)
    ∙ subst (λ v. pick_l 0 (map hex_digit (map (λ a. a / 16) v) ++ map hex_digit (map (λ a. a % 16) v)) weave ≡ hex_out v)
    (pick_l_whole 0 v 16 long) refl

-- ---- numbers by arithmetic

-- what `select` takes where a < b, and else
abbrev choice : ℕ → ℕ → ℕ → ℕ → ℕ
choice a b x y = cond (leb 128 (cond (ltb a b) 255 0)) x y

abbrev numeral : ℕ → ℕ
numeral x = let s = (x + 198) % 256 in ((choice s 6 6 s + 250) % 256 + 16) % 256

abbrev letter : ℕ → ℕ
letter x = let s = (bit_or x 32 + 159) % 256 in (choice s 245 s 245 + 10) % 256

abbrev pub lane_value : ℕ → ℕ
lane_value x = choice (numeral x) (letter x) (numeral x) (letter x)

-- whether a number is what a lane should hold for a byte, where that is a digit and where it is none
abbrev suits : Bool → ℕ → ℕ → Bool
suits true value lane = eqb lane value && ltb lane 16
suits false value lane = not (ltb lane 16)

record Tells (x : ℕ) : Type 0 where
  small : nat_lt (lane_value x) 16 ≡ is_hex x
  value : is_hex x ≡ true → lane_value x ≡ hex_value x

lane_tells : (x : ℕ) → Fits w8 x → Tells x
lane_tells x fits = go (is_hex x) refl (test_below 256 (λ x. suits (is_hex x) (hex_value x) (lane_value x)) refl x fits.fits)
  where
    go : (b : Bool) → is_hex x ≡ b → suits b (hex_value x) (lane_value x) ≡ true → Tells x
    go true hex t =
        let parts = and_parts (eqb (lane_value x) (hex_value x)) (ltb (lane_value x) 16) t in
        record { small = parts.1 ∙ sym hex; value = λ h. grind (arith, nat_tests, parts.0) }
    go false other t = record { small = not_true (ltb (lane_value x) 16) t ∙ sym other; value = λ h. absurd (cc) }
      where
        not_true : (b : Bool) → not b ≡ true → b ≡ false
        not_true true h = absurd (cc)
        not_true false h = refl

small_lanes : (xs : List ℕ) → Each1 (Fits w8) xs → list_all (λ x. nat_lt x 16) (map lane_value xs) ≡ list_all is_hex xs
small_lanes [] fits = refl
small_lanes (x ∷ xs) fits = λ i. (lane_tells x fits.0).small i && small_lanes xs fits.1 i

lane_values : (xs : List ℕ) → Each1 (Fits w8) xs → list_all is_hex xs ≡ true → map lane_value xs ≡ map hex_value xs
lane_values [] fits all = refl
lane_values (x ∷ xs) fits all =
    let parts = and_parts (is_hex x) (list_all is_hex xs) all in
    λ i. (lane_tells x fits.0).value parts.0 i ∷ lane_values xs fits.1 parts.1 i

-- ---- what `values_of` holds

abbrev lt_mask : ℕ → ℕ → ℕ
lt_mask a b = cond (ltb a b) (2 ^ 8 - 1) 0

abbrev pub sel_lt : List ℕ → List ℕ → List ℕ → List ℕ → List ℕ
sel_lt us vs xs ys = sel_l (map (top 7) (zip2 lt_mask us vs)) xs ys

abbrev plus : ℕ → List ℕ → List ℕ
plus k v = zip2 (λ a b. (a + b) % 256) v (replicate 32 k)

abbrev minus : ℕ → List ℕ → List ℕ
minus k v = zip2 (λ a b. (a + (256 - b)) % 256) v (replicate 32 k)

abbrev pub numerals : List ℕ → List ℕ
numerals v = let s = plus 198 v in minus 240 (minus 6 (sel_lt s (replicate 32 6) (replicate 32 6) s))

abbrev pub letters : List ℕ → List ℕ
letters v =
    let s = minus 97 (zip2 bit_or v (replicate 32 32)) in
    plus 10 (sel_lt s (replicate 32 245) s (replicate 32 245))

abbrev pub values : List ℕ → List ℕ
values v = sel_lt (numerals v) (letters v) (numerals v) (letters v)

values_are : (v : List ℕ) → length v ≡ 32 → values v ≡ map lane_value v
values_are v long = subst (λ v. values v ≡ map lane_value v) (pick_l_whole 0 v 32 long) refl

pub values_small : (v : List ℕ) → length v ≡ 32 → Each1 (Fits w8) v → list_all (λ x. nat_lt x 16) (values v) ≡ list_all is_hex v
values_small v long fits = ap (list_all (λ x. nat_lt x 16)) (values_are v long) ∙ small_lanes v fits

pub values_tell : (v : List ℕ) → length v ≡ 32 → Each1 (Fits w8) v → list_all is_hex v ≡ true → values v ≡ map hex_value v
values_tell v long fits all = values_are v long ∙ lane_values v fits all

-- ---- bytes by pairs

abbrev pub pair_values : List ℕ → List ℕ
pair_values [] = []
pair_values (x ∷ []) = []
pair_values (x ∷ y ∷ ys) = (hex_value x * 16 % 256 + hex_value y) % 256 ∷ pair_values ys

digit_small : (x : ℕ) → is_hex x ≡ true → hex_value x < 16
digit_small x hex = grind (arith, nat_tests, hex)

pub pair_values-digits : (xs : List ℕ) → list_all is_hex xs ≡ true → pair_values xs ≡ hex_in xs
pair_values-digits [] all = refl
pair_values-digits (x ∷ []) all = refl
pair_values-digits (x ∷ y ∷ ys) all =
    let first = and_parts (is_hex x) (is_hex y && list_all is_hex ys) all in
    let second = and_parts (is_hex y) (list_all is_hex ys) first.1 in
    let value : (hex_value x * 16 % 256 + hex_value y) % 256 ≡ 16 * hex_value x + hex_value y =
    (let a = digit_small x first.0 in let b = digit_small y second.0 in omega (arith, a, b)) in
    (λ i. value i ∷ pair_values-digits ys second.1 i)
    ∙ sym (λ i. if first.0 i && second.0 i then (16 * hex_value x + hex_value y) ∷ hex_in ys else [])

abbrev evens : List ℕ
evens = 0 ∷ 2 ∷ 4 ∷ 6 ∷ 8 ∷ 10 ∷ 12 ∷ 14 ∷ 16 ∷ 18 ∷ 20 ∷ 22 ∷ 24 ∷ 26 ∷ 28 ∷ 30 ∷ []

abbrev odds : List ℕ
odds = 1 ∷ 3 ∷ 5 ∷ 7 ∷ 9 ∷ 11 ∷ 13 ∷ 15 ∷ 17 ∷ 19 ∷ 21 ∷ 23 ∷ 25 ∷ 27 ∷ 29 ∷ 31 ∷ []

abbrev pub spelled : List ℕ → List ℕ
spelled v =
    let high = zip2 (λ a b. a * b % 256) (pick_l 0 (v ++ v) evens) (replicate 16 16) in
    zip2 (λ a b. (a + b) % 256) high (pick_l 0 (v ++ v) odds)

pub spelled-digits : (v digits : List ℕ) → length v ≡ 32 → list_all is_hex digits ≡ true → v ≡ map hex_value digits →
    spelled v ≡ hex_in digits
spelled-digits v digits long all told =
    let many : length digits ≡ 32 = sym (length-map digits hex_value) ∙ ap length (sym told) ∙ long in
    ap spelled told
    ∙ subst (λ ds. spelled (map hex_value ds) ≡ pair_values ds) (pick_l_whole 0 digits 32 many) refl
    ∙ pair_values-digits digits all
