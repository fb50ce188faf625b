-- Blocks of which the next vector was written.
use Rattle.std.proofs.Common.{◌≡◌, ℕ, zero, suc, ◌+◌, ◌*◌, ◌%◌, ◌^◌, ◌-◌, ◌≤◌, Bool, true, false, not, cond, ltb, leb, ◌&&◌, List, []}
use Rattle.std.proofs.Common.{◌∷◌, ◌++◌, length, take, map, replicate, refl, sym, ap, ◌∙◌, arith, w8}
use Rattle.std.specs.Prelude.{nat_lt, nat_eq}
use Rattle.std.specs.List.{list_all}
use Rattle.std.specs.Simd.Lanes.{zip2, sel_l, mask_l, top, chunk, put_chunk}
use Rattle.std.proofs.lemmas.Bool.{and_parts}
use Rattle.std.proofs.lemmas.Bool.Decides.{nat_tests}
use Rattle.std.proofs.lemmas.List.{length-map, length-take-le}
use Rattle.std.proofs.lemmas.List.Folds.{list_all-append}
use Rattle.std.proofs.lemmas.Simd.{length-chunk, take_more_put_chunk, tops_compared, mask_l-mod, zip2_splat_left}
use Rattle.std.proofs.Math.Seq.{take-add}
use Rattle.filter_model.specs.Filter.{hex_out, hex_in, is_hex, hex_value}
use Rattle.filter_model.proofs.FilterLemmas.{hex_out-append}
use Rattle.stream_filters.proofs.PartLemmas.{length-hex_out}
use Rattle.stream_filters.proofs.HexLaneLemmas.{pair_values, pair_values-digits, sel_lt}

-- the digits of sixteen bytes more
pub digits-vector : (bytes block digits : List ℕ) (at : ℕ) → at + 16 ≤ length bytes → length block ≡ 2 * length bytes →
    take (2 * at) block ≡ hex_out (take at bytes) → digits ≡ hex_out (chunk at 16 bytes) →
    take (2 * (at + 16)) (put_chunk (2 * at) block digits) ≡ hex_out (take (at + 16) bytes)
digits-vector bytes block digits at within places was is =
    let piece = chunk at 16 bytes in
    let long : length digits ≡ 32 = ap length is ∙ length-hex_out piece ∙ ap (λ n. 2 * n) (length-chunk at 16 bytes within) in
    take_more_put_chunk (2 * at) block digits (2 * (at + 16)) (omega (arith, long)) (omega (arith, within, places))
    ∙ (λ i. was i ++ is i)
    ∙ sym (hex_out-append (take at bytes) piece)
    ∙ ap hex_out (sym (take-add at 16 bytes))

-- thirty-two bytes more
vector-more : (digits : List ℕ) (at : ℕ) → take (2 * (at + 16)) digits ≡ take (2 * at) digits ++ chunk (2 * at) 32 digits
vector-more digits at =
    let n : 2 * (at + 16) ≡ 2 * at + 32 = omega arith in
    ap (λ m. take m digits) n ∙ take-add (2 * at) 32 digits

all-more : (digits : List ℕ) (at : ℕ) →
    list_all is_hex (take (2 * (at + 16)) digits) ≡ (list_all is_hex (take (2 * at) digits) && list_all is_hex (chunk (2 * at) 32 digits))
all-more digits at =
    ap (list_all is_hex) (vector-more digits at) ∙ list_all-append is_hex (take (2 * at) digits) (chunk (2 * at) 32 digits)

pair_values-append : (n : ℕ) (xs ys : List ℕ) → length xs ≡ 2 * n → pair_values (xs ++ ys) ≡ pair_values xs ++ pair_values ys
pair_values-append zero [] ys many = refl
pair_values-append zero (x ∷ xs) ys many = absurd (omega (arith, many))
pair_values-append (suc n) [] ys many = refl
pair_values-append (suc n) (x ∷ []) ys many = absurd (omega (arith, many))
pair_values-append (suc n) (x ∷ y ∷ xs) ys many =
    ap (λ z. (hex_value x * 16 % 256 + hex_value y) % 256 ∷ z) (pair_values-append n xs ys (omega (arith, many)))

-- what thirty-two digits more spell
pub spelled-vector : (digits block bytes : List ℕ) (at : ℕ) → 2 * at + 32 ≤ length digits → length digits ≡ 2 * length block →
    length bytes ≡ 16 →
    (list_all is_hex (take (2 * at) digits) ≡ true → take at block ≡ hex_in (take (2 * at) digits)) →
    (list_all is_hex (chunk (2 * at) 32 digits) ≡ true → bytes ≡ hex_in (chunk (2 * at) 32 digits)) →
    list_all is_hex (take (2 * (at + 16)) digits) ≡ true →
    take (at + 16) (put_chunk at block bytes) ≡ hex_in (take (2 * (at + 16)) digits)
spelled-vector digits block bytes at within places long was is all =
    let front = take (2 * at) digits in
    let piece = chunk (2 * at) 32 digits in
    let both = and_parts (list_all is_hex front) (list_all is_hex piece) (sym (all-more digits at) ∙ all) in
    let many : length front ≡ 2 * at = length-take-le (2 * at) digits (omega (arith, within)) in
    take_more_put_chunk at block bytes (at + 16) (omega (arith, long)) (omega (arith, within, places))
    ∙ (λ i. (was both.0 ∙ sym (pair_values-digits front both.0)) i ++ (is both.1 ∙ sym (pair_values-digits piece both.1)) i)
    ∙ sym (pair_values-append at front piece many)
    ∙ ap pair_values (sym (vector-more digits at))
    ∙ pair_values-digits (take (2 * (at + 16)) digits) all

-- ---- the greatest numbers of each lane

lt-greater : (a b : ℕ) → nat_lt (cond (ltb a b) b a) 16 ≡ (nat_lt a 16 && nat_lt b 16)
lt-greater a b = grind (arith, nat_tests)

regroup : (a b c d : Bool) → ((a && b) && (c && d)) ≡ ((a && c) && (b && d))
regroup true true c d = refl
regroup true false true d = refl
regroup true false false d = refl
regroup false b c d = refl

abbrev small_all : List ℕ → Bool
small_all = list_all (λ x. nat_lt x 16)

small-greater : (xs ys : List ℕ) → length xs ≡ length ys → small_all (sel_l (zip2 ltb xs ys) ys xs) ≡ (small_all xs && small_all ys)
small-greater [] [] same = refl
small-greater [] (y ∷ ys) same = absurd (omega (arith, same))
small-greater (x ∷ xs) [] same = absurd (omega (arith, same))
small-greater (x ∷ xs) (y ∷ ys) same =
    (λ i. lt-greater x y i && small-greater xs ys (let n : length xs ≡ length ys = omega (arith, same) in n) i)
    ∙ regroup (nat_lt x 16) (nat_lt y 16) (small_all xs) (small_all ys)

-- all digits so far are ones where no lane's greatest number is 16 or more
pub worst-vector : (digits worst values : List ℕ) (at : ℕ) → length worst ≡ 32 → length values ≡ 32 →
    list_all (λ x. nat_lt x 16) worst ≡ list_all is_hex (take (2 * at) digits) →
    list_all (λ x. nat_lt x 16) values ≡ list_all is_hex (chunk (2 * at) 32 digits) →
    list_all (λ x. nat_lt x 16) (sel_lt worst values values worst) ≡ list_all is_hex (take (2 * (at + 16)) digits)
worst-vector digits worst values at m n was is =
    ap (λ ms. small_all (sel_l ms values worst)) (tops_compared w8 ltb worst values)
    ∙ small-greater worst values (m ∙ sym n)
    ∙ (λ i. was i && is i)
    ∙ sym (all-more digits at)

mask_none : (bs : List Bool) → nat_eq (mask_l bs) 0 ≡ list_all not bs
mask_none [] = refl
mask_none (b ∷ bs) = one b (mask_l bs) ∙ ap (λ z. not b && z) (mask_none bs)
  where
    one : (b : Bool) (m : ℕ) → nat_eq (cond b 1 0 + 2 * m) 0 ≡ (not b && nat_eq m 0)
    one true m = grind (arith, nat_tests)
    one false m = grind (arith, nat_tests)

not_16 : (xs : List ℕ) → list_all not (map (λ x. leb 16 x) xs) ≡ small_all xs
not_16 [] = refl
not_16 (x ∷ xs) = λ i. (let e : not (leb 16 x) ≡ nat_lt x 16 = grind (arith, nat_tests) in e) i && not_16 xs i

-- no bit of the mask of the numbers from 16 on
pub mask_small : (v : List ℕ) → length v ≡ 32 →
    nat_eq (mask_l (map (top 7) (zip2 (λ a b. cond (leb a b) (2 ^ 8 - 1) 0) (replicate 32 16) v)) % 2 ^ 64) 0
    ≡ list_all (λ x. nat_lt x 16) v
mask_small v long =
    let lanes = tops_compared w8 leb (replicate 32 16) v ∙ zip2_splat_left leb 16 32 v long in
    ap (λ ms. nat_eq (mask_l ms % 2 ^ 64) 0) lanes
    ∙ ap (λ m. nat_eq m 0) (mask_l-mod (map (λ x. leb 16 x) v) 64 (omega (arith, long, length-map v (λ x. leb 16 x))))
    ∙ mask_none (map (λ x. leb 16 x) v)
    ∙ not_16 v
