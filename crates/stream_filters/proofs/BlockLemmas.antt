-- Blocks of digits.
use Rattle.std.proofs.Common.{◌≡◌, ℕ, ◌+◌, ◌*◌, ◌%◌, ◌/◌, ◌<◌, Bool, true, false, ◌&&◌, if◌then◌else◌, List, [], ◌∷◌, ◌++◌}
use Rattle.std.proofs.Common.{length, take, refl, sym, ◌∙◌, ap, arith, append_assoc}
use Rattle.std.specs.Prelude.{max, nat_lt, slice_index, slice_set}
use Rattle.std.specs.List.{list_all}
use Rattle.std.proofs.lemmas.Bool.{and_parts}
use Rattle.std.proofs.lemmas.Bool.Decides.{nat_tests}
use Rattle.std.proofs.lemmas.List.{take_more, take_more_set, length-set, length-take-le}
use Rattle.std.proofs.lemmas.List.Folds.{list_all-append}
use Rattle.filter_model.specs.Filter.{hex_out, hex_in, hex_digit, is_hex, hex_value}
use Rattle.stream_filters.specs.Parts.{value_or_none}
use Rattle.stream_filters.proofs.PartLemmas.{hex_out-more}
use Rattle.stream_filters.proofs.PairLemmas.{hex_in-push, all_pairs}

-- the digits of one byte more
pub digits-next : (bytes block : List ℕ) (at : ℕ) → at < length bytes → length block ≡ 2 * length bytes →
    take (2 * at) block ≡ hex_out (take at bytes) → let x = slice_index bytes at in
    take (2 * (at + 1)) (slice_set (slice_set block (2 * at) (hex_digit (x / 16))) (2 * at + 1) (hex_digit (x % 16)))
    ≡ hex_out (take (at + 1) bytes)
digits-next bytes block at within places was =
    let x = slice_index bytes at in
    let p = hex_digit (x / 16) in
    let q = hex_digit (x % 16) in
    let one = slice_set block (2 * at) p in
    let n : 2 * (at + 1) ≡ 2 * at + 1 + 1 = omega arith in
    ap (λ m. take m (slice_set one (2 * at + 1) q)) n
    ∙ take_more_set one (2 * at + 1) q (omega (arith, within, places, length-set block (2 * at) p))
    ∙ ap (λ z. z ++ q ∷ []) (take_more_set block (2 * at) p (omega (arith, within, places)))
    ∙ append_assoc (take (2 * at) block) (p ∷ []) (q ∷ [])
    ∙ ap (λ z. z ++ p ∷ q ∷ []) was
    ∙ sym (hex_out-more bytes at within)

-- two bytes more
two-more : (digits : List ℕ) (at : ℕ) → 2 * at + 1 < length digits →
    take (2 * (at + 1)) digits ≡ take (2 * at) digits ++ slice_index digits (2 * at) ∷ slice_index digits (2 * at + 1) ∷ []
two-more digits at within =
    let n : 2 * (at + 1) ≡ 2 * at + 1 + 1 = omega arith in
    let x = slice_index digits (2 * at) in
    let y = slice_index digits (2 * at + 1) in
    ap (λ m. take m digits) n ∙ take_more digits (2 * at + 1) 0 within
    ∙ ap (λ z. z ++ y ∷ []) (take_more digits (2 * at) 0 (omega (arith, within)))
    ∙ append_assoc (take (2 * at) digits) (x ∷ []) (y ∷ [])

value_small : (x : ℕ) → is_hex x ≡ true → hex_value x < 16
value_small x hex = grind (arith, nat_tests, hex)

-- a byte is a digit where it stands for a number below 16
small_is_hex : (x : ℕ) → nat_lt (value_or_none x) 16 ≡ is_hex x
small_is_hex x = go (is_hex x) refl
  where
    go : (b : Bool) → is_hex x ≡ b → nat_lt (if b then hex_value x else 255) 16 ≡ b
    go true h = (let s = value_small x h in grind (arith, nat_tests, s))
    go false h = refl

lt-max : (a b n : ℕ) → nat_lt (max a b) n ≡ (nat_lt a n && nat_lt b n)
lt-max a b n = grind (arith, nat_tests)

-- the greatest number of two bytes more is below 16 where both are digits too
pub worst-next : (digits : List ℕ) (at worst : ℕ) → 2 * at + 1 < length digits → nat_lt worst 16 ≡ list_all is_hex (take (2 * at) digits) →
    nat_lt (max (max worst (value_or_none (slice_index digits (2 * at)))) (value_or_none (slice_index digits (2 * at + 1)))) 16
    ≡ list_all is_hex (take (2 * (at + 1)) digits)
worst-next digits at worst within was =
    let x = slice_index digits (2 * at) in
    let y = slice_index digits (2 * at + 1) in
    lt-max (max worst (value_or_none x)) (value_or_none y) 16
    ∙ (λ i. lt-max worst (value_or_none x) 16 i && small_is_hex y i)
    ∙ (λ i. (was i && small_is_hex x i) && is_hex y)
    ∙ regroup (list_all is_hex (take (2 * at) digits)) (is_hex x) (is_hex y)
    ∙ sym (list_all-append is_hex (take (2 * at) digits) (x ∷ y ∷ []))
    ∙ ap (list_all is_hex) (sym (two-more digits at within))
  where
    regroup : (a b c : Bool) → ((a && b) && c) ≡ (a && (b && (c && true)))
    regroup true true true = refl
    regroup true true false = refl
    regroup true false c = refl
    regroup false b c = refl

-- what two digits more spell
pub spelled-next : (digits block : List ℕ) (at v : ℕ) → 2 * at + 1 < length digits → length digits ≡ 2 * length block →
    (list_all is_hex (take (2 * at) digits) ≡ true → take at block ≡ hex_in (take (2 * at) digits)) →
    v ≡ (value_or_none (slice_index digits (2 * at)) * 16 % 256 + value_or_none (slice_index digits (2 * at + 1))) % 256 →
    list_all is_hex (take (2 * (at + 1)) digits) ≡ true →
    take (at + 1) (slice_set block at v) ≡ hex_in (take (2 * (at + 1)) digits)
spelled-next digits block at v within places was is all =
    let x = slice_index digits (2 * at) in
    let y = slice_index digits (2 * at + 1) in
    let front = take (2 * at) digits in
    let two = two-more digits at within in
    let both = and_parts (list_all is_hex front) (is_hex x && (is_hex y && true))
    (sym (list_all-append is_hex front (x ∷ y ∷ [])) ∙ ap (list_all is_hex) (sym two) ∙ all) in
    let first = and_parts (is_hex x) (is_hex y && true) both.1 in
    let second = and_parts (is_hex y) true first.1 in
    let value : v ≡ 16 * hex_value x + hex_value y = value_at x y first.0 second.0 is in
    let many : length front ≡ 2 * at = length-take-le (2 * at) digits (omega (arith, within)) in
    take_more_set block at v (omega (arith, within, places))
    ∙ (λ i. was both.0 i ++ value i ∷ [])
    ∙ sym (hex_in-push x y (all_pairs at front many both.0) first.0 second.0)
    ∙ ap hex_in (sym two)
  where
    value_at : (x y : ℕ) → is_hex x ≡ true → is_hex y ≡ true → v ≡ (value_or_none x * 16 % 256 + value_or_none y) % 256 →
        v ≡ 16 * hex_value x + hex_value y
    value_at x y a b e =
        let p : value_or_none x ≡ hex_value x = ap (λ b. if b then hex_value x else 255) a in
        let q : value_or_none y ≡ hex_value y = ap (λ b. if b then hex_value y else 255) b in
        let s = value_small x a in
        let t = value_small y b in
        omega (arith, e, p, q, s, t)
