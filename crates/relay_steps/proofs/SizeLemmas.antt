-- How much a filter makes at most of so many bytes.
use Rattle.std.proofs.Common.{ℕ, suc, ◌+◌, ◌*◌, ◌≤◌, Bool, true, false, not, ◌&&◌, ◌==◌, if◌then◌else◌, List, [], ◌∷◌, ◌++◌, length, take}
use Rattle.std.proofs.Common.{arith, length-append}
use Rattle.std.proofs.lemmas.List.{length-take}
use Rattle.ev_types.specs.declared.filter.FilterKind.{FilterKind}
use Rattle.ev_types.specs.declared.filter.FilterKind.TheVariants as kind
use Rattle.filter_model.specs.Filter.{CR, LF, is_hex, hex_value, crlf_after, to_lf, last_cr, hex_out, hex_in, filter_of}
use Rattle.relay_model.specs.Flow.{Flow, middle, outcome}

crlf-most : (last : ℕ) (xs : List ℕ) → length (crlf_after last xs) ≤ 2 * length xs
crlf-most last [] = omega arith
crlf-most last (x ∷ xs) = go (x == LF && not (last == CR)) (crlf-most x xs)
  where
    go : (b : Bool) → length (crlf_after x xs) ≤ 2 * length xs →
        length ((if b then CR ∷ LF ∷ [] else x ∷ []) ++ crlf_after x xs) ≤ 2 * suc (length xs)
    go true h = omega (arith, h)
    go false h = omega (arith, h)

lf-most : (xs : List ℕ) → length (to_lf xs) ≤ length xs
lf-most [] = omega arith
lf-most (x ∷ []) = go (x == CR)
  where
    go : (b : Bool) → length (if b then [] else x ∷ []) ≤ 1
    go true = omega arith
    go false = omega arith
lf-most (x ∷ y ∷ ys) = go (x == CR && y == LF) (lf-most (y ∷ ys))
  where
    go : (b : Bool) → length (to_lf (y ∷ ys)) ≤ suc (length ys) →
        length ((if b then [] else x ∷ []) ++ to_lf (y ∷ ys)) ≤ suc (suc (length ys))
    go true h = omega (arith, h)
    go false h = omega (arith, h)

last-most : (xs : List ℕ) → length (last_cr xs) ≤ 1
last-most [] = omega arith
last-most (x ∷ []) = go (x == CR)
  where
    go : (b : Bool) → length (if b then x ∷ [] else []) ≤ 1
    go true = omega arith
    go false = omega arith
last-most (x ∷ y ∷ ys) = last-most (y ∷ ys)

hex_out-most : (xs : List ℕ) → length (hex_out xs) ≤ 2 * length xs
hex_out-most [] = omega arith
hex_out-most (x ∷ xs) = let h = hex_out-most xs in omega (arith, h)

hex_in-most : (xs : List ℕ) → length (hex_in xs) ≤ length xs
hex_in-most [] = omega arith
hex_in-most (x ∷ []) = omega arith
hex_in-most (x ∷ y ∷ ys) = go (is_hex x && is_hex y) (hex_in-most ys)
  where
    go : (b : Bool) → length (hex_in ys) ≤ length ys →
        length (if b then (16 * hex_value x + hex_value y) ∷ hex_in ys else []) ≤ suc (suc (length ys))
    go true h = omega (arith, h)
    go false h = omega arith

pub before-most : (k : FilterKind) (xs : List ℕ) → length ((filter_of k).before xs) ≤ 2 * length xs
before-most kind.None xs = omega arith
before-most kind.ToCrlf xs = crlf-most 0 xs
before-most kind.ToLf xs = let h = lf-most xs in omega (arith, h)
before-most kind.HexOut xs = hex_out-most xs
before-most kind.HexIn xs = let h = hex_in-most xs in omega (arith, h)

pub at_end-most : (k : FilterKind) (xs : List ℕ) → length ((filter_of k).at_end xs) ≤ 2 * length xs + 1
at_end-most kind.None xs = omega arith
at_end-most kind.ToCrlf xs = let h = crlf-most 0 xs in omega (arith, h)
at_end-most kind.ToLf xs =
    let a = lf-most xs in
    let b = last-most xs in
    let c = length-append (to_lf xs) (last_cr xs) in
    omega (arith, a, b, c)
at_end-most kind.HexOut xs = let h = hex_out-most xs in omega (arith, h)
at_end-most kind.HexIn xs = let h = hex_in-most xs in omega (arith, h)

-- what the read filter has made of what was read
pub middle-most : (k : FilterKind) (read : List ℕ) (f : Flow) → length (middle (filter_of k) read f) ≤ 2 * length read + 1
middle-most k read f = go f.read_done
  where
    few : length (take f.used read) ≤ length read
    few = let e = length-take f.used read in omega (arith, e)

    go : (b : Bool) → length (if b then (filter_of k).at_end (take f.used read) else (filter_of k).before (take f.used read)) ≤ 2 *
        length read + 1
    go true = let h = at_end-most k (take f.used read) in omega (arith, h, few)
    go false = let h = before-most k (take f.used read) in omega (arith, h, few)

-- what the write filter has made of what it used
pub outcome-most : (j k : FilterKind) (read : List ℕ) (f : Flow) → length (outcome (filter_of j) (filter_of k) read f) ≤ 2 * f.turned + 1
outcome-most j k read f = go f.write_done
  where
    xs : List ℕ
    xs = take f.turned (middle (filter_of j) read f)

    few : length xs ≤ f.turned
    few = let e = length-take f.turned (middle (filter_of j) read f) in omega (arith, e)

    go : (b : Bool) → length (if b then (filter_of k).at_end xs else (filter_of k).before xs) ≤ 2 * f.turned + 1
    go true = let h = at_end-most k xs in omega (arith, h, few)
    go false = let h = before-most k xs in omega (arith, h, few)
