-- What the rows of the table of pressed bytes are.
use Rattle.std.proofs.Common.{◌≡◌, ℕ, zero, suc, ◌+◌, ◌-◌, ◌/◌, ◌%◌, ◌<◌, ◌≤◌, Bool, true, false, ◌&&◌, ◌==◌, if◌then◌else◌}
use Rattle.std.proofs.Common.{List, [], ◌∷◌, ◌++◌, length, take, drop, get_or, map, refl, sym, ◌∙◌, ap, arith}
use Rattle.std.proofs.Common.{eqb, ltb, w8}
use Rattle.std.specs.Prelude.{slice_index_or}
use Rattle.std.specs.Simd.Lanes.{Each1}
use Rattle.std.specs.Int.RustNames.{count_ones}
use Rattle.std.proofs.lemmas.Bool.{eqb-true, ltb-true}
use Rattle.std.proofs.lemmas.List.{drop_more, take-map}
use Rattle.std.proofs.lemmas.Simd.{swz_l, SwzOk}
use Rattle.stream_filters.specs.Lf.{without_marked}
use Rattle.stream_filters.specs.declared.lf_table.TheConstants.{PRESS}
use Rattle.stream_filters.proofs.TableRows.{both-true, same, same-eq, all_low, low-each, each_under, picks}

-- the places from one on in order, but those whose bit is set
abbrev places : ℕ → ℕ → ℕ → List ℕ
places from zero bits = []
places from (suc n) bits = (if bits % 2 == 1 then [] else from ∷ []) ++ places (suc from) n (bits / 2)

abbrev row : List ℕ → ℕ → List ℕ
row none bits = take 16 (slice_index_or PRESS bits none)

-- a row is 16 numbers below 16, the first of which are the places
abbrev row_ok : List ℕ → ℕ → Bool
row_ok none bits =
    let js = row none bits in
    eqb (length js) 16 && (ltb (count_ones bits) 9 && (all_low js && same (take (8 - count_ones bits) js) (places 0 8 bits)))

record IsRow (none : List ℕ) (bits : ℕ) : Type 0 where
  long : length (row none bits) ≡ 16
  few : count_ones bits ≤ 8
  low : Each1 (λ j. j < 16) (row none bits)
  front : take (8 - count_ones bits) (row none bits) ≡ places 0 8 bits

row-is : (none : List ℕ) (bits : ℕ) → bits < 256 → IsRow none bits
unfolding count_ones
row-is none bits lt =
    let ok = each_under (row_ok none) 256 bits refl lt in
    let first = both-true (eqb (length (row none bits)) 16) _ ok in
    let next = both-true (ltb (count_ones bits) 9) _ first.1 in
    let rest = both-true (all_low (row none bits)) _ next.1 in
    record {
      long = eqb-true (length (row none bits)) 16 first.0;
      few = (let f = ltb-true (count_ones bits) 9 next.0 in omega (arith, f));
      low = low-each (row none bits) rest.0;
      front = same-eq _ _ rest.1;
    }

-- bytes taken by those places
module _ (xs : List ℕ) where
  abbrev at_place : ℕ → ℕ
  at_place j = get_or xs j 0

  picked : (from n bits : ℕ) → from + n ≤ length xs → map at_place (places from n bits) ≡ without_marked bits (take n (drop from xs))
  picked from zero bits there = refl
  picked from (suc n) bits there =
      let more : drop from xs ≡ get_or xs from 0 ∷ drop (from + 1) xs = drop_more xs from 0 (omega arith) in
      let e : suc from ≡ from + 1 = omega arith in
      let ih = picked (suc from) n (bits / 2) (omega arith) in
      go (bits % 2 == 1) (map at_place (places (suc from) n (bits / 2))) refl
      ∙ ap (λ ys. (if bits % 2 == 1 then [] else get_or xs from 0 ∷ []) ++ ys)
      (ih ∙ (λ i. without_marked (bits / 2) (take n (drop (e i) xs))))
      ∙ (λ i. without_marked bits (take (suc n) (sym more i)))
    where
      go : (b : Bool) (rest : List ℕ) → rest ≡ map at_place (places (suc from) n (bits / 2)) →
          map at_place ((if b then [] else from ∷ []) ++ places (suc from) n (bits / 2))
          ≡ (if b then [] else get_or xs from 0 ∷ []) ++ rest
      go true rest is = sym is
      go false rest is = λ i. get_or xs from 0 ∷ sym is i

-- what the bytes are that a row picks
pub record Presses (none : List ℕ) (bits : ℕ) (xs : List ℕ) : Type 0 where
  pub ok : SwzOk w8 16 16 0 (take 16 (slice_index_or PRESS bits none))
  pub few : count_ones bits ≤ 8
  pub long : length (swz_l w8 16 xs 0 (take 16 (slice_index_or PRESS bits none))) ≡ 16
  pub front : take (8 - count_ones bits) (swz_l w8 16 xs 0 (take 16 (slice_index_or PRESS bits none))) ≡ without_marked bits (take 8 xs)

pub presses : (none : List ℕ) (bits : ℕ) (xs : List ℕ) → bits < 256 → length xs ≡ 16 → Presses none bits xs
presses none bits xs lt long =
    let is = row-is none bits lt in
    let js = row none bits in
    let pick = picks xs js is.long is.low in
    record {
      ok = pick.ok;
      few = is.few;
      long = pick.long;
      front =
          ap (take (8 - count_ones bits)) pick.bytes ∙ take-map (at_place xs) (8 - count_ones bits) js
          ∙ ap (map (at_place xs)) is.front ∙ picked xs 0 8 bits (omega (arith, long));
    }
