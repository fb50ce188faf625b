-- Where a needle stands, as the search of a slice says it.
use Rattle.std.proofs.Common.{◌≡◌, ◌<◌, ◌≤◌, ◌+◌, ◌⊎◌, ℕ, zero, suc, Bool, true, false, cond, eqb, ltb, ◌&&◌, Option, Some, None, List, []}
use Rattle.std.proofs.Common.{◌∷◌, ◌++◌, length, take, drop, refl, sym, ap, ◌∙◌, arith, inl, inr, length-drop, length-take-le}
use Rattle.std.proofs.lemmas.Bool.Decides.{eqb_tells, leb_tells}
use Rattle.std.specs.Bool.{then_some}
use Rattle.std.proofs.lemmas.List.{drop_more, drop_all}
use Rattle.memchr.specs.Find.{OccursAt, FindsNeedle, Nowhere, NoneBefore, IsFirst}
use Rattle.memchr.proofs.lemmas.MatchLemmas.{OccursAt-part, OccursAt-from_part}
use Rattle.evbuf_scan.specs.Place.{first_place}
use Rattle.evbuf_scan.specs.Needle.{begins_with, place_of}
use Rattle.evbuf_scan.proofs.PlaceLemmas.{Reads, Found, first_place-found, first_place-none}

begins_with-settled : (needle w zs : List ℕ) → length needle ≤ length w → begins_with needle (w ++ zs) ≡ begins_with needle w
begins_with-settled [] w zs fits = refl
begins_with-settled (n ∷ ns) [] zs fits = absurd (omega arith)
begins_with-settled (n ∷ ns) (b ∷ w) zs fits = ap (λ v. eqb b n && v) (begins_with-settled ns w zs (omega arith))

begins_with-fits : (needle w : List ℕ) → begins_with needle w ≡ true → length needle ≤ length w
begins_with-fits [] w h = omega arith
begins_with-fits (n ∷ ns) [] h = cc
begins_with-fits (n ∷ ns) (b ∷ w) h =
    elim (eqb b n) as (λ v. (v && begins_with ns w) ≡ true → length (n ∷ ns) ≤ length (b ∷ w)) [
      | true ↦ λ both. omega (arith, begins_with-fits ns w both)
      | false ↦ λ no. cc
    ] h

-- a needle is told by as many bytes as it has
pub Reads-begins_with : (needle : List ℕ) → Reads (begins_with needle) (length needle)
Reads-begins_with needle = record {
  settled = begins_with-settled needle;
  grows = λ w zs h. begins_with-settled needle w zs (begins_with-fits needle w h) ∙ h;
  needs = λ w h. omega (arith, begins_with-fits needle w h);
}

begins_with-take : (needle w : List ℕ) → begins_with needle w ≡ true → take (length needle) w ≡ needle
begins_with-take [] w h = refl
begins_with-take (n ∷ ns) [] h = cc
begins_with-take (n ∷ ns) (b ∷ w) h = elim (eqb_tells b n) [
  | inl same ↦ let further : begins_with ns w ≡ true = rw same.0 at h in rw (same.1, begins_with-take ns w further) refl
  | inr other ↦ let no : false ≡ true = rw other.0 at h in cc
]

take-begins_with : (needle w : List ℕ) → length needle ≤ length w → take (length needle) w ≡ needle → begins_with needle w ≡ true
take-begins_with [] w fits h = refl
take-begins_with (n ∷ ns) [] fits h = absurd (omega arith)
take-begins_with (n ∷ ns) (b ∷ w) fits h = elim (eqb_tells b n) [
  | inl same ↦ let further : take (length ns) w ≡ ns = cc in rw same.0 (take-begins_with ns w (omega arith) further)
  | inr other ↦ let same : b ≡ n = cc in absurd (other.1 same)
]

begins_with-OccursAt : (needle w : List ℕ) (k : ℕ) → k ≤ length w → begins_with needle (drop k w) ≡ true → OccursAt w needle k
begins_with-OccursAt needle w k within h =
    let fits : k + length needle ≤ length w = omega (arith, begins_with-fits needle (drop k w) h, length-drop k w) in
    OccursAt-from_part w needle k fits (begins_with-take needle (drop k w) h)

OccursAt-begins_with : (needle w : List ℕ) (k : ℕ) → OccursAt w needle k → begins_with needle (drop k w) ≡ true
OccursAt-begins_with needle w k h =
    let fits = h.fits in
    take-begins_with needle (drop k w) (omega (arith, length-drop k w)) (OccursAt-part w needle k h)

-- what a search of a slice finds is the first place
pub FindsNeedle-first_place : (needle w : List ℕ) (r : Option ℕ) → 0 < length needle → FindsNeedle w needle 0 r → r ≡ first_place
    (begins_with needle) 0 w
FindsNeedle-first_place needle w None some nowhere =
    elim (first_place (begins_with needle) 0 w) as (λ v. first_place (begins_with needle) 0 w ≡ v → None ≡ v) [
      | None ↦ λ is. refl
      | Some p ↦ λ is.
          let found = first_place-found (begins_with needle) 0 w p is in
          let within = found.2.within in
          absurd (nowhere found.0 (omega arith) (omega arith) (begins_with-OccursAt needle w found.0 (omega arith) found.2.passes))
    ] refl
FindsNeedle-first_place needle w (Some k) some first =
    let fits = first.1.fits in
    let here = OccursAt-begins_with needle w k first.1 in
    elim (first_place (begins_with needle) 0 w) as (λ v. first_place (begins_with needle) 0 w ≡ v → Some k ≡ v) [
      | None ↦ λ is. let no = first_place-none (begins_with needle) 0 w is k (omega arith) in cc
      | Some p ↦ λ is.
          let found = first_place-found (begins_with needle) 0 w p is in
          let place : p ≡ found.0 = omega (arith, found.1) in
          let within = found.2.within in
          same_first found.0 p place (λ lt. first.0.before found.0 (omega arith) lt (begins_with-OccursAt needle w found.0
          (omega arith) found.2.passes))
          (λ lt. let no = found.2.before k lt in let yes = here in cc)
    ] refl where
      same_first : (j p : ℕ) → p ≡ j → (j < k → ⊥) → (k < j → ⊥) → Some k ≡ Some p
      same_first j p e below above = let same : k ≡ p = omega arith in ap Some same

ltb_tells : (a b : ℕ) → ((ltb a b ≡ true) × (a < b)) ⊎ ((ltb a b ≡ false) × (b ≤ a))
ltb_tells a b = elim (leb_tells (suc a) b) [ inl h ↦ inl (h.0, omega (arith, h.1)) | inr h ↦ inr (h.0, omega (arith, h.1)) ]

-- an empty needle stands where a byte does
pub place_of-empty : (needle bytes : List ℕ) (from : ℕ) → length needle ≡ 0 → place_of needle bytes from ≡ then_some
    (ltb from (length bytes)) from
place_of-empty (n ∷ ns) bytes from none = absurd (omega arith)
place_of-empty [] bytes from none = elim (ltb_tells from (length bytes)) [
  | inl below ↦ let e = drop_more bytes from 0 below.1 in rw (below.0, e) refl
  | inr past ↦ let e = drop_all from bytes past.1 in rw (past.0, e) refl
]
