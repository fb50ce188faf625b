-- The first place of some bytes that passes a test, and how it is found in a window of them.
use Rattle.std.proofs.Common.{◌≡◌, ◌<◌, ◌≤◌, ◌+◌, ◌-◌, ℕ, zero, suc, Bool, true, false, cond, Option, Some, None, List, [], ◌∷◌, ◌++◌}
use Rattle.std.proofs.Common.{length, drop, refl, sym, ap, subst, ◌∙◌, arith, add-zero, length-drop, drop-drop, get_or, take, length-take}
use Rattle.std.proofs.Common.{take-append-drop}
use Rattle.std.proofs.lemmas.List.{drop_more, take_all}
use Rattle.std.specs.Prelude.{option_map}
use Rattle.evbuf_scan.specs.Place.{first_place, place_from, PassesAt, IsFirstPlace}

-- what is left from place j on passes, and it is the first
pub record Found (test : List ℕ → Bool) (bytes : List ℕ) (j : ℕ) : Type 0 where
  pub within : j < length bytes
  pub passes : test (drop j bytes) ≡ true
  pub before : (k : ℕ) → k < j → test (drop k bytes) ≡ false

before_more : (test : List ℕ → Bool) (b : ℕ) (bs : List ℕ) (j : ℕ) → test (b ∷ bs) ≡ false →
    ((k : ℕ) → k < j → test (drop k bs) ≡ false) → (k : ℕ) → k < suc j → test (drop k (b ∷ bs)) ≡ false
before_more test b bs j here further zero lt = here
before_more test b bs j here further (suc k) lt = further k (omega arith)

none_more : (test : List ℕ → Bool) (b : ℕ) (bs : List ℕ) → test (b ∷ bs) ≡ false →
    ((k : ℕ) → k < length bs → test (drop k bs) ≡ false) → (k : ℕ) → k < length (b ∷ bs) → test (drop k (b ∷ bs)) ≡ false
none_more test b bs here further zero lt = here
none_more test b bs here further (suc k) lt = further k (omega arith)

-- what is found is first
pub first_place-found : (test : List ℕ → Bool) (n : ℕ) (xs : List ℕ) (p : ℕ) → first_place test n xs ≡ Some p →
    (j : ℕ) × (p ≡ n + j) × Found test xs j
first_place-found test n [] p is = cc
first_place-found test n (b ∷ bs) p is =
    elim (test (b ∷ bs)) as (λ v. test (b ∷ bs) ≡ v → cond v (Some n) (first_place test (n + 1) bs) ≡ Some p →
    (j : ℕ) × (p ≡ n + j) × Found test (b ∷ bs) j) [
      | true ↦ λ here same. let at : n ≡ p = cc in
          (0, omega arith, record { within = omega arith; passes = here; before = λ k lt. absurd (omega arith) })
      | false ↦ λ here later. let further = first_place-found test (n + 1) bs p later in (
        suc further.0,
        omega arith,
        record {
          within = omega (arith, further.2.within);
          passes = further.2.passes;
          before = before_more test b bs further.0 here further.2.before;
        },
      )
    ] refl is

-- where nothing is found nothing passes
pub first_place-none : (test : List ℕ → Bool) (n : ℕ) (xs : List ℕ) → first_place test n xs ≡ None →
    (k : ℕ) → k < length xs → test (drop k xs) ≡ false
first_place-none test n [] is k lt = absurd (omega arith)
first_place-none test n (b ∷ bs) is k lt =
    elim (test (b ∷ bs)) as (λ v. test (b ∷ bs) ≡ v → cond v (Some n) (first_place test (n + 1) bs) ≡ None →
    test (drop k (b ∷ bs)) ≡ false) [
      | true ↦ λ here no. cc
      | false ↦ λ here later. none_more test b bs here (first_place-none test (n + 1) bs later) k lt
    ] refl is

-- places that are counted from another number
pub first_place-shift : (test : List ℕ → Bool) (n k : ℕ) (xs : List ℕ) →
    first_place test (n + k) xs ≡ option_map (λ p. n + p) (first_place test k xs)
first_place-shift test n k [] = refl
first_place-shift test n k (b ∷ bs) =
    let further : first_place test (n + k + 1) bs ≡ option_map (λ p. n + p) (first_place test (k + 1) bs) =
    let same : n + k + 1 ≡ n + (k + 1) = omega arith in rw same (first_place-shift test n (k + 1) bs) in
    elim (test (b ∷ bs)) as (λ v. cond v (Some (n + k)) (first_place test (n + k + 1) bs)
    ≡ option_map (λ p. n + p) (cond v (Some k) (first_place test (k + 1) bs))) [ true ↦ refl | false ↦ further ]

-- A test that looks at so many bytes at most: what it says of as many is not changed by bytes behind them, and where it
-- passes none but the last of them may be missing.
pub record Reads (test : List ℕ → Bool) (m : ℕ) : Type 0 where
  pub settled : (w zs : List ℕ) → m ≤ length w → test (w ++ zs) ≡ test w
  pub grows : (w zs : List ℕ) → test w ≡ true → test (w ++ zs) ≡ true
  pub needs : (w : List ℕ) → test w ≡ true → m ≤ length w + 1

-- where something is found enough bytes stand for the test
first_place-needs : (test : List ℕ → Bool) (m : ℕ) → Reads test m → (n : ℕ) (xs : List ℕ) (p : ℕ) → first_place test n xs ≡ Some p
    → m ≤ length xs + 1
first_place-needs test m reads n xs p is =
    let found = first_place-found test n xs p is in
    let enough : m ≤ length (drop found.0 xs) + 1 = reads.needs (drop found.0 xs) found.2.passes in
    omega (arith, length-drop found.0 xs)

-- what is found in a window is found in the whole
pub first_place-window : (test : List ℕ → Bool) (m : ℕ) → Reads test m → (n : ℕ) (w zs : List ℕ) (p : ℕ) → first_place test n w ≡ Some p →
    first_place test n (w ++ zs) ≡ Some p
first_place-window test m reads n [] zs p is = cc
first_place-window test m reads n (b ∷ bs) zs p is =
    elim (test (b ∷ bs)) as (λ v. test (b ∷ bs) ≡ v → cond v (Some n) (first_place test (n + 1) bs) ≡ Some p →
    cond (test (b ∷ bs ++ zs)) (Some n) (first_place test (n + 1) (bs ++ zs)) ≡ Some p) [
      | true ↦ λ here same. rw (reads.grows (b ∷ bs) zs here) same
      | false ↦ λ here later.
          let enough : m ≤ length (b ∷ bs) = omega (arith, first_place-needs test m reads (n + 1) bs p later) in
          rw (reads.settled (b ∷ bs) zs enough ∙ here) (first_place-window test m reads (n + 1) bs zs p later)
    ] refl is

-- where a window has nothing the search goes on behind the places that it settles
pub first_place-past : (test : List ℕ → Bool) (m : ℕ) → Reads test m → 0 < m → (skip n : ℕ) (w zs : List ℕ) → skip + m ≤ length w + 1 →
    first_place test n w ≡ None → first_place test n (w ++ zs) ≡ first_place test (n + skip) (drop skip (w ++ zs))
first_place-past test m reads some zero n w zs fits is = ap (λ k. first_place test k (w ++ zs)) (sym (add-zero n))
first_place-past test m reads some (suc skip) n [] zs fits is = absurd (omega arith)
first_place-past test m reads some (suc skip) n (b ∷ bs) zs fits is =
    elim (test (b ∷ bs)) as (λ v. test (b ∷ bs) ≡ v → cond v (Some n) (first_place test (n + 1) bs) ≡ None →
    cond (test (b ∷ bs ++ zs)) (Some n) (first_place test (n + 1) (bs ++ zs)) ≡ first_place test (n + suc skip) (drop skip (bs ++ zs))) [
      | true ↦ λ here no. cc
      | false ↦ λ here later.
          let enough : m ≤ length (b ∷ bs) = omega arith in
          let same : n + suc skip ≡ n + 1 + skip = omega arith in
          rw (reads.settled (b ∷ bs) zs enough ∙ here, same) (first_place-past test m reads some skip (n + 1) bs zs (omega arith) later)
    ] refl is

-- a place at or after `from`, told by how far behind it stands
passes_behind : (test : List ℕ → Bool) (bytes : List ℕ) (from k : ℕ) → from ≤ k → PassesAt test bytes k →
    (j : ℕ) × (k ≡ from + j) × (j < length (drop from bytes)) × (test (drop j (drop from bytes)) ≡ true)
passes_behind test bytes from k past passes =
    let j = k - from in
    let same : k ≡ from + j = omega arith in
    (j, same, omega (arith, length-drop from bytes, passes.0), rw (drop-drop j from bytes, ← same) passes.1)

pub place_from-first : (test : List ℕ → Bool) (bytes : List ℕ) (from : ℕ) → IsFirstPlace test bytes from (place_from test bytes from)
place_from-first test bytes from =
    elim (place_from test bytes from) as (λ r. place_from test bytes from ≡ r → IsFirstPlace test bytes from r) [
      | None ↦ λ is k past passes.
          let behind = passes_behind test bytes from k past passes in
          let no = first_place-none test from (drop from bytes) is behind.0 behind.2 in
          let yes = behind.3 in cc
      | Some p ↦ λ is.
          let found = first_place-found test from (drop from bytes) p is in
          let here : test (drop p bytes) ≡ true = rw (found.1, ← drop-drop found.0 from bytes) found.2.passes in (
            omega (arith, found.1),
            (omega (arith, found.1, found.2.within, length-drop from bytes), here),
            λ k past lt passes.
                let behind = passes_behind test bytes from k past passes in
                let no = found.2.before behind.0 (omega (arith, behind.1, found.1)) in
                let yes = behind.3 in cc,
          )
    ] refl

-- a place that passes is the first one there
pub first_place-here : (test : List ℕ → Bool) (xs : List ℕ) (i : ℕ) → i < length xs → test (drop i xs) ≡ true → first_place test i
    (drop i xs) ≡ Some i
first_place-here test xs i lt passes =
    let e = drop_more xs i 0 lt in
    let passes' : test (get_or xs i 0 ∷ drop (i + 1) xs) ≡ true = rw e at passes in
    rw (e, passes') refl

-- and where one doesn't the search goes on behind it
pub first_place-next : (test : List ℕ → Bool) (xs : List ℕ) (i : ℕ) → i < length xs → test (drop i xs) ≡ false →
    first_place test i (drop i xs) ≡ first_place test (i + 1) (drop (i + 1) xs)
first_place-next test xs i lt fails =
    let e = drop_more xs i 0 lt in
    let fails' : test (get_or xs i 0 ∷ drop (i + 1) xs) ≡ false = rw e at fails in
    rw (e, fails') refl

-- what a window at a place finds is the first place from there on
pub first_place-at : (test : List ℕ → Bool) (m : ℕ) → Reads test m → (at n : ℕ) (xs : List ℕ) (p : ℕ) → first_place test 0
    (take n xs) ≡ Some p →
    first_place test at xs ≡ Some (at + p)
first_place-at test m reads at n xs p is =
    let here : first_place test (at + 0) (take n xs) ≡ Some (at + p) = first_place-shift test at 0 (take n xs) ∙ ap
    (option_map (λ k. at + k)) is in
    let here' : first_place test at (take n xs) ≡ Some (at + p) = rw add-zero at here in
    ap (first_place test at) (sym (take-append-drop n xs)) ∙ first_place-window test m reads at (take n xs) (drop n xs) (at + p) here'

window_none : (test : List ℕ → Bool) (at n : ℕ) (xs : List ℕ) → first_place test 0 (take n xs) ≡ None → first_place test
    at (take n xs) ≡ None
window_none test at n xs is =
    let here : first_place test (at + 0) (take n xs) ≡ None = first_place-shift test at 0 (take n xs) ∙ ap (option_map (λ k. at + k)) is in
    rw add-zero at here

-- a window that has nothing and is not full is the rest
pub first_place-short : (test : List ℕ → Bool) (at n : ℕ) (xs : List ℕ) → length (take n xs) < n → first_place test 0 (take n xs) ≡ None →
    first_place test at xs ≡ None
first_place-short test at n xs short is =
    let whole : take n xs ≡ xs = take_all n xs (omega (arith, length-take n xs)) in
    ap (first_place test at) (sym whole) ∙ window_none test at n xs is

-- a full window that has nothing
pub first_place-full : (test : List ℕ → Bool) (m : ℕ) → Reads test m → 0 < m → (at n skip : ℕ) (xs : List ℕ) → length (take n xs) ≡
    n → skip + m ≤ n + 1 →
    first_place test 0 (take n xs) ≡ None → first_place test at xs ≡ first_place test (at + skip) (drop skip xs)
first_place-full test m reads some at n skip xs full fits is =
    let whole = take-append-drop n xs in
    ap (first_place test at) (sym whole)
    ∙ first_place-past test m reads some skip at (take n xs) (drop n xs) (omega arith) (window_none test at n xs is)
    ∙ ap (λ ys. first_place test (at + skip) (drop skip ys)) whole
