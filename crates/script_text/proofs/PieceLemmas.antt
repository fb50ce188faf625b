-- Where the first piece of a text ends.
use Rattle.std.proofs.Common.{Some, None, ltb, ltb-true, ltb-false, cond, true, false, ◌≡◌, ◌<◌, ◌≤◌, ◌+◌, ℕ, List, [], ◌∷◌, take, drop}
use Rattle.std.proofs.Common.{length, refl, arith, one-add, add-one, eqb, inl, inr}
use Rattle.std.specs.List.{position_or_len, position}
use Rattle.std.proofs.lemmas.Bool.Decides.{eqb_tells}
use Rattle.script_text.specs.Pieces.{pieces}

-- the place of the first stop, or the length
abbrev pub stop_place : ℕ → List ℕ → ℕ
stop_place stop xs = position_or_len (λ b. eqb b stop) xs

-- a text without a stop is one piece
pub pieces-whole : (stop : ℕ) (xs : List ℕ) → 0 < length xs → length xs ≤ stop_place stop xs → pieces stop xs ≡ xs ∷ []
pieces-whole stop [] full none = absurd (omega arith)
pieces-whole stop (x ∷ []) full none = elim (eqb_tells x stop) [ inl h ↦ absurd (omega (arith, rw h.0 at none)) | inr h ↦ rw h.0 refl ]
pieces-whole stop (x ∷ y ∷ ys) full none = elim (eqb_tells x stop) [
  | inl h ↦ absurd (omega (arith, rw h.0 at none))
  | inr h ↦ let further : length (y ∷ ys) ≤ stop_place stop (y ∷ ys) = omega (arith, rw h.0 at none) in
      rw (h.0, pieces-whole stop (y ∷ ys) (omega arith) further) refl
]

-- the first piece ends at the first stop
pub pieces-cut : (stop : ℕ) (xs : List ℕ) → stop_place stop xs < length xs →
    pieces stop xs ≡ take (stop_place stop xs) xs ∷ pieces stop (drop (stop_place stop xs + 1) xs)
pieces-cut stop [] lt = absurd (omega arith)
pieces-cut stop (x ∷ xs) lt = elim (eqb_tells x stop) [
  | inl h ↦ rw h.0 refl
  | inr h ↦ let further : stop_place stop xs < length xs = omega (arith, rw h.0 at lt) in
      rw (h.0, pieces-cut stop xs further, one-add, add-one, add-one) refl
]

-- what a search for the first stop says of the first piece
pub pieces-found : (stop : ℕ) (xs : List ℕ) (i : ℕ) → Some i ≡ position (λ b. eqb b stop) xs →
    pieces stop xs ≡ take i xs ∷ pieces stop (drop (i + 1) xs)
pieces-found stop xs i found =
    let n = stop_place stop xs in
    elim (ltb n (length xs)) as
    (λ v. ltb n (length xs) ≡ v → Some i ≡ cond v (Some n) None → pieces stop xs ≡ take i xs ∷ pieces stop (drop (i + 1) xs)) [
      | true ↦ λ below here. let same : i ≡ n = cc in rw same (pieces-cut stop xs (ltb-true n (length xs) below))
      | false ↦ λ above here. cc
    ] refl found

pub pieces-none : (stop : ℕ) (xs : List ℕ) → None ≡ position (λ b. eqb b stop) xs → 0 < length xs → pieces stop xs ≡ xs ∷ []
pieces-none stop xs none full =
    let n = stop_place stop xs in
    elim (ltb n (length xs)) as (λ v. ltb n (length xs) ≡ v → None ≡ cond v (Some n) None → pieces stop xs ≡ xs ∷ []) [
      | true ↦ λ below here. cc
      | false ↦ λ above here. pieces-whole stop xs full (ltb-false n (length xs) above)
    ] refl none
