-- The first place of some bytes from which on they pass a test.
use Rattle.std.specs.Prelude.{◌≡◌, ℕ, ◌+◌, ◌<◌, ◌≤◌, List, [], ◌∷◌, length, drop, Bool, true, if◌then◌else◌, Option, Some, None}

-- the first place at which what is left passes the test, where the first byte has this place
abbrev pub first_place : (List ℕ → Bool) → ℕ → List ℕ → Option ℕ
first_place test place [] = None
first_place test place (b ∷ bs) = if test (b ∷ bs) then Some place else first_place test (place + 1) bs

-- the first place at or after `from`
abbrev pub place_from : (List ℕ → Bool) → List ℕ → ℕ → Option ℕ
place_from test bytes from = first_place test from (drop from bytes)

-- at this place a byte stands, and what is left from there on passes the test
abbrev pub PassesAt : (List ℕ → Bool) → List ℕ → ℕ → Type 0
PassesAt test bytes place = (place < length bytes) × (test (drop place bytes) ≡ true)

-- The place that is found passes, lies at or after `from`, and no place between the two passes. Where none is found, no
-- place at or after `from` passes.
abbrev pub IsFirstPlace : (List ℕ → Bool) → List ℕ → ℕ → Option ℕ → Type 0
IsFirstPlace test bytes from None = (k : ℕ) → from ≤ k → ¬ PassesAt test bytes k
IsFirstPlace test bytes from (Some place) =
    (from ≤ place) × PassesAt test bytes place × ((k : ℕ) → from ≤ k → k < place → ¬ PassesAt test bytes k)

-- the first place is first
abbrev pub PlaceIsFirst : Type 0
PlaceIsFirst = (test : List ℕ → Bool) (bytes : List ℕ) (from : ℕ) → IsFirstPlace test bytes from (place_from test bytes from)
