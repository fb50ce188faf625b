-- How a text falls into lines, and a line into words. What a line may say stands elsewhere.
use Rattle.std.specs.Prelude.{ℕ, List, [], ◌∷◌, ◌==◌, Bool, true, false, if◌then◌else◌, filter}

-- one byte more at the front of the first piece
abbrev pub begun : ℕ → List (List ℕ) → List (List ℕ)
begun b [] = (b ∷ []) ∷ []
begun b (piece ∷ more) = (b ∷ piece) ∷ more

-- the pieces of a text, each ended by the byte `stop`, which the last one may lack
abbrev pub pieces : ℕ → List ℕ → List (List ℕ)
pieces stop [] = []
pieces stop (b ∷ bs) = if b == stop then [] ∷ pieces stop bs else begun b (pieces stop bs)

-- the lines of a text: each ends with LF, the last one may lack it
abbrev pub lines : List ℕ → List (List ℕ)
lines text = pieces 10 text

abbrev pub is_filled : List ℕ → Bool
is_filled [] = false
is_filled (b ∷ bs) = true

-- the words of a line: what stands between its spaces
abbrev pub words : List ℕ → List (List ℕ)
words line = filter is_filled (pieces 32 line)
