-- CRs before some bytes of a list.
use Rattle.std.specs.Prelude.{ℕ, ◌/◌, ◌%◌, Bool, not, ◌==◌, ◌&&◌, if◌then◌else◌, List, [], ◌∷◌, ◌++◌}
use Rattle.filter_model.specs.Filter.{CR, LF}

-- is a byte an LF that no CR precedes
abbrev pub is_bare_end : ℕ → ℕ → Bool
is_bare_end before x = x == LF && not (before == CR)

-- each byte, with a CR before each whose bit of the number is set, the lowest bit being that of the first byte
abbrev pub with_crs : ℕ → List ℕ → List ℕ
with_crs bits [] = []
with_crs bits (x ∷ xs) = (if bits % 2 == 1 then CR ∷ x ∷ [] else x ∷ []) ++ with_crs (bits / 2) xs
