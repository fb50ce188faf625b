-- Some bytes of a list left out.
use Rattle.std.specs.Prelude.{ℕ, ◌/◌, ◌%◌, Bool, ◌==◌, ◌&&◌, if◌then◌else◌, List, [], ◌∷◌, ◌++◌}
use Rattle.filter_model.specs.Filter.{CR, LF}

-- is a byte a CR that LF follows
abbrev pub is_dropped_cr : ℕ → ℕ → Bool
is_dropped_cr x next = x == CR && next == LF

-- each byte but those whose bit of the number is set, the lowest bit being that of the first byte
abbrev pub without_marked : ℕ → List ℕ → List ℕ
without_marked bits [] = []
without_marked bits (x ∷ xs) = (if bits % 2 == 1 then [] else x ∷ []) ++ without_marked (bits / 2) xs
