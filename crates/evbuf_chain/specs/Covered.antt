-- Bytes that were written over others, as far as they lie there.
use Rattle.std.specs.Prelude.{ℕ, ◌-◌, List, [], ◌∷◌, ◌++◌, take, drop}

-- bytes written over the first of others, as many as there are
abbrev pub overlaid : List ℕ → List ℕ → List ℕ
overlaid [] under = under
overlaid (b ∷ bytes) [] = []
overlaid (b ∷ bytes) (u ∷ under) = b ∷ overlaid bytes under

-- The window begins at a place of a chain, and bytes of the chain that begin at another place were written over it as far as they
-- lie in it.
abbrev pub covered : ℕ → List ℕ → ℕ → List ℕ → List ℕ
covered place bytes from window =
    take (place - from) window ++ overlaid (drop (from - place) bytes) (drop (place - from) window)
