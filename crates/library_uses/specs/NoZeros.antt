-- What the filter makes that drops zeros.
use Rattle.std.specs.Prelude.{ℕ, ◌==◌, if◌then◌else◌, List, [], ◌∷◌}

-- nothing for a 0, and every other byte as it is
abbrev pub but_zero : ℕ → List ℕ
but_zero x = if x == 0 then [] else x ∷ []
