-- Wants that are marked one by one, each by what the ones before it left.
use Rattle.std.specs.Prelude.{List, [], ◌∷◌}
use Rattle.ev_port.specs.declared.port.Want.{Want}

-- the wants with their marks
abbrev pub marks_by : {M : Type 0} → (M → Want → Want) → (M → Want → M) → M → List Want → List Want
marks_by marked after m [] = []
marks_by marked after m (w ∷ ws) = marked m w ∷ marks_by marked after (after m w) ws

-- what the one who marks is after them
abbrev pub after_marks : {M : Type 0} → (M → Want → M) → M → List Want → M
after_marks after m [] = m
after_marks after m (w ∷ ws) = after_marks after (after m w) ws
