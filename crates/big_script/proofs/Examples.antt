-- The generator at worked values, so that a wrong rule in it does not check.
use Rattle.std.proofs.Common.{◌≡◌, ◌∷◌, [], refl}
use Rattle.big_script.specs.Generated.{generated, number_after}

-- the first bytes from 1 and from 3 on
pub known_bytes : (generated 6 1 ≡ 198 ∷ 126 ∷ 129 ∷ 107 ∷ 75 ∷ 251 ∷ []) × (generated 6 3 ≡ 83 ∷ 195 ∷ 125 ∷ 120 ∷ 142 ∷ 180 ∷ [])
unfolding generated
known_bytes = (refl, refl)

pub known_numbers : (number_after 6 1 ≡ 368800899) × (number_after 6 3 ≡ 1035215989)
unfolding number_after
known_numbers = (refl, refl)
