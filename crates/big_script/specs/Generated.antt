-- The bytes of a generator. What a script does with them stands elsewhere.
use Rattle.std.specs.Prelude.{ℕ, zero, suc, ◌+◌, ◌*◌, ◌/◌, ◌%◌, ◌^◌, List, [], ◌∷◌}

-- the number of the generator after a step
abbrev pub next_number : ℕ → ℕ
next_number x = (x * 1103515245 + 12345) % 2 ^ 31

-- the byte that a number of the generator gives
abbrev pub byte_given : ℕ → ℕ
byte_given x = x / 65536 % 256

-- the number of the generator after so many steps
unfoldable pub number_after : ℕ → ℕ → ℕ
number_after zero x = x
number_after (suc n) x = number_after n (next_number x)

-- the bytes that so many steps from a number on give, one each
unfoldable pub generated : ℕ → ℕ → List ℕ
generated zero x = []
generated (suc n) x = byte_given (next_number x) ∷ generated n (next_number x)
