-- The numbers and the bytes that a word spells.
use Rattle.std.specs.Prelude.{ℕ, ◌+◌, ◌-◌, ◌*◌, ◌^◌, List, [], ◌∷◌, ◌==◌, ◌&&◌, not, Bool, false, if◌then◌else◌, nat_le, length, fold}
use Rattle.std.specs.Prelude.{Option, Some, None}
use Rattle.std.specs.Result.{result_ok}
use Rattle.std.specs.Str.{all_ascii_digits}
use Rattle.hex.specs.Hex.{decode_of}

-- the number of decimal digits, the first one worth most
abbrev pub value_of : List ℕ → ℕ
value_of digits = fold (λ n digit. n * 10 + (digit - 48)) 0 digits

-- decimal digits, at least one, of which the first is 0 only where it stands alone
abbrev pub is_numeral : List ℕ → Bool
is_numeral [] = false
is_numeral (d ∷ []) = all_ascii_digits (d ∷ [])
is_numeral (d ∷ e ∷ ds) = not (d == 48) && all_ascii_digits (d ∷ e ∷ ds)

-- the number that a word spells, if it spells one of at most `max`
abbrev pub number_within : ℕ → List ℕ → Option ℕ
number_within max word = if is_numeral word && nat_le (value_of word) max then Some (value_of word) else None

-- the number that a word spells, if a u64 holds it
abbrev pub any_number : List ℕ → Option ℕ
any_number word = number_within (2 ^ 64 - 1) word

-- the bytes that a word of hex digits spells, of either case: 2 to 65,536 digits, an even number of them
abbrev pub bytes_of : List ℕ → Option (List ℕ)
bytes_of word = if nat_le 2 (length word) && nat_le (length word) 65536 then result_ok (decode_of word) else None
