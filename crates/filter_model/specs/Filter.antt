-- A filter as functions of its whole input, and the five filters. What a filter must obey stands in FilterLaws.
use Rattle.std.specs.Prelude.{ℕ, ◌+◌, ◌-◌, ◌*◌, ◌/◌, ◌%◌, Bool, not, ◌==◌, ◌&&◌, ◌||◌, nat_lt, nat_le, if◌then◌else◌, List, [], ◌∷◌, ◌++◌}
use Rattle.std.specs.Prelude.{length, take, Option, Some, None, is_some, is_none, bytes_eq}
use Rattle.ev_types.specs.declared.filter.FilterKind.{FilterKind}
use Rattle.ev_types.specs.declared.filter.FilterKind.TheVariants as kind

-- What a filter makes of its whole input. Places count from 0 over the whole input, also where the filter began later.
pub record Filter : Type 0 where
  pub before : List ℕ → List ℕ  -- its output before the end
  pub at_end : List ℕ → List ℕ  -- its output at the end
  pub bad : List ℕ → Option ℕ  -- the first bad place, or none
  pub bad_at_end : List ℕ → Option ℕ  -- the same at the end
  pub since : ℕ  -- the place of the input at which it began

-- A filter holds a byte where its end would change the output, or where the input is bad at the end and not before.
abbrev pub holds : Filter → List ℕ → Bool
holds f xs = not (bytes_eq (f.at_end xs) (f.before xs)) || (is_some (f.bad_at_end xs) && is_none (f.bad xs))

-- The bad place that a filter meets after it used the first so many bytes of xs. With no room for output it meets none.
-- It meets the next byte's place where that byte is bad; where no byte is left and none will come, the place of a bad end.
abbrev pub met : Filter → List ℕ → ℕ → Bool → Bool → Option ℕ
met f xs used over room = if room then (if nat_lt used (length xs) then f.bad (take (used + 1) xs) else (if over then f.bad_at_end xs else None)) else None

abbrev pub never : List ℕ → Option ℕ
never xs = None

abbrev pub CR : ℕ
CR = 13

abbrev pub LF : ℕ
LF = 10

-- CR LF for an LF unless the byte before it is CR; every other byte as it is. `last` is the byte before the list, 0 for
-- none.
abbrev pub crlf_after : ℕ → List ℕ → List ℕ
crlf_after last [] = []
crlf_after last (x ∷ xs) = (if x == LF && not (last == CR) then CR ∷ LF ∷ [] else x ∷ []) ++ crlf_after x xs

-- nothing for a CR that is the last byte or that LF follows; every other byte as it is
abbrev pub to_lf : List ℕ → List ℕ
to_lf [] = []
to_lf (x ∷ []) = if x == CR then [] else x ∷ []
to_lf (x ∷ y ∷ ys) = (if x == CR && y == LF then [] else x ∷ []) ++ to_lf (y ∷ ys)

-- CR where the last byte is CR
abbrev pub last_cr : List ℕ → List ℕ
last_cr [] = []
last_cr (x ∷ []) = if x == CR then x ∷ [] else []
last_cr (x ∷ y ∷ ys) = last_cr (y ∷ ys)

-- the lower-case hex digit of a number below 16
abbrev pub hex_digit : ℕ → ℕ
hex_digit d = if nat_lt d 10 then 48 + d else 87 + d

-- the two hex digits of each byte
abbrev pub hex_out : List ℕ → List ℕ
hex_out [] = []
hex_out (x ∷ xs) = hex_digit (x / 16) ∷ hex_digit (x % 16) ∷ hex_out xs

abbrev pub is_within : ℕ → ℕ → ℕ → Bool
is_within low high x = nat_le low x && nat_le x high

-- a hex digit of either case
abbrev pub is_hex : ℕ → Bool
is_hex x = is_within 48 57 x || is_within 65 70 x || is_within 97 102 x

-- the value of a hex digit
abbrev pub hex_value : ℕ → ℕ
hex_value x = if nat_le x 57 then x - 48 else (if nat_le x 70 then x - 55 else x - 87)

-- The byte that each two hex digits spell, up to the first byte that is no digit. A last digit without a second one gives
-- nothing.
abbrev pub hex_in : List ℕ → List ℕ
hex_in [] = []
hex_in (x ∷ []) = []
hex_in (x ∷ y ∷ ys) = if is_hex x && is_hex y then (16 * hex_value x + hex_value y) ∷ hex_in ys else []

-- the place of the first byte that is no digit, counted from a place on
abbrev pub not_hex_from : ℕ → List ℕ → Option ℕ
not_hex_from place [] = None
not_hex_from place (x ∷ xs) = if is_hex x then not_hex_from (place + 1) xs else Some place

abbrev pub or_else : Option ℕ → Option ℕ → Option ℕ
or_else (Some x) other = Some x
or_else None other = other

-- the length of a list where it is odd
abbrev pub odd_end : List ℕ → Option ℕ
odd_end xs = if length xs % 2 == 1 then Some (length xs) else None

-- the filter of each name
abbrev pub filter_of : FilterKind → Filter
filter_of kind.None = record { before = λ xs. xs; at_end = λ xs. xs; bad = never; bad_at_end = never; since = 0 }
filter_of kind.ToCrlf = record { before = crlf_after 0; at_end = crlf_after 0; bad = never; bad_at_end = never; since = 0 }
filter_of kind.ToLf = record { before = to_lf; at_end = λ xs. to_lf xs ++ last_cr xs; bad = never; bad_at_end = never; since = 0 }
filter_of kind.HexOut = record { before = hex_out; at_end = hex_out; bad = never; bad_at_end = never; since = 0 }
filter_of kind.HexIn = record { before = hex_in; at_end = hex_in; bad = not_hex_from 0; bad_at_end = λ xs. or_else (not_hex_from 0 xs) (odd_end xs); since = 0 }
