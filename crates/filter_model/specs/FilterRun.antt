-- A filter as it runs, byte by byte: it knows how many bytes it used and the last of them. That a run makes what the
-- definition makes of the whole input is a law of FilterCuts.
use Rattle.std.specs.Prelude.{ℕ, suc, ◌+◌, ◌*◌, ◌/◌, ◌%◌, Bool, false, not, ◌==◌, ◌&&◌, ◌||◌, nat_le, if◌then◌else◌, List, [], ◌∷◌, ◌++◌}
use Rattle.std.specs.Prelude.{length, Option, Some, None, unwrap_or}
use Rattle.ev_types.specs.declared.filter.FilterKind.{FilterKind}
use Rattle.ev_types.specs.declared.filter.FilterKind.TheVariants as kind
use Rattle.filter_model.specs.Filter.{CR, LF, hex_digit, is_hex, hex_value}

-- is a last byte CR
abbrev pub is_cr : Option ℕ → Bool
is_cr None = false
is_cr (Some x) = x == CR

-- is a byte bad
abbrev pub is_bad_byte : FilterKind → ℕ → Bool
is_bad_byte kind.None x = false
is_bad_byte kind.ToCrlf x = false
is_bad_byte kind.ToLf x = false
is_bad_byte kind.HexOut x = false
is_bad_byte kind.HexIn x = not (is_hex x)

-- what the byte x adds, where `count` bytes were used before it and the last of them was `last`
abbrev pub adds : FilterKind → ℕ → Option ℕ → ℕ → List ℕ
adds kind.None count last x = x ∷ []
adds kind.ToCrlf count last x = if x == LF && not (is_cr last) then CR ∷ LF ∷ [] else x ∷ []
adds kind.ToLf count last x = (if is_cr last && not (x == LF) then CR ∷ [] else []) ++ (if x == CR then [] else x ∷ [])
adds kind.HexOut count last x = hex_digit (x / 16) ∷ hex_digit (x % 16) ∷ []
adds kind.HexIn count last x = if count % 2 == 1 then (16 * hex_value (unwrap_or last 0) + hex_value x) ∷ [] else []

-- how many bytes a run used, and what it made of them
pub record Ran : Type 0 where
  pub used : ℕ
  pub made : List ℕ

abbrev pub nothing_ran : Ran
nothing_ran = record { used = 0; made = [] }

-- a run that stops here, or uses a byte that adds so much and goes on
abbrev pub goes_on : Bool → List ℕ → Ran → Ran
goes_on stop added rest = if stop then nothing_ran else record { used = suc rest.used; made = added ++ rest.made }

-- The run over some bytes, where the target holds n bytes. It stops before a byte where the target is at the limit or above,
-- or where the byte is bad.
abbrev pub run : FilterKind → ℕ → ℕ → ℕ → Option ℕ → List ℕ → Ran
run k limit n count last [] = nothing_ran
run k limit n count last (x ∷ xs) =
    goes_on (nat_le limit n || is_bad_byte k x) (adds k count last x)
    (run k limit (n + length (adds k count last x)) (count + 1) (Some x) xs)

-- is the end bad after so many bytes
abbrev pub is_end_bad : FilterKind → ℕ → Bool
is_end_bad kind.None count = false
is_end_bad kind.ToCrlf count = false
is_end_bad kind.ToLf count = false
is_end_bad kind.HexOut count = false
is_end_bad kind.HexIn count = count % 2 == 1

-- is a byte held back after so many bytes, the last of them being this one
abbrev pub holds_byte : FilterKind → ℕ → Option ℕ → Bool
holds_byte kind.None count last = false
holds_byte kind.ToCrlf count last = false
holds_byte kind.ToLf count last = is_cr last
holds_byte kind.HexOut count last = false
holds_byte kind.HexIn count last = count % 2 == 1

-- what a good end adds after this last byte
abbrev pub end_adds : FilterKind → Option ℕ → List ℕ
end_adds kind.None last = []
end_adds kind.ToCrlf last = []
end_adds kind.ToLf last = if is_cr last then CR ∷ [] else []
end_adds kind.HexOut last = []
end_adds kind.HexIn last = []
