-- The values that words of a command line spell.
use Rattle.std.specs.Prelude.{ℕ, List, [], ◌∷◌, ◌==◌, if◌then◌else◌, nat_lt, Option, Some, None}
use Rattle.std.specs.List.{list_any, before_first, after_first}
use Rattle.ev_types.specs.declared.addr.Addr.{Addr}
use Rattle.script_text.specs.Numbers.{number_within}
use Rattle.script_text.specs.ValueGrammar.{◌>>=◌}

-- what stands in front of the first `stop` of a text, and what stands behind it
abbrev pub cut : ℕ → List ℕ → Option (List ℕ × List ℕ)
cut stop text =
    if list_any (λ b. b == stop) text then Some (before_first (λ b. b == stop) text, after_first (λ b. b == stop) text) else None

-- a number from 1 to `max`
abbrev pub positive_within : ℕ → List ℕ → Option ℕ
positive_within max word = number_within max word >>= (λ n. if nat_lt 0 n then Some n else None)

-- a number of an address, from 0 to 255
abbrev pub part_named : List ℕ → Option ℕ
part_named word = number_within 255 word

-- an address: four numbers joined by dots, a colon, and a port from 1 to 65,535
abbrev pub addr_named : List ℕ → Option Addr
addr_named word = do
  a ← cut 46 word
  b ← cut 46 a.1
  c ← cut 46 b.1
  d ← cut 58 c.1
  first ← part_named a.0
  second ← part_named b.0
  third ← part_named c.0
  fourth ← part_named d.0
  port ← positive_within 65535 d.1
  Some (record { ip = first ∷ second ∷ third ∷ fourth ∷ []; port = port })
