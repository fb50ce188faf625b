-- The ends that words name.
use Rattle.std.specs.Prelude.{ℕ, ◌^◌, ◌-◌, List, codes, if◌then◌else◌, Option, Some, None, option_map, option_and_then}
use Rattle.std.specs.Str.{bytes_eq}
use Rattle.ev_types.specs.declared.side.Side.{Side}
use Rattle.ev_types.specs.declared.side.Side.TheVariants.{In, Out}
use Rattle.ev_types.specs.declared.side.SideId.{SideId}
use Rattle.script_text.specs.Numbers.{number_within}

abbrev pub side_of : List ℕ → Option Side
side_of word = if bytes_eq word (codes "in") then Some In else (if bytes_eq word (codes "out") then Some Out else None)

abbrev pub link_of : List ℕ → Option ℕ
link_of word = number_within (2 ^ 32 - 1) word

-- the end that a link number and a side name
abbrev pub end_of : List ℕ → List ℕ → Option SideId
end_of link side = option_and_then (λ s. option_map (λ l. record { link = l; side = s }) (link_of link)) (side_of side)
