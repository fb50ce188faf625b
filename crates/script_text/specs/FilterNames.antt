-- The names of the filters, as lines of a script and words of a program spell them.
use Rattle.std.specs.Prelude.{ℕ, List, codes, Option, Some, None, if◌then◌else◌}
use Rattle.std.specs.Str.{bytes_eq}
use Rattle.ev_types.specs.declared.filter.FilterKind.{FilterKind}
use Rattle.ev_types.specs.declared.filter.FilterKind.TheVariants as kind

-- which filter a word names
abbrev pub filter_kind_of : List ℕ → Option FilterKind
filter_kind_of word =
    if bytes_eq word (codes "none") then Some kind.None
    else (if bytes_eq word (codes "to-crlf") then Some kind.ToCrlf
    else (if bytes_eq word (codes "to-lf") then Some kind.ToLf
    else (if bytes_eq word (codes "hex-out") then Some kind.HexOut
    else (if bytes_eq word (codes "hex-in") then Some kind.HexIn
    else None))))
