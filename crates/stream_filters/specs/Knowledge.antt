-- What the code of a running filter keeps, and how contracts see it.
use Rattle.std.specs.Prelude.{◌≡◌, ℕ, true, Option, All, ⊤}
use Rattle.std.specs.Option.{option_to_list}
use Rattle.ev_types.specs.declared.filter.FilterKind.{FilterKind}
use Rattle.ev_types.specs.declared.filter.FilterKind.TheVariants as kind
use Rattle.filter_model.specs.Filter.{is_hex}
use Rattle.filter_model.specs.Running.{Running}
use Rattle.stream_filters.specs.declared.knowledge.Knowledge.{Knowledge}

-- a filter of this kind that began with its input
abbrev pub running_of : FilterKind → Knowledge → Running
running_of k x = record { kind = k; since = 0; used = x.used; last = x.last; finished = x.finished; stopped = x.stopped }

-- the last byte that hex-in used is a digit
abbrev pub IsDigitLast : FilterKind → Option ℕ → Type 0
IsDigitLast kind.None last = ⊤
IsDigitLast kind.ToCrlf last = ⊤
IsDigitLast kind.ToLf last = ⊤
IsDigitLast kind.HexOut last = ⊤
IsDigitLast kind.HexIn last = All (λ byte. is_hex byte ≡ true) (option_to_list last)
