-- All five filters obey the laws.
use Rattle.std.proofs.Common.{◌≡◌, refl}
use Rattle.ev_types.specs.declared.filter.FilterKind.{FilterKind}
use Rattle.ev_types.specs.declared.filter.FilterKind.TheVariants as kind
use Rattle.filter_model.specs.Filter.{filter_of}
use Rattle.filter_model.specs.FilterLaws.{IsFilter}
use Rattle.filter_model.proofs.FilterLemmas.{filter_of_local, none_local, to_crlf_local, to_lf_local, hex_out_local}
use Rattle.filter_model.proofs.HexLemmas.{hex_in_filter}

pub every_filter : (k : FilterKind) → IsFilter (filter_of k)
every_filter kind.None = filter_of_local (filter_of kind.None) none_local
every_filter kind.ToCrlf = filter_of_local (filter_of kind.ToCrlf) to_crlf_local
every_filter kind.ToLf = filter_of_local (filter_of kind.ToLf) to_lf_local
every_filter kind.HexOut = filter_of_local (filter_of kind.HexOut) hex_out_local
every_filter kind.HexIn = hex_in_filter

-- a named filter begins with its input
pub begins_with_input : (k : FilterKind) → (filter_of k).since ≡ 0
begins_with_input kind.None = refl
begins_with_input kind.ToCrlf = refl
begins_with_input kind.ToLf = refl
begins_with_input kind.HexOut = refl
begins_with_input kind.HexIn = refl
