-- Where no filter is set, what the filters make of what was read is what was read.
use Rattle.std.specs.Prelude.{◌≡◌, ℕ, Bool, List}
use Rattle.ev_types.specs.declared.filter.FilterKind.TheVariants as kind
use Rattle.ev_types.specs.declared.side.SideId.{SideId}
use Rattle.ev_types.specs.Sides.{peer}
use Rattle.filter_model.specs.Filter.{filter_of}
use Rattle.relay_model.specs.Flow as flow
use Rattle.relay_model.specs.Settings.{Settings}
use Rattle.relay_model.specs.Rooms.{read_kind, write_kind}

pub record HasNoFilters (g : Settings) : Type 0 where
  pub in_read : g.in_read ≡ kind.None
  pub in_write : g.in_write ≡ kind.None
  pub out_read : g.out_read ≡ kind.None
  pub out_write : g.out_write ≡ kind.None

-- The filters of the direction that begins at a side hand these bytes on as they are, before its end and at it.
pub record HandsOn (g : Settings) (e : SideId) (xs : List ℕ) : Type 0 where
  pub passed : (ended : Bool) → flow.passed (filter_of (read_kind g e.side)) (filter_of (write_kind g (peer e).side)) ended xs ≡ xs
  pub whole : flow.passed_at_end (filter_of (read_kind g e.side)) (filter_of (write_kind g (peer e).side)) xs ≡ xs

-- So it is of every direction.
abbrev pub PlainlyHandsOn : Type 0
PlainlyHandsOn = (g : Settings) → HasNoFilters g → (e : SideId) (xs : List ℕ) → HandsOn g e xs
