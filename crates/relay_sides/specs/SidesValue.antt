-- What contracts see of the sides: the links with their bytes, for how many more links there is room, for each side how many bytes of a
-- read there is room for, and the room of directions.
use Rattle.std.specs.Prelude.{ℕ, List, slice_index_or}
use Rattle.ev_types.specs.declared.side.SideId.{SideId}
use Rattle.ev_types.specs.Sides.{number}
use Rattle.relay_sides.specs.Links.{Links}
use Rattle.relay_sides.specs.Rooms.{Rooms}

pub record SidesValue : Type 0 where
  pub links : Links
  pub spare_links : ℕ
  pub spare_reads : List ℕ
  pub rooms : Rooms

abbrev pub spare_read : SidesValue → SideId → ℕ
spare_read v e = slice_index_or v.spare_reads (number e) 0
