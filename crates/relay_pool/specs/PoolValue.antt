-- What contracts see of a pool: all links that were opened, for how many more there is room, for each side how many bytes of a read there
-- is room for, of each link whether it is kept whole, and how many bays there are to keep links in.
use Rattle.std.specs.Prelude.{◌≡◌, ℕ, Bool, true, not, ◌||◌, ◌&&◌, ◌==◌, List, length, is_some, slice_index_or}
use Rattle.std.specs.List.{count_by}
use Rattle.ev_types.specs.declared.side.SideId.{SideId}
use Rattle.ev_types.specs.Sides.{number, peer}
use Rattle.relay_state.specs.Closing.{in_side, out_side}
use Rattle.relay_sides.specs.Links.{Links, side_at, lane_at}

pub record PoolValue : Type 0 where
  pub links : Links
  pub spare_links : ℕ
  pub spare_reads : List ℕ
  pub kept : List Bool
  pub bays : ℕ

abbrev pub read_spare : PoolValue → SideId → ℕ
read_spare v e = slice_index_or v.spare_reads (number e) 0

-- a side of the link is live
abbrev pub has_live_side : Links → SideId → Bool
has_live_side k e = (side_at k e).live || (side_at k (peer e)).live

-- a side is freed and shut, has no reference, is in no group, and no byte waits to be given to it
abbrev pub is_done_side : Links → SideId → Bool
is_done_side k e =
    let x = side_at k e in
    not x.live && x.closed && x.references == 0 && not (is_some x.group) && length (lane_at k (peer e)).buffers.raw_output == 0

-- both sides of a link are, so that nothing is to be done at it any more
abbrev pub is_done_link : Links → ℕ → Bool
is_done_link k link = is_done_side k (in_side link) && is_done_side k (out_side link)

-- the link is kept whole
abbrev pub is_kept : PoolValue → ℕ → Bool
is_kept v link = slice_index_or v.kept link true

-- how many links are kept whole
abbrev pub kept_links : PoolValue → ℕ
kept_links v = count_by (λ x. x) v.kept

-- the same links are kept whole, and there are as many bays
pub record KeepsBays (old new : PoolValue) : Type 0 where
  pub kept : new.kept ≡ old.kept
  pub bays : new.bays ≡ old.bays
