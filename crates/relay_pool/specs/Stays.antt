-- Where links are, and what is so of one that is over.
use Rattle.std.specs.Prelude.{◌≡◌, ⊤, ℕ, Bool, true, false, List, [], slice_index_or, slice_set, slice_get, Option, Some, None}
use Rattle.ev_types.specs.declared.side.SideId.{SideId}
use Rattle.ev_types.specs.Sides.{peer}
use Rattle.relay_state.specs.Closing.{in_side, out_side}
use Rattle.relay_sides.specs.Links.{Links, side_at, lane_at, has_spent_count}
use Rattle.relay_sides.specs.Pairs.{HasPairs}
use Rattle.relay_pool.specs.Over.{IsLeftSide}
use Rattle.relay_pool.specs.declared.stay.Over.{Over}
use Rattle.relay_pool.specs.declared.stay.Stay.{Stay}
use Rattle.relay_pool.specs.declared.stay.Stay.TheVariants as stay

-- in which links the values of a link stand, and which of those it is
abbrev pub links_with : Links → Stay → Links
links_with k (stay.Bay bay) = k
links_with k (stay.Over over) = over.memory.kept

abbrev pub link_in : Stay → ℕ
link_in (stay.Bay bay) = bay
link_in (stay.Over over) = 0

abbrev pub stay_at : List Stay → ℕ → Stay
stay_at stays link = slice_index_or stays link (stay.Bay 0)

-- a side of it there
abbrev pub at_stay : Stay → SideId → SideId
at_stay x e = record { link = link_in x; side = e.side }

-- the link is in a bay
abbrev pub IsBay : Stay → Type 0
IsBay (stay.Bay bay) = ⊤
IsBay (stay.Over over) = ⊥

abbrev pub is_in_bay : Stay → Bool
is_in_bay (stay.Bay bay) = true
is_in_bay (stay.Over over) = false

-- it is over
abbrev pub IsOutOfBay : Stay → Type 0
IsOutOfBay (stay.Bay bay) = ⊥
IsOutOfBay (stay.Over over) = ⊤

-- it is over, and this is left of it
abbrev pub IsOverAs : Over → Stay → Type 0
IsOverAs over x = x ≡ stay.Over over

-- this is left of a link that is over, and this is remembered of it
pub record IsRemnant (over : Over) : Type 0 where
  pub near : IsLeftSide over.near over.near_counts over.memory.kept (in_side 0)
  pub far : IsLeftSide over.far over.far_counts over.memory.kept (out_side 0)
  pub spent : over.is_spent ≡ has_spent_count over.memory.kept 0
  pub pairs : HasPairs over.memory.kept
  pub one : over.memory.kept.opened ≡ 1

-- a link of this number is in a bay that is its own, or is over
abbrev pub IsStay : List (Option ℕ) → ℕ → Stay → Type 0
IsStay owners link (stay.Bay bay) = slice_get owners bay ≡ Some (Some link)
IsStay owners link (stay.Over over) = IsRemnant over

-- a side is freed and shut, is in no group, has no reference, and no byte waits to be given to it
pub record IsDoneSide (k : Links) (e : SideId) : Type 0 where
  pub freed : (side_at k e).live ≡ false
  pub closed : (side_at k e).closed ≡ true
  pub unheld : (side_at k e).references ≡ 0
  pub groupless : (side_at k e).group ≡ None
  pub taken : (lane_at k (peer e)).buffers.raw_output ≡ []

-- what is remembered of a link that is over is changed so
abbrev pub Remembers : (Links → Links) → Stay → Stay → Type 0
Remembers change (stay.Over old) (stay.Over new) = (new.memory.kept ≡ change old.memory.kept) × (IsRemnant old → IsRemnant new)
Remembers change _ _ = ⊥

-- and no other link is
pub record IsLeftBy (change : Links → Links) (link : ℕ) (old new : List Stay) : Type 0 where
  pub there : Remembers change (stay_at old link) (stay_at new link)
  pub rest : new ≡ slice_set old link (stay_at new link)
