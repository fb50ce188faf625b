-- What contracts see of the relay: its state, for how many more links there is room, for each side how many bytes of a read there is room
-- for, and of each link whether it is kept whole; whether no side has a timeout, and which links are watched; and of the hook that runs,
-- or ran last, whose it is, how many asks it made, whether it stopped the run, the events of what it asked, and for how many of them there
-- is room.
use Rattle.std.specs.Prelude.{◌≡◌, ℕ, Bool, true, false, List, slice_index_or}
use Rattle.ev_types.specs.declared.side.SideId.{SideId}
use Rattle.ev_types.specs.Sides.{number}
use Rattle.ev_types.specs.Trace.{Trace}
use Rattle.number_set.specs.Numbers.{NumberSetValue}
use Rattle.relay_state.specs.State.{State}
use Rattle.relay_sides.specs.Links.{Links}
use Rattle.relay_pool.specs.PoolValue.{is_done_link}

pub record RelayValue : Type 0 where
  pub state : State
  pub spare_links : ℕ
  pub spare_reads : List ℕ
  pub kept : List Bool
  pub untimed : Bool
  pub watched : NumberSetValue
  pub me : SideId
  pub asks : ℕ
  pub stopped : Bool
  pub log : Trace
  pub fire_room : ℕ

abbrev pub spare_read : RelayValue → SideId → ℕ
spare_read r e = slice_index_or r.spare_reads (number e) 0

-- the sides of a state and the directions between them, as its pool has them
abbrev pub links_in : State → Links
links_in s = record {
  opened = s.plain.opened;
  sides = s.plain.sides;
  flows = s.plain.flows;
  lanes = s.lanes;
  gauges = s.gauges;
}

-- where nothing is to be done at a link any more, it is not kept whole
abbrev pub IsLeftWhereDone : RelayValue → ℕ → Type 0
IsLeftWhereDone r link = is_done_link (links_in r.state) link ≡ true → slice_index_or r.kept link true ≡ false
