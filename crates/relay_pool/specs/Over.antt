-- A link that is over: its two sides as one link alone, and what the code keeps of it.
use Rattle.std.specs.Prelude.{◌≡◌, ℕ, true, false, [], ◌∷◌, length, None, if◌then◌else◌}
use Rattle.ev_types.specs.declared.side.Side.{Side}
use Rattle.ev_types.specs.declared.side.SideId.{SideId}
use Rattle.ev_types.specs.Sides.{peer, same_side}
use Rattle.relay_state.specs.Closing.{in_side, out_side}
use Rattle.relay_sides.specs.Links.{Links, side_at, flow_at, lane_at, gauge_at, change_side, bucket_spent, after_took, freed}
use Rattle.relay_sides.specs.SideView.{flags_of}
use Rattle.relay_sides.specs.declared.counts.Counts.{Counts}
use Rattle.relay_sides.specs.declared.flags.SideFlags.{SideFlags}
use Rattle.relay_pool.specs.declared.change.Change.{Change}
use Rattle.relay_pool.specs.declared.change.SideChange.{SideChange}
use Rattle.relay_pool.specs.declared.change.Change.TheVariants as change

-- a side of one link alone
abbrev pub one_side : Side → SideId
one_side side = record { link = 0; side = side }

-- this link of these, alone
abbrev pub link_alone : Links → ℕ → Links
link_alone k link =
    let a = in_side link in
    let b = out_side link in
    record {
      opened = 1;
      sides = side_at k a ∷ side_at k b ∷ [];
      flows = flow_at k a ∷ flow_at k b ∷ [];
      lanes = lane_at k a ∷ lane_at k b ∷ [];
      gauges = gauge_at k a ∷ gauge_at k b ∷ [];
    }

-- a change of a side there
abbrev pub with_change : Change → SideId → Links → Links
with_change change.Ended e k = change_side e (λ x. record x { ended = true; reads = false }) k
with_change change.ReadFailed e k = change_side e (λ x. record x { failed = true; reads = false }) k
with_change change.WriteFailed e k = change_side e (λ x. record x { failed = true; writes = false }) k
with_change change.Connected e k = change_side e (λ x. record x { connecting = false }) k
with_change change.WriteEnded e k = change_side e (λ x. record x { write_ended = true }) k
with_change change.Closed e k = change_side e (λ x. record x { closed = true }) k
with_change change.Freed e k = freed e k
with_change (change.Spent d n time) e k = bucket_spent time e d n k
with_change (change.TookNone time) e k = after_took time e 0 k

abbrev pub changed_by : SideChange → Links → Links
changed_by x k = with_change x.change (one_side x.side) k

-- and of its flags
abbrev pub flags_changed : Change → SideFlags → SideFlags
flags_changed change.Ended x = record x { ended = true; reads = false }
flags_changed change.ReadFailed x = record x { failed = true; reads = false }
flags_changed change.WriteFailed x = record x { failed = true; writes = false }
flags_changed change.Connected x = record x { connecting = false }
flags_changed change.WriteEnded x = record x { write_ended = true }
flags_changed change.Closed x = record x { closed = true }
flags_changed _ x = x

-- those of one of the two sides
abbrev pub flags_after : SideChange → Side → SideFlags → SideFlags
flags_after x side flags = if same_side x.side side then flags_changed x.change flags else flags

-- These are the flags and the counts of a side that is freed, is in no group, has no reference, and to which no byte waits to be given.
pub record IsLeftSide (flags : SideFlags) (counts : Counts) (k : Links) (e : SideId) : Type 0 where
  pub flags_are : flags ≡ flags_of (side_at k e)
  pub freed : (side_at k e).live ≡ false
  pub groupless : (side_at k e).group ≡ None
  pub unheld : (side_at k e).references ≡ 0
  pub read : counts.read ≡ (lane_at k e).read
  pub moved : counts.moved ≡ (flow_at k e).moved
  pub given : counts.given ≡ (flow_at k (peer e)).given
  pub taken : length (lane_at k (peer e)).buffers.raw_output ≡ 0
