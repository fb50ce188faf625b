-- How a pool keeps its links: those that are not over in the bays of `relay_sides`, where each bay has at most one, and what is left of
-- the others.
use Rattle.std.specs.Prelude.{◌≡◌, ◌≢◌, ◌<◌, ◌≤◌, ◌+◌, ◌*◌, ◌/◌, ◌%◌, ◌^◌, ℕ, Bool, ◌&&◌, nat_lt, if◌then◌else◌, List, length, map}
use Rattle.std.specs.Prelude.{slice_index_or, slice_get}
use Rattle.std.specs.Prelude.{Option, Some, None, vec_len, vec_capacity}
use Rattle.std.specs.Global.{Vec}
use Rattle.std.specs.List.{All, AllPairs, count_by}
use Rattle.relay_model.specs.Plain.{no_side}
use Rattle.relay_model.specs.Flow.{no_flow}
use Rattle.relay_state.specs.Running.{no_gauge}
use Rattle.relay_state.specs.State.{no_lane}
use Rattle.relay_sides.specs.Links.{Links}
use Rattle.relay_sides.specs.Pairs.{HasPairs}
use Rattle.relay_sides.specs.Table.{tabulate}
use Rattle.relay_pool.specs.Stays.{links_with, link_in, stay_at, IsStay, is_in_bay}
use Rattle.relay_pool.specs.PoolValue.{PoolValue}
use Rattle.relay_pool.specs.declared.pool.LinkPool.TheInside.{Inside}
use Rattle.relay_pool.specs.declared.stay.Stay.{Stay}
use Rattle.relay_pool.specs.declared.stay.Stay.TheVariants as stay

-- what one of the lists has of the side, or the direction, of a number
abbrev pub part_at : {A : Type 0} → (Links → List A) → A → Links → List Stay → ℕ → A
part_at get none k stays n =
    let x = stay_at stays (n / 2) in slice_index_or (get (links_with k x)) (2 * link_in x + n % 2) none

abbrev pub links_seen : List Stay → Links → Links
links_seen stays k = record {
  opened = length stays;
  sides = tabulate (part_at (λ (x : Links). x.sides) no_side k stays) (2 * length stays);
  flows = tabulate (part_at (λ (x : Links). x.flows) no_flow k stays) (2 * length stays);
  lanes = tabulate (part_at (λ (x : Links). x.lanes) no_lane k stays) (2 * length stays);
  gauges = tabulate (part_at (λ (x : Links). x.gauges) no_gauge k stays) (2 * length stays);
}

-- for how many bytes of a read there is room at a side: none at one of a link that is over
abbrev pub room_in : List ℕ → Stay → ℕ → ℕ
room_in reads (stay.Bay bay) n = slice_index_or reads (2 * bay + n) 0
room_in reads (stay.Over over) n = 0

-- A link more has a bay that was given back, or a new one; there is room to give back that one too.
abbrev pub bays_of : Inside → ℕ
bays_of r =
    if nat_lt (vec_len r.owners) (vec_capacity r.owners) && nat_lt (vec_len r.owners) (vec_capacity r.free) then r.sides.spare_links else 0

abbrev pub room_for : Inside → ℕ
room_for r = if nat_lt 0 (vec_len r.free) then 1 else bays_of r

abbrev pub links_spare : Inside → ℕ
links_spare r =
    if nat_lt (length r.links.items + 1) (2 ^ 32) && nat_lt (vec_len r.links) (vec_capacity r.links) then room_for r else 0

abbrev pub pool_of : Inside → PoolValue
pool_of r = record {
  links = links_seen r.links.items r.sides.links;
  spare_links = links_spare r;
  spare_reads = tabulate (λ n. room_in r.sides.spare_reads (stay_at r.links.items (n / 2)) (n % 2)) (2 * length r.links.items);
  kept = map is_in_bay r.links.items;
  bays = length r.owners.items;
}

-- The bays that were given back have no owner, are apart, and are as many as those that no link is in; there is room to give back all.
pub record AreGivenBack (free : Vec ℕ) (owners : List (Option ℕ)) (kept : List Bool) : Type 0 where
  pub unowned : All (λ bay. slice_get owners bay ≡ Some None) free.items
  pub apart : AllPairs (λ x y. x ≢ y) free.items
  pub others : length free.items + count_by (λ x. x) kept ≡ length owners
  pub room : length owners ≤ vec_capacity free

-- Each bay has an owner or none, and those without were given back.
pub record ArePooled (r : Inside) : Type 0 where
  pub pairs : HasPairs r.sides.links
  pub bays : length r.owners.items ≡ r.sides.links.opened
  pub few : length r.links.items < 2 ^ 32
  pub stays : (link : ℕ) → link < length r.links.items → IsStay r.owners.items link (stay_at r.links.items link)
  pub free : AreGivenBack r.free r.owners.items (map is_in_bay r.links.items)
