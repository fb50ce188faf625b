-- How they are kept.
use Rattle.std.specs.Prelude.{◌≡◌, ◌*◌, ◌/◌, ◌^◌, ◌≤◌, true, length, None}
use Rattle.ev_types.specs.declared.side.SideId.{SideId}
use Rattle.resting_links.specs.RestingValue.{RestingValue, side_moment}
use Rattle.resting_links.specs.declared.resting.RestingLinks.TheInside.{Inside}

abbrev pub resting_of : Inside → RestingValue
resting_of r = record { watched = r.watched; moments = r.moments }

-- There are places for the moments of both sides of a link. Each is one of a link that may be watched, of which there are no more than
-- numbers of links, and no side of a watched link has one.
pub record KeepsMoments (r : RestingValue) : Type 0 where
  pub pairs : 2 * (length r.moments / 2) ≡ length r.moments
  pub few : r.watched.len ≤ 2 ^ 32
  pub covers : length r.moments ≤ 2 * r.watched.len
  pub none : (e : SideId) → r.watched.has e.link ≡ true → side_moment r e ≡ None
