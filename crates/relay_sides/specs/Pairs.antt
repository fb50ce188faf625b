-- What is kept for each link that was opened.
use Rattle.std.specs.Prelude.{◌≡◌, ◌*◌, length}
use Rattle.relay_sides.specs.Links.{Links}

-- there are two sides, with their buckets, and two directions for each link
pub record HasPairs (k : Links) : Type 0 where
  pub sides : length k.sides ≡ 2 * k.opened
  pub flows : length k.flows ≡ 2 * k.opened
  pub lanes : length k.lanes ≡ 2 * k.opened
  pub gauges : length k.gauges ≡ 2 * k.opened
