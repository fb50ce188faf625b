-- How a run keeps what contracts see of it.
use Rattle.std.specs.Prelude.{◌≡◌, ◌<◌, ◌^◌, length}
use Rattle.base_mode.specs.declared.run.Run.TheInside.{Inside}
use Rattle.base_mode.specs.Order.{made}
use Rattle.base_mode.specs.Run.{RunValue}
use Rattle.base_mode.specs.Plans.{AreTold}

abbrev pub run_of : Inside → RunValue
run_of r = record { base = r.base; time = r.time; before = r.before.items; fires = r.fires.items; text = r.text.items }

-- What holds of every run: beside the lines stand the names of the events that they made, of which there are fewer than
-- 2^32, each with its count of fires, and what they tell the callbacks.
pub record IsRun (r : Inside) : Type 0 where
  pub names : r.names.items ≡ made r.before.items
  pub fires : length r.fires.items ≡ length r.names.items
  pub few : length r.names.items < 2 ^ 32
  pub plans : AreTold r.plans r.before.items
