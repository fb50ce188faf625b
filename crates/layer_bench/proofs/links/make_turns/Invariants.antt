use Rattle.std.proofs.Common.{◌≡◌, None}
use Rattle.relay_drive.specs.Seats.{AreSeated}
use Rattle.layer_bench.proofs.links.make_turns.Given as goal

abbrev pub invariant-loop : goal.invariant-loop
invariant-loop g l = l.drive.kept ≡ None → AreSeated l.drive.state l.seats.hooks.items l.seats.gone.items
