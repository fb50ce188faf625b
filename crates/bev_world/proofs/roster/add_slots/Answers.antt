use Rattle.std.proofs.Common.{arith}
use Rattle.bev_world.proofs.roster.add_slots.Goals as goal

pub returns-clause-many : goal.returns-clause-many
returns-clause-many g c =
    omega (
      arith,
      c.args.boxes.now.ok.0,
      c.loop.invariant.many,
      c.loop.auto.counter-end,
      c.loop.auto.counter,
      c.loop-test.false,
      c.len-counter.ensures,
    )
