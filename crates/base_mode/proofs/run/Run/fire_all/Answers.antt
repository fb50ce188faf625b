-- One step of the batch more, and why the run stops.
use Rattle.std.proofs.Common.{◌≡◌, ◌∙◌, refl, ◌+◌}
use Rattle.std.proofs.lemmas.Result.{err_from_is_err_and}
use Rattle.base_mode.specs.Turned.{owed, whole_batch}
use Rattle.base_mode.proofs.FireLemmas.{all_fired-stopped, fires-smaller, fires-left, fires-closed}
use Rattle.base_mode.proofs.run.Run.fire_all.Goals as goal

pub returns-in_err-fires : goal.returns-in_err-fires
returns-in_err-fires c =
    let p = err_from_is_err_and c.from_residual.result c.from_residual.ensures.1 in
    let left : whole_batch c.loop-fires.self ≡ whole_batch c.args.self.now = rw c.loop-fires-test.true at c.loop-fires.invariant.left in
    rw (p.1, p.2, ← left)
    (all_fired-stopped c.in_err-fires.field-0.0 (owed c.loop-fires.self.base + 1)
    (owed c.loop-fires.self.base) c.loop-fires.self c.fire_next.new.self refl c.in_err-fires.ensures)

pub loop-fires-smaller : goal.loop-fires-smaller
loop-fires-smaller c =
    fires-smaller c.in_ok-fires.fires c.loop-fires.fires c.loop-fires.self c.fire_next.new.self c.loop-fires-test.true
    (c.loop-fires.invariant.closed c.loop-fires-test.true)
    c.in_ok-fires.ensures

pub loop-fires-preserved : goal.loop-fires-preserved
loop-fires-preserved c =
    let closed = c.loop-fires.invariant.closed c.loop-fires-test.true in
    let left : whole_batch c.loop-fires.self ≡ whole_batch c.args.self.now = rw c.loop-fires-test.true at c.loop-fires.invariant.left in
    record {
      closed = fires-closed c.in_ok-fires.fires c.loop-fires.self c.fire_next.new.self closed c.in_ok-fires.ensures;
      left = fires-left c.in_ok-fires.fires c.loop-fires.self c.fire_next.new.self closed c.in_ok-fires.ensures ∙ left;
    }
