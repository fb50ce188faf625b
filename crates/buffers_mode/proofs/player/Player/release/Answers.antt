use Rattle.std.proofs.Common.{◌≡◌, ◌<◌, ◌+◌, length, arith, ap, ◌∙◌, length-set}
use Rattle.buffers_mode.specs.Run.{Run, released_by}
use Rattle.buffers_mode.proofs.TellLemmas.{left_released, left_released-told}
use Rattle.buffers_mode.proofs.player.Player.release.Goals as goal

pub loop-b-preserved : goal.loop-b-preserved
loop-b-preserved c =
    let run = c.loop-b.self in
    let told : c.release_buffer.new.self ≡ released_by c.loop-b.b run = c.in_ok-release_buffer.ensures in
    let there : c.loop-b.b < length run.buffers = omega (arith, c.loop-b.invariant.count, c.loop-b.invariant.ends, c.loop-b-test.true) in
    record {
      left = ap (λ (r : Run). left_released r (c.loop-b.b + 1)) told ∙ left_released-told run c.loop-b.b there ∙ c.loop-b.invariant.left;
      count = ap (λ (r : Run). length r.buffers) told ∙ length-set run.buffers c.loop-b.b _ ∙ c.loop-b.invariant.count;
      ends = c.loop-b.invariant.ends;
    }
