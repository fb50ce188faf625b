use Rattle.std.proofs.Common.{length, arith}
use Rattle.stream_filters.proofs.GoOnLemmas.{step-most}
use Rattle.bev_core.specs.Steps.{held}
use Rattle.bev_filter.proofs.step.step_reserved.Goals as goal

pub overflow_add-result : goal.overflow_add-result
overflow_add-result c =
    omega (
      arith,
      c.hand_step.ensures.made,
      c.requires.room.counted,
      step-most c.args.filter.now c.args.at_end c.args.limit (length (held c.args.to.now c.args.dir).bytes)
          (held c.args.from.now c.args.dir).bytes,
    )

pub overflow_add-result-in_default : goal.overflow_add-result-in_default
overflow_add-result-in_default c =
    omega (
      arith,
      c.make_step.ensures.made,
      c.requires.room.counted,
      step-most c.args.filter.now c.args.at_end c.args.limit (length (held c.args.to.now c.args.dir).bytes)
          (held c.args.from.now c.args.dir).bytes,
    )
