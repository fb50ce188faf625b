use Rattle.std.proofs.Common.{arith, rules}
use Rattle.ev_port.proofs.StreamLemmas.{TookOn-join}
use Rattle.program_end.proofs.ListPart.{take_next}
use Rattle.program_end.proofs.output.write_text.Goals as goal

pub loop-at-preserved : goal.loop-at-preserved
loop-at-preserved g c = record {
  within = omega (arith, c.in-Took.ensures.count);
  took = rw take_next (TookOn-join _ _ _ _ _ c.loop-at.invariant.took (rw (← c.split_at.ensures.back) c.in-Took.ensures.bytes));
  calm = search rules;
}
