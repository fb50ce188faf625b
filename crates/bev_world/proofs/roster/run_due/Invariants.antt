use Rattle.std.proofs.Common.{◌≡◌, length}
use Rattle.bev_world.proofs.Taken.{RanSome}
use Rattle.bev_world.proofs.roster.run_due.Given as goal

abbrev pub invariant-loop-owner : goal.invariant-loop-owner
invariant-loop-owner g l = record {
  ran : RanSome (λ b. (goal.Callback-dyn g (b.vtable, b.value)).heard b.value)
      (λ b. (goal.Callback-dyn g (b.vtable, b.value)).may_do b.value) l.count
      (record { world = l.fn.world; serving = l.fn.roster.serving.items; retired = l.fn.roster.retired.items })
      (record { world = l.world; serving = l.roster.serving.items; retired = l.roster.retired.items });
  kept : length l.roster.retired.items ≡ length l.roster.serving.items;
}

abbrev pub decreases-loop-owner : goal.decreases-loop-owner
decreases-loop-owner g l = length l.world.batch
