use Rattle.std.proofs.Common.{◌≡◌, ◌+◌, ℕ, true, List, Some, IfSome}
use Rattle.std.specs.Option.{option_map_or}
use Rattle.bev_world.specs.WorldValue.{is_live}
use Rattle.bev_world.specs.Frees.{FreesTo}
use Rattle.bev_world.proofs.world.World.free.Given as goal

-- the chain down to the next is freed, and the next is live
abbrev pub invariant-loop-next : goal.invariant-loop-next
invariant-loop-next l = record {
  chain : List ℕ;
  frees : FreesTo (Some l.fn.id.0) chain l.fn.self l.next l.self;
  live : IfSome l.next (λ n. is_live l.self n ≡ true);
}

abbrev pub decreases-loop-next : goal.decreases-loop-next
decreases-loop-next l = option_map_or (λ n. n + 1) l.next 0
