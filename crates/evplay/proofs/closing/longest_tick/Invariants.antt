use Rattle.std.proofs.Common.{◌≡◌, ℕ, max, drop, map}
use Rattle.std.specs.Prelude.{fold}
use Rattle.rate_group.specs.declared.group_set.GroupSet.{GroupSet}
use Rattle.evplay.proofs.closing.longest_tick.Given as goal

-- the longest of all groups is the longest of what was found and of those that were not looked at
abbrev pub invariant-loop-group : goal.invariant-loop-group
invariant-loop-group l =
    fold (λ (most n : ℕ). max most n) l.longest (map (λ (x : GroupSet). x.cfg.tick_ms) (drop l.group-index l.groups))
    ≡ fold (λ (most n : ℕ). max most n) l.tick (map (λ (x : GroupSet). x.cfg.tick_ms) l.groups)
