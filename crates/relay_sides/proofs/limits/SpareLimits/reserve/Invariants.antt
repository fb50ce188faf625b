use Rattle.std.proofs.Common.{◌≡◌, ◌≤◌, vec_len}
use Rattle.relay_sides.proofs.limits.SpareLimits.reserve.Given as goal

-- there are as many as the counter says, which is at least as many as there were
abbrev pub invariant-loop : goal.invariant-loop
invariant-loop l = (vec_len l.self-inside.limits ≡ l.counter) × (l.fn.self ≤ l.counter)
