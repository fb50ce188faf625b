use Rattle.std.proofs.Common.{◌≡◌, ◌+◌, ◌-◌, ◌^◌, ◌≤◌, min, drop, length}
use Rattle.std.specs.Prelude.{sum_by}
use Rattle.script_port.specs.ScriptState.{EndKept}
use Rattle.script_port.proofs.script_links.ScriptLinks.unread.Given as goal

-- with the bytes of the ends that are left it is the sum of all
abbrev pub invariant-loop-end : goal.invariant-loop-end
invariant-loop-end l = record {
  left : min (l.sum + sum_by (λ (e : EndKept). length e.state.pending) (drop l.end-index l.end-items)) (2 ^ 64 - 1)
      ≡ min (sum_by (λ (e : EndKept). length e.state.pending) l.end-items) (2 ^ 64 - 1);
  fits : l.sum ≤ 2 ^ 64 - 1;
}
