-- What the lines of a plan are sorted by.
use Rattle.std.specs.Prelude.{ℕ, ◌+◌, ◌*◌}
use Rattle.ev_types.specs.declared.plan_line.PlanLine.{PlanLine}
use Rattle.ev_types.specs.declared.why.WhyKind.{WhyKind}
use Rattle.ev_types.specs.declared.why.WhyKind.TheVariants as kind

abbrev pub rank : WhyKind → ℕ
rank kind.Connected = 0
rank kind.Read = 1
rank kind.Write = 2
rank kind.Timer = 3
rank kind.Event = 4

-- of the n-th fire for a kind
abbrev pub key_at : WhyKind → ℕ → ℕ
key_at k n = 8 * n + rank k

abbrev pub line_key : PlanLine → ℕ
line_key line = key_at line.why line.nth
