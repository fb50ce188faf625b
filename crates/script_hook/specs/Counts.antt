-- How often a hook was called for each kind of reason.
use Rattle.std.specs.Prelude.{◌≡◌, ℕ, List}
use Rattle.ev_types.specs.declared.why.Why.{Why}
use Rattle.ev_types.specs.declared.why.WhyKind.{WhyKind}
use Rattle.ev_types.specs.declared.why.WhyKind.TheVariants as kind
use Rattle.relay_model.specs.Plans.{heard_of}
use Rattle.script_hook.specs.declared.fire_counts.FireCounts.{FireCounts}

abbrev pub count_of : FireCounts → WhyKind → ℕ
count_of c kind.Connected = c.connected
count_of c kind.Read = c.read
count_of c kind.Write = c.write
count_of c kind.Timer = c.timer
count_of c kind.Event = c.event

-- it was called for these reasons
abbrev pub Counts : FireCounts → List Why → Type 0
Counts c heard = (k : WhyKind) → count_of c k ≡ heard_of k heard
