use Rattle.std.proofs.Common.{◌≡◌, map, ap, subst, ◌∙◌}
use Rattle.token_bucket.specs.declared.limit.Dir.{Dir}
use Rattle.ev_types.specs.declared.side.SideId.{SideId}
use Rattle.ev_types.specs.Sides.{number}
use Rattle.rate_group.specs.Steps.{group_of}
use Rattle.relay_state.specs.Rooms.{share}
use Rattle.relay_core.specs.Halts.{halts_of, is_free}
use Rattle.relay_core.specs.RelayValue.{RelayValue}
use Rattle.relay_core.specs.Timeless.{leaves_some}
use Rattle.relay_core.specs.declared.relay.Relay.TheInside.{Inside}
use Rattle.relay_core.proofs.HaltLemmas.{free-by}
use Rattle.relay_core.proofs.relay.Relay.group_count.Goals as goal

pub returns-clause-free : goal.returns-clause-free
returns-clause-free c =
    let r = c.self-inside.inside.0.0 in
    let h = c.self-inside.invariant in
    subst (λ (v : RelayValue). (e : SideId) (d : Dir) → leaves_some (share v.state e d)
    ≡ is_free (map halts_of v.state.groups.groups) d (group_of (number e) v.state.groups.members))
    (ap (λ (z : Inside). z.ctl) c.self-inside.view_is ∙ c.self.view_is)
    (λ e d. free-by (number e) d r.groups.value h.grouped.shares)
