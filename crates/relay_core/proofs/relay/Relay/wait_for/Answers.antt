use Rattle.std.proofs.Common.{◌≡◌, true, Some, ◌-◌, ◌∙◌, ap, sym, subst}
use Rattle.relay_model.specs.Moments.{is_timed}
use Rattle.relay_model.specs.Plain.{side_at}
use Rattle.relay_state.specs.State.{State}
use Rattle.relay_state.specs.Rooms.{wants}
use Rattle.relay_state.specs.Time.{expiry}
use Rattle.ev_types.specs.Sides.{number}
use Rattle.relay_core.specs.RelayValue.{RelayValue}
use Rattle.relay_core.specs.RelayView.{state_with}
use Rattle.relay_core.specs.Waits.{wait_until}
use Rattle.relay_core.specs.declared.relay.Relay.TheInside.{Inside}
use Rattle.relay_core.proofs.RelayLemmas.{sound_at}
use Rattle.relay_core.proofs.TimeLemmas.{last_sound}
use Rattle.relay_core.proofs.WaitLemmas.{wait-idle}
use Rattle.relay_core.proofs.relay.Relay.wait_for.Goals as goal

pub returns : goal.returns
returns c =
    let r = c.self-inside.inside.0.0 in
    let h = c.self-inside.invariant in
    let e = c.args.side in
    let d = c.args.dir in
    let s : State = state_with r r.sides.links in
    let own = ap (λ (z : Inside). z.ctl) c.self-inside.view_is in
    let is = own ∙ c.self.view_is in
    let timed : is_timed (side_at s.plain e) d ≡ true = ap (λ (z : RelayValue). is_timed (side_at z.state.plain e) d) own
    ∙ sym c.is_timed.ensures ∙ c.if-not-is_timed.false in
    let wanted : wants s e d ≡ true = ap (λ (z : RelayValue). wants z.state e d) is ∙ sym c.wants.ensures ∙ c.if-not-wants.false in
    let last = last_sound r.time r.untimed d (side_at s.plain e) (sound_at r.time r.untimed r.sides.links.sides h.timed.sides (number e)) in
    ap Some c.saturating_sub.ensures
    ∙ subst (λ (v : RelayValue). Some (c.timeout.result - c.idle_time-idle.result) ≡ wait_until v.state.plain.time (expiry v.state e d)) is
    (wait-idle s e d c.idle_time-idle.result c.timeout.result timed wanted last c.idle_time-idle.ensures c.timeout.ensures)
