use Rattle.std.proofs.Common.{◌≡◌, ◌∙◌, ◌-◌, ℕ, Option, Some, option_map, ap, sym}
use Rattle.rate_group.specs.Gains as gains
use Rattle.relay_state.specs.State.{State}
use Rattle.relay_state.specs.Time.{group_gains}
use Rattle.relay_core.specs.declared.ctl.Ctl.TheInside as ctl
use Rattle.relay_core.specs.declared.relay.Relay.TheInside.{Inside}
use Rattle.relay_core.specs.RelayValue.{RelayValue}
use Rattle.relay_core.specs.RelayView.{relay_of, state_with}
use Rattle.relay_core.specs.Waits.{wait_until}
use Rattle.relay_core.proofs.WaitLemmas.{gains-alike, first-earliest}
use Rattle.relay_core.proofs.relay.Relay.group_wait.Goals as goal

-- how long it is until the moment that the groups answer
told : (v : RelayValue) (r : ctl.Inside) → relay_of r ≡ v → (answer : Option ℕ) →
    answer ≡ gains.first_moment (gains.waiting_gains r.time 0 r.groups.value.members r.groups.value.groups) →
    option_map (λ moment. moment - r.time) answer ≡ wait_until v.state.plain.time (group_gains v.state 0 v.state.groups.groups)
told v r is answer h =
    let s : State = state_with r r.sides.links in
    ap (option_map (λ moment. moment - r.time)) (h ∙ ap gains.first_moment (gains-alike s 0 s.groups.groups) ∙ first-earliest
    (group_gains s 0 s.groups.groups))
    ∙ ap (λ (z : RelayValue). wait_until z.state.plain.time (group_gains z.state 0 z.state.groups.groups)) is

pub returns-in_err-moment : goal.returns-in_err-moment
returns-in_err-moment c =
    let is = ap (λ (z : Inside). z.ctl) c.self-inside.view_is ∙ c.self.view_is in
    c.from_residual.ensures
    ∙ ap (option_map (λ moment. moment - c.self-inside.inside.0.0.time)) (sym c.in_err-moment.was)
    ∙ told c.args.self.now c.self-inside.inside.0.0 is c.gains_at.result c.gains_at.ensures

pub returns : goal.returns
returns c =
    let is = ap (λ (z : Inside). z.ctl) c.self-inside.view_is ∙ c.self.view_is in
    ap Some c.saturating_sub.ensures
    ∙ ap (option_map (λ moment. moment - c.self-inside.inside.0.0.time)) (sym c.in_ok-moment.was)
    ∙ told c.args.self.now c.self-inside.inside.0.0 is c.gains_at.result c.gains_at.ensures
