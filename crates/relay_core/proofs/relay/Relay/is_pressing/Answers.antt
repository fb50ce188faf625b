use Rattle.std.proofs.Common.{◌∙◌, ◌==◌, length, ap, sym, subst}
use Rattle.relay_model.specs.Plain.{all_sides}
use Rattle.relay_core.specs.declared.relay.Relay.TheInside.{Inside}
use Rattle.relay_core.specs.RelayValue.{RelayValue}
use Rattle.relay_core.proofs.TimeLemmas.{IsUntimed, untimed_seen, none_expired, pressing-quiet}
use Rattle.relay_core.proofs.relay.Relay.is_pressing.Goals as goal

pub returns-then-self : goal.returns-then-self
returns-then-self c =
    let s = c.args.self.now.state in
    let is = ap (λ (z : Inside). z.ctl) c.self-inside.view_is ∙ c.self.view_is in
    let untimed = subst (λ (z : RelayValue). IsUntimed z.state) is
    (untimed_seen c.self-inside.inside.0.0 c.self-inside.invariant c.if-self.true) in
    let same = ap (λ (z : RelayValue). length z.state.plain.due == 0) (sym is) in
    sym (pressing-quiet s (same ∙ sym c.is_quiet.ensures ∙ c.if-not-is_quiet.false) ∙ none_expired s untimed (all_sides s.plain))
