use Rattle.std.proofs.Common.{◌∙◌, ◌++◌, ap, sym, subst, map, List, ℕ}
use Rattle.relay_core.specs.declared.relay.Relay.TheInside.{Inside}
use Rattle.relay_core.specs.RelayValue.{RelayValue}
use Rattle.relay_core.specs.Waits.{earlier, wait_until, expiries, gains}
use Rattle.relay_model.specs.Plain.{Timer, all_sides}
use Rattle.relay_state.specs.Time.{group_gains}
use Rattle.relay_core.proofs.RelayLemmas.{no_rates}
use Rattle.relay_core.proofs.TimeLemmas.{IsUntimed, untimed_seen, moments-untimed}
use Rattle.relay_core.proofs.WaitLemmas.{wait_until-append}
use Rattle.relay_core.proofs.relay.Relay.least_wait_of_all.Goals as goal

pub returns-then-self : goal.returns-then-self
returns-then-self c =
    let s = c.args.self.now.state in
    let r = c.self-inside.inside.0.0 in
    let is = ap (λ (z : Inside). z.ctl) c.self-inside.view_is ∙ c.self.view_is in
    let untimed = subst (λ (z : RelayValue). IsUntimed z.state) is (untimed_seen r c.self-inside.invariant c.if-self.true) in
    c.timer_wait.ensures
    ∙ ap (wait_until s.plain.time) (sym (moments-untimed s (no_rates c.args.self.now r is c.self-inside.invariant c.if-self.true) untimed))

pub returns : goal.returns
returns c =
    let s = c.args.self.now.state in
    let t = s.plain.time in
    let timers : List ℕ = map (λ (x : Timer). x.deadline) s.plain.timers in
    let expire : List ℕ = expiries s (all_sides s.plain) in
    let gain : List ℕ = gains s (all_sides s.plain) in
    let group : List ℕ = group_gains s 0 s.groups.groups in
    let timed = c.earlier-timed.ensures ∙ (λ i. earlier (c.timer_wait-2.ensures i) (c.least_wait.ensures i))
    ∙ sym (wait_until-append t timers expire) in
    let limited = c.earlier-limited.ensures ∙ (λ i. earlier (timed i) (c.gain_wait.ensures i))
    ∙ sym (wait_until-append t (timers ++ expire) gain) in
    c.earlier.ensures ∙ (λ i. earlier (limited i) (c.group_wait.ensures i))
    ∙ sym (wait_until-append t ((timers ++ expire) ++ gain) group)
