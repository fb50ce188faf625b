use Rattle.std.specs.Prelude.{option_to_list}
use Rattle.std.proofs.Common.{◌≡◌, ℕ, ◌∙◌, ◌+◌, ◌-◌, Option, ap, sym, arith}
use Rattle.ev_types.specs.declared.side.Side.TheVariants.{In, Out}
use Rattle.ev_types.specs.declared.side.SideId.{SideId}
use Rattle.relay_model.specs.Moments.{earliest}
use Rattle.relay_model.specs.Plain.{sides_from, side_at}
use Rattle.relay_state.specs.State.{State, gauge_at}
use Rattle.relay_core.specs.Timeless.{side_gains}
use Rattle.relay_core.specs.Waits.{earlier, gain_of, gains}
use Rattle.relay_core.specs.RelayValue.{RelayValue}
use Rattle.relay_core.specs.declared.relay.Relay.TheInside.{Inside}
use Rattle.relay_core.proofs.GainLemmas.{gain-side}
use Rattle.relay_core.proofs.RestLemmas.{resting-late, resting-first}
use Rattle.relay_core.proofs.TimeLemmas.{sides_from-more}
use Rattle.relay_core.proofs.WaitLemmas.{earlier-none, earliest-one, firsts_more, late-out, late-more}
use Rattle.relay_core.proofs.SkipLemmas.{skips, skips-all}
use Rattle.relay_core.proofs.relay.Relay.first_gain.Goals as goal

-- what is told of a side is the first of its moments
told : (s : State) (e : SideId) (o : Option ℕ) → option_to_list o ≡ side_gains s.plain.time (side_at s.plain e) (gauge_at s e) →
    o ≡ earliest (gain_of s e)
told s e o h = sym (earliest-one o) ∙ ap earliest (h ∙ sym (gain-side s e))

pub loop-link-init : goal.loop-link-init
loop-link-init c =
    let r = c.self-inside.inside.0.0 in
    let h = c.self-inside.invariant in
    let is = ap (λ (z : Inside). z.ctl) c.self-inside.view_is ∙ c.self.view_is in
    let all : c.args.self.now.state.plain.opened - 0 ≡ c.args.self.now.state.plain.opened = omega arith in
    record {
      within = omega arith;
      low = resting-late r h c.args.self.now is c.first-first.result c.first-first.ensures;
      rest = ap (λ n. earlier c.first-first.result (earliest (gains c.args.self.now.state (sides_from 0 n)))) all
          ∙ resting-first r h c.args.self.now is c.first-first.result c.first-first.ensures;
    }

pub loop-link-preserved : goal.loop-link-preserved
loop-link-preserved c =
    let inv = c.loop-link.invariant in
    let s = c.args.self.now.state in
    let k = c.in-Some.link in
    let n = s.plain.opened in
    let found = c.in-Some.ensures in
    let near : SideId = record { link = k; side = In } in
    let far : SideId = record { link = k; side = Out } in
    let rest = sides_from (k + 1) (n - (k + 1)) in
    let first = c.loop-link.first in
    let a = told c.self.inside.ctl.state near c.gains_at.result c.gains_at.ensures
    ∙ ap (λ (z : RelayValue). earliest (gain_of z.state near)) c.self.view_is in
    let b = told c.self.inside.ctl.state c.peer.result c.gains_at-in-Some.result c.gains_at-in-Some.ensures
    ∙ ap (λ (z : RelayValue). earliest (gain_of z.state c.peer.result)) c.self.view_is ∙ ap (λ e. earliest (gain_of s e)) c.peer.ensures in
    let more = c.earlier-first.ensures ∙ ap (earlier first) (c.earlier-gain.ensures ∙ (λ i. earlier (a i) (b i))) in
    record {
      within = (let lt = found.links.1 in omega (arith, lt));
      low = λ e below out.
          ap (λ o. earlier o (earliest (gain_of s e))) more
          ∙ late-more (earliest (gain_of s e)) first (earlier (earliest (gain_of s near)) (earliest (gain_of s far))) (inv.low e below out)
          ∙ sym more;
      rest = ap (λ o. earlier o (earliest (gains s rest))) more
          ∙ firsts_more (gain_of s) first near far rest
          ∙ ap (λ es. earlier first (earliest (gains s es))) (sym (sides_from-more k n found.links.1))
          ∙ sym (skips (λ es. earlier first (earliest (gains s es))) n c.loop-link.from k found.links.0
          (let lt = found.links.1 in omega (arith, lt))
          (λ e x y es. late-out (gain_of s) first e es
          (inv.low e (let lt = found.links.1 in omega (arith, y, lt)) (found.out e.link x y))))
          ∙ inv.rest;
    }

pub returns : goal.returns
returns c =
    let inv = c.loop-link.invariant in
    let s = c.args.self.now.state in
    let first = c.loop-link.first in
    sym (earlier-none first)
    ∙ sym (skips-all (λ es. earlier first (earliest (gains s es))) s.plain.opened c.loop-link.from inv.within
    (λ e x y es. late-out (gain_of s) first e es (inv.low e y (c.in_default.ensures.out e.link x y))))
    ∙ inv.rest
