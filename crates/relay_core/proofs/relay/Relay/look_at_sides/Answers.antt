use Rattle.std.proofs.Common.{◌≡◌, ◌∙◌, ◌+◌, ◌-◌, ◌<◌, ap, sym, subst, arith, fold}
use Rattle.relay_model.specs.Plain.{sides_from, all_sides}
use Rattle.relay_state.specs.Time.{side_timed}
use Rattle.relay_core.specs.declared.relay.Relay.TheInside.{Inside}
use Rattle.relay_core.specs.RelayValue.{RelayValue}
use Rattle.relay_core.proofs.TimeLemmas.{sides_timed-none, sides_from-more}
use Rattle.relay_core.proofs.SkipLemmas.{skips, skips-all, fold-none}
use Rattle.relay_core.proofs.relay.Relay.look_at_sides.Goals as goal

pub returns-then-self-clause-state : goal.returns-then-self-clause-state
returns-then-self-clause-state c =
    subst (λ (z : RelayValue). z.state ≡ fold side_timed z.state (all_sides z.state.plain))
    (ap (λ (z : Inside). z.ctl) c.self-inside.view_is ∙ c.self.view_is)
    (sym (sides_timed-none c.self-inside.inside.0.0 c.self-inside.invariant c.if-self.true))

pub loop-link-preserved : goal.loop-link-preserved
loop-link-preserved c =
    let inv = c.loop-link.invariant in
    let s = c.loop-link.self.state in
    let k = c.in-Some.link in
    let n = c.args.self.now.state.plain.opened in
    let found = c.in-Some.ensures.links in
    let below : k < n = (let o = inv.opened in let lt = found.1 in omega (arith, o, lt)) in
    let rest = sides_from (k + 1) (n - (k + 1)) in
    let both = c.look_at_side-in-Some.ensures.state ∙ (λ i. side_timed (c.look_at_side.ensures.state i) (c.peer.ensures i)) in
    record {
      untimed = c.look_at_side-in-Some.ensures.untimed ∙ c.look_at_side.ensures.untimed ∙ inv.untimed;
      watched = λ n out. inv.watched n (c.look_at_side.ensures.watched n (c.look_at_side-in-Some.ensures.watched n out));
      opened = c.look_at_side-in-Some.ensures.opened ∙ c.look_at_side.ensures.opened ∙ inv.opened;
      within = omega (arith, below);
      rest = ap (λ z. fold side_timed z rest) both
          ∙ ap (fold side_timed s) (sym (sides_from-more k n below))
          ∙ sym (skips (fold side_timed s) n c.loop-link.from k found.0 (omega (arith, below))
          (λ e a b. fold-none s e (found.3 e a b)))
          ∙ inv.rest;
    }

pub returns-clause-state : goal.returns-clause-state
returns-clause-state c =
    let inv = c.loop-link.invariant in
    let s = c.loop-link.self.state in
    let n = c.args.self.now.state.plain.opened in
    sym (skips-all (fold side_timed s) n c.loop-link.from inv.within
    (λ e a b. fold-none s e (c.in_default.ensures.links e a (let o = inv.opened in omega (arith, o, b)))))
    ∙ inv.rest
