use Rattle.std.proofs.Common.{◌∙◌, ◌+◌, ◌-◌, ap, sym, arith}
use Rattle.ev_types.specs.declared.side.Side.TheVariants.{In, Out}
use Rattle.ev_types.specs.declared.side.SideId.{SideId}
use Rattle.relay_model.specs.Plain.{sides_from}
use Rattle.relay_core.specs.Waits.{earlier, wait_until, expiries}
use Rattle.relay_core.proofs.TimeLemmas.{sides_from-more}
use Rattle.relay_core.proofs.WaitLemmas.{earlier-none, side_wait, wait_more}
use Rattle.relay_core.proofs.SkipLemmas.{skips, skips-all, expiries-none}
use Rattle.relay_core.proofs.relay.Relay.least_wait.Goals as goal

pub loop-link-preserved : goal.loop-link-preserved
loop-link-preserved c =
    let inv = c.loop-link.invariant in
    let s = c.args.self.now.state in
    let k = c.in-Some.link in
    let n = s.plain.opened in
    let found = c.in-Some.ensures.links in
    let near : SideId = record { link = k; side = In } in
    let far : SideId = record { link = k; side = Out } in
    let rest = sides_from (k + 1) (n - (k + 1)) in
    let b = c.wait_at-in-Some.ensures ∙ ap (side_wait s) c.peer.ensures in
    let least = c.earlier-least.ensures
    ∙ ap (earlier c.loop-link.least) (c.earlier-wait.ensures ∙ (λ i. earlier (c.wait_at.ensures i) (b i))) in
    record {
      within = (let lt = found.1 in omega (arith, lt));
      rest = ap (λ w. earlier w (wait_until s.plain.time (expiries s rest))) least
          ∙ wait_more s c.loop-link.least near far rest
          ∙ ap (λ es. earlier c.loop-link.least (wait_until s.plain.time (expiries s es))) (sym (sides_from-more k n found.1))
          ∙ ap (λ ms. earlier c.loop-link.least (wait_until s.plain.time ms))
          (sym (skips (expiries s) n c.loop-link.from k found.0 (let lt = found.1 in omega (arith, lt))
          (λ e a x. expiries-none s e (found.3 e a x))))
          ∙ inv.rest;
    }

pub returns : goal.returns
returns c =
    let inv = c.loop-link.invariant in
    let s = c.args.self.now.state in
    let least = c.loop-link.least in
    sym (earlier-none least)
    ∙ ap (λ ms. earlier least (wait_until s.plain.time ms))
    (sym (skips-all (expiries s) s.plain.opened c.loop-link.from inv.within
    (λ e a x. expiries-none s e (c.in_default.ensures.links e a x))))
    ∙ inv.rest
