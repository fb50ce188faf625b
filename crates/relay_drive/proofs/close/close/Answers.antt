use Rattle.std.proofs.Common.{◌<◌, ◌∙◌, arith}
use Rattle.std.proofs.lemmas.Result.{err_from_is_err_and}
use Rattle.relay_drive.specs.Phases.{ClosesLink, CutClosingLink}
use Rattle.relay_drive.proofs.GoesLemmas.{goes_as}
use Rattle.relay_drive.proofs.EachLemmas.{goes_link, goes_link_cut}
use Rattle.relay_drive.proofs.AgendaLemmas.{closes-up}
use Rattle.relay_drive.proofs.close.close.Goals as goal

pub returns-in_err-close_next-clause-went : goal.returns-in_err-close_next-clause-went
returns-in_err-close_next-clause-went g c =
    let p = err_from_is_err_and c.from_residual.result c.from_residual.ensures.1 in
    let inv = c.loop-link.invariant in
    let k = c.in-Some.link in
    let n = c.args.run.now.relay.state.plain.opened in
    let found = c.in-Some.ensures in
    let lt : k < n = omega (arith, found.1, c.opened.ensures.count, inv.opened) in
    rw (p.1) (goes_as (λ a q. q) (goes_link_cut ClosesLink CutClosingLink k n lt
    (goes_as (λ a q. closes-up c.loop-link.agenda _ _ a c.loop-link.from k found.0 (omega (arith, lt, inv.opened)) found.3 inv.kept q)
    inv.went)
    c.in_err-close_next.ensures.went))

pub loop-link-preserved : goal.loop-link-preserved
loop-link-preserved g c =
    let inv = c.loop-link.invariant in
    let k = c.in-Some.link in
    let n = c.args.run.now.relay.state.plain.opened in
    let found = c.in-Some.ensures in
    let lt : k < n = omega (arith, found.1, c.opened.ensures.count, inv.opened) in
    let step = c.in_ok-close_next.ensures in
    record {
      went = goes_link ClosesLink k
          (goes_as (λ a q. closes-up c.loop-link.agenda _ _ a c.loop-link.from k found.0 (omega (arith, lt, inv.opened)) found.3
          inv.kept q) inv.went)
          step.went;
      kept = step.kept;
      names = λ t h. step.names t (inv.names t h);
      opened = step.opened ∙ inv.opened;
      within = omega (arith, lt);
    }

pub returns-clause-went : goal.returns-clause-went
returns-clause-went g c =
    let inv = c.loop-link.invariant in
    let n = c.args.run.now.relay.state.plain.opened in
    let all = c.in_default.ensures in
    goes_as (λ a q. closes-up c.loop-link.agenda _ _ a c.loop-link.from n inv.within (omega (arith, inv.opened))
    (λ k b d. all k b (omega (arith, d, c.opened.ensures.count, inv.opened))) inv.kept q) inv.went
