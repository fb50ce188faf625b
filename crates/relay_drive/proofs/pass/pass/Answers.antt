use Rattle.std.proofs.Common.{[], ◌+◌, ◌-◌, ◌<◌, refl, sym, ◌∙◌, subst, arith}
use Rattle.std.proofs.lemmas.Result.{err_from_is_err_and}
use Rattle.relay_drive.specs.Steps.{Each}
use Rattle.relay_drive.specs.Phases.{PassesLink, links_from}
use Rattle.relay_drive.proofs.EachLemmas.{each_push, links_from-push, links_next}
use Rattle.relay_drive.proofs.AgendaLemmas.{passes-up}
use Rattle.relay_drive.proofs.pass.pass.Goals as goal

pub returns-in_err-pass_next-clause-went : goal.returns-in_err-pass_next-clause-went
returns-in_err-pass_next-clause-went c =
    let p = err_from_is_err_and c.from_residual.result c.from_residual.ensures.1 in
    let inv = c.loop-link.invariant in
    let k = c.in-Some.link in
    let n = c.args.relay.now.state.plain.opened in
    let found = c.in-Some.ensures in
    let lt : k < n = omega (arith, found.1, c.opened.ensures.count, inv.opened) in
    rw (p.1) (record {
      front = links_from 0 k;
      last = k;
      back = links_from (k + 1) (n - (k + 1));
      all = links_next k n lt;
      went = record {
        middle = c.loop-link.relay.state;
        front = [];
        back = [];
        first = passes-up c.loop-link.agenda _ _ c.loop-link.from k found.0 (omega (arith, lt, inv.opened)) found.3 inv.kept inv.went;
        second = c.in_err-pass_next.ensures.went;
        joined = refl;
      };
    })

pub loop-link-preserved : goal.loop-link-preserved
loop-link-preserved c =
    let inv = c.loop-link.invariant in
    let k = c.in-Some.link in
    let n = c.args.relay.now.state.plain.opened in
    let found = c.in-Some.ensures in
    let lt : k < n = omega (arith, found.1, c.opened.ensures.count, inv.opened) in
    let step = c.in_ok-pass_next.ensures in
    record {
      went = subst (λ z. Each PassesLink z c.args.relay.now.state [] c.pass_next.new.relay.state) (sym (links_from-push k))
          (each_push PassesLink (links_from 0 k) k
          (record {
            middle = c.loop-link.relay.state;
            front = [];
            back = [];
            first = passes-up c.loop-link.agenda _ _ c.loop-link.from k found.0 (omega (arith, lt, inv.opened)) found.3 inv.kept inv.went;
            second = step.went;
            joined = refl;
          }));
      kept = step.kept;
      names = λ t h. step.names t (inv.names t h);
      time = step.time ∙ inv.time;
      settings = step.settings ∙ inv.settings;
      opened = step.opened ∙ inv.opened;
      within = omega (arith, lt);
    }

pub returns-clause-went : goal.returns-clause-went
returns-clause-went c =
    let inv = c.loop-link.invariant in
    let n = c.args.relay.now.state.plain.opened in
    let all = c.in_default.ensures in
    passes-up c.loop-link.agenda _ _ c.loop-link.from n inv.within (omega (arith, inv.opened))
    (λ k a b. all k a (omega (arith, b, c.opened.ensures.count, inv.opened))) inv.kept inv.went
