use Rattle.std.proofs.Common.{false, true, Ok, refl, sym, ◌∙◌, ap, subst}
use Rattle.std.proofs.lemmas.Result.{err_from_is_err_and}
use Rattle.relay_state.specs.State.{State}
use Rattle.relay_core.specs.BothPassed.{PassedBoth}
use Rattle.relay_drive.specs.Agenda.{IsKept, KeepsNames}
use Rattle.relay_drive.proofs.AgendaLemmas.{at-passed, kept-but, names-but, kept-passed, names-beside}
use Rattle.relay_drive.proofs.LinkPassLemmas.{link_went, link_cut, link_keeps}
use Rattle.relay_drive.proofs.pass.pass_next.Goals as goal

pub returns-in_err-pass_link-clause-went : goal.returns-in_err-pass_link-clause-went
returns-in_err-pass_link-clause-went c =
    let p = err_from_is_err_and c.from_residual.result c.from_residual.ensures.1 in
    rw (p.1) (link_cut c.args.relay.now.state c.pass_link.new.self.state c.args.link c.in_err-pass_link.ensures.passed)

pub returns-in_err-pass_link-clause-opened : goal.returns-in_err-pass_link-clause-opened
returns-in_err-pass_link-clause-opened c =
    link_keeps c.args.relay.now.state c.pass_link.new.self.state c.args.link (λ (z : State). z.plain.opened) (λ e x z. refl) _
    c.pass_link.result c.pass_link.ensures.passed

pub returns-in_err-pass_link-clause-time : goal.returns-in_err-pass_link-clause-time
returns-in_err-pass_link-clause-time c =
    link_keeps c.args.relay.now.state c.pass_link.new.self.state c.args.link (λ (z : State). z.plain.time) (λ e x z. refl) _
    c.pass_link.result c.pass_link.ensures.passed

pub returns-in_err-pass_link-clause-settings : goal.returns-in_err-pass_link-clause-settings
returns-in_err-pass_link-clause-settings c =
    link_keeps c.args.relay.now.state c.pass_link.new.self.state c.args.link (λ (z : State). z.settings) (λ e x z. refl) _
    c.pass_link.result c.pass_link.ensures.passed

pub returns-then-branch-clause-went : goal.returns-then-branch-clause-went
returns-then-branch-clause-went c =
    link_went c.args.relay.now.state c.pass_link.new.self.state c.args.link c.in_ok-pass_link.field-0 c.in_ok-pass_link.ensures.passed

pub returns-else-branch-clause-went : goal.returns-else-branch-clause-went
returns-else-branch-clause-went c =
    link_went c.args.relay.now.state c.pass_link.new.self.state c.args.link c.in_ok-pass_link.field-0 c.in_ok-pass_link.ensures.passed

pub returns-then-branch-clause-kept : goal.returns-then-branch-clause-kept
returns-then-branch-clause-kept c =
    let s = c.args.relay.now.state in
    let new = c.pass_link.new.self.state in
    let opened = link_keeps s new c.args.link (λ (z : State). z.plain.opened) (λ e x z. refl) _ c.pass_link.result
    c.pass_link.ensures.passed in
    kept-but c.args.agenda.now c.touch.new.self c.args.link s new true
    (at-passed c.args.link s new opened (link_went s new c.args.link c.in_ok-pass_link.field-0 c.in_ok-pass_link.ensures.passed))
    (λ e. absurd (cc)) c.touch.ensures c.requires.kept

pub returns-then-branch-clause-names : goal.returns-then-branch-clause-names
returns-then-branch-clause-names c =
    let s = c.args.relay.now.state in
    let new = c.pass_link.new.self.state in
    let opened = link_keeps s new c.args.link (λ (z : State). z.plain.opened) (λ e x z. refl) _ c.pass_link.result
    c.pass_link.ensures.passed in
    let went = link_went s new c.args.link c.in_ok-pass_link.field-0 c.in_ok-pass_link.ensures.passed in
    names-but c.args.agenda.now c.touch.new.self c.args.link s new true (at-passed c.args.link s new opened went) c.touch.ensures

pub returns-else-branch-clause-kept : goal.returns-else-branch-clause-kept
returns-else-branch-clause-kept c =
    let s = c.args.relay.now.state in
    let new = c.pass_link.new.self.state in
    let passed = subst (λ b. PassedBoth s c.args.link b new) c.if-branch.false c.in_ok-pass_link.ensures.passed in
    subst (IsKept _) (sym (passed.3.1 ∙ passed.3.0))
    (kept-passed c.args.agenda.now _ c.args.link s (c.in_ok-pass_link.ensures.still (ap Ok c.if-branch.false)) c.remove.ensures.len
    c.remove.ensures.members refl refl refl c.requires.kept)

pub returns-else-branch-clause-names : goal.returns-else-branch-clause-names
returns-else-branch-clause-names c =
    let s = c.args.relay.now.state in
    let new = c.pass_link.new.self.state in
    let passed = subst (λ b. PassedBoth s c.args.link b new) c.if-branch.false c.in_ok-pass_link.ensures.passed in
    subst (KeepsNames c.args.agenda.now s _) (sym (passed.3.1 ∙ passed.3.0)) (names-beside c.args.agenda.now _ s refl)

pub returns-then-branch-clause-noted : goal.returns-then-branch-clause-noted
returns-then-branch-clause-noted c = (
  true,
  subst (λ b. PassedBoth c.args.relay.now.state c.args.link b c.pass_link.new.self.state) c.if-branch.true
      c.in_ok-pass_link.ensures.passed,
  c.touch.ensures,
)

pub returns-else-branch-clause-noted : goal.returns-else-branch-clause-noted
returns-else-branch-clause-noted c = (
  false,
  subst (λ b. PassedBoth c.args.relay.now.state c.args.link b c.pass_link.new.self.state) c.if-branch.false
      c.in_ok-pass_link.ensures.passed,
  (c.remove.ensures.len, c.remove.ensures.members, refl, refl, refl),
)
