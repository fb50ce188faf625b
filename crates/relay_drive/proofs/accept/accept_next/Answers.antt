use Rattle.std.proofs.Common.{subst}
use Rattle.std.proofs.lemmas.Result.{MatchResult-weaker}
use Rattle.relay_drive.specs.Agenda.{IsCovered}
use Rattle.relay_drive.proofs.AgendaLemmas.{opens-at-most, kept-covered, names-covered}
use Rattle.relay_drive.proofs.accept.accept_next.Goals as goal

pub returns-clause-kept : goal.returns-clause-kept
returns-clause-kept g c =
    let s = c.args.run.now.relay.state in
    let new = c.accept_one.new.run.relay.state in
    MatchResult-weaker c.accept_one.result c.accept_one.ensures.went
    (λ more went. kept-covered c.args.agenda.now c.cover.new.self s new
    (opens-at-most more s new went.added c.opened.ensures.pairs went.does)
    (subst (λ n. IsCovered n c.args.agenda.now c.cover.new.self) c.opened.ensures.count c.in_ok-cover.ensures.covered) c.requires.kept)
    (λ _ _. tt)

pub returns-clause-names : goal.returns-clause-names
returns-clause-names g c =
    let s = c.args.run.now.relay.state in
    let new = c.accept_one.new.run.relay.state in
    MatchResult-weaker c.accept_one.result c.accept_one.ensures.went
    (λ more went. names-covered c.args.agenda.now c.cover.new.self s new
    (opens-at-most more s new went.added c.opened.ensures.pairs went.does)
    (subst (λ n. IsCovered n c.args.agenda.now c.cover.new.self) c.opened.ensures.count c.in_ok-cover.ensures.covered))
    (λ _ _. tt)
