use Rattle.std.proofs.Common.{Ok, ap}
use Rattle.relay_drive.proofs.AgendaLemmas.{at-closed, closing-keeps, closing-names}
use Rattle.relay_drive.proofs.close.close_next.Goals as goal

pub returns-clause-kept : goal.returns-clause-kept
returns-clause-kept g c =
    let went = c.in_ok-any.ensures.went in
    let s = c.args.run.now.relay.state in
    let new = c.close_link.new.run.relay.state in
    closing-keeps c.args.agenda.now c.note_closing.new.agenda c.args.link s new c.in_ok-any.any
    (at-closed c.args.link s new went.added c.in_ok-any.ensures.kept went.does) (λ e. c.in_ok-any.ensures.settled (ap Ok e))
    c.note_closing.ensures
    c.requires.kept

pub returns-clause-names : goal.returns-clause-names
returns-clause-names g c =
    let went = c.in_ok-any.ensures.went in
    let s = c.args.run.now.relay.state in
    let new = c.close_link.new.run.relay.state in
    closing-names c.args.agenda.now c.note_closing.new.agenda c.args.link s new c.in_ok-any.any
    (at-closed c.args.link s new went.added c.in_ok-any.ensures.kept went.does) (λ e. c.in_ok-any.ensures.settled (ap Ok e))
    c.note_closing.ensures
