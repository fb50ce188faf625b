use Rattle.relay_drive.proofs.AgendaLemmas.{at-served, kept-but, names-but}
use Rattle.std.proofs.Common.{true}
use Rattle.relay_drive.proofs.serve.serve_next.Goals as goal

pub returns-clause-kept : goal.returns-clause-kept
returns-clause-kept g c =
    let went = c.in_ok-serve_side.ensures.went in
    let s = c.args.run.now.relay.state in
    let new = c.serve_side.new.run.relay.state in
    kept-but c.args.agenda.now c.touch.new.self c.args.want.side.link s new true
    (at-served c.args.want s new went.added c.in_ok-serve_side.ensures.kept went.does) (λ e. absurd (cc)) c.touch.ensures c.requires.kept

pub returns-clause-names : goal.returns-clause-names
returns-clause-names g c =
    let went = c.in_ok-serve_side.ensures.went in
    let s = c.args.run.now.relay.state in
    let new = c.serve_side.new.run.relay.state in
    names-but c.args.agenda.now c.touch.new.self c.args.want.side.link s new true
    (at-served c.args.want s new went.added c.in_ok-serve_side.ensures.kept went.does) c.touch.ensures
