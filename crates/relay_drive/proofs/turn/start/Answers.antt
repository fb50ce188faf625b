use Rattle.std.proofs.lemmas.Result.{err_from_is_err_and}
use Rattle.relay_drive.specs.Known.{Point}
use Rattle.relay_drive.specs.Phases.{CutStart}
use Rattle.relay_drive.proofs.GoesLemmas.{goes_as, goes_then}
use Rattle.relay_drive.proofs.TurnRuns.{ticked, cut_short, marked_all, marked_cut, and_nothing}
use Rattle.relay_drive.proofs.turn.start.Goals as goal

pub returns-in_err-clock-clause-went : goal.returns-in_err-clock-clause-went
returns-in_err-clock-clause-went g c =
    let p = err_from_is_err_and c.from_residual.result c.from_residual.ensures.1 in
    rw (p.1, p.2, c.in_err-clock.ensures.cause)
    (cut_short Point.Between (g.P.Port.vouches c.clock.new.port) g.P.Port.none_waits
    (g.P.Port.told c.clock.new.port) (g.P.Port.ends c.clock.new.port)
    (goes_as (λ a q. CutStart.begin_before q) c.in_err-clock.ensures.went))

pub returns-in_err-poll-clause-went : goal.returns-in_err-poll-clause-went
returns-in_err-poll-clause-went g c =
    let p = err_from_is_err_and c.from_residual-in_err-poll.result c.from_residual-in_err-poll.ensures.1 in
    rw (p.1, p.2) (goes_as (λ a q. let t = ticked q in CutStart.begin_in_poll t.0 t.1)
    (goes_then c.in_ok-clock.ensures.went c.in_err-poll.ensures.went))

pub returns-in_err-serve-clause-went : goal.returns-in_err-serve-clause-went
returns-in_err-serve-clause-went g c =
    let p = err_from_is_err_and c.from_residual-in_err-serve.result c.from_residual-in_err-serve.ensures.1 in
    let list = c.poll.new.naming.table.list in
    rw (p.1, p.2, c.in_err-serve.ensures.cause)
    (cut_short Point.Accepted (g.P.Port.vouches c.serve.new.port) g.P.Port.none_waits (g.P.Port.told c.serve.new.port)
    (g.P.Port.ends c.serve.new.port)
    (goes_as (λ a q. let t = ticked q in let m = marked_cut list t.1 in CutStart.begin_in_serving t.0 m.0 m.1)
    (goes_then c.in_ok-clock.ensures.went (goes_then c.in_ok-poll.ensures.went (rw (c.list.ensures) at c.in_err-serve.ensures.went)))))

pub returns-clause-went : goal.returns-clause-went
returns-clause-went g c =
    let list = c.poll.new.naming.table.list in
    goes_as (λ a q. let t = ticked q in let m = marked_all list t.1 in (t.0, m.0, m.1))
    (goes_then c.in_ok-clock.ensures.went
    (goes_then c.in_ok-poll.ensures.went (goes_as (λ a q. and_nothing q) (rw (c.list.ensures) at c.in_ok-serve.ensures.went))))

pub returns-clause-named : goal.returns-clause-named
returns-clause-named g c = c.in_ok-serve.ensures.names c.poll.new.naming c.in_ok-poll.ensures.named
