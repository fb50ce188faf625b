use Rattle.std.proofs.Common.{inl, inr, refl}
use Rattle.std.proofs.lemmas.Result.{err_from_is_err_and}
use Rattle.relay_drive.specs.Known.{known, Point}
use Rattle.relay_drive.specs.Phases.{ForAllLinks, CutForAllLinks, PassesLink, CutPassingLink}
use Rattle.relay_drive.proofs.GoesLemmas.{goes_as, goes_then, goes_within}
use Rattle.relay_drive.proofs.turn.finish.Goals as goal

pub returns-in_err-pass-clause-went : goal.returns-in_err-pass-clause-went
returns-in_err-pass-clause-went g c =
    let p = err_from_is_err_and c.from_residual.result c.from_residual.ensures.1 in
    let e = c.in_err-pass.ensures in
    rw (p.1)
    (goes_as (λ a q. inl q)
    (goes_within {R = CutForAllLinks PassesLink CutPassingLink} (g.S.Scribe.trace c.args.scribe.now)
    (known Point.Accepted (g.P.Port.vouches c.args.port.now) g.P.Port.none_waits (g.P.Port.told c.args.port.now)
    (g.P.Port.ends c.args.port.now)) (g.P.Port.faults c.args.port.now) e.went
    (record { time = e.time; opened = e.opened; settings = e.settings }) refl))

pub returns-in_err-close-clause-went : goal.returns-in_err-close-clause-went
returns-in_err-close-clause-went g c =
    let p = err_from_is_err_and c.from_residual-in_err-close.result c.from_residual-in_err-close.ensures.1 in
    let e = c.in_ok-pass.ensures in
    rw (p.1)
    (goes_as (λ a q. inr q)
    (goes_then (goes_within {R = ForAllLinks PassesLink} (g.S.Scribe.trace c.args.scribe.now)
    (known Point.Accepted (g.P.Port.vouches c.args.port.now) g.P.Port.none_waits (g.P.Port.told c.args.port.now)
    (g.P.Port.ends c.args.port.now)) (g.P.Port.faults c.args.port.now) e.went
    (record { time = e.time; opened = e.opened; settings = e.settings }) refl)
    c.in_err-close.ensures.went))

pub returns-clause-went : goal.returns-clause-went
returns-clause-went g c =
    let e = c.in_ok-pass.ensures in
    goes_then (goes_within {R = ForAllLinks PassesLink} (g.S.Scribe.trace c.args.scribe.now)
    (known Point.Accepted (g.P.Port.vouches c.args.port.now) g.P.Port.none_waits (g.P.Port.told c.args.port.now)
    (g.P.Port.ends c.args.port.now)) (g.P.Port.faults c.args.port.now) e.went
    (record { time = e.time; opened = e.opened; settings = e.settings }) refl)
    c.in_ok-close.ensures.went

pub returns-clause-names : goal.returns-clause-names
returns-clause-names g c = λ t h. c.in_ok-close.ensures.names t (c.in_ok-pass.ensures.names t h)
