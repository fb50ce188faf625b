use Rattle.std.proofs.Common.{[], ◌∷◌, true, false, refl, ◌∙◌, ap, arith}
use Rattle.ev_types.specs.declared.entry.Entry.TheVariants as entry
use Rattle.ev_types.specs.Trace.{Trace}
use Rattle.relay_state.specs.State.{State}
use Rattle.relay_state.specs.Opening.{after_opened}
use Rattle.relay_drive.proofs.GoesLemmas.{Grew-none, Grew-join, goes_by, goes_silent, goes_nowhere}
use Rattle.relay_drive.proofs.HeardLemmas.{Heard-open}
use Rattle.relay_drive.proofs.CalmLemmas.{fits_opened}
use Rattle.relay_drive.proofs.TiedLemmas.{all_ends, accept_says}
use Rattle.relay_drive.proofs.KnownLemmas.{known_linked, known_none, known_refused}
use Rattle.std.proofs.lemmas.Result.{err_from_is_err_and}
use Rattle.ev_port.specs.declared.port.Accepted.TheVariants as accepted
use Rattle.ev_port.specs.Calls.{accept_step}
use Rattle.relay_drive.proofs.accept.accept_one.Goals as goal

pub returns-in-Link-clause-went : goal.returns-in-Link-clause-went
returns-in-Link-clause-went g c =
    let l0 = g.S.Scribe.trace c.args.scribe.now in
    let s = c.args.run.now.relay.state in
    let connected = c.in-Link.connected in
    let events : Trace = (entry.Opened s.plain.opened connected, []) ∷ [] in
    let number = c.opened-link.ensures.count ∙ ap (λ (z : State). z.plain.opened) c.reserve_link.ensures.state in
    let state = c.open.ensures ∙ ap (λ (z : State). after_opened z connected) c.reserve_link.ensures.state in
    goes_by l0 (g.S.Scribe.trace c.put.new.scribe) (g.P.Port.faults c.args.port.now) (g.P.Port.faults c.accept.new.self) events
    (connected, record { allowed = c.requires; entries = refl; state = state }) (ap (λ (z : State). z.settings) state)
    (let n = c.put.ensures.counted in omega (arith, n))
    (Grew-join l0 (g.S.Scribe.trace c.reserve.new.self) (g.S.Scribe.trace c.put.new.scribe) [] events c.reserve.ensures.trace
    (rw (number) at c.put.ensures.list))
    (λ t. fits_opened t s c.open.new.self.state s.plain.opened connected state)
    (λ t fits. known_linked s.settings (g.P.Port.vouches c.args.port.now) (g.P.Port.vouches c.accept.new.self) g.P.Port.none_waits
    (g.P.Port.told c.args.port.now) (g.P.Port.told c.accept.new.self) (g.P.Port.ends c.args.port.now)
    (g.P.Port.ends c.accept.new.self) t s.plain.opened connected
    c.in-Link.ensures.told (rw (number) at c.in-Link.ensures.vouched)
    (all_ends (g.P.Port.ends c.args.port.now) (g.P.Port.ends c.accept.new.self) (accept_step s.plain.opened (accepted.Link connected))
    events (λ e. accept_says s.plain.opened (accepted.Link connected) e) (rw (number) at c.in-Link.ensures.ends)))
    (Heard-open (g.P.Port.faults c.args.port.now) (g.P.Port.faults c.accept.new.self) events false c.in-Link.ensures.cause (λ e. refl) refl)

pub returns-in_err-reserve_link-clause-went : goal.returns-in_err-reserve_link-clause-went
returns-in_err-reserve_link-clause-went g c =
    let p = err_from_is_err_and c.from_residual.result c.from_residual.ensures.1 in
    rw (p.1, p.2) (goes_nowhere c.reserve_link.ensures.state refl (Grew-none (g.S.Scribe.trace c.args.scribe.now)) (λ s t x k. k))

pub returns-in_err-reserve-clause-went : goal.returns-in_err-reserve-clause-went
returns-in_err-reserve-clause-went g c =
    let p = err_from_is_err_and c.from_residual-in_err-reserve.result c.from_residual-in_err-reserve.ensures.1 in
    rw (p.1, p.2) (goes_nowhere c.reserve_link.ensures.state refl c.reserve.ensures.trace (λ s t x k. k))

pub returns-in-NotYet-clause-went : goal.returns-in-NotYet-clause-went
returns-in-NotYet-clause-went g c =
    goes_silent c.reserve_link.ensures.state refl c.reserve.ensures.trace
    (λ t. known_none c.args.run.now.relay.state.settings (g.P.Port.vouches c.args.port.now) (g.P.Port.vouches c.accept.new.self)
    g.P.Port.none_waits (g.P.Port.told c.args.port.now) (g.P.Port.told c.accept.new.self) (g.P.Port.ends c.args.port.now)
    (g.P.Port.ends c.accept.new.self) t
    c.in-NotYet.ensures.told.0 c.in-NotYet.ensures.told.1 c.in-NotYet.ensures.vouched c.in-NotYet.ensures.ends
    (c.in-NotYet.ensures.waiting refl))
    (Heard-open (g.P.Port.faults c.args.port.now) (g.P.Port.faults c.accept.new.self) [] false c.in-NotYet.ensures.cause (λ e. refl) refl)

pub returns-in-Failed-clause-went : goal.returns-in-Failed-clause-went
returns-in-Failed-clause-went g c =
    goes_silent c.reserve_link.ensures.state refl c.reserve.ensures.trace
    (λ t. known_refused c.args.run.now.relay.state.settings (g.P.Port.vouches c.args.port.now)
    (g.P.Port.vouches c.accept.new.self) g.P.Port.none_waits (g.P.Port.told c.args.port.now) (g.P.Port.told c.accept.new.self)
    (g.P.Port.ends c.args.port.now) (g.P.Port.ends c.accept.new.self) t
    c.in-Failed.ensures.told.0 c.in-Failed.ensures.told.1 c.in-Failed.ensures.vouched c.in-Failed.ensures.ends)
    (Heard-open (g.P.Port.faults c.args.port.now) (g.P.Port.faults c.accept.new.self) [] true c.in-Failed.ensures.cause (λ e. refl) refl)

pub returns-in-NoMemory-clause-went : goal.returns-in-NoMemory-clause-went
returns-in-NoMemory-clause-went g c =
    goes_silent c.reserve_link.ensures.state refl c.reserve.ensures.trace
    (λ t. known_refused c.args.run.now.relay.state.settings (g.P.Port.vouches c.args.port.now)
    (g.P.Port.vouches c.accept.new.self) g.P.Port.none_waits (g.P.Port.told c.args.port.now) (g.P.Port.told c.accept.new.self)
    (g.P.Port.ends c.args.port.now) (g.P.Port.ends c.accept.new.self) t
    c.in-NoMemory.ensures.told.0 c.in-NoMemory.ensures.told.1 c.in-NoMemory.ensures.vouched c.in-NoMemory.ensures.ends)
    (Heard-open (g.P.Port.faults c.args.port.now) (g.P.Port.faults c.accept.new.self) [] false c.in-NoMemory.ensures.cause (λ e. refl) refl)
