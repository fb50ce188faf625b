use Rattle.std.proofs.Common.{true, false, refl, sym, subst, inl, inr}
use Rattle.std.proofs.lemmas.Result.{err_from_is_err_and}
use Rattle.relay_core.specs.RelayValue.{RelayValue}
use Rattle.relay_drive.specs.Agenda.{IsKept, IsNamed}
use Rattle.relay_drive.proofs.GoesLemmas.{Grew-none, goes_as, goes_then, goes_nowhere}
use Rattle.relay_drive.proofs.EachLemmas.{then_none}
use Rattle.relay_drive.proofs.AgendaLemmas.{kept-beside_wants, named-rows}
use Rattle.relay_drive.proofs.ListedLemmas.{cut_listed}
use Rattle.relay_drive.proofs.poll.poll.Goals as goal

pub returns-in_err-name_wants-clause-went : goal.returns-in_err-name_wants-clause-went
returns-in_err-name_wants-clause-went g c =
    let p = err_from_is_err_and c.from_residual.result c.from_residual.ensures.1 in
    rw (p.1, p.2, c.in_err-name_wants.ensures.cause)
    (goes_as (λ a q. inl q) (goes_nowhere refl refl (Grew-none (g.S.Scribe.trace c.args.scribe.now)) (λ s t x k. (k.0, tt))))

pub returns-then-not-ready-clause-went : goal.returns-then-not-ready-clause-went
returns-then-not-ready-clause-went g c =
    let no = c.if-not-ready.true in
    goes_as (λ a q. (false, then_none q)) (rw (no) at c.in_ok-ready.ensures.went)

pub returns-then-not-ready-clause-kept : goal.returns-then-not-ready-clause-kept
returns-then-not-ready-clause-kept g c =
    subst (λ (r : RelayValue). IsKept c.name_wants.new.agenda r.state) (sym c.in_ok-ready.ensures.kept)
    (kept-beside_wants c.args.agenda.now c.name_wants.new.agenda c.args.run.now.relay.state c.in_ok-name_wants.ensures.same c.requires.kept)

pub returns-then-not-ready-clause-named : goal.returns-then-not-ready-clause-named
returns-then-not-ready-clause-named g c =
    subst (λ (r : RelayValue). IsNamed c.name_wants.new.agenda (record c.name_wants.new.naming { table = c.ask_poll.new.wants }) r.state)
    (sym c.in_ok-ready.ensures.kept)
    (named-rows c.name_wants.new.agenda c.name_wants.new.naming c.ask_poll.new.wants c.args.run.now.relay.state c.in_ok-ready.ensures.rows
    c.in_ok-name_wants.ensures.right)

pub accept-requires : goal.accept-requires
accept-requires g c =
    subst (λ (r : RelayValue). IsKept c.name_wants.new.agenda r.state) (sym c.in_ok-ready.ensures.kept)
    (kept-beside_wants c.args.agenda.now c.name_wants.new.agenda c.args.run.now.relay.state c.in_ok-name_wants.ensures.same c.requires.kept)

pub returns-in_err-accept-clause-went : goal.returns-in_err-accept-clause-went
returns-in_err-accept-clause-went g c =
    let p = err_from_is_err_and c.from_residual-in_err-accept.result c.from_residual-in_err-accept.ensures.1 in
    let yes = c.if-not-ready.false in
    rw (p.1, p.2)
    (goes_as (λ a q. inr (cut_listed c.in_err-accept.field-0.0 c.ask_poll.new.wants.list c.in_err-accept.ensures.cause q))
    (goes_then (rw (yes) at c.in_ok-ready.ensures.went) c.in_err-accept.ensures.went))

pub returns-clause-went : goal.returns-clause-went
returns-clause-went g c =
    let yes = c.if-not-ready.false in
    goes_as (λ a q. (true, q)) (goes_then (rw (yes) at c.in_ok-ready.ensures.went) c.in_ok-accept.ensures.went)

pub returns-clause-named : goal.returns-clause-named
returns-clause-named g c =
    c.in_ok-accept.ensures.names (record c.name_wants.new.naming { table = c.ask_poll.new.wants })
    (subst (λ (r : RelayValue). IsNamed c.name_wants.new.agenda (record c.name_wants.new.naming { table = c.ask_poll.new.wants }) r.state)
    (sym c.in_ok-ready.ensures.kept)
    (named-rows c.name_wants.new.agenda c.name_wants.new.naming c.ask_poll.new.wants c.args.run.now.relay.state c.in_ok-ready.ensures.rows
    c.in_ok-name_wants.ensures.right))
