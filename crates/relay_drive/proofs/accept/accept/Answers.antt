use Rattle.std.proofs.Common.{◌≡◌, ◌<◌, ◌+◌, true, false, if◌then◌else◌, refl, sym, ◌∙◌, ap, subst, arith, add-one}
use Rattle.std.proofs.lemmas.Result.{err_from_is_err_and}
use Rattle.std.proofs.lemmas.Bool.{ltb-true}
use Rattle.relay_state.specs.State.{State}
use Rattle.relay_drive.specs.Phases.{can_open, OpensSome}
use Rattle.relay_drive.proofs.AcceptLemmas.{accepted_all, accepted_most}
use Rattle.relay_drive.proofs.GoesLemmas.{Grew-none, goes_as, goes_then, goes_nowhere}
use Rattle.relay_drive.proofs.EachLemmas.{then_nothing}
use Rattle.relay_drive.proofs.accept.accept.Goals as goal

pub returns-in_err-accept_next-clause-went : goal.returns-in_err-accept_next-clause-went
returns-in_err-accept_next-clause-went g c =
    let p = err_from_is_err_and c.from_residual.result c.from_residual.ensures.1 in
    let s = c.loop.run.relay.state in
    let allowed : s.plain.opened < s.settings.links = ltb-true s.plain.opened s.settings.links
    (sym c.can_open.ensures ∙ c.if-not-can_open.false) in
    let here = subst (λ (z : State). z.plain.opened < z.settings.links) (sym c.in_err-accept_next.ensures.went.does.1) allowed in
    rw (p.1, p.2) (goes_as (λ a q. (c.loop.counter, omega arith, here, then_nothing q))
    (goes_then c.loop.invariant.went c.in_err-accept_next.ensures.went))

pub loop-init : goal.loop-init
loop-init g c = record {
  went = goes_nowhere refl refl (Grew-none (g.S.Scribe.trace c.args.scribe.now)) (λ s t x k. (k.0, tt));
  few = omega arith;
  grown = omega arith;
  kept = c.requires;
  names = λ t h. h;
}

pub loop-preserved : goal.loop-preserved
loop-preserved g c =
    let s = c.args.run.now.relay.state in
    let mid = c.loop.run.relay.state in
    let new = c.accept_next.new.run.relay.state in
    let more = c.in_ok-accept_next.field-0 in
    let yes : more ≡ true = c.if-not-branch.false in
    let one = c.in_ok-accept_next.ensures in
    let grown : new.plain.opened ≡ mid.plain.opened + 1 = one.grown ∙ ap (λ b. mid.plain.opened + (if b then 1 else 0)) yes in
    record {
      went = goes_as (λ x q. subst (λ n. OpensSome n s x new) (sym (add-one c.loop.counter)) q)
          (goes_then c.loop.invariant.went (rw (yes) at one.went));
      few = omega arith;
      grown = omega (arith, grown, c.loop.invariant.grown);
      kept = one.kept;
      names = λ t h. one.names t (c.loop.invariant.names t h);
    }

pub returns-then-not-can_open-clause-went : goal.returns-then-not-can_open-clause-went
returns-then-not-can_open-clause-went g c =
    let s = c.loop.run.relay.state in
    let full : can_open s ≡ false = sym c.can_open.ensures ∙ c.if-not-can_open.true in
    goes_as (λ a q. (c.loop.counter, c.loop.invariant.few, q))
    (accepted_all (g.P.Port.vouches c.loop.port) g.P.Port.none_waits (g.P.Port.told c.loop.port) (g.P.Port.ends c.loop.port)
    full c.loop.invariant.went)

pub returns-then-not-branch-clause-went : goal.returns-then-not-branch-clause-went
returns-then-not-branch-clause-went g c =
    let no = c.if-not-branch.true in
    goes_as (λ a q. (c.loop.counter, c.loop.invariant.few, then_nothing q))
    (goes_then c.loop.invariant.went (rw (no) at c.in_ok-accept_next.ensures.went))

pub returns-clause-went : goal.returns-clause-went
returns-clause-went g c =
    let port = c.args.port.now in
    let all : c.loop.counter ≡ 64 = omega arith in
    goes_as (λ a q. (64, omega arith, q))
    (accepted_most (g.P.Port.vouches port) g.P.Port.none_waits (g.P.Port.told port) (g.P.Port.ends port)
    (g.P.Port.vouches c.loop.port) (g.P.Port.told c.loop.port) (g.P.Port.ends c.loop.port) (rw (all) at c.loop.invariant.went))

pub returns-then-not-branch-clause-names : goal.returns-then-not-branch-clause-names
returns-then-not-branch-clause-names g c = λ t h. c.in_ok-accept_next.ensures.names t (c.loop.invariant.names t h)
