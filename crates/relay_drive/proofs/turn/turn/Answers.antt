use Rattle.std.proofs.Common.{◌++◌, [], Ok, ap, subst}
use Rattle.std.proofs.lemmas.Result.{err_from_is_err_and}
use Rattle.relay_model.specs.Stages.{Stage}
use Rattle.relay_drive.specs.Known.{Point}
use Rattle.relay_drive.specs.Seats.{telling}
use Rattle.relay_drive.proofs.DispatchLemmas.{all-dispatch-does, cut_dispatch-does, stop-does, hooks-same}
use Rattle.relay_drive.proofs.FreedStays.{seated-kept, all_dispatch-stays}
use Rattle.relay_drive.proofs.FiredLemmas.{fired-as}
use Rattle.relay_drive.specs.Phases.{DispatchesAll, EndsDispatch}
use Rattle.relay_drive.proofs.GoesLemmas.{goes_as, goes_then}
use Rattle.relay_drive.proofs.MeantTurn.{turn_keeps}
use Rattle.relay_drive.proofs.TurnRuns.{cut_short, goes_fired}
use Rattle.relay_drive.proofs.TurnTells.{started-stays, started-stands, finish-stays, start-cut, dispatch-cut, turn-stopped, finish-cut}
use Rattle.relay_drive.proofs.TurnTells.{turn-told}
use Rattle.relay_steps.proofs.StillSteps.{stands-shape}
use Rattle.relay_state.specs.Asking.{StopsAt}
use Rattle.relay_drive.proofs.turn.turn.Goals as goal

pub returns-in_err-start-clause-went : goal.returns-in_err-start-clause-went
returns-in_err-start-clause-went g c =
    let p = err_from_is_err_and c.from_residual.result c.from_residual.ensures.1 in
    rw (p.1, p.2)
    (goes_as (λ a q. start-cut (telling (λ h. (goal.Hook-dyn g (h.vtable, h.value)).heard h.value)
    (λ h. (goal.Hook-dyn g (h.vtable, h.value)).asked h.value)
    (λ h. (goal.Hook-dyn g (h.vtable, h.value)).planned h.value))
    c.args.seats.now.hooks.items c.args.seats.now.gone.items _ _ _ a q) c.in_err-start.ensures.went)

pub start-requires-clause-stands : goal.start-requires-clause-stands
start-requires-clause-stands g c = (c.requires.ready.trace, c.requires.ready.stands)

pub dispatch-requires-clause-bare : goal.dispatch-requires-clause-bare
dispatch-requires-clause-bare g c =
    let q = c.in_ok-start.ensures.went in
    (started-stays _ _ q.added q.does).batch c.requires.ready.bare

pub dispatch-requires-clause-stood : goal.dispatch-requires-clause-stood
dispatch-requires-clause-stood g c =
    let q = c.in_ok-start.ensures.went in
    let t = c.requires.ready.trace in
    (t ++ q.added, started-stands t _ _ q.added c.requires.ready.stands q.does)

pub dispatch-requires-clause-seated : goal.dispatch-requires-clause-seated
dispatch-requires-clause-seated g c =
    let q = c.in_ok-start.ensures.went in
    let ready = c.requires.ready in
    seated-kept c.args.seats.now.hooks.items c.args.seats.now.gone.items _ _ (started-stays _ _ q.added q.does).stays
    (stands-shape ready.trace Stage.Between _ ready.stands).sides c.requires.seated

pub returns-in_err-dispatch-clause-went : goal.returns-in_err-dispatch-clause-went
returns-in_err-dispatch-clause-went g c =
    let p = err_from_is_err_and c.from_residual-in_err-dispatch.result c.from_residual-in_err-dispatch.ensures.1 in
    let q = c.in_err-dispatch.ensures.went in
    let did = cut_dispatch-does q.1.does in
    rw (p.1, p.2, c.in_err-dispatch.ensures.cause)
    (cut_short Point.Accepted (g.P.Port.vouches c.start.new.port) g.P.Port.none_waits (g.P.Port.told c.start.new.port)
    (g.P.Port.ends c.start.new.port)
    (goes_as (λ a x. dispatch-cut (telling (λ h. (goal.Hook-dyn g (h.vtable, h.value)).heard h.value)
    (λ h. (goal.Hook-dyn g (h.vtable, h.value)).asked h.value)
    (λ h. (goal.Hook-dyn g (h.vtable, h.value)).planned h.value))
    c.args.seats.now.hooks.items c.args.seats.now.gone.items c.dispatch.new.seats.hooks.items c.dispatch.new.seats.gone.items _ _ a x)
    (goes_then c.in_ok-start.ensures.went
    (goes_fired (g.P.Port.vouches c.start.new.port) g.P.Port.none_waits (g.P.Port.told c.start.new.port)
    (g.P.Port.ends c.start.new.port) (g.P.Port.faults c.start.new.port) g.met.P.Port.waits_no_more (g.met.P.Port.unheard c.start.new.port)
    q.1 did.own (hooks-same did) (q.0, q.1.hooked, q.2)))))

pub returns-in_err-finish-in-Went-clause-went : goal.returns-in_err-finish-in-Went-clause-went
returns-in_err-finish-in-Went-clause-went g c =
    let p = err_from_is_err_and c.from_residual-in_err-finish-in-Went.result c.from_residual-in_err-finish-in-Went.ensures.1 in
    let fired = fired-as {S = DispatchesAll}
    (λ x q. subst (λ e. EndsDispatch e c.start.new.run.relay.state x c.dispatch.new.run.relay.state) c.in-Went.is q)
    c.in_ok-dispatch.ensures.went in
    let did = all-dispatch-does fired.does in
    rw (p.1, p.2, c.in_err-finish-in-Went.ensures.cause)
    (cut_short Point.Accepted (g.P.Port.vouches c.finish.new.port) g.P.Port.none_waits (g.P.Port.told c.finish.new.port)
    (g.P.Port.ends c.finish.new.port)
    (goes_as (λ a x. finish-cut (telling (λ h. (goal.Hook-dyn g (h.vtable, h.value)).heard h.value)
    (λ h. (goal.Hook-dyn g (h.vtable, h.value)).asked h.value)
    (λ h. (goal.Hook-dyn g (h.vtable, h.value)).planned h.value))
    c.args.seats.now.hooks.items c.args.seats.now.gone.items c.dispatch.new.seats.hooks.items c.dispatch.new.seats.gone.items _ _ a x)
    (goes_then c.in_ok-start.ensures.went
    (goes_then (goes_fired (g.P.Port.vouches c.start.new.port) g.P.Port.none_waits (g.P.Port.told c.start.new.port)
    (g.P.Port.ends c.start.new.port) (g.P.Port.faults c.start.new.port) g.met.P.Port.waits_no_more (g.met.P.Port.unheard c.start.new.port)
    fired did.own (hooks-same did) fired.hooked) c.in_err-finish-in-Went.ensures.went))))

pub returns-in_ok-finish-in-Went-clause-went : goal.returns-in_ok-finish-in-Went-clause-went
returns-in_ok-finish-in-Went-clause-went g c =
    let fired = fired-as {S = DispatchesAll}
    (λ x q. subst (λ e. EndsDispatch e c.start.new.run.relay.state x c.dispatch.new.run.relay.state) c.in-Went.is q)
    c.in_ok-dispatch.ensures.went in
    let did = all-dispatch-does fired.does in
    goes_as (λ a x. turn-told (telling (λ h. (goal.Hook-dyn g (h.vtable, h.value)).heard h.value)
    (λ h. (goal.Hook-dyn g (h.vtable, h.value)).asked h.value)
    (λ h. (goal.Hook-dyn g (h.vtable, h.value)).planned h.value))
    c.args.seats.now.hooks.items c.args.seats.now.gone.items c.dispatch.new.seats.hooks.items c.dispatch.new.seats.gone.items _ _ a x)
    (goes_then c.in_ok-start.ensures.went
    (goes_then (goes_fired (g.P.Port.vouches c.start.new.port) g.P.Port.none_waits (g.P.Port.told c.start.new.port)
    (g.P.Port.ends c.start.new.port) (g.P.Port.faults c.start.new.port) g.met.P.Port.waits_no_more (g.met.P.Port.unheard c.start.new.port)
    fired did.own (hooks-same did) fired.hooked) c.in_ok-finish-in-Went.ensures.went))

pub returns-in_ok-finish-in-Went-clause-ready : goal.returns-in_ok-finish-in-Went-clause-ready
returns-in_ok-finish-in-Went-clause-ready g c = λ went.
    let all = returns-in_ok-finish-in-Went-clause-went g c in
    let fired = fired-as {S = DispatchesAll}
    (λ x q. subst (λ e. EndsDispatch e c.start.new.run.relay.state x c.dispatch.new.run.relay.state) c.in-Went.is q)
    c.in_ok-dispatch.ensures.went in
    let did = all-dispatch-does fired.does in
    let t = c.requires.ready.trace in
    let end = c.in_ok-finish-in-Went.ensures in
    record {
      kept = end.kept;
      named = end.names c.start.new.naming
          (c.in_ok-dispatch.ensures.names (ap Ok c.in-Went.is) c.start.new.naming c.in_ok-start.ensures.named);
      bare = (finish-stays _ _ end.went.added end.went.does).batch fired.does.does.over;
      trace = t ++ all.added;
      stands = turn_keeps t _ _ all.added c.requires.ready.stands all.does.0;
    }

pub returns-in_ok-finish-in-Went-clause-seated : goal.returns-in_ok-finish-in-Went-clause-seated
returns-in_ok-finish-in-Went-clause-seated g c = λ went.
    let fired = fired-as {S = DispatchesAll}
    (λ x q. subst (λ e. EndsDispatch e c.start.new.run.relay.state x c.dispatch.new.run.relay.state) c.in-Went.is q)
    c.in_ok-dispatch.ensures.went in
    let did = all-dispatch-does fired.does in
    let q = c.in_ok-start.ensures.went in
    let t = c.requires.ready.trace in
    let end = c.in_ok-finish-in-Went.ensures in
    let pairs = (stands-shape (t ++ q.added) (Stage.Serving []) _ (started-stands t _ _ q.added c.requires.ready.stands q.does)).sides in
    seated-kept c.dispatch.new.seats.hooks.items c.dispatch.new.seats.gone.items _ _ (finish-stays _ _ end.went.added end.went.does).stays
    ((all_dispatch-stays _ _ fired.added fired.does).stays.paired pairs) c.in_ok-dispatch.ensures.seated

pub returns-in-Stopped-clause-went : goal.returns-in-Stopped-clause-went
returns-in-Stopped-clause-went g c =
    let fired = fired-as {S = StopsAt c.in-Stopped.link}
    (λ x q. subst (λ e. EndsDispatch e c.start.new.run.relay.state x c.dispatch.new.run.relay.state) c.in-Stopped.is q)
    c.in_ok-dispatch.ensures.went in
    let did = stop-does fired.does in
    goes_as (λ a x. turn-stopped (telling (λ h. (goal.Hook-dyn g (h.vtable, h.value)).heard h.value)
    (λ h. (goal.Hook-dyn g (h.vtable, h.value)).asked h.value)
    (λ h. (goal.Hook-dyn g (h.vtable, h.value)).planned h.value))
    c.args.seats.now.hooks.items c.args.seats.now.gone.items (StopsAt c.in-Stopped.link)
    c.dispatch.new.seats.hooks.items c.dispatch.new.seats.gone.items _ _ a x)
    (goes_then c.in_ok-start.ensures.went
    (goes_fired (g.P.Port.vouches c.start.new.port) g.P.Port.none_waits (g.P.Port.told c.start.new.port)
    (g.P.Port.ends c.start.new.port) (g.P.Port.faults c.start.new.port) g.met.P.Port.waits_no_more (g.met.P.Port.unheard c.start.new.port)
    fired did.own (hooks-same did) fired.hooked))
