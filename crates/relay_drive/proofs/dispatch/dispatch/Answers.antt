use Rattle.std.proofs.Common.{◌∷◌, ◌++◌, [], ℕ, true, false, Some, None, refl, sym, ◌∙◌, ap, subst, arith}
use Rattle.std.specs.List.{All}
use Rattle.std.proofs.lemmas.Result.{err_from_is_err_and}
use Rattle.std.proofs.lemmas.List.Elements.{All-cons}
use Rattle.ev_types.specs.declared.entry.Entry.TheVariants as entry
use Rattle.ev_types.specs.Trace.{Event}
use Rattle.relay_state.specs.Asking.{dispatching}
use Rattle.relay_state.specs.State.{State}
use Rattle.relay_steps.proofs.FireSteps.{fires_are_stood_for}
use Rattle.relay_steps.proofs.PollSteps.{served-stands}
use Rattle.relay_steps.proofs.StillSteps.{stands-shape}
use Rattle.relay_steps.specs.Meaning.{StandsFor}
use Rattle.relay_model.specs.Stages.{Stage}
use Rattle.relay_drive.specs.Agenda.{IsKept, KeepsNames}
use Rattle.relay_drive.specs.Asked.{IsAskedElsewhere, TouchedAsked}
use Rattle.relay_drive.specs.Seats.{AreSeated}
use Rattle.relay_drive.proofs.AgendaLemmas.{kept-same, names-same}
use Rattle.relay_drive.proofs.AskedLinks.{dispatching-other, fire-other}
use Rattle.relay_drive.proofs.DispatchLemmas.{fire-does}
use Rattle.relay_drive.proofs.FiredLemmas.{fired-none, fired-then, fired-as, fire, fired-step, fired-no_room, fired-still, to-more}
use Rattle.relay_drive.proofs.FiredLemmas.{to-stop, to-cut}
use Rattle.relay_drive.proofs.FiredLemmas.{fired-short, to-all, due-hooked}
use Rattle.relay_model.specs.Plain.{is_live}
use Rattle.relay_drive.proofs.FreedStays.{dispatching-stays, seated-kept}
use Rattle.relay_drive.proofs.SeatLemmas.{slot-full, seat-seated}
use Rattle.relay_drive.proofs.TouchLemmas.{asked-kept, asked-names}
use Rattle.relay_drive.proofs.dispatch.dispatch.Goals as goal

pub loop-side-init : goal.loop-side-init
loop-side-init g c =
    let s = c.args.run.now.relay.state in
    let is = c.begin_batch.ensures.state in
    let at = λ (P : State → Type 0) (h : P (dispatching s)). subst P (sym is) h in
    let stays = dispatching-stays s in
    record {
      fired = fired-none (g.S.Scribe.trace c.args.scribe.now) c.args.seats.now.hooks.items c.args.seats.now.gone.items is refl;
      stood = (
        c.requires.stood.0,
        at (λ z. StandsFor c.requires.stood.0 (Stage.Dispatching z.batch) z) (served-stands c.requires.stood.0 s c.requires.stood.1),
      );
      kept = at (IsKept c.args.agenda.now)
          (kept-same c.args.agenda.now s (dispatching s) refl (λ j. dispatching-other j s) c.requires.kept);
      names = at (KeepsNames c.args.agenda.now s c.args.agenda.now)
          (names-same c.args.agenda.now s (dispatching s) refl (λ j. dispatching-other j s));
      seated = at (λ z. AreSeated z c.args.seats.now.hooks.items c.args.seats.now.gone.items)
          (seated-kept c.args.seats.now.hooks.items c.args.seats.now.gone.items s (dispatching s) stays
          (stands-shape c.requires.stood.0 (Stage.Serving []) s c.requires.stood.1).sides c.requires.seated);
    }

pub returns-in_err-make_room-clause-went : goal.returns-in_err-make_room-clause-went
returns-in_err-make_room-clause-went g c =
    let p = err_from_is_err_and c.from_residual.result c.from_residual.ensures.1 in
    let m = c.loop-side.run in
    let rest = c.next_due.new.self.state.batch in
    rw (p.1) (
      None,
      fired-as (λ x q. to-cut _ _ x q)
          (fired-then None c.loop-side.invariant.fired
          (fired-no_room m _ (g.S.Scribe.trace c.loop-side.scribe) (g.S.Scribe.trace c.make_room.new.scribe) rest
          c.loop-side.seats.hooks.items
          c.loop-side.seats.gone.items (c.make_room.ensures.state ∙ c.in-Some.ensures.1) refl c.make_room.ensures.list)),
      tt,
    )

pub fire_next-requires-clause-live : goal.fire_next-requires-clause-live
fire_next-requires-clause-live g c =
    let s = c.loop-side.run.relay.state in
    let hooked = due-hooked s c.in-Some.side c.in-Some.why c.next_due.new.self.state.batch c.loop-side.invariant.stood
    c.in-Some.ensures.0 in
    ap (λ (z : State). is_live z.plain c.in-Some.side) (c.make_room.ensures.state ∙ c.in-Some.ensures.1) ∙ hooked.0

pub fire_next-requires-clause-taken : goal.fire_next-requires-clause-taken
fire_next-requires-clause-taken g c =
    let s = c.loop-side.run.relay.state in
    let hooked = due-hooked s c.in-Some.side c.in-Some.why c.next_due.new.self.state.batch c.loop-side.invariant.stood
    c.in-Some.ensures.0 in
    slot-full s c.loop-side.seats.hooks.items c.loop-side.seats.gone.items c.in-Some.side c.loop-side.invariant.seated hooked.0 hooked.1

pub returns-in_err-fire_next-clause-went : goal.returns-in_err-fire_next-clause-went
returns-in_err-fire_next-clause-went g c =
    let p = err_from_is_err_and c.from_residual-in_err-fire_next.result c.from_residual-in_err-fire_next.ensures.1 in
    let m = c.loop-side.run in
    let rest = c.next_due.new.self.state.batch in
    let e = c.in-Some.side in
    let hooked = due-hooked m.relay.state e c.in-Some.why rest c.loop-side.invariant.stood c.in-Some.ensures.0 in
    rw (p.1)
    (fired-short c.fire_next.new.run.relay.stopped e c.loop-side.invariant.fired
    (fired-step c.fire_next.new.run.relay.stopped (Some e) false _ m _ c.fire_next.new.run (g.S.Scribe.trace c.loop-side.scribe)
    (g.S.Scribe.trace c.make_room.new.scribe) (g.S.Scribe.trace c.fire_next.new.scribe) e c.in-Some.why rest
    c.loop-side.seats.hooks.items c.loop-side.seats.gone.items c.fire_next.new.seats.hooks.items c.fire_next.new.seats.gone.items
    c.in-Some.ensures.0 (c.make_room.ensures.state ∙ c.in-Some.ensures.1) refl c.make_room.ensures.list hooked.0
    c.loop-side.invariant.seated.level c.in_err-fire_next.ensures.fired c.in_err-fire_next.ensures.seat (λ q. absurd (q refl)) refl))

pub returns-then-has_stopped-clause-went : goal.returns-then-has_stopped-clause-went
returns-then-has_stopped-clause-went g c =
    let m = c.loop-side.run in
    let rest = c.next_due.new.self.state.batch in
    let e = c.in-Some.side in
    let hooked = due-hooked m.relay.state e c.in-Some.why rest c.loop-side.invariant.stood c.in-Some.ensures.0 in
    fired-as (λ x q. to-stop e _ _ x q)
    (fired-then None c.loop-side.invariant.fired
    (fired-step true None true _ m _ c.fire_next.new.run (g.S.Scribe.trace c.loop-side.scribe)
    (g.S.Scribe.trace c.make_room.new.scribe) (g.S.Scribe.trace c.fire_next.new.scribe) e c.in-Some.why rest
    c.loop-side.seats.hooks.items c.loop-side.seats.gone.items c.fire_next.new.seats.hooks.items c.fire_next.new.seats.gone.items
    c.in-Some.ensures.0 (c.make_room.ensures.state ∙ c.in-Some.ensures.1) refl c.make_room.ensures.list hooked.0
    c.loop-side.invariant.seated.level c.in_ok-fire_next.ensures.fired c.in_ok-fire_next.ensures.seat (λ q. refl)
    (sym c.has_stopped.ensures ∙ c.if-has_stopped.true)))

pub returns-then-has_stopped-clause-seated : goal.returns-then-has_stopped-clause-seated
returns-then-has_stopped-clause-seated g c =
    let m = c.loop-side.run in
    let s = m.relay.state in
    let inv = c.loop-side.invariant in
    let rest = c.next_due.new.self.state.batch in
    let e = c.in-Some.side in
    let hooked = due-hooked s e c.in-Some.why rest inv.stood c.in-Some.ensures.0 in
    let f = fire true None true _ m _ c.fire_next.new.run (g.S.Scribe.trace c.loop-side.scribe)
    (g.S.Scribe.trace c.make_room.new.scribe) (g.S.Scribe.trace c.fire_next.new.scribe) e c.in-Some.why rest
    c.loop-side.seats.hooks.items c.loop-side.seats.gone.items c.fire_next.new.seats.hooks.items c.fire_next.new.seats.gone.items
    c.in-Some.ensures.0 (c.make_room.ensures.state ∙ c.in-Some.ensures.1) refl c.make_room.ensures.list hooked.0
    inv.seated.level c.in_ok-fire_next.ensures.fired c.in_ok-fire_next.ensures.seat (λ q. refl)
    (sym c.has_stopped.ensures ∙ c.if-has_stopped.true) in
    let seat = c.in_ok-fire_next.ensures.seat in
    seat-seated c.loop-side.seats.hooks.items c.loop-side.seats.gone.items c.fire_next.new.seats.hooks.items
    c.fire_next.new.seats.gone.items
    (is_live c.fire_next.new.run.relay.state.plain e) e seat.was seat.now seat.there inv.seated.level seat.slot seat.out f.0 f.1 refl
    (stands-shape inv.stood.0 (Stage.Dispatching s.batch) s inv.stood.1).sides inv.seated

pub touch_asked-requires-clause-pass : goal.touch_asked-requires-clause-pass
touch_asked-requires-clause-pass g c =
    let m = c.loop-side.run in
    let s = m.relay.state in
    let inv = c.loop-side.invariant in
    let rest = c.next_due.new.self.state.batch in
    let e = c.in-Some.side in
    let hooked = due-hooked s e c.in-Some.why rest inv.stood c.in-Some.ensures.0 in
    let going = sym c.has_stopped.ensures ∙ c.if-has_stopped.false in
    let f = fire false None true _ m _ c.fire_next.new.run (g.S.Scribe.trace c.loop-side.scribe)
    (g.S.Scribe.trace c.make_room.new.scribe) (g.S.Scribe.trace c.fire_next.new.scribe) e c.in-Some.why rest
    c.loop-side.seats.hooks.items c.loop-side.seats.gone.items c.fire_next.new.seats.hooks.items c.fire_next.new.seats.gone.items
    c.in-Some.ensures.0 (c.make_room.ensures.state ∙ c.in-Some.ensures.1) refl c.make_room.ensures.list hooked.0
    inv.seated.level c.in_ok-fire_next.ensures.fired c.in_ok-fire_next.ensures.seat (λ q. refl) going in
    let opened = (fire-does f.0).0.frame.opened in
    let covers = inv.kept.pass_covers in
    let count = c.opened.ensures.count in
    omega (arith, opened, covers, count)

pub touch_asked-requires-clause-close : goal.touch_asked-requires-clause-close
touch_asked-requires-clause-close g c =
    let m = c.loop-side.run in
    let s = m.relay.state in
    let inv = c.loop-side.invariant in
    let rest = c.next_due.new.self.state.batch in
    let e = c.in-Some.side in
    let hooked = due-hooked s e c.in-Some.why rest inv.stood c.in-Some.ensures.0 in
    let going = sym c.has_stopped.ensures ∙ c.if-has_stopped.false in
    let f = fire false None true _ m _ c.fire_next.new.run (g.S.Scribe.trace c.loop-side.scribe)
    (g.S.Scribe.trace c.make_room.new.scribe) (g.S.Scribe.trace c.fire_next.new.scribe) e c.in-Some.why rest
    c.loop-side.seats.hooks.items c.loop-side.seats.gone.items c.fire_next.new.seats.hooks.items c.fire_next.new.seats.gone.items
    c.in-Some.ensures.0 (c.make_room.ensures.state ∙ c.in-Some.ensures.1) refl c.make_room.ensures.list hooked.0
    inv.seated.level c.in_ok-fire_next.ensures.fired c.in_ok-fire_next.ensures.seat (λ q. refl) going in
    let opened = (fire-does f.0).0.frame.opened in
    let covers = inv.kept.close_covers in
    let count = c.opened.ensures.count in
    omega (arith, opened, covers, count)

pub touch_asked-requires-clause-want : goal.touch_asked-requires-clause-want
touch_asked-requires-clause-want g c =
    let m = c.loop-side.run in
    let s = m.relay.state in
    let inv = c.loop-side.invariant in
    let rest = c.next_due.new.self.state.batch in
    let e = c.in-Some.side in
    let hooked = due-hooked s e c.in-Some.why rest inv.stood c.in-Some.ensures.0 in
    let going = sym c.has_stopped.ensures ∙ c.if-has_stopped.false in
    let f = fire false None true _ m _ c.fire_next.new.run (g.S.Scribe.trace c.loop-side.scribe)
    (g.S.Scribe.trace c.make_room.new.scribe) (g.S.Scribe.trace c.fire_next.new.scribe) e c.in-Some.why rest
    c.loop-side.seats.hooks.items c.loop-side.seats.gone.items c.fire_next.new.seats.hooks.items c.fire_next.new.seats.gone.items
    c.in-Some.ensures.0 (c.make_room.ensures.state ∙ c.in-Some.ensures.1) refl c.make_room.ensures.list hooked.0
    inv.seated.level c.in_ok-fire_next.ensures.fired c.in_ok-fire_next.ensures.seat (λ q. refl) going in
    let opened = (fire-does f.0).0.frame.opened in
    let covers = inv.kept.want_covers in
    let count = c.opened.ensures.count in
    omega (arith, opened, covers, count)

pub touch_asked-requires-clause-live : goal.touch_asked-requires-clause-live
touch_asked-requires-clause-live g c =
    let m = c.loop-side.run in
    let s = m.relay.state in
    let inv = c.loop-side.invariant in
    let rest = c.next_due.new.self.state.batch in
    let e = c.in-Some.side in
    let hooked = due-hooked s e c.in-Some.why rest inv.stood c.in-Some.ensures.0 in
    let going = sym c.has_stopped.ensures ∙ c.if-has_stopped.false in
    let f = fire false None true _ m _ c.fire_next.new.run (g.S.Scribe.trace c.loop-side.scribe)
    (g.S.Scribe.trace c.make_room.new.scribe) (g.S.Scribe.trace c.fire_next.new.scribe) e c.in-Some.why rest
    c.loop-side.seats.hooks.items c.loop-side.seats.gone.items c.fire_next.new.seats.hooks.items c.fire_next.new.seats.gone.items
    c.in-Some.ensures.0 (c.make_room.ensures.state ∙ c.in-Some.ensures.1) refl c.make_room.ensures.list hooked.0
    inv.seated.level c.in_ok-fire_next.ensures.fired c.in_ok-fire_next.ensures.seat (λ q. refl) going in
    let opened = (fire-does f.0).0.frame.opened in
    let covers = inv.kept.live_covers in
    let count = c.opened.ensures.count in
    omega (arith, opened, covers, count)

pub loop-side-smaller : goal.loop-side-smaller
loop-side-smaller g c =
    let m = c.loop-side.run in
    let s = m.relay.state in
    let inv = c.loop-side.invariant in
    let rest = c.next_due.new.self.state.batch in
    let e = c.in-Some.side in
    let hooked = due-hooked s e c.in-Some.why rest inv.stood c.in-Some.ensures.0 in
    let going = sym c.has_stopped.ensures ∙ c.if-has_stopped.false in
    let f = fire false None true _ m _ c.fire_next.new.run (g.S.Scribe.trace c.loop-side.scribe)
    (g.S.Scribe.trace c.make_room.new.scribe) (g.S.Scribe.trace c.fire_next.new.scribe) e c.in-Some.why rest
    c.loop-side.seats.hooks.items c.loop-side.seats.gone.items c.fire_next.new.seats.hooks.items c.fire_next.new.seats.gone.items
    c.in-Some.ensures.0 (c.make_room.ensures.state ∙ c.in-Some.ensures.1) refl c.make_room.ensures.list hooked.0
    inv.seated.level c.in_ok-fire_next.ensures.fired c.in_ok-fire_next.ensures.seat (λ q. refl) going in
    let less = (fire-does f.0).1 in
    omega (arith, less)

pub loop-side-preserved : goal.loop-side-preserved
loop-side-preserved g c =
    let m = c.loop-side.run in
    let s = m.relay.state in
    let inv = c.loop-side.invariant in
    let rest = c.next_due.new.self.state.batch in
    let e = c.in-Some.side in
    let hooked = due-hooked s e c.in-Some.why rest inv.stood c.in-Some.ensures.0 in
    let going = sym c.has_stopped.ensures ∙ c.if-has_stopped.false in
    let f = fire false None true _ m _ c.fire_next.new.run (g.S.Scribe.trace c.loop-side.scribe)
    (g.S.Scribe.trace c.make_room.new.scribe) (g.S.Scribe.trace c.fire_next.new.scribe) e c.in-Some.why rest
    c.loop-side.seats.hooks.items c.loop-side.seats.gone.items c.fire_next.new.seats.hooks.items c.fire_next.new.seats.gone.items
    c.in-Some.ensures.0 (c.make_room.ensures.state ∙ c.in-Some.ensures.1) refl c.make_room.ensures.list hooked.0
    inv.seated.level c.in_ok-fire_next.ensures.fired c.in_ok-fire_next.ensures.seat (λ q. refl) going in
    let new = c.fire_next.new.run.relay.state in
    let log = c.fire_next.new.run.relay.log in
    let event : Event = (entry.Fired e c.in-Some.why, []) in
    let opened = (fire-does f.0).0.frame.opened in
    let seat = c.in_ok-fire_next.ensures.seat in
    let same = λ (k : ℕ) (a : All (IsAskedElsewhere k) log).
    fire-other k f.0 (All-cons (IsAskedElsewhere k) event log (λ p. absurd (cc)) a) in
    let touched = subst (λ n. TouchedAsked log n c.loop-side.agenda c.touch_asked.new.agenda) (c.opened.ensures.count ∙ opened)
    (subst (λ x. TouchedAsked x c.opened.result c.loop-side.agenda c.touch_asked.new.agenda) c.fired.ensures c.touch_asked.ensures) in
    record {
      fired = fired-as (λ x q. to-more e _ _ x q)
          (fired-then None inv.fired (fired-step false None true _ m _ c.fire_next.new.run (g.S.Scribe.trace c.loop-side.scribe)
          (g.S.Scribe.trace c.make_room.new.scribe) (g.S.Scribe.trace c.fire_next.new.scribe) e c.in-Some.why rest
          c.loop-side.seats.hooks.items c.loop-side.seats.gone.items c.fire_next.new.seats.hooks.items c.fire_next.new.seats.gone.items
          c.in-Some.ensures.0 (c.make_room.ensures.state ∙ c.in-Some.ensures.1) refl c.make_room.ensures.list hooked.0
          inv.seated.level c.in_ok-fire_next.ensures.fired c.in_ok-fire_next.ensures.seat (λ q. refl) going));
      stood = (inv.stood.0 ++ event ∷ log, fires_are_stood_for false inv.stood.0 s new (event ∷ log) inv.stood.1 f.0);
      kept = asked-kept log c.loop-side.agenda c.touch_asked.new.agenda s new opened touched same inv.kept;
      names = λ t h. asked-names log c.loop-side.agenda c.touch_asked.new.agenda s new opened touched same t (inv.names t h);
      seated = seat-seated c.loop-side.seats.hooks.items c.loop-side.seats.gone.items c.fire_next.new.seats.hooks.items
          c.fire_next.new.seats.gone.items (is_live new.plain e) e seat.was seat.now seat.there inv.seated.level seat.slot seat.out
          f.0 f.1 refl
          (stands-shape inv.stood.0 (Stage.Dispatching s.batch) s inv.stood.1).sides inv.seated;
    }

pub returns-clause-went : goal.returns-clause-went
returns-clause-went g c =
    let state = c.in_default.ensures.1 in
    fired-as (λ x q. to-all _ _ x (ap (λ (z : State). z.batch) state ∙ c.in_default.ensures.0) c.begin_batch.ensures.few q)
    (fired-still state refl c.loop-side.invariant.fired)

pub returns-clause-kept : goal.returns-clause-kept
returns-clause-kept g c = λ went. subst (IsKept c.loop-side.agenda) (sym c.in_default.ensures.1) c.loop-side.invariant.kept

pub returns-clause-names : goal.returns-clause-names
returns-clause-names g c = λ went.
    subst (KeepsNames c.args.agenda.now c.args.run.now.relay.state c.loop-side.agenda) (sym c.in_default.ensures.1)
    c.loop-side.invariant.names

pub returns-clause-seated : goal.returns-clause-seated
returns-clause-seated g c =
    subst (λ z. AreSeated z c.loop-side.seats.hooks.items c.loop-side.seats.gone.items) (sym c.in_default.ensures.1)
    c.loop-side.invariant.seated
