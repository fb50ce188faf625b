use Rattle.std.proofs.Common.{◌≡◌, ◌+◌, ◌-◌, ◌^◌, ◌++◌, min, nat_lt, Ok, Option, None, false, refl, sym, ◌∙◌, ap, subst, arith}
use Rattle.ev_types.specs.Growth.{Grew}
use Rattle.ev_types.specs.Trace.{Trace}
use Rattle.relay_model.specs.Settings.{Settings, settings_with}
use Rattle.relay_drive.specs.DriveStands.{turn_answer_of}
use Rattle.relay_drive.specs.DriveValue.{DriveValue, is_worn, kept_of}
use Rattle.relay_drive.specs.Known.{Point}
use Rattle.relay_drive.specs.Seats.{telling, seated_sides}
use Rattle.relay_drive.proofs.GoesLemmas.{Grew-join}
use Rattle.program_end.proofs.TurnCountLemmas.{BeginsOnce, end-begins, cut-begins}
use Rattle.relay_serve.specs.Seen.{Seen, seen}
use Rattle.relay_serve.specs.Underway.{TurnsCut, TurnsEnd}
use Rattle.relay_serve.specs.declared.run.ServeEnd.TheVariants as serve_end
use Rattle.relay_serve.proofs.TurnsLemmas.{begins, stands-next, stopped-next, turns-next, tied-next, closed-next, cut-closed, cut-spent}
use Rattle.relay_serve.proofs.RestLemmas.{rests}
use Rattle.relay_serve.proofs.StoppedLemmas.{stopped-after, told-when, none-more}
use Rattle.relay_serve.proofs.WorkLemmas.{has-work, served-out}
use Rattle.relay_serve.proofs.TurnsLemmas.{cut-else, unworn, either, same-fault, told-on, asked-told, asked-cut}
use Rattle.relay_serve.proofs.run.make_turns.Goals as goal

pub loop-init : goal.loop-init
loop-init g c = record {
  calm = ap (λ (d : DriveValue). d.kept) c.requires.new_drive;
  stopped = λ told. absurd (cc);
  seated = c.requires.seated;
  went = rw c.requires.new_drive
      (begins
      (telling (λ h. (goal.Hook-dyn g (h.vtable, h.value)).heard h.value) (λ h. (goal.Hook-dyn g (h.vtable, h.value)).asked h.value)
      (λ h. (goal.Hook-dyn g (h.vtable, h.value)).planned h.value))
      c.args.seats.now.hooks.items c.args.seats.now.gone.items c.args.settings.now (seated_sides c.args.seats.now.hooks.items)
      (seen g.P.Port g.S.Scribe (c.args.port.now, c.args.scribe.now)) c.requires.fresh);
}

pub loop-preserved : goal.loop-preserved
loop-preserved g c =
    let inv = c.loop.invariant in
    let old : Seen = seen g.P.Port g.S.Scribe (c.args.port.now, c.args.scribe.now) in
    let mid : Seen = seen g.P.Port g.S.Scribe (c.stop_accepting.new.port, c.loop.scribe) in
    let new : Seen = seen g.P.Port g.S.Scribe (c.turn.new.port, c.turn.new.scribe) in
    let model : Settings = settings_with c.args.settings.now (seated_sides c.args.seats.now.hooks.items) in
    let stood = rests g.P.Port g.S.Scribe
    (telling (λ h. (goal.Hook-dyn g (h.vtable, h.value)).heard h.value) (λ h. (goal.Hook-dyn g (h.vtable, h.value)).asked h.value)
    (λ h. (goal.Hook-dyn g (h.vtable, h.value)).planned h.value))
    c.args.seats.now.hooks.items c.loop.seats.hooks.items c.loop.seats.gone.items model old c.loop.drive c.loop.port
    c.stop_accepting.new.port c.loop.scribe c.loop.turns c.stop_accepting.ensures.rests inv.went in
    let here = has-work stood.0.0.added c.loop.drive.state c.args.settings.now.links stood.0.0.after
    (ap (λ (z : Settings). z.links) stood.0.0.settings) (sym c.is_served_out.ensures ∙ c.if-is_served_out.false) in
    let fresh : is_worn c.loop.drive ≡ false =
    unworn (is_worn c.loop.drive) (λ h. let k = c.in-Ok-Went.ensures.spent inv.calm h in absurd (cc)) in
    let w = c.in-Ok-Went.ensures.went inv.calm fresh in
    let tied = tied-next g.P.Port g.S.Scribe Point.Accepted _ model old c.loop.drive c.turn.new.self c.stop_accepting.new.port
    c.turn.new.port
    c.loop.scribe
    c.turn.new.scribe c.loop.turns stood.0 w in
    let closed = closed-next g.P.Port g.S.Scribe _ model old c.loop.drive c.turn.new.self c.stop_accepting.new.port c.turn.new.port
    c.loop.scribe c.turn.new.scribe c.loop.turns stood.0 w in
    let more : c.saturating_add-turns.result ≡ min (c.loop.turns + 1) (2 ^ 32 - 1) = omega (arith, c.saturating_add-turns.ensures) in
    let once : BeginsOnce w.added = end-begins c.in-Ok-Went.field-0 c.loop.drive.state c.turn.new.self.state w.added w.does in
    let calm : c.turn.new.self.kept ≡ None = c.in-Ok-Went.ensures.answer ∙ ap (λ x. kept_of (Ok x)) c.in-Ok-Went.field-0-is in
    let next = stands-next c.in-Ok-Went.field-0 model old mid new c.loop.drive c.turn.new.self c.loop.turns c.saturating_add-turns.result
    _ _ c.in-Ok-Went.field-0-is stood.0 here w once tied closed more in
    record {
      calm = calm;
      stopped = stopped-after g.P.Port _ _ _ _ _ inv.stopped c.stop_accepting.ensures.told c.stop_accepting.ensures.stops;
      seated = c.in-Ok-Went.ensures.seated calm;
      went = (
        next.0,
        told-on
            (telling (λ h. (goal.Hook-dyn g (h.vtable, h.value)).heard h.value) (λ h. (goal.Hook-dyn g (h.vtable, h.value)).asked h.value)
            (λ h. (goal.Hook-dyn g (h.vtable, h.value)).planned h.value))
            c.args.seats.now.hooks.items c.loop.seats.hooks.items c.loop.seats.gone.items c.turn.new.seats.hooks.items
            c.turn.new.seats.gone.items stood.0.0.added w.added next.0.0.added next.1 stood.1 w.hooked,
      );
    }

-- All was served.
pub returns-then-is_served_out-clause-went : goal.returns-then-is_served_out-clause-went
returns-then-is_served_out-clause-went g c =
    let inv = c.loop.invariant in
    let old : Seen = seen g.P.Port g.S.Scribe (c.args.port.now, c.args.scribe.now) in
    let now : Seen = seen g.P.Port g.S.Scribe (c.stop_accepting.new.port, c.loop.scribe) in
    let model : Settings = settings_with c.args.settings.now (seated_sides c.args.seats.now.hooks.items) in
    let stood = rests g.P.Port g.S.Scribe
    (telling (λ h. (goal.Hook-dyn g (h.vtable, h.value)).heard h.value) (λ h. (goal.Hook-dyn g (h.vtable, h.value)).asked h.value)
    (λ h. (goal.Hook-dyn g (h.vtable, h.value)).planned h.value))
    c.args.seats.now.hooks.items c.loop.seats.hooks.items c.loop.seats.gone.items model old c.loop.drive c.loop.port
    c.stop_accepting.new.port c.loop.scribe c.loop.turns c.stop_accepting.ensures.rests inv.went in
    let out : TurnsEnd serve_end.ServedOut model old now c.loop.drive.state = (
      stood.0.0,
      served-out c.loop.drive.state c.args.settings.now.links (ap (λ (z : Settings). z.links) stood.0.0.settings)
          (sym c.is_served_out.ensures ∙ c.if-is_served_out.true),
    ) in
    rw c.requires.new_drive out

-- All links were opened, so that the port was told.
pub returns-then-is_served_out-clause-stopped : goal.returns-then-is_served_out-clause-stopped
returns-then-is_served_out-clause-stopped g c = λ out.
    let none = none-more c.loop.drive.state c.args.settings.now.links (sym c.is_served_out.ensures ∙ c.if-is_served_out.true) in
    stopped-after g.P.Port _ _ _ _ _ c.loop.invariant.stopped c.stop_accepting.ensures.told c.stop_accepting.ensures.stops
    (told-when _ _ _ c.stop_accepting.ensures.told none)

-- A hook stopped the last turn.
pub returns-in-Ok-Stopped-clause-went : goal.returns-in-Ok-Stopped-clause-went
returns-in-Ok-Stopped-clause-went g c =
    let inv = c.loop.invariant in
    let old : Seen = seen g.P.Port g.S.Scribe (c.args.port.now, c.args.scribe.now) in
    let mid : Seen = seen g.P.Port g.S.Scribe (c.stop_accepting.new.port, c.loop.scribe) in
    let new : Seen = seen g.P.Port g.S.Scribe (c.turn.new.port, c.turn.new.scribe) in
    let model : Settings = settings_with c.args.settings.now (seated_sides c.args.seats.now.hooks.items) in
    let stood = rests g.P.Port g.S.Scribe
    (telling (λ h. (goal.Hook-dyn g (h.vtable, h.value)).heard h.value) (λ h. (goal.Hook-dyn g (h.vtable, h.value)).asked h.value)
    (λ h. (goal.Hook-dyn g (h.vtable, h.value)).planned h.value))
    c.args.seats.now.hooks.items c.loop.seats.hooks.items c.loop.seats.gone.items model old c.loop.drive c.loop.port
    c.stop_accepting.new.port c.loop.scribe c.loop.turns c.stop_accepting.ensures.rests inv.went in
    let here = has-work stood.0.0.added c.loop.drive.state c.args.settings.now.links stood.0.0.after
    (ap (λ (z : Settings). z.links) stood.0.0.settings) (sym c.is_served_out.ensures ∙ c.if-is_served_out.false) in
    let fresh : is_worn c.loop.drive ≡ false =
    unworn (is_worn c.loop.drive) (λ h. let k = c.in-Ok-Stopped.ensures.spent inv.calm h in absurd (cc)) in
    let w = c.in-Ok-Stopped.ensures.went inv.calm fresh in
    let tied = tied-next g.P.Port g.S.Scribe Point.Accepted _ model old c.loop.drive c.turn.new.self c.stop_accepting.new.port
    c.turn.new.port
    c.loop.scribe
    c.turn.new.scribe c.loop.turns stood.0 w in
    let closed = closed-next g.P.Port g.S.Scribe _ model old c.loop.drive c.turn.new.self c.stop_accepting.new.port c.turn.new.port
    c.loop.scribe c.turn.new.scribe c.loop.turns stood.0 w in
    let more : c.saturating_add-turns.result ≡ min (c.loop.turns + 1) (2 ^ 32 - 1) = omega (arith, c.saturating_add-turns.ensures) in
    let link = c.in-Ok-Stopped.link in
    let once : BeginsOnce w.added = end-begins c.in-Ok-Stopped.field-0 c.loop.drive.state c.turn.new.self.state w.added w.does in
    let last : TurnsEnd (serve_end.Stopped link c.saturating_add-turns.result) model old new c.turn.new.self.state =
    stopped-next c.in-Ok-Stopped.field-0 link model old mid new c.loop.drive c.turn.new.self c.loop.turns c.saturating_add-turns.result _ _
    c.in-Ok-Stopped.field-0-is stood.0 here w once tied closed more in
    rw c.requires.new_drive last

-- The last turn was refused.
pub returns-in-Err-clause-went : goal.returns-in-Err-clause-went
returns-in-Err-clause-went g c =
    let inv = c.loop.invariant in
    let old : Seen = seen g.P.Port g.S.Scribe (c.args.port.now, c.args.scribe.now) in
    let mid : Seen = seen g.P.Port g.S.Scribe (c.stop_accepting.new.port, c.loop.scribe) in
    let new : Seen = seen g.P.Port g.S.Scribe (c.turn.new.port, c.turn.new.scribe) in
    let model : Settings = settings_with c.args.settings.now (seated_sides c.args.seats.now.hooks.items) in
    let stood = rests g.P.Port g.S.Scribe
    (telling (λ h. (goal.Hook-dyn g (h.vtable, h.value)).heard h.value) (λ h. (goal.Hook-dyn g (h.vtable, h.value)).asked h.value)
    (λ h. (goal.Hook-dyn g (h.vtable, h.value)).planned h.value))
    c.args.seats.now.hooks.items c.loop.seats.hooks.items c.loop.seats.gone.items model old c.loop.drive c.loop.port
    c.stop_accepting.new.port c.loop.scribe c.loop.turns c.stop_accepting.ensures.rests inv.went in
    let here = has-work stood.0.0.added c.loop.drive.state c.args.settings.now.links stood.0.0.after
    (ap (λ (z : Settings). z.links) stood.0.0.settings) (sym c.is_served_out.ensures ∙ c.if-is_served_out.false) in
    let went = stood.0.0 in
    let cut : TurnsCut c.in-Err.fault model old new c.turn.new.self.state =
    either (is_worn c.loop.drive)
    (λ worn. let k = c.in-Err.ensures.spent inv.calm worn in
    cut-spent model old mid new c.loop.drive c.turn.new.self.state c.in-Err.fault went stood.0.1 worn
    (λ i. seen g.P.Port g.S.Scribe (k.2.0 i, k.2.1 i)) k.1 (same-fault k.0))
    (λ fresh. let w = c.in-Err.ensures.went inv.calm fresh in
    let tied = tied-next g.P.Port g.S.Scribe Point.Accepting _ model old c.loop.drive c.turn.new.self c.stop_accepting.new.port
    c.turn.new.port
    c.loop.scribe
    c.turn.new.scribe c.loop.turns stood.0 w in
    cut-else c.in-Err.fault model old new c.turn.new.self.state c.loop.drive.state w.added w.does
    (turns-next _ model (turn_answer_of c.in-Err.fault) old mid new c.loop.drive c.turn.new.self _ _ went here w (cut-begins w.does) tied
    (cut-closed c.in-Err.fault model old.told new.told (went.added ++ w.added)))) in
    rw c.requires.new_drive cut

-- What hooks asked by their plans

pub returns-then-is_served_out-clause-asked : goal.returns-then-is_served_out-clause-asked
returns-then-is_served_out-clause-asked g c =
    let inv = c.loop.invariant in
    asked-told
    (telling (λ h. (goal.Hook-dyn g (h.vtable, h.value)).heard h.value) (λ h. (goal.Hook-dyn g (h.vtable, h.value)).asked h.value)
    (λ h. (goal.Hook-dyn g (h.vtable, h.value)).planned h.value))
    _ c.args.seats.now.hooks.items c.loop.seats.hooks.items c.loop.seats.gone.items inv.went.0.0.added
    (g.S.Scribe.trace c.args.scribe.now) (g.S.Scribe.trace c.loop.scribe) inv.went.0.0.list inv.went.1

pub returns-in-Ok-Stopped-clause-asked : goal.returns-in-Ok-Stopped-clause-asked
returns-in-Ok-Stopped-clause-asked g c =
    let inv = c.loop.invariant in
    let t = inv.went.0.0.added in
    let old : Option Trace = g.S.Scribe.trace c.args.scribe.now in
    let mid : Option Trace = g.S.Scribe.trace c.loop.scribe in
    let new : Option Trace = g.S.Scribe.trace c.turn.new.scribe in
    let fresh : is_worn c.loop.drive ≡ false =
    unworn (is_worn c.loop.drive) (λ h. let k = c.in-Ok-Stopped.ensures.spent inv.calm h in absurd (cc)) in
    let w = c.in-Ok-Stopped.ensures.went inv.calm fresh in
    let first = c.args.seats.now.hooks.items in
    asked-told
    (telling (λ h. (goal.Hook-dyn g (h.vtable, h.value)).heard h.value) (λ h. (goal.Hook-dyn g (h.vtable, h.value)).asked h.value)
    (λ h. (goal.Hook-dyn g (h.vtable, h.value)).planned h.value))
    _ first c.turn.new.seats.hooks.items c.turn.new.seats.gone.items (t ++ w.added) old new
    (Grew-join old mid new t w.added inv.went.0.0.list w.list)
    (told-on
    (telling (λ h. (goal.Hook-dyn g (h.vtable, h.value)).heard h.value) (λ h. (goal.Hook-dyn g (h.vtable, h.value)).asked h.value)
    (λ h. (goal.Hook-dyn g (h.vtable, h.value)).planned h.value))
    first c.loop.seats.hooks.items c.loop.seats.gone.items c.turn.new.seats.hooks.items c.turn.new.seats.gone.items t w.added
    (t ++ w.added) refl inv.went.1 w.hooked)

pub returns-in-Err-clause-asked : goal.returns-in-Err-clause-asked
returns-in-Err-clause-asked g c =
    let inv = c.loop.invariant in
    let went = inv.went.0.0 in
    let t = went.added in
    let old : Option Trace = g.S.Scribe.trace c.args.scribe.now in
    let mid : Option Trace = g.S.Scribe.trace c.loop.scribe in
    let new : Option Trace = g.S.Scribe.trace c.turn.new.scribe in
    let first = c.args.seats.now.hooks.items in
    either (is_worn c.loop.drive)
    (λ worn. let k = c.in-Err.ensures.spent inv.calm worn in
    asked-told
    (telling (λ h. (goal.Hook-dyn g (h.vtable, h.value)).heard h.value) (λ h. (goal.Hook-dyn g (h.vtable, h.value)).asked h.value)
    (λ h. (goal.Hook-dyn g (h.vtable, h.value)).planned h.value))
    _ first c.loop.seats.hooks.items c.loop.seats.gone.items t old new
    (subst (λ s. Grew old (g.S.Scribe.trace s) t) (sym k.2.1) went.list) inv.went.1)
    (λ fresh. let w = c.in-Err.ensures.went inv.calm fresh in
    asked-cut
    (telling (λ h. (goal.Hook-dyn g (h.vtable, h.value)).heard h.value) (λ h. (goal.Hook-dyn g (h.vtable, h.value)).asked h.value)
    (λ h. (goal.Hook-dyn g (h.vtable, h.value)).planned h.value))
    first c.loop.seats.hooks.items c.loop.seats.gone.items c.turn.new.seats.hooks.items c.turn.new.seats.gone.items c.in-Err.fault t w.added
    c.loop.drive.state c.turn.new.self.state old new (Grew-join old mid new t w.added went.list w.list) w.does w.hooked inv.went.1)
