use Rattle.std.proofs.Common.{◌≡◌, ◌<◌, ◌+◌, ◌++◌, ◌^◌, ◌-◌, ℕ, Some, None, min, [], refl, ap, sym, ◌∙◌}
use Rattle.std.proofs.Common.{subst, arith, Ok}
use Rattle.std.specs.Prelude.{count_by, IsSomeAnd}
use Rattle.script_port.specs.ScriptPlan.{first_plan, ScriptPlan}
use Rattle.script_port.specs.ScriptTold.{script_faults}
use Rattle.relay_model.specs.Settings.{Settings}
use Rattle.relay_model.specs.RatesKept.{is_turn}
use Rattle.relay_drive.specs.DriveValue.{kept_of}
use Rattle.relay_drive.specs.Seats.{telling}
use Rattle.program_end.proofs.PlannedLemmas.{all_told-none, all_told-more, all_told-planned}
use Rattle.program_end.proofs.TurnCountLemmas.{end-begins, count-append}
use Rattle.evplay.specs.Run.{TellsTurn}
use Rattle.evplay.specs.CameTo.{CameTo, StandsAfter, ToldTo}
use Rattle.evplay.proofs.FaultLemmas.{memory-or-poll, polled, only-memory, cut-told}
use Rattle.evplay.proofs.TurnLemmas.{fresh, first-stands, stands-more, stopped-more, failed-more, ended-within}
use Rattle.evplay.proofs.TurnLemmas.{trace_in, some-and, grew-is, told-longer}
use Rattle.evplay.proofs.turns.make_script_turns.Goals as goal

pub loop-turn-init : goal.loop-turn-init
loop-turn-init g c =
    let ready = c.requires.may_run in
    let gs : Settings = c.args.drive.now.state.settings in
    let hooks = c.args.seats.now.hooks.items in
    let gone = c.args.seats.now.gone.items in
    let none : trace_in (g.S.Scribe.trace c.args.scribe.now) ≡ [] = ap trace_in c.requires.no_trace in
    record {
      tells = c.requires.no_trace ∙ ap Some (sym none);
      stands = λ step. subst (λ t. StandsAfter gs 0 (first_plan c.args.port.now.turns step) c.args.drive.now c.args.port.now t) (sym none)
          (subst (λ d. StandsAfter gs 0 (first_plan c.args.port.now.turns step) d c.args.port.now []) (sym c.requires.first)
          (first-stands gs c.args.turns c.args.port.now step ready));
      seated = c.requires.seated;
      told = λ plan have. rw none (all_told-none
          (telling (λ h. (goal.Hook-dyn g (h.vtable, h.value)).heard h.value) (λ h. (goal.Hook-dyn g (h.vtable, h.value)).asked h.value)
          (λ h. (goal.Hook-dyn g (h.vtable, h.value)).planned h.value))
          plan hooks gone c.requires.fresh have);
    }

pub loop-turn-preserved : goal.loop-turn-preserved
loop-turn-preserved g c =
    let inv = c.loop-turn.invariant in
    let ready = c.requires.may_run in
    let gs : Settings = c.args.drive.now.state.settings in
    let log = g.S.Scribe.trace c.loop-turn.scribe in
    let log' = g.S.Scribe.trace c.turn.new.scribe in
    let t = trace_in log in
    let small = ready.small.few in
    let few : c.loop-turn.turn < 2 ^ 32 = omega (arith, c.loop-turn-test.true, ready.many, small) in
    let before = inv.stands 0 in
    let w = c.in-Ok-Went.ensures.went before.calm (fresh c.loop-turn.turn c.loop-turn.drive t few before.within before.means) in
    let longer = told-longer log log' w.added inv.tells w.list in
    let calm : c.turn.new.self.kept ≡ None = c.in-Ok-Went.ensures.answer ∙ ap (λ x. kept_of (Ok x)) c.in-Ok-Went.field-0-is in
    record {
      tells = longer.1;
      stands = λ step. rw longer.0 (stands-more gs c.loop-turn.turn (first_plan c.args.port.now.turns step) c.loop-turn.drive
          c.turn.new.self c.loop-turn.port c.turn.new.port t log log' _ _ _ (inv.stands step) c.in-Ok-Went.field-0
          c.in-Ok-Went.field-0-is calm w);
      seated = c.in-Ok-Went.ensures.seated calm;
      told = λ plan have. rw longer.0 (all_told-more
          (telling (λ h. (goal.Hook-dyn g (h.vtable, h.value)).heard h.value) (λ h. (goal.Hook-dyn g (h.vtable, h.value)).asked h.value)
          (λ h. (goal.Hook-dyn g (h.vtable, h.value)).planned h.value)) plan
          c.loop-turn.seats.hooks.items c.loop-turn.seats.gone.items c.turn.new.seats.hooks.items c.turn.new.seats.gone.items t
          w.added (inv.told plan have) w.hooked);
    }

pub returns-clause-came : goal.returns-clause-came
returns-clause-came g c = λ step.
    let inv = c.loop-turn.invariant in
    let all : c.loop-turn.turn ≡ c.args.turns = omega (arith, c.loop-turn-test.false, c.loop-turn.auto.turn-end) in
    some-and _ (g.S.Scribe.trace c.loop-turn.scribe) _ inv.tells (
      subst (λ n. StandsAfter c.args.drive.now.state.settings n (first_plan c.args.port.now.turns step) c.loop-turn.drive c.loop-turn.port
          (trace_in (g.S.Scribe.trace c.loop-turn.scribe))) all (inv.stands step),
      tt,
    )

pub returns-clause-told : goal.returns-clause-told
returns-clause-told g c = λ plan have.
    let inv = c.loop-turn.invariant in
    some-and _ (g.S.Scribe.trace c.loop-turn.scribe) _ inv.tells (inv.told plan have)

-- the number of a turn, as it is told
told-is : (n k : ℕ) → n < 20000 → k ≡ n + 1 → n + 1 ≡ min k (2 ^ 32 - 1)
told-is n k few is = omega (arith, few, is)

pub returns-in-Ok-Stopped-clause-came : goal.returns-in-Ok-Stopped-clause-came
returns-in-Ok-Stopped-clause-came g c = λ step.
    let inv = c.loop-turn.invariant in
    let ready = c.requires.may_run in
    let gs : Settings = c.args.drive.now.state.settings in
    let log = g.S.Scribe.trace c.loop-turn.scribe in
    let log' = g.S.Scribe.trace c.turn.new.scribe in
    let t = trace_in log in
    let small = ready.small.few in
    let many = ready.many in
    let few : c.loop-turn.turn < 2 ^ 32 = omega (arith, c.loop-turn-test.true, ready.many, small) in
    let before = inv.stands step in
    let w = c.in-Ok-Stopped.ensures.went before.calm (fresh c.loop-turn.turn c.loop-turn.drive t few before.within before.means) in
    let came = stopped-more gs c.loop-turn.turn (first_plan c.args.port.now.turns step) c.loop-turn.drive c.turn.new.self c.loop-turn.port
    c.turn.new.port t log log' _ _ _ before c.in-Ok-Stopped.field-0 c.in-Ok-Stopped.link
    (c.loop-turn.turn + 1) c.in-Ok-Stopped.field-0-is w in
    let begins = end-begins c.in-Ok-Stopped.field-0 c.loop-turn.drive.state c.turn.new.self.state w.added w.does in
    let counted : count_by is_turn (t ++ w.added) ≡ c.loop-turn.turn + 1 = omega
    (arith, count-append t w.added, begins.once, before.turns) in
    some-and _ log' (t ++ w.added) (grew-is log log' t w.added inv.tells w.list) (
      ended-within came (omega (arith, c.loop-turn-test.true)),
      told-is c.loop-turn.turn (count_by is_turn (t ++ w.added)) (omega (arith, c.loop-turn-test.true, many, small)) counted,
    )

pub returns-in-Ok-Stopped-clause-told : goal.returns-in-Ok-Stopped-clause-told
returns-in-Ok-Stopped-clause-told g c = λ plan have.
    let inv = c.loop-turn.invariant in
    let ready = c.requires.may_run in
    let log = g.S.Scribe.trace c.loop-turn.scribe in
    let log' = g.S.Scribe.trace c.turn.new.scribe in
    let t = trace_in log in
    let small = ready.small.few in
    let few : c.loop-turn.turn < 2 ^ 32 = omega (arith, c.loop-turn-test.true, ready.many, small) in
    let before = inv.stands 0 in
    let w = c.in-Ok-Stopped.ensures.went before.calm (fresh c.loop-turn.turn c.loop-turn.drive t few before.within before.means) in
    let tells = telling (λ h. (goal.Hook-dyn g (h.vtable, h.value)).heard h.value)
    (λ h. (goal.Hook-dyn g (h.vtable, h.value)).asked h.value) (λ h. (goal.Hook-dyn g (h.vtable, h.value)).planned h.value) in
    some-and _ log' (t ++ w.added) (grew-is log log' t w.added inv.tells w.list)
    (all_told-planned tells plan c.turn.new.seats.hooks.items c.turn.new.seats.gone.items (t ++ w.added)
    (all_told-more tells plan c.loop-turn.seats.hooks.items c.loop-turn.seats.gone.items c.turn.new.seats.hooks.items
    c.turn.new.seats.gone.items t w.added (inv.told plan have) w.hooked))

-- A turn that was refused with a failed poll ends the run so.
pub returns-in-Err-clause-came : goal.returns-in-Err-clause-came
returns-in-Err-clause-came g c = λ step.
    let inv = c.loop-turn.invariant in
    let ready = c.requires.may_run in
    let gs : Settings = c.args.drive.now.state.settings in
    let log = g.S.Scribe.trace c.loop-turn.scribe in
    let log' = g.S.Scribe.trace c.turn.new.scribe in
    let t = trace_in log in
    let small = ready.small.few in
    let few : c.loop-turn.turn < 2 ^ 32 = omega (arith, c.loop-turn-test.true, ready.many, small) in
    let before = inv.stands step in
    let w = c.in-Err.ensures.went before.calm (fresh c.loop-turn.turn c.loop-turn.drive t few before.within before.means) in
    let plan : ScriptPlan = first_plan c.args.port.now.turns step in
    rw c.end_by.ensures
    (polled (λ end. IsSomeAnd log' (λ u. CameTo gs c.args.turns end plan c.turn.new.self c.turn.new.port u × TellsTurn end u))
    c.in-Err.fault
    (λ is. some-and _ log' (t ++ w.added) (grew-is log log' t w.added inv.tells w.list) (
      ended-within (failed-more gs c.loop-turn.turn plan c.loop-turn.drive c.turn.new.self c.loop-turn.port c.turn.new.port t log log'
          _ _ _ before c.in-Err.fault is w) (omega (arith, c.loop-turn-test.true)),
      tt,
    )))

pub returns-in-Err-clause-told : goal.returns-in-Err-clause-told
returns-in-Err-clause-told g c = λ plan have.
    let inv = c.loop-turn.invariant in
    let ready = c.requires.may_run in
    let log = g.S.Scribe.trace c.loop-turn.scribe in
    let log' = g.S.Scribe.trace c.turn.new.scribe in
    let t = trace_in log in
    let small = ready.small.few in
    let few : c.loop-turn.turn < 2 ^ 32 = omega (arith, c.loop-turn-test.true, ready.many, small) in
    let before = inv.stands 0 in
    let w = c.in-Err.ensures.went before.calm (fresh c.loop-turn.turn c.loop-turn.drive t few before.within before.means) in
    let tells = telling (λ h. (goal.Hook-dyn g (h.vtable, h.value)).heard h.value)
    (λ h. (goal.Hook-dyn g (h.vtable, h.value)).asked h.value) (λ h. (goal.Hook-dyn g (h.vtable, h.value)).planned h.value) in
    rw c.end_by.ensures
    (polled (λ end. IsSomeAnd log' (ToldTo tells end plan c.turn.new.seats.hooks.items c.turn.new.seats.gone.items)) c.in-Err.fault
    (λ is. some-and _ log' (t ++ w.added) (grew-is log log' t w.added inv.tells w.list)
    (cut-told plan c.in-Err.fault t w.added c.loop-turn.drive.state c.turn.new.self.state is w.does
    (all_told-planned tells plan c.loop-turn.seats.hooks.items c.loop-turn.seats.gone.items t (inv.told plan have)))))

-- Over a port whose listener never fails, every other refusal is want of memory.
pub returns-in-Err-clause-only_memory : goal.returns-in-Err-clause-only_memory
returns-in-Err-clause-only_memory g c =
    let inv = c.loop-turn.invariant in
    let ready = c.requires.may_run in
    let t = trace_in (g.S.Scribe.trace c.loop-turn.scribe) in
    let small = ready.small.few in
    let few : c.loop-turn.turn < 2 ^ 32 = omega (arith, c.loop-turn-test.true, ready.many, small) in
    let before = inv.stands 0 in
    let w = c.in-Err.ensures.went before.calm (fresh c.loop-turn.turn c.loop-turn.drive t few before.within before.means) in
    rw c.end_by.ensures (only-memory c.in-Err.fault (memory-or-poll c.in-Err.fault c.loop-turn.drive.state c.turn.new.self.state w.added
    (script_faults c.loop-turn.port) (script_faults c.turn.new.port) refl refl w.does w.heard))
