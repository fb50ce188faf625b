use Rattle.std.proofs.Common.{◌≡◌, inl, inr, ◌≤◌, ◌<◌, ◌+◌, ◌++◌, ◌^◌, ◌-◌, ℕ, None, min, refl, ap}
use Rattle.std.proofs.Common.{sym, ◌∙◌}
use Rattle.std.proofs.Common.{subst, arith, length, Ok}
use Rattle.std.specs.Prelude.{count_by, IsSomeAnd}
use Rattle.script_port.specs.ScriptTold.{script_faults}
use Rattle.relay_model.specs.Answers.{TurnAnswer}
use Rattle.relay_model.specs.Settings.{Settings}
use Rattle.relay_model.specs.RatesKept.{is_turn}
use Rattle.relay_drive.specs.declared.fault.DriveFault.TheVariants as fault
use Rattle.relay_drive.specs.DriveValue.{kept_of}
use Rattle.relay_drive.specs.Phases.{CutTurn, EndsTurn, Turns}
use Rattle.relay_drive.specs.Seats.{telling}
use Rattle.program_end.proofs.PlannedLemmas.{all_told-more, all_told-planned}
use Rattle.program_end.proofs.TurnCountLemmas.{end-begins, count-append, cut-poll-first, cut-poll-once, turn-first, turn-once}
use Rattle.evplay.specs.CameTo.{closing_plan, CameToEnd, StandsAfter, ToldTo}
use Rattle.evplay.proofs.ClosingLemmas.{announced-stands, closing-more, closing-none, may-close, most-is, most-within}
use Rattle.evplay.proofs.ClosingLemmas.{began-stands, called-for, not-called-for, drains-from}
use Rattle.evplay.proofs.CountableLemmas.{step-within}
use Rattle.evplay.proofs.FaultLemmas.{memory-or-poll, polled, only-memory, cut-told}
use Rattle.evplay.proofs.TurnLemmas.{fresh, stands-more, stopped-more, failed-more, ended-within}
use Rattle.evplay.proofs.TurnLemmas.{trace_in, some-and, grew-is, told-longer, told-now, told-so}
use Rattle.evplay.proofs.closing.make_closing_turns.Goals as goal

pub loop-made-init : goal.loop-made-init
loop-made-init g c =
    let gs : Settings = c.args.drive.now.state.settings in
    let turns = c.args.port.now.turns in
    let log = g.S.Scribe.trace c.args.scribe.now in
    let t = trace_in log in
    let began = told-so log _ c.requires.stands in
    let stands = began-stands gs c.args.turns turns c.args.step c.args.drive.now c.args.port.now t began.1 c.requires.many in
    let most = most-is gs turns c.args.step 0 c.args.drive.now c.args.port.now t c.requires.small c.requires.names stands in
    let within = most-within gs turns c.args.step 0 c.args.drive.now c.args.port.now t c.requires.small c.requires.names stands in
    record {
      tells = began.0;
      stands = stands;
      closes = closing-none gs turns t c.args.drive.now.state.plain;
      most = omega (arith, c.most_closing_turns-most.ensures, most, within);
      bounded = omega (arith, c.most_closing_turns-most.ensures, most, within);
      seated = c.requires.seated;
      told = λ plan have. told-now log _ began.0 have;
    }

pub closing-requires : goal.closing-requires
closing-requires g c =
    let gs : Settings = c.args.drive.now.state.settings in
    let inv = c.loop-made.invariant in
    let short : c.args.step ≤ 2 ^ 20 = subst (λ n. n ≤ 2 ^ 20) (sym c.requires.step) (step-within gs) in
    let bounded = inv.bounded in
    may-close gs c.args.port.now.turns c.args.step c.loop-made.made c.loop-made.drive c.loop-made.port
    (trace_in (g.S.Scribe.trace c.loop-made.scribe)) c.requires.small c.requires.names inv.stands short
    (omega (arith, c.loop-made-test.true, bounded))

pub loop-made-preserved : goal.loop-made-preserved
loop-made-preserved g c =
    let gs : Settings = c.args.drive.now.state.settings in
    let turns = c.args.port.now.turns in
    let step = c.args.step in
    let made = c.loop-made.made in
    let d = c.loop-made.drive in
    let p = c.loop-made.port in
    let q = c.closing.new.self in
    let log = g.S.Scribe.trace c.loop-made.scribe in
    let log' = g.S.Scribe.trace c.turn.new.scribe in
    let t = trace_in log in
    let inv = c.loop-made.invariant in
    let small = c.requires.small in
    let names = c.requires.names in
    let few = small.few in
    let bounded = inv.bounded in
    let few_all : length turns + made < 2 ^ 32 = omega (arith, few, bounded, c.loop-made-test.true) in
    let stands = announced-stands gs turns step made d p t small names inv.stands q c.closing.ensures.vouched in
    let w = c.in-Ok-Went.ensures.went stands.calm (fresh (length turns + made) d t few_all stands.within stands.means) in
    let longer = told-longer log log' w.added inv.tells w.list in
    let calm : c.turn.new.self.kept ≡ None = c.in-Ok-Went.ensures.answer ∙ ap (λ x. kept_of (Ok x)) c.in-Ok-Went.field-0-is in
    let did : Turns d.state w.added c.turn.new.self.state =
    subst (λ x. EndsTurn x d.state w.added c.turn.new.self.state) c.in-Ok-Went.field-0-is w.does in
    let next = stands-more gs (length turns + made) (closing_plan turns step
    (made + 1)) d c.turn.new.self q c.turn.new.port t log log' _ _ _
    stands c.in-Ok-Went.field-0 c.in-Ok-Went.field-0-is calm w in
    let counted : length turns + made + 1 ≡ length turns + (made + 1) = omega arith in
    let more = called-for gs turns step made d p t small names inv.stands c.most_closing_turns-most.result _ inv.most c.loop-made-test.true
    c.has_open_links.result c.has_open_links.ensures c.if-has_open_links.true in
    record {
      tells = longer.1;
      stands = rw longer.0 (subst (λ n. StandsAfter gs n (closing_plan turns step (made + 1)) c.turn.new.self c.turn.new.port
          (t ++ w.added))
          counted next);
      closes = rw longer.0 (closing-more gs turns (trace_in (g.S.Scribe.trace c.args.scribe.now)) c.args.drive.now.state.plain t w.added
          inv.closes more (turn-first did) (turn-once did));
      most = inv.most;
      bounded = inv.bounded;
      seated = c.in-Ok-Went.ensures.seated calm;
      told = λ plan have. rw longer.0 (all_told-more
          (telling (λ h. (goal.Hook-dyn g (h.vtable, h.value)).heard h.value) (λ h. (goal.Hook-dyn g (h.vtable, h.value)).asked h.value)
          (λ h. (goal.Hook-dyn g (h.vtable, h.value)).planned h.value)) plan
          c.loop-made.seats.hooks.items c.loop-made.seats.gone.items c.turn.new.seats.hooks.items c.turn.new.seats.gone.items t
          w.added (inv.told plan have) w.hooked);
    }

pub returns-else-has_open_links-clause-came : goal.returns-else-has_open_links-clause-came
returns-else-has_open_links-clause-came g c =
    let gs : Settings = c.args.drive.now.state.settings in
    let turns = c.args.port.now.turns in
    let first = g.S.Scribe.trace c.args.scribe.now in
    let log = g.S.Scribe.trace c.loop-made.scribe in
    let inv = c.loop-made.invariant in
    let began = began-stands gs c.args.turns turns c.args.step c.args.drive.now c.args.port.now (trace_in first)
    (told-so first _ c.requires.stands).1 c.requires.many in
    some-and _ log _ inv.tells (record {
      closing = c.loop-made.made;
      came = inv.stands;
      drains = drains-from gs turns c.args.step c.args.drive.now c.args.port.now (trace_in first) c.requires.small c.requires.names began
          TurnAnswer.Went (trace_in log) inv.closes
          (not-called-for gs turns c.args.step c.loop-made.made c.loop-made.drive c.loop-made.port (trace_in log) c.requires.small
          c.requires.names inv.stands _ (inl (sym c.has_open_links.ensures ∙ c.if-has_open_links.false)));
      tells = tt;
    })

pub returns-else-has_open_links-clause-told : goal.returns-else-has_open_links-clause-told
returns-else-has_open_links-clause-told g c = λ plan have.
    let inv = c.loop-made.invariant in
    some-and _ (g.S.Scribe.trace c.loop-made.scribe) _ inv.tells (inv.told plan have)

pub returns-after-loop-made-clause-came : goal.returns-after-loop-made-clause-came
returns-after-loop-made-clause-came g c =
    let gs : Settings = c.args.drive.now.state.settings in
    let turns = c.args.port.now.turns in
    let first = g.S.Scribe.trace c.args.scribe.now in
    let log = g.S.Scribe.trace c.loop-made.scribe in
    let inv = c.loop-made.invariant in
    let began = began-stands gs c.args.turns turns c.args.step c.args.drive.now c.args.port.now (trace_in first)
    (told-so first _ c.requires.stands).1 c.requires.many in
    some-and _ log _ inv.tells (record {
      closing = c.loop-made.made;
      came = inv.stands;
      drains = drains-from gs turns c.args.step c.args.drive.now c.args.port.now (trace_in first) c.requires.small c.requires.names began
          TurnAnswer.Went (trace_in log) inv.closes
          (not-called-for gs turns c.args.step c.loop-made.made c.loop-made.drive c.loop-made.port (trace_in log) c.requires.small
          c.requires.names inv.stands _ (inr (let most = inv.most in omega (arith, most, c.loop-made-test.false))));
      tells = tt;
    })

pub returns-after-loop-made-clause-told : goal.returns-after-loop-made-clause-told
returns-after-loop-made-clause-told g c = λ plan have.
    let inv = c.loop-made.invariant in
    some-and _ (g.S.Scribe.trace c.loop-made.scribe) _ inv.tells (inv.told plan have)

-- the number of a turn, as it is told
told-is : (n k : ℕ) → n < 2 ^ 32 - 1 → k ≡ n + 1 → n + 1 ≡ min k (2 ^ 32 - 1)
told-is n k few is = omega (arith, few, is)

pub returns-in-Ok-Stopped-clause-came : goal.returns-in-Ok-Stopped-clause-came
returns-in-Ok-Stopped-clause-came g c =
    let gs : Settings = c.args.drive.now.state.settings in
    let turns = c.args.port.now.turns in
    let step = c.args.step in
    let made = c.loop-made.made in
    let d = c.loop-made.drive in
    let p = c.loop-made.port in
    let q = c.closing.new.self in
    let first = g.S.Scribe.trace c.args.scribe.now in
    let log = g.S.Scribe.trace c.loop-made.scribe in
    let log' = g.S.Scribe.trace c.turn.new.scribe in
    let t = trace_in log in
    let inv = c.loop-made.invariant in
    let small = c.requires.small in
    let names = c.requires.names in
    let few = small.few in
    let bounded = inv.bounded in
    let few_all : length turns + made < 2 ^ 32 = omega (arith, few, bounded, c.loop-made-test.true) in
    let stands = announced-stands gs turns step made d p t small names inv.stands q c.closing.ensures.vouched in
    let w = c.in-Ok-Stopped.ensures.went stands.calm (fresh (length turns + made) d t few_all stands.within stands.means) in
    let began = began-stands gs c.args.turns turns step c.args.drive.now c.args.port.now (trace_in first)
    (told-so first _ c.requires.stands).1 c.requires.many in
    let begins = end-begins c.in-Ok-Stopped.field-0 d.state c.turn.new.self.state w.added w.does in
    let more = called-for gs turns step made d p t small names inv.stands c.most_closing_turns-most.result _ inv.most c.loop-made-test.true
    c.has_open_links.result c.has_open_links.ensures c.if-has_open_links.true in
    let closes = closing-more gs turns (trace_in first) c.args.drive.now.state.plain t w.added inv.closes more begins.first begins.once in
    let came = stopped-more gs (length turns + made) (closing_plan turns step (made + 1)) d c.turn.new.self q c.turn.new.port t log log'
    _ _ _ stands c.in-Ok-Stopped.field-0 c.in-Ok-Stopped.link (c.args.turns + made + 1) c.in-Ok-Stopped.field-0-is w in
    let counted : count_by is_turn (t ++ w.added) ≡ length turns + made + 1 = omega
    (arith, count-append t w.added, begins.once, stands.turns) in
    let many = c.requires.many in
    some-and _ log' (t ++ w.added) (grew-is log log' t w.added inv.tells w.list) (record {
      closing = made + 1;
      came = ended-within came (omega arith);
      drains = drains-from gs turns step c.args.drive.now c.args.port.now (trace_in first) small names began
          (TurnAnswer.Stopped c.in-Ok-Stopped.link) (t ++ w.added) closes tt;
      tells = told-is (c.args.turns + made) (count_by is_turn (t ++ w.added)) (omega (arith, few, bounded, c.loop-made-test.true, many))
          (omega (arith, counted, many));
    })

pub returns-in-Ok-Stopped-clause-told : goal.returns-in-Ok-Stopped-clause-told
returns-in-Ok-Stopped-clause-told g c = λ plan have.
    let gs : Settings = c.args.drive.now.state.settings in
    let turns = c.args.port.now.turns in
    let step = c.args.step in
    let made = c.loop-made.made in
    let d = c.loop-made.drive in
    let p = c.loop-made.port in
    let q = c.closing.new.self in
    let first = g.S.Scribe.trace c.args.scribe.now in
    let log = g.S.Scribe.trace c.loop-made.scribe in
    let log' = g.S.Scribe.trace c.turn.new.scribe in
    let t = trace_in log in
    let inv = c.loop-made.invariant in
    let small = c.requires.small in
    let names = c.requires.names in
    let few = small.few in
    let bounded = inv.bounded in
    let few_all : length turns + made < 2 ^ 32 = omega (arith, few, bounded, c.loop-made-test.true) in
    let stands = announced-stands gs turns step made d p t small names inv.stands q c.closing.ensures.vouched in
    let w = c.in-Ok-Stopped.ensures.went stands.calm (fresh (length turns + made) d t few_all stands.within stands.means) in
    let tells = telling (λ h. (goal.Hook-dyn g (h.vtable, h.value)).heard h.value)
    (λ h. (goal.Hook-dyn g (h.vtable, h.value)).asked h.value) (λ h. (goal.Hook-dyn g (h.vtable, h.value)).planned h.value) in
    some-and _ log' (t ++ w.added) (grew-is log log' t w.added inv.tells w.list)
    (all_told-planned tells plan c.turn.new.seats.hooks.items c.turn.new.seats.gone.items (t ++ w.added)
    (all_told-more tells plan c.loop-made.seats.hooks.items c.loop-made.seats.gone.items c.turn.new.seats.hooks.items
    c.turn.new.seats.gone.items t w.added (inv.told plan have) w.hooked))

-- A turn that was refused with a failed poll ends the run so.
pub returns-in-Err-clause-came : goal.returns-in-Err-clause-came
returns-in-Err-clause-came g c =
    let gs : Settings = c.args.drive.now.state.settings in
    let turns = c.args.port.now.turns in
    let step = c.args.step in
    let made = c.loop-made.made in
    let d = c.loop-made.drive in
    let p = c.loop-made.port in
    let q = c.closing.new.self in
    let first = g.S.Scribe.trace c.args.scribe.now in
    let log = g.S.Scribe.trace c.loop-made.scribe in
    let log' = g.S.Scribe.trace c.turn.new.scribe in
    let t = trace_in log in
    let inv = c.loop-made.invariant in
    let small = c.requires.small in
    let names = c.requires.names in
    let few = small.few in
    let bounded = inv.bounded in
    let few_all : length turns + made < 2 ^ 32 = omega (arith, few, bounded, c.loop-made-test.true) in
    let stands = announced-stands gs turns step made d p t small names inv.stands q c.closing.ensures.vouched in
    let w = c.in-Err.ensures.went stands.calm (fresh (length turns + made) d t few_all stands.within stands.means) in
    let began = began-stands gs c.args.turns turns step c.args.drive.now c.args.port.now (trace_in first)
    (told-so first _ c.requires.stands).1 c.requires.many in
    let more = called-for gs turns step made d p t small names inv.stands c.most_closing_turns-most.result _ inv.most c.loop-made-test.true
    c.has_open_links.result c.has_open_links.ensures c.if-has_open_links.true in
    rw c.end_by.ensures
    (polled (λ end. IsSomeAnd log' (CameToEnd gs turns step end c.turn.new.self c.turn.new.port)) c.in-Err.fault
    (λ is.
    let cut : CutTurn fault.PollFault d.state w.added c.turn.new.self.state =
    subst (λ z. CutTurn z d.state w.added c.turn.new.self.state) is w.does in
    let closes = closing-more gs turns (trace_in first) c.args.drive.now.state.plain t w.added inv.closes more (cut-poll-first cut)
    (cut-poll-once cut) in
    some-and _ log' (t ++ w.added) (grew-is log log' t w.added inv.tells w.list) (record {
      closing = made + 1;
      came = ended-within (failed-more gs (length turns + made) (closing_plan turns step (made + 1)) d c.turn.new.self q c.turn.new.port t
          log log' _ _ _ stands c.in-Err.fault is w) (omega arith);
      drains = drains-from gs turns step c.args.drive.now c.args.port.now (trace_in first) small names began TurnAnswer.PollFault
          (t ++ w.added) closes tt;
      tells = tt;
    })))

pub returns-in-Err-clause-told : goal.returns-in-Err-clause-told
returns-in-Err-clause-told g c = λ plan have.
    let gs : Settings = c.args.drive.now.state.settings in
    let turns = c.args.port.now.turns in
    let step = c.args.step in
    let made = c.loop-made.made in
    let d = c.loop-made.drive in
    let p = c.loop-made.port in
    let q = c.closing.new.self in
    let first = g.S.Scribe.trace c.args.scribe.now in
    let log = g.S.Scribe.trace c.loop-made.scribe in
    let log' = g.S.Scribe.trace c.turn.new.scribe in
    let t = trace_in log in
    let inv = c.loop-made.invariant in
    let small = c.requires.small in
    let names = c.requires.names in
    let few = small.few in
    let bounded = inv.bounded in
    let few_all : length turns + made < 2 ^ 32 = omega (arith, few, bounded, c.loop-made-test.true) in
    let stands = announced-stands gs turns step made d p t small names inv.stands q c.closing.ensures.vouched in
    let w = c.in-Err.ensures.went stands.calm (fresh (length turns + made) d t few_all stands.within stands.means) in
    let tells = telling (λ h. (goal.Hook-dyn g (h.vtable, h.value)).heard h.value)
    (λ h. (goal.Hook-dyn g (h.vtable, h.value)).asked h.value) (λ h. (goal.Hook-dyn g (h.vtable, h.value)).planned h.value) in
    rw c.end_by.ensures
    (polled (λ end. IsSomeAnd log' (ToldTo tells end plan c.turn.new.seats.hooks.items c.turn.new.seats.gone.items)) c.in-Err.fault
    (λ is. some-and _ log' (t ++ w.added) (grew-is log log' t w.added inv.tells w.list)
    (cut-told plan c.in-Err.fault t w.added d.state c.turn.new.self.state is w.does
    (all_told-planned tells plan c.loop-made.seats.hooks.items c.loop-made.seats.gone.items t (inv.told plan have)))))

-- Over a port whose listener never fails, every other refusal is want of memory.
pub returns-in-Err-clause-only_memory : goal.returns-in-Err-clause-only_memory
returns-in-Err-clause-only_memory g c =
    let gs : Settings = c.args.drive.now.state.settings in
    let turns = c.args.port.now.turns in
    let step = c.args.step in
    let made = c.loop-made.made in
    let d = c.loop-made.drive in
    let p = c.loop-made.port in
    let q = c.closing.new.self in
    let first = g.S.Scribe.trace c.args.scribe.now in
    let log = g.S.Scribe.trace c.loop-made.scribe in
    let log' = g.S.Scribe.trace c.turn.new.scribe in
    let t = trace_in log in
    let inv = c.loop-made.invariant in
    let small = c.requires.small in
    let names = c.requires.names in
    let few = small.few in
    let bounded = inv.bounded in
    let few_all : length turns + made < 2 ^ 32 = omega (arith, few, bounded, c.loop-made-test.true) in
    let stands = announced-stands gs turns step made d p t small names inv.stands q c.closing.ensures.vouched in
    let w = c.in-Err.ensures.went stands.calm (fresh (length turns + made) d t few_all stands.within stands.means) in
    rw c.end_by.ensures (only-memory c.in-Err.fault (memory-or-poll c.in-Err.fault d.state c.turn.new.self.state w.added
    (script_faults q) (script_faults c.turn.new.port) refl refl w.does w.heard))
