use Rattle.std.proofs.Common.{◌≡◌, inl, inr, ℕ, true, Option, Some, ap, sym, ◌∙◌, subst, length, Result, Ok, Err, IfOk}
use Rattle.std.specs.Prelude.{IsSomeAnd}
use Rattle.ev_types.specs.Trace.{Trace}
use Rattle.command_words.specs.declared.mode.Ending.{Ending}
use Rattle.script_port.specs.ScriptPlan.{first_plan}
use Rattle.script_port.specs.ScriptState.{PortState}
use Rattle.ev_types.specs.ScriptTurn.{lines_of}
use Rattle.relay_model.specs.Called.{NamesOpened}
use Rattle.relay_model.specs.Script.{closing_step, plan_of}
use Rattle.relay_model.specs.Settings.{Settings}
use Rattle.relay_drive.specs.DriveValue.{DriveValue}
use Rattle.relay_drive.specs.Seats.{telling}
use Rattle.evplay.specs.CameTo.{CameTo, CameToEnd, StandsAfter, ToldTo}
use Rattle.evplay.specs.Headline.{script_run}
use Rattle.evplay.specs.Run.{AreSmall, TellsTurn}
use Rattle.evplay.specs.declared.run.RunEnd.{RunEnd}
use Rattle.evplay.specs.declared.run.RunEnd.TheVariants as run_end
use Rattle.evplay.proofs.HandedLemmas.{have-plans}
use Rattle.evplay.proofs.RunLemmas.{planned-to, run-ended, run-drained}
use Rattle.evplay.proofs.TurnLemmas.{some-and, told-so, told-now, trace_in}
use Rattle.evplay.proofs.turns.make_turns.Goals as goal

-- what make_script_turns came to, where it went
abbrev Stood : Settings → ℕ → PortState → ℕ → DriveValue → PortState → Option Trace → Type 0
Stood g n first step d p log = (log ≡ Some (trace_in log)) × StandsAfter g n (first_plan first.turns step) d p (trace_in log)

stood-so : (g : Settings) (n : ℕ) (first : PortState) (step : ℕ) (end : RunEnd) (d : DriveValue) (p : PortState) (log : Option Trace) →
    end ≡ run_end.Went →
    IsSomeAnd log (λ t. CameTo g n end (first_plan first.turns step) d p t × TellsTurn end t) → Stood g n first step d p log
stood-so g n first step end d p log is h =
    let told = told-so log _ h in
    (told.0, subst (λ x. CameTo g n x (first_plan first.turns step) d p (trace_in log)) is told.1.0)

-- what follows of each way to end
ended-each : {A E X : Type 0} (r : Result A E) (P Q R : A → Type 0) → IfOk r P → (X → IfOk r Q) →
    ((a : A) → P a → (X → Q a) → R a) → IfOk r R
ended-each (Ok a) P Q R p q f = f a p q
ended-each (Err e) P Q R p q f = tt

-- the port plays the same turns
same-turns : (g : Settings) (n : ℕ) (first : PortState) (step : ℕ) (d : DriveValue) (p : PortState) (log : Option Trace) →
    Stood g n first step d p log → p.turns ≡ first.turns
same-turns g n first step d p log stood = stood.1.seen.0.0.turns

pub make_closing_turns-requires-clause-small : goal.make_closing_turns-requires-clause-small
make_closing_turns-requires-clause-small g c =
    let gs : Settings = c.args.drive.now.state.settings in
    let first = c.args.port.now in
    let d = c.make_script_turns.new.drive in
    let p = c.make_script_turns.new.port in
    let log = g.S.Scribe.trace c.make_script_turns.new.scribe in
    let stood = stood-so gs c.args.turns first c.args.step c.in_ok-end.end d p log c.in-Drained-Went.is-1
    (c.in_ok-end.ensures.came c.args.step) in
    let same = same-turns gs c.args.turns first c.args.step d p log stood in
    subst AreSmall (sym same) c.requires.may_run.small

pub make_closing_turns-requires-clause-names : goal.make_closing_turns-requires-clause-names
make_closing_turns-requires-clause-names g c =
    let gs : Settings = c.args.drive.now.state.settings in
    let first = c.args.port.now in
    let d = c.make_script_turns.new.drive in
    let p = c.make_script_turns.new.port in
    let log = g.S.Scribe.trace c.make_script_turns.new.scribe in
    let stood = stood-so gs c.args.turns first c.args.step c.in_ok-end.end d p log c.in-Drained-Went.is-1
    (c.in_ok-end.ensures.came c.args.step) in
    let same = same-turns gs c.args.turns first c.args.step d p log stood in
    subst (λ z. NamesOpened 0 (lines_of z)) (sym same) c.requires.may_run.names

pub make_closing_turns-requires-clause-links : goal.make_closing_turns-requires-clause-links
make_closing_turns-requires-clause-links g c =
    let gs : Settings = c.args.drive.now.state.settings in
    let first = c.args.port.now in
    let d = c.make_script_turns.new.drive in
    let p = c.make_script_turns.new.port in
    let log = g.S.Scribe.trace c.make_script_turns.new.scribe in
    let stood = stood-so gs c.args.turns first c.args.step c.in_ok-end.end d p log c.in-Drained-Went.is-1
    (c.in_ok-end.ensures.came c.args.step) in
    let same = same-turns gs c.args.turns first c.args.step d p log stood in
    ap (λ (z : Settings). z.links) stood.1.settings ∙ c.requires.may_run.links

pub make_closing_turns-requires-clause-many : goal.make_closing_turns-requires-clause-many
make_closing_turns-requires-clause-many g c =
    let gs : Settings = c.args.drive.now.state.settings in
    let first = c.args.port.now in
    let d = c.make_script_turns.new.drive in
    let p = c.make_script_turns.new.port in
    let log = g.S.Scribe.trace c.make_script_turns.new.scribe in
    let stood = stood-so gs c.args.turns first c.args.step c.in_ok-end.end d p log c.in-Drained-Went.is-1
    (c.in_ok-end.ensures.came c.args.step) in
    let same = same-turns gs c.args.turns first c.args.step d p log stood in
    c.requires.may_run.many ∙ ap length (sym same)

pub make_closing_turns-requires-clause-step : goal.make_closing_turns-requires-clause-step
make_closing_turns-requires-clause-step g c =
    let gs : Settings = c.args.drive.now.state.settings in
    let first = c.args.port.now in
    let d = c.make_script_turns.new.drive in
    let p = c.make_script_turns.new.port in
    let log = g.S.Scribe.trace c.make_script_turns.new.scribe in
    let stood = stood-so gs c.args.turns first c.args.step c.in_ok-end.end d p log c.in-Drained-Went.is-1
    (c.in_ok-end.ensures.came c.args.step) in
    let same = same-turns gs c.args.turns first c.args.step d p log stood in
    c.requires.step ∙ ap closing_step (sym stood.1.settings)

pub make_closing_turns-requires-clause-stands : goal.make_closing_turns-requires-clause-stands
make_closing_turns-requires-clause-stands g c =
    let gs : Settings = c.args.drive.now.state.settings in
    let first = c.args.port.now in
    let d = c.make_script_turns.new.drive in
    let p = c.make_script_turns.new.port in
    let log = g.S.Scribe.trace c.make_script_turns.new.scribe in
    let stood = stood-so gs c.args.turns first c.args.step c.in_ok-end.end d p log c.in-Drained-Went.is-1
    (c.in_ok-end.ensures.came c.args.step) in
    let same = same-turns gs c.args.turns first c.args.step d p log stood in
    some-and _ log (trace_in log) stood.0
    (subst (λ z. StandsAfter d.state.settings c.args.turns (first_plan z c.args.step) d p (trace_in log)) (sym same)
    (subst (λ z. StandsAfter z c.args.turns (first_plan first.turns c.args.step) d p (trace_in log)) (sym stood.1.settings) stood.1))

pub returns-in-Drained-Went-clause-made : goal.returns-in-Drained-Went-clause-made
returns-in-Drained-Went-clause-made g c = λ script handed on seats.
    let gs : Settings = c.args.drive.now.state.settings in
    let first = c.args.port.now in
    let d = c.make_script_turns.new.drive in
    let p = c.make_script_turns.new.port in
    let log = g.S.Scribe.trace c.make_script_turns.new.scribe in
    let log' = g.S.Scribe.trace c.make_closing_turns.new.scribe in
    let new = c.make_closing_turns.new.drive in
    let q = c.make_closing_turns.new.port in
    let hooks = c.make_closing_turns.new.seats.hooks.items in
    let gone = c.make_closing_turns.new.seats.gone.items in
    let stood = stood-so gs c.args.turns first c.args.step c.in_ok-end.end d p log c.in-Drained-Went.is-1
    (c.in_ok-end.ensures.came c.args.step) in
    let same = same-turns gs c.args.turns first c.args.step d p log stood in
    let tells = telling (λ h. (goal.Hook-dyn g (h.vtable, h.value)).heard h.value)
    (λ h. (goal.Hook-dyn g (h.vtable, h.value)).asked h.value) (λ h. (goal.Hook-dyn g (h.vtable, h.value)).planned h.value) in
    let plan = plan_of (script_run script) in
    let came : IfOk c.make_closing_turns.result (λ end. IsSomeAnd log' (CameToEnd gs first.turns (closing_step gs) end new q)) =
    subst (λ z. IfOk c.make_closing_turns.result (λ end. IsSomeAnd log' (CameToEnd gs first.turns z end new q))) c.requires.step
    (subst (λ z. IfOk c.make_closing_turns.result (λ end. IsSomeAnd log' (CameToEnd z first.turns c.args.step end new q))) stood.1.settings
    (subst (λ z. IfOk c.make_closing_turns.result (λ end. IsSomeAnd log' (CameToEnd d.state.settings z c.args.step end new q))) same
    c.make_closing_turns.ensures.came)) in
    let told : handed.tell ≡ true → IfOk c.make_closing_turns.result (λ end. IsSomeAnd log' (ToldTo tells end plan hooks gone)) =
    λ tell. c.make_closing_turns.ensures.told plan (subst (λ x. IsSomeAnd log (ToldTo tells x plan c.make_script_turns.new.seats.hooks.items
    c.make_script_turns.new.seats.gone.items)) c.in-Drained-Went.is-1
    (c.in_ok-end.ensures.told plan (have-plans c.args.seats.now.hooks.items tells script.plans handed seats tell))) in
    ended-each c.make_closing_turns.result _ _ _ came told
    (λ end h asked. let all = told-so log' _ h in some-and _ log' (trace_in log') all.0 (
      run-drained script how_now handed c.args.turns gs first c.requires.may_run on end new q (trace_in log') c.in-Drained-Went.is-0 all.1
          (λ tell. planned-to tells end plan hooks gone (trace_in log') (told-now log' _ all.0 (asked tell))),
      all.1.tells,
    ))
  where
    how_now : Ending
    how_now = c.args.how

pub returns-in_default : goal.returns-in_default
returns-in_default g c = record {
  made = λ script handed on seats.
      let gs : Settings = c.args.drive.now.state.settings in
      let first = c.args.port.now in
      let d = c.make_script_turns.new.drive in
      let p = c.make_script_turns.new.port in
      let log = g.S.Scribe.trace c.make_script_turns.new.scribe in
      let hooks = c.make_script_turns.new.seats.hooks.items in
      let gone = c.make_script_turns.new.seats.gone.items in
      let tells = telling (λ h. (goal.Hook-dyn g (h.vtable, h.value)).heard h.value)
      (λ h. (goal.Hook-dyn g (h.vtable, h.value)).asked h.value) (λ h. (goal.Hook-dyn g (h.vtable, h.value)).planned h.value) in
      let plan = plan_of (script_run script) in
      let all = told-so log _ (c.in_ok-end.ensures.came (closing_step gs)) in
      some-and _ log (trace_in log) all.0 (
        run-ended script c.args.how handed c.args.turns gs first c.requires.may_run on c.in_ok-end.end d p (trace_in log) all.1.0
            (inr c.in_default.not-Went-1)
            (λ tell. planned-to tells c.in_ok-end.end plan hooks gone (trace_in log) (told-now log _ all.0
            (c.in_ok-end.ensures.told plan (have-plans c.args.seats.now.hooks.items tells script.plans handed seats tell)))),
        all.1.1,
      );
  only_memory = tt;
}

pub returns-in_default-2-clause-made : goal.returns-in_default-2-clause-made
returns-in_default-2-clause-made g c = λ script handed on seats.
    let gs : Settings = c.args.drive.now.state.settings in
    let first = c.args.port.now in
    let d = c.make_script_turns.new.drive in
    let p = c.make_script_turns.new.port in
    let log = g.S.Scribe.trace c.make_script_turns.new.scribe in
    let hooks = c.make_script_turns.new.seats.hooks.items in
    let gone = c.make_script_turns.new.seats.gone.items in
    let tells = telling (λ h. (goal.Hook-dyn g (h.vtable, h.value)).heard h.value)
    (λ h. (goal.Hook-dyn g (h.vtable, h.value)).asked h.value) (λ h. (goal.Hook-dyn g (h.vtable, h.value)).planned h.value) in
    let plan = plan_of (script_run script) in
    let all = told-so log _ (c.in_ok-end.ensures.came (closing_step gs)) in
    some-and _ log (trace_in log) all.0 (
      run-ended script c.args.how handed c.args.turns gs first c.requires.may_run on c.in_ok-end.end d p (trace_in log) all.1.0
          (inl c.in_default.is-0)
          (λ tell. planned-to tells c.in_ok-end.end plan hooks gone (trace_in log) (told-now log _ all.0
          (c.in_ok-end.ensures.told plan (have-plans c.args.seats.now.hooks.items tells script.plans handed seats tell)))),
      all.1.1,
    )
