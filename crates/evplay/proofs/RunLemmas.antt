-- What a drive and a script port keep over the turns of a script, and over closing turns behind them, is a run of that script.
use Rattle.std.proofs.Common.{◌≡◌, ◌≢◌, ◌⊎◌, inl, inr, ◌≤◌, ◌+◌, ℕ, true, List, Option, [], length, sym, ap, ◌∙◌, refl, subst, arith}
use Rattle.std.proofs.Common.{count_by, Result, Ok, Err, IfErr}
use Rattle.ev_types.specs.Trace.{Trace}
use Rattle.ev_types.specs.declared.plan_line.PlanLine.{PlanLine}
use Rattle.ev_types.specs.declared.side.SideId.{SideId}
use Rattle.command_words.specs.declared.mode.Ending.{Ending}
use Rattle.command_words.specs.declared.mode.Ending.TheVariants as ending
use Rattle.script_text.specs.Script.{ScriptValue}
use Rattle.relay_model.specs.Answers.{TurnAnswer}
use Rattle.relay_model.specs.Hooked.{AskPlanned}
use Rattle.relay_model.specs.Plays.{AlwaysTookAll, EndsPlayed, TookAll}
use Rattle.relay_model.specs.RatesKept.{is_turn}
use Rattle.relay_model.specs.Script.{closing_step, plan_of}
use Rattle.relay_model.specs.Scripted.{begun}
use Rattle.relay_model.specs.Settings.{Settings, HoldsSome}
use Rattle.relay_model.specs.Stages.{Stage}
use Rattle.relay_laws.specs.Relayed.{StoodBetween}
use Rattle.relay_laws.specs.Report.{lines_below}
use Rattle.relay_laws.specs.Spelling.{TimeoutsFit}
use Rattle.relay_laws.specs.TurnEnds.{AtTurnEnds}
use Rattle.relay_drive.specs.DriveValue.{DriveValue}
use Rattle.relay_drive.specs.Seats.{Telling}
use Rattle.program_end.proofs.PlannedLemmas.{all_told-planned}
use Rattle.program_end.proofs.TurnCountLemmas.{begun-is}
use Rattle.script_port.specs.ScriptPlan.{first_plan, ScriptPlan, IsCalledBy}
use Rattle.script_port.specs.ScriptState.{PortState}
use Rattle.script_port.specs.ScriptVouched.{ScriptVouches}
use Rattle.script_port.proofs.ScriptWaitingLemmas.{always_called, took_called}
use Rattle.evplay.specs.HandedIn.{HandedIn}
use Rattle.evplay.specs.Headline.{EndsAs, IsRun, settings_on, script_run}
use Rattle.evplay.specs.Run.{answer_of, script_over, MayRun}
use Rattle.evplay.specs.CameTo.{CameTo, CameToEnd, EndedAt, StandsAfter, ToldTo, closing_plan}
use Rattle.evplay.specs.declared.run.RunEnd.{RunEnd}
use Rattle.evplay.specs.declared.run.RunEnd.TheVariants as run_end
use Rattle.evplay.proofs.CalledLemmas.{called-by}
use Rattle.evplay.proofs.HeadlineLemmas.{run-of}
use Rattle.evplay.proofs.PlayedLemmas.{played-of}

-- a run that stands between two turns has ended with them, as far as it went
pub ended-between : (g : Settings) (n : ℕ) (plan : ScriptPlan) (d : DriveValue) (p : PortState) (t : Trace) →
    StandsAfter g n plan d p t → EndedAt g n run_end.Went plan d p t
ended-between g n plan d p t inv = record {
  settings = inv.settings;
  asks = inv.stands.asks;
  turns = omega (arith, inv.turns);
  seen = inv.seen;
  left = record { stage = Stage.Between; stands = inv.means; left = refl };
  ends = inv.ends;
}

pub ended-of : (g : Settings) (n : ℕ) (end : RunEnd) (plan : ScriptPlan) (d : DriveValue) (p : PortState) (t : Trace) →
    CameTo g n end plan d p t → EndedAt g n end plan d p t
ended-of g n run_end.Went plan d p t came = ended-between g n plan d p t came
ended-of g n run_end.PollFailed plan d p t came = came
ended-of g n (run_end.Stopped link turn) plan d p t came = came

-- a run that went made all the turns that were planned
counted-of : (g : Settings) (n : ℕ) (plan : ScriptPlan) (d : DriveValue) (p : PortState) (t : Trace) →
    CameTo g n run_end.Went plan d p t → count_by is_turn t ≡ n
counted-of g n plan d p t came = came.turns

-- The turns of a run that came to this end, so many closing turns having been announced.
module _ (script : ScriptValue) (how : Ending) (handed : HandedIn) (n : ℕ) (g : Settings) (first p : PortState) (closing : ℕ)
    (d : DriveValue) (t : Trace) (ready : MayRun n g first) (on : g ≡ settings_on script handed) where
  abbrev plan : ScriptPlan
  plan = closing_plan first.turns (closing_step g) closing

  abbrev over : ScriptValue
  over = script_over script first

  -- what its answer says of the turns
  played-to : (end : RunEnd) → CameTo g (n + closing) end plan d p t → IsCalledBy plan t →
      EndsPlayed first.turns g.links (length first.turns + closing) (answer_of end) t
  played-to run_end.Went came called =
      let many = ready.many in
      let turns = came.turns in
      let took : TookAll first.turns d.state.settings.links t = took_called plan d.state.settings.links t called came.seen.1 in
      (omega (arith, turns, many), subst (λ (z : Settings). TookAll first.turns z.links t) came.settings took)
  played-to run_end.PollFailed came called = let many = ready.many in let turns = came.turns in omega (arith, turns, many)
  played-to (run_end.Stopped link turn) came called =
      let many = ready.many in
      let turns = came.turns in
      let took : TookAll first.turns d.state.settings.links t = took_called plan d.state.settings.links t called came.seen.1.0 in
      (omega (arith, turns, many), subst (λ (z : Settings). TookAll first.turns z.links t) came.settings took)

  pub run-to : (end : RunEnd) → CameTo g (n + closing) end plan d p t →
      EndsAs how first.turns g (answer_of end) closing t →
      (handed.tell ≡ true → AskPlanned (plan_of (script_run script)) (answer_of end) t) →
      IsRun over how handed (answer_of end) t (lines_below d.state d.state.plain.opened)
  run-to end came ends asked =
      let e = ended-of g (n + closing) end plan d p t came in
      let s = d.state in
      let many = ready.many in
      let set : s.settings ≡ settings_on over handed = e.settings ∙ on in
      let links = ap (λ (z : Settings). z.links) e.settings in
      let called : IsCalledBy plan t =
      called-by plan t e.left.stage s e.left.stands ready.names (let turns = e.turns in omega (arith, turns, many)) in
      let took = always_called plan s.settings.links [] t called e.seen.0.1 in
      let step : closing_step g ≡ closing_step (settings_on over handed) = ap closing_step on in
      run-of over how handed (answer_of end) t e.left.stage s closing set (links ∙ ready.links)
      (subst TimeoutsFit (sym e.settings) ready.timeouts) (subst HoldsSome (sym e.settings) ready.holds) ready.brings ready.small
      ready.names ready.ordered e.left.stands e.left.left
      (played-of (script_run over) p closing (answer_of end) t
      (subst (λ m. ScriptVouches p (closing_plan first.turns m closing) t) step e.seen.0.0)
      (subst (λ m. IsCalledBy (closing_plan first.turns m closing) t) step called)
      (subst (λ (z : Settings). AlwaysTookAll first.turns z.links [] t) set took)
      (subst (λ (z : Settings). EndsPlayed first.turns z.links (length first.turns + closing) (answer_of end) t) on
      (played-to end came called)))
      (subst (λ z. EndsAs how first.turns z (answer_of end) closing t) on ends)
      e.asks asked (subst (λ z. AtTurnEnds (StoodBetween z) t) on e.ends)

-- hooks that told a plan asked what is planned
pub planned-to : {H : Type 0} (tells : Telling H) (end : RunEnd) (plan : SideId →
    List PlanLine) (hooks gone : List (Option H)) (t : Trace) →
    ToldTo tells end plan hooks gone t → AskPlanned plan (answer_of end) t
planned-to tells run_end.Went lines hooks gone t told = all_told-planned tells lines hooks gone t told
planned-to tells run_end.PollFailed lines hooks gone t told = told
planned-to tells (run_end.Stopped link turn) lines hooks gone t told = told

module _ (script : ScriptValue) (how : Ending) (handed : HandedIn) (n : ℕ) (g : Settings) (first : PortState) (ready : MayRun n g first)
    (on : g ≡ settings_on script handed) where
  -- a run without closing turns
  pub run-ended : (end : RunEnd) (d : DriveValue) (p : PortState) (t : Trace) →
      CameTo g n end (first_plan first.turns (closing_step g)) d p t →
      (how ≡ ending.LastTurn) ⊎ (end ≢ run_end.Went) →
      (handed.tell ≡ true → AskPlanned (plan_of (script_run script)) (answer_of end) t) →
      IsRun (script_over script first) how handed (answer_of end) t (lines_below d.state d.state.plain.opened)
  run-ended end d p t came early asked =
      let same : n ≡ n + 0 = omega arith in
      let is : CameTo g (n + 0) end (first_plan first.turns (closing_step g)) d p t =
      subst (λ m. CameTo g m end (first_plan first.turns (closing_step g)) d p t) same came in
      run-to script how handed n g first p 0 d t ready on end is (ends how early) asked
    where
      few : begun first.turns t ≤ length first.turns
      few = let e = ended-of g n end (first_plan first.turns (closing_step g)) d p t came in
          let turns = e.turns in
          let many = ready.many in
          omega (arith, turns, many, begun-is first.turns t)

      not-went : (x : RunEnd) → x ≢ run_end.Went → answer_of x ≢ TurnAnswer.Went
      not-went run_end.Went far is = far refl
      not-went run_end.PollFailed far is = absurd (cc is)
      not-went (run_end.Stopped link turn) far is = absurd (cc is)

      ends : (h : Ending) → (h ≡ ending.LastTurn) ⊎ (end ≢ run_end.Went) → EndsAs h first.turns g (answer_of end) 0 t
      ends ending.LastTurn e = refl
      ends ending.Drained (inl e) = absurd (cc e)
      ends ending.Drained (inr far) = inr (record { begun = few; ended = not-went end far })

  -- a run with closing turns
  pub run-drained : (end : RunEnd) (d : DriveValue) (p : PortState) (t : Trace) → how ≡ ending.Drained →
      CameToEnd g first.turns (closing_step g) end d p t →
      (handed.tell ≡ true → AskPlanned (plan_of (script_run script)) (answer_of end) t) →
      IsRun (script_over script first) how handed (answer_of end) t (lines_below d.state d.state.plain.opened)
  run-drained end d p t drained came asked =
      run-to script how handed n g first p came.closing d t ready on end
      (subst (λ m. CameTo g (m + came.closing) end (closing_plan first.turns (closing_step g) came.closing) d p t)
      (sym ready.many) came.came)
      (subst (λ h. EndsAs h first.turns g (answer_of end) came.closing t) (sym drained) (inl came.drains)) asked

-- why a run was refused is why its text is, or memory ran out for that
pub err-then : {A B E : Type 0} (P : E → Type 0) (ended : Result A E) (r : Result B E) → IfErr ended P →
    IfErr r (λ e. P e ⊎ (ended ≡ Err e)) → IfErr r P
err-then P ended (Ok b) p q = tt
err-then P ended (Err e) p (inl h) = h
err-then P ended (Err e) p (inr h) = subst (λ z. IfErr z P) h p
