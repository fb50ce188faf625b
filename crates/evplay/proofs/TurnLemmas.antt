-- One turn more of a run: it is not worn, and the run stands between two turns again, or the turn ended it.
use Rattle.std.proofs.Common.{◌≡◌, ◌≤◌, ◌<◌, ◌+◌, ◌*◌, ◌^◌, ◌++◌, ℕ, false, Option, Some, None, [], length, refl, sym, ap, subst, arith}
use Rattle.std.proofs.Common.{◌∙◌, inl}
use Rattle.std.specs.Prelude.{count_by, unwrap_or, IsSomeAnd}
use Rattle.ev_types.specs.Growth.{Grew}
use Rattle.ev_types.specs.Trace.{Trace}
use Rattle.ev_port.specs.Faults.{Faults}
use Rattle.relay_model.specs.Answers.{TurnAnswer}
use Rattle.relay_model.specs.RatesKept.{is_turn}
use Rattle.relay_model.specs.Settings.{Settings}
use Rattle.relay_model.specs.Stages.{Stage}
use Rattle.relay_state.specs.State.{State}
use Rattle.relay_steps.specs.Meaning.{StandsFor, LeftFor}
use Rattle.relay_drive.specs.Bounds.{IsWithin, most_of_turn}
use Rattle.relay_drive.specs.DriveStands.{DriveWent, turn_answer_of, turn_end_of}
use Rattle.relay_drive.specs.DriveValue.{DriveValue, is_worn}
use Rattle.relay_drive.specs.Known.{known, Point, Question}
use Rattle.relay_drive.specs.Phases.{CutTurn, EndsTurn, Turns, is_open_fault}
use Rattle.relay_drive.specs.declared.fault.DriveFault.{DriveFault}
use Rattle.relay_drive.specs.declared.fault.DriveFault.TheVariants as fault
use Rattle.relay_drive.specs.declared.fault.TurnEnd.{TurnEnd}
use Rattle.relay_drive.specs.declared.fault.TurnEnd.TheVariants as turn_end
use Rattle.relay_drive.proofs.HookEvents.{asks_fit-none}
use Rattle.relay_drive.proofs.NewStands.{new_relay_stands}
use Rattle.relay_drive.proofs.BoundLaws.{turn_is_bounded, within_is_not_worn}
use Rattle.relay_laws.specs.Relayed.{StoodBetween}
use Rattle.relay_laws.proofs.RelayedLemmas.{stood-at}
use Rattle.relay_laws.proofs.TurnEndLemmas.{ends-none, ends-grow}
use Rattle.program_end.proofs.TurnCountLemmas.{turn-once, turn-first, end-begins, cut-poll-once, cut-poll-first, count-append}
use Rattle.script_port.specs.ScriptPlan.{first_plan, ScriptPlan}
use Rattle.script_port.specs.ScriptState.{PortState}
use Rattle.script_port.specs.ScriptTold.{port_told, ends_told}
use Rattle.script_port.specs.ScriptVouched.{NoneWaits, ScriptVouches}
use Rattle.evplay.specs.Run.{first_drive, MayRun}
use Rattle.evplay.specs.CameTo.{StandsAfter, EndedAt}
use Rattle.evplay.specs.declared.run.RunEnd.{RunEnd}
use Rattle.evplay.specs.declared.run.RunEnd.TheVariants as run_end

-- what grew from a trace is that trace with what was added
pub grew-is : (log log' : Option Trace) (t added : Trace) → log ≡ Some t → Grew log log' added → log' ≡ Some (t ++ added)
grew-is log log' t added is grew = subst (λ z. Grew z log' added) is grew

-- a drive that made few turns can make one more
pub fresh : (n : ℕ) (d : DriveValue) (t : Trace) → n < 2 ^ 32 → IsWithin (n * most_of_turn 256 64) 256 64 d →
    StandsFor t Stage.Between d.state → is_worn d ≡ false
fresh n d t few w k = within_is_not_worn (n * most_of_turn 256 64) 256 64 d t w k (omega (arith, few))

-- as many turns as a run makes can be made of a drive that has made none
pub first-within : (g : Settings) → g.links ≡ 256 → length g.hooks ≤ 64 → IsWithin 0 256 64 (first_drive g)
first-within g links hooks = record {
  state = record {
    allowed = omega (arith, links);
    opened = omega arith;
    hooked = hooks;
    turns = omega arith;
    reads = λ i. omega arith;
  };
  entries = omega arith;
}

between-of : (t : Trace) (s : State) → LeftFor TurnAnswer.Went t s → StandsFor t Stage.Between s
between-of t s k = subst (λ x. StandsFor t x s) k.left k.stands

-- what is known of a port as a turn leaves it, at a point of the turn
abbrev KnownBy : Point → PortState → Settings → Question ScriptPlan → Trace → Type 0
KnownBy at p = known at (ScriptVouches p) NoneWaits (port_told p) (ends_told p.links)

module _ (g : Settings) (n : ℕ) (plan : ScriptPlan) (d new : DriveValue) (p q : PortState) (t : Trace) (log log' : Option Trace)
    (Tells : Trace → Type 0) (faults faults' : Faults) (inv : StandsAfter g n plan d p t) where
  -- a turn that went
  pub stands-more : (end : TurnEnd) → end ≡ turn_end.Went → new.kept ≡ None →
      (w : DriveWent (EndsTurn end) (LeftFor (turn_end_of end)) Tells false d new log log' (KnownBy Point.Between p)
      (KnownBy Point.Accepted q) faults faults') → StandsAfter g (n + 1) plan new q (t ++ w.added)
  stands-more end went calm w =
      let s = d.state in
      let u = t ++ w.added in
      let did : Turns s w.added new.state = subst (λ x. EndsTurn x s w.added new.state) went w.does in
      let left : LeftFor TurnAnswer.Went u new.state = subst (λ x. LeftFor (turn_end_of x) u new.state) went (w.means t inv.means) in
      let bounded = turn_is_bounded (n * most_of_turn 256 64) 256 64 d new t w.added inv.within did inv.stands (w.stands t inv.stands) in
      let more : n * most_of_turn 256 64 + most_of_turn 256 64 ≡ (n + 1) * most_of_turn 256 64 = omega arith in
      let once : count_by is_turn w.added ≡ 1 = turn-once did in
      let now = w.told (Question.Took plan) t inv.stands inv.seen in
      record {
        calm = calm;
        settings = w.settings ∙ inv.settings;
        stands = w.stands t inv.stands;
        turns = omega (arith, count-append t w.added, once, inv.turns);
        seen = (now.0, now.1.0);
        means = between-of u new.state left;
        ends = ends-grow (StoodBetween g) t w.added inv.ends (stood-at g t Stage.Between s inv.settings inv.means) (turn-first did) once;
        within = subst (λ m. IsWithin m 256 64 new) more bounded.0;
      }

  -- a turn that a hook of this link ended
  pub stopped-more : (end : TurnEnd) (link turn : ℕ) → end ≡ turn_end.Stopped link →
      (w : DriveWent (EndsTurn end) (LeftFor (turn_end_of end)) Tells false d new log log' (KnownBy Point.Between p)
      (KnownBy Point.Accepted q) faults faults') → EndedAt g (n + 1) (run_end.Stopped link turn) plan new q (t ++ w.added)
  stopped-more end link turn stopped w =
      let s = d.state in
      let u = t ++ w.added in
      let begins = end-begins end s new.state w.added w.does in
      record {
        settings = w.settings ∙ inv.settings;
        asks = (w.stands t inv.stands).asks;
        turns = omega (arith, count-append t w.added, begins.once, inv.turns);
        seen = w.told (Question.Took plan) t inv.stands inv.seen;
        left = subst (λ x. LeftFor (turn_end_of x) u new.state) stopped (w.means t inv.means);
        ends = ends-grow (StoodBetween g) t w.added inv.ends (stood-at g t Stage.Between s inv.settings inv.means) begins.first begins.once;
      }

  -- a turn that was refused with a failed poll
  pub failed-more : (f : DriveFault) → f ≡ fault.PollFault → (w : DriveWent (CutTurn f) (LeftFor (turn_answer_of f)) Tells
      (is_open_fault f) d new log log' (KnownBy Point.Between p) (KnownBy Point.Accepting q) faults faults') →
      EndedAt g (n + 1) run_end.PollFailed plan new q (t ++ w.added)
  failed-more f polled w =
      let s = d.state in
      let u = t ++ w.added in
      let cut : CutTurn fault.PollFault s w.added new.state = subst (λ z. CutTurn z s w.added new.state) polled w.does in
      let once : count_by is_turn w.added ≡ 1 = cut-poll-once cut in
      record {
        settings = w.settings ∙ inv.settings;
        asks = (w.stands t inv.stands).asks;
        turns = omega (arith, count-append t w.added, once, inv.turns);
        seen = w.told (Question.Took plan) t inv.stands inv.seen;
        left = subst (λ z. LeftFor (turn_answer_of z) u new.state) polled (w.means t inv.means);
        ends = ends-grow (StoodBetween g) t w.added inv.ends (stood-at g t Stage.Between s inv.settings inv.means)
            (cut-poll-first cut) once;
      }

-- it ended with at most more turns
pub ended-within : {g : Settings} {n m : ℕ} {end : RunEnd} {plan : ScriptPlan} {d : DriveValue} {p : PortState} {t : Trace} →
    EndedAt g n end plan d p t → n ≤ m → EndedAt g m end plan d p t
ended-within ended le = let few = ended.turns in record {
  settings = ended.settings;
  asks = ended.asks;
  turns = omega (arith, few, le);
  seen = ended.seen;
  left = ended.left;
  ends = ended.ends;
}

-- the trace that is told, or none
abbrev pub trace_in : Option Trace → Trace
trace_in log = unwrap_or log []

-- what holds of the trace that is told
pub some-and : (P : Trace → Type 0) (log : Option Trace) (t : Trace) → log ≡ Some t → P t → IsSomeAnd log P
some-and P log t is p = subst (λ z. IsSomeAnd z P) (sym is) p

-- a trace that is told, and what holds of it
pub told-so : (log : Option Trace) (P : Trace → Type 0) → IsSomeAnd log P → (log ≡ Some (trace_in log)) × P (trace_in log)
told-so (Some t) P h = (refl, h)
told-so None P h = absurd h

pub told-now : (log : Option Trace) (P : Trace → Type 0) → log ≡ Some (trace_in log) → IsSomeAnd log P → P (trace_in log)
told-now log P is h = (told-so log P h).1

-- a log that is told one turn more is that of the longer trace
pub told-longer : (log log' : Option Trace) (added : Trace) → log ≡ Some (trace_in log) → Grew log log' added →
    (trace_in log' ≡ trace_in log ++ added) × (log' ≡ Some (trace_in log'))
told-longer log log' added is grew =
    let now = grew-is log log' (trace_in log) added is grew in
    let same : trace_in log' ≡ trace_in log ++ added = ap trace_in now in
    (same, now ∙ ap Some (sym same))

-- a run as it begins
pub first-stands : (g : Settings) (n : ℕ) (first : PortState) (step : ℕ) → MayRun n g first →
    StandsAfter g 0 (first_plan first.turns step) (first_drive g) first []
first-stands g n first step ready = record {
  calm = refl;
  settings = refl;
  stands = record { fits = record { time = refl; last = refl; opened = refl }; asks = asks_fit-none; entries = refl };
  turns = refl;
  seen = ((ready.vouched step, tt), inl (λ called. refl));
  means = new_relay_stands g ready.groups;
  ends = ends-none (StoodBetween g);
  within = first-within g ready.links ready.hooks;
}
