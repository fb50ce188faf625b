-- Turns in a row: none, one more, and one that is cut off.
use Rattle.std.proofs.Common.{◌≡◌, ◌≢◌, ◌⊎◌, inl, inr, ℕ, ◌+◌, ◌-◌, ◌^◌, min, Bool, true, false, List, [], ◌++◌, refl, sym, ◌∙◌, ap, subst}
use Rattle.std.proofs.Common.{append-nil, count_by, arith, Result, Err, Option, None}
use Rattle.std.specs.Prelude.{⊤}
use Rattle.ev_types.specs.declared.plan_line.PlanLine.{PlanLine}
use Rattle.ev_types.specs.declared.side.SideId.{SideId}
use Rattle.ev_types.specs.declared.status.Status.{Status}
use Rattle.ev_types.specs.declared.status.Status.TheVariants as status
use Rattle.ev_types.specs.Growth.{Grew}
use Rattle.ev_types.specs.Told.{EndTold, PortTold}
use Rattle.ev_types.specs.Trace.{Trace}
use Rattle.ev_port.specs.declared.port.Port as port
use Rattle.ev_port.specs.declared.scribe.Scribe as scribe
use Rattle.relay_model.specs.Answers.{TurnAnswer}
use Rattle.relay_model.specs.Hooked.{AskPlanned, AskedAsPlanned}
use Rattle.relay_model.specs.RatesKept.{is_turn}
use Rattle.relay_model.specs.Settings.{Settings, settings_with}
use Rattle.relay_model.specs.Stages.{Stage}
use Rattle.relay_model.specs.Tied.{IsTied}
use Rattle.relay_model.proofs.TiedLemmas.{nothing_is_tied}
use Rattle.ev_types.specs.declared.settings.Settings as code
use Rattle.relay_state.specs.State.{State}
use Rattle.relay_steps.specs.Meaning.{HasItsGroups, StandsFor, LeftFor}
use Rattle.relay_laws.specs.Relayed.{StoodBetween}
use Rattle.relay_laws.specs.TurnEnds.{AtTurnEnds}
use Rattle.relay_laws.proofs.LawLemmas.{new_relay_stands}
use Rattle.relay_laws.proofs.RelayedLemmas.{stood-at}
use Rattle.relay_laws.proofs.TurnEndLemmas.{ends-none, ends-grow}
use Rattle.relay_drive.specs.declared.fault.DriveFault.{DriveFault}
use Rattle.relay_drive.specs.declared.fault.DriveFault.TheVariants as fault
use Rattle.relay_drive.specs.declared.fault.TurnEnd.{TurnEnd}
use Rattle.relay_drive.specs.declared.fault.TurnEnd.TheVariants as end
use Rattle.relay_drive.specs.DriveStands.{DriveStands, DriveWent, StandsBetween, turn_answer_of, turn_end_of}
use Rattle.relay_drive.specs.DriveValue.{DriveValue, is_worn}
use Rattle.relay_drive.specs.Known.{Point, Question, IsClosedSince}
use Rattle.relay_drive.specs.Seats.{Telling, HooksTell, HooksTellBut, AreFresh}
use Rattle.relay_drive.specs.Moves.{knows}
use Rattle.relay_drive.specs.Phases.{CutTurn, in_poll, CutPolling, is_open_fault}
use Rattle.relay_drive.proofs.HookEvents.{asks_fit-none}
use Rattle.relay_drive.proofs.GoesLemmas.{Grew-none, Grew-join, Heard-none, Heard-join}
use Rattle.program_end.specs.EndStatus.{status_of}
use Rattle.program_end.specs.Planned.{HavePlans, AllToldOf}
use Rattle.program_end.proofs.PlannedLemmas.{all_told-none, all_told-more, all_told-planned, planned-cut, planned-short}
use Rattle.program_end.proofs.TurnCountLemmas.{BeginsOnce, count-append}
use Rattle.relay_serve.specs.Seen.{Seen, seen}
use Rattle.relay_serve.specs.Served.{turns_told, HasWork, LeavesClosed, AskedByPlans}
use Rattle.relay_serve.specs.Underway.{TurnsWent, TurnsEnd, TurnsCut, groupless_drive}
use Rattle.relay_serve.specs.declared.run.ServeEnd.TheVariants as serve_end
use Rattle.relay_serve.proofs.WorkLemmas.{work-on}

-- no group is set in what words set
pub built : (g : code.Settings) (hooks : List SideId) → HasItsGroups (settings_with g hooks)
built g hooks = record { in_group = tt; out_group = tt; shares = tt }

-- a drive went so, stands for what its turns put, and so many turns are told of
abbrev pub Standing : Settings → Seen → Seen → DriveValue → ℕ → Type 0
Standing g old new d turns =
    (w : TurnsWent g TurnAnswer.Went StandsBetween false old new d.state) × DriveStands w.added d × (turns ≡ turns_told w.added)

-- before the first turn
stands-new : (g : code.Settings) (hooks : List SideId) (old : Seen) → Standing (settings_with g hooks) old old (groupless_drive g hooks) 0
stands-new g hooks old = (
  record {
    added = [];
    list = Grew-none old.log;
    settings = refl;
    after = new_relay_stands (settings_with g hooks) (built g hooks);
    ends = ends-none (StoodBetween (settings_with g hooks));
    work = ends-none (HasWork (settings_with g hooks).links);
    tied = nothing_is_tied (settings_with g hooks) old.told old.ends;
    closed = λ some. absurd (some refl);
    heard = Heard-none old.faults;
  },
  record { fits = record { time = refl; last = refl; opened = refl }; asks = asks_fit-none; entries = refl },
  refl,
)

-- hooks that had plans have told what their turns put
abbrev pub AllTold : {H : Type 0} → Telling H → List (Option H) → List (Option H) → List (Option H) → Trace → Type 0
AllTold tells first hooks gone t = (plan : SideId → List PlanLine) → HavePlans tells plan first → AllToldOf tells plan hooks gone t

-- before the first turn, with hooks of which none was called
pub begins : {H : Type 0} (tells : Telling H) (hooks gone : List (Option H)) (g : code.Settings) (sides : List SideId) (old : Seen) →
    AreFresh hooks gone →
    (stood : Standing (settings_with g sides) old old (groupless_drive g sides) 0) × AllTold tells hooks hooks gone stood.0.added
unfolding stands-new
begins tells hooks gone g sides old fresh =
    (stands-new g sides old, (λ plan have. all_told-none tells plan hooks gone fresh have))

-- wherever a turn ended, the run stood so, with one turn more or none
ends-on : (g : Settings) (t a : Trace) (s : State) → s.settings ≡ g → StandsBetween t s → AtTurnEnds (StoodBetween g) t →
    (a ≡ []) ⊎ BeginsOnce a → AtTurnEnds (StoodBetween g) (t ++ a)
ends-on g t a s is k ends (inl none) = subst (AtTurnEnds (StoodBetween g)) (sym (append-nil t) ∙ ap (λ z. t ++ z) (sym none)) ends
ends-on g t a s is k ends (inr one) = ends-grow (StoodBetween g) t a ends (stood-at g t Stage.Between s is k) one.first one.once

-- One more turn, of which this is known, or a part of one.
pub turns-next : {Plan : Type 0} {R : State → Trace → State → Type 0} {After : Trace → State → Type 0}
    {Tells : Trace → Type 0} (open_failed : Bool) (g : Settings) (answer : TurnAnswer)
    (old mid new : Seen) (d e : DriveValue) (v v' : Settings → Question Plan → Trace → Type 0) →
    (w : TurnsWent g TurnAnswer.Went StandsBetween false old mid d.state) → HasWork g.links w.added →
    (t : DriveWent R After Tells open_failed d e mid.log new.log v v' mid.faults new.faults) →
    (t.added ≡ []) ⊎ BeginsOnce t.added →
    IsTied g old.told new.told old.ends new.ends (w.added ++ t.added) → LeavesClosed answer g old.told new.told (w.added ++ t.added) →
    TurnsWent g answer After open_failed old new e.state
turns-next open_failed g answer old mid new d e v v' w here t begins tied closed = record {
  added = w.added ++ t.added;
  list = Grew-join old.log mid.log new.log w.added t.added w.list t.list;
  settings = t.settings ∙ w.settings;
  after = t.means w.added w.after;
  ends = ends-on g w.added t.added d.state w.settings w.after w.ends begins;
  work = work-on g.links w.added t.added here w.work begins;
  tied = tied;
  closed = closed;
  heard = Heard-join old.faults mid.faults new.faults w.added t.added false open_failed w.heard t.heard;
}

-- a turn that went through its phases left the relay between two turns
pub between-of : (t : Trace) (s : State) → LeftFor TurnAnswer.Went t s → StandsBetween t s
between-of t s k = subst (λ x. StandsFor t x s) k.left k.stands

-- one turn more is told of, up to the end of a u32
pub told-next : (t a : Trace) (turns more : ℕ) → turns ≡ turns_told t → more ≡ min (turns + 1) (2 ^ 32 - 1) → count_by is_turn a ≡ 1 →
    more ≡ turns_told (t ++ a)
told-next t a turns more was is one =
    let all = count-append t a in
    omega (arith, was, is, one, all)

-- the same turns, of which something else holds
abbrev with-after : {g : Settings} {answer : TurnAnswer} {After After' : Trace → State → Type 0} {failed : Bool} {old new : Seen}
    {s : State} → (w : TurnsWent g answer After failed old new s) → After' w.added s → TurnsWent g answer After' failed old new s
with-after w after = record {
  added = w.added;
  list = w.list;
  settings = w.settings;
  after = after;
  ends = w.ends;
  work = w.work;
  tied = w.tied;
  closed = w.closed;
  heard = w.heard;
}

-- A whole turn more.
pub stands-next : {Plan : Type 0} {R : State → Trace → State → Type 0} {Tells : Trace → Type 0} (x : TurnEnd) (g : Settings)
    (old mid new : Seen) (d e : DriveValue) (turns more : ℕ) (v v' : Settings → Question Plan → Trace → Type 0) → x ≡ end.Went →
    (k : Standing g old mid d turns) → HasWork g.links k.0.added →
    (t : DriveWent R (LeftFor (turn_end_of x)) Tells false d e mid.log new.log v v' mid.faults new.faults) → BeginsOnce t.added →
    IsTied g old.told new.told old.ends new.ends (k.0.added ++ t.added) → IsClosedSince g old.told new.told (k.0.added ++ t.added) →
    more ≡ min (turns + 1) (2 ^ 32 - 1) →
    (stood : Standing g old new e more) × (stood.0.added ≡ k.0.added ++ t.added)
unfolding turns-next
stands-next x g old mid new d e turns more v v' went k here t once tied closed is =
    let w = turns-next false g TurnAnswer.Went old mid new d e v v' k.0 here t (inr once) tied (λ some. closed) in
    let stood : Standing g old new e more = (
      with-after w (between-of w.added e.state (subst (λ z. LeftFor (turn_end_of z) w.added e.state) went w.after)),
      t.stands k.0.added k.1,
      told-next k.0.added t.added turns more k.2 is once.once,
    ) in
    (stood, refl)

-- A turn more that a hook of this link stopped.
pub stopped-next : {Plan : Type 0} {R : State → Trace → State → Type 0} {Tells : Trace → Type 0} (x : TurnEnd) (link : ℕ) (g : Settings)
    (old mid new : Seen) (d e : DriveValue) (turns more : ℕ) (v v' : Settings → Question Plan → Trace → Type 0) → x ≡ end.Stopped link →
    (k : Standing g old mid d turns) → HasWork g.links k.0.added →
    (t : DriveWent R (LeftFor (turn_end_of x)) Tells false d e mid.log new.log v v' mid.faults new.faults) → BeginsOnce t.added →
    IsTied g old.told new.told old.ends new.ends (k.0.added ++ t.added) → IsClosedSince g old.told new.told (k.0.added ++ t.added) →
    more ≡ min (turns + 1) (2 ^ 32 - 1) →
    TurnsEnd (serve_end.Stopped link more) g old new e.state
unfolding turns-next
stopped-next x link g old mid new d e turns more v v' stopped k here t once tied closed is =
    let w = turns-next false g (TurnAnswer.Stopped link) old mid new d e v v' k.0 here t (inr once) tied closed in (
      with-after w (subst (λ z. LeftFor (turn_end_of z) w.added e.state) stopped w.after),
      told-next k.0.added t.added turns more k.2 is once.once,
    )

-- no turn is cut off as spent behind its beginning
pub spent-never : {s new : State} {a : Trace} → CutTurn fault.Spent s a new → ⊥
spent-never {new = new} (in_poll reading c) = by_case c.second
  where
    by_case : CutPolling fault.Spent c.middle c.back new → ⊥
    by_case (inl x) = x
    by_case (inr x) = x

pub cut-of : (f : DriveFault) (g : Settings) (old new : Seen) (s : State) → f ≢ fault.Spent →
    TurnsWent g (turn_answer_of f) (LeftFor (turn_answer_of f)) (is_open_fault f) old new s → TurnsCut f g old new s
cut-of fault.Memory g old new s k w = w
cut-of fault.PollFault g old new s k w = w
cut-of fault.OpenFault g old new s k w = w
cut-of fault.Spent g old new s k w = absurd (k refl)

-- of a turn that was cut off nothing is said of accepting
pub cut-closed : (f : DriveFault) (g : Settings) (began now : PortTold) (t : Trace) → LeavesClosed (turn_answer_of f) g began now t
cut-closed fault.Memory g began now t = tt
cut-closed fault.PollFault g began now t = tt
cut-closed fault.OpenFault g began now t = tt
cut-closed fault.Spent g began now t = tt

-- a turn was refused as too much was counted
pub cut-spent : (g : Settings) (old mid new : Seen) (d : DriveValue) (s : State) (f : DriveFault) →
    (w : TurnsWent g TurnAnswer.Went StandsBetween false old mid d.state) → DriveStands w.added d → is_worn d ≡ true → new ≡ mid
    → s ≡ d.state →
    f ≡ fault.Spent → TurnsCut f g old new s
cut-spent g old mid new d s f w k worn seen_is s_is f_is =
    let base : TurnsCut fault.Spent g old mid d.state = (w, (d, k, w.after, worn)) in
    subst (λ x. TurnsCut x g old new s) (sym f_is)
    (subst (λ n. TurnsCut fault.Spent g old n s) (sym seen_is) (subst (λ z. TurnsCut fault.Spent g old mid z) (sym s_is) base))

-- and where it was refused for another cause
pub cut-else : (f : DriveFault) (g : Settings) (old new : Seen) (s before : State) (a : Trace) → CutTurn f before a s →
    TurnsWent g (turn_answer_of f) (LeftFor (turn_answer_of f)) (is_open_fault f) old new s → TurnsCut f g old new s
cut-else f g old new s before a cut w = cut-of f g old new s (λ is. spent-never (subst (λ x. CutTurn x before a s) is cut)) w

-- a port that is tied to a trace is tied to it with the entries of a turn, whatever the settings are called
tied-on : (g s s' : Settings) (began told told' : PortTold) (ends_began ends ends' : SideId → EndTold) (t u : Trace) → s ≡ g → s' ≡ s →
    IsTied g began told ends_began ends t → (IsTied s began told ends_began ends t × ⊤ → IsTied s' began told' ends_began ends' u) →
    IsTied g began told' ends_began ends' u
tied-on g s s' began told told' ends_began ends ends' t u is same h f =
    subst (λ z. IsTied z began told' ends_began ends' u) (same ∙ is)
    (f (subst (λ z. IsTied z began told ends_began ends t) (sym is) h, tt))

-- So it is of one more turn, or of a part of one.
pub tied-next : {P S : Type 0} {R : State → Trace → State → Type 0} {After : Trace → State → Type 0} {Tells : Trace → Type 0}
    (p : port.Ghosts P) (h : scribe.Ghosts S) (is : Point) (failed : Bool) (g : Settings) (old : Seen) (d e : DriveValue) (was now : P)
    (s s' : S) (turns : ℕ) → (k : Standing g old (seen p h (was, s)) d turns) →
    (t : DriveWent R After Tells failed d e (h.trace s) (h.trace s') (knows p Point.Between was) (knows p is now) (p.faults was)
    (p.faults now)) →
    IsTied g old.told (p.told now) old.ends (p.ends now) (k.0.added ++ t.added)
tied-next p h is failed g old d e was now s s' turns k t =
    tied-on g d.state.settings e.state.settings old.told (p.told was) (p.told now) old.ends (p.ends was) (p.ends now) k.0.added
    (k.0.added ++ t.added) k.0.settings t.settings k.0.tied (λ x. (t.told (Question.Tied old.told old.ends) k.0.added k.1 x).0)

-- Behind a whole turn accepting stands closed as that turn left it.
pub closed-next : {P S : Type 0} {R : State → Trace → State → Type 0} {After : Trace → State → Type 0} {Tells : Trace → Type 0}
    (p : port.Ghosts P) (h : scribe.Ghosts S) (failed : Bool) (g : Settings) (old : Seen) (d e : DriveValue) (was now : P)
    (s s' : S) (turns : ℕ) → (k : Standing g old (seen p h (was, s)) d turns) →
    (t : DriveWent R After Tells failed d e (h.trace s) (h.trace s') (knows p Point.Between was) (knows p Point.Accepted now) (p.faults was)
    (p.faults now)) →
    IsClosedSince g old.told (p.told now) (k.0.added ++ t.added)
closed-next p h failed g old d e was now s s' turns k t =
    let before = subst (λ z. IsTied z old.told (p.told was) old.ends (p.ends was) k.0.added) (sym k.0.settings) k.0.tied in
    subst (λ z. IsClosedSince z old.told (p.told now) (k.0.added ++ t.added)) (t.settings ∙ k.0.settings)
    ((t.told (Question.Tied old.told old.ends) k.0.added k.1 (before, tt)).1.1)

pub same-fault : {T : Type 0} {f h : DriveFault} → ◌≡◌ {A = Result T DriveFault} (Err f) (Err h) → f ≡ h
same-fault k = cc k

pub unworn : (b : Bool) → (b ≡ true → ⊥) → b ≡ false
unworn true k = absurd (k refl)
unworn false k = refl

pub either : {X : Type 0} (b : Bool) → (b ≡ true → X) → (b ≡ false → X) → X
either true f h = f refl
either false f h = h refl

-- What hooks asked

-- one turn more
pub told-on : {H : Type 0} (tells : Telling H) (first hooks gone hooks' gone' : List (Option H)) (t a u : Trace) → u ≡ t ++ a →
    AllTold tells first hooks gone t → HooksTell tells None hooks gone hooks' gone' a → AllTold tells first hooks' gone' u
told-on tells first hooks gone hooks' gone' t a u is told more plan have =
    subst (λ z. AllToldOf tells plan hooks' gone' z) (sym is) (all_told-more tells plan hooks gone hooks' gone' t a (told plan have) more)

-- so they asked as planned where no turn was cut off
pub asked-told : {H : Type 0} (tells : Telling H) (ended : Status) (first hooks gone : List (Option H)) (t : Trace)
    (old new : Option Trace) → Grew old new t → AllTold tells first hooks gone t → AskedByPlans tells ended first old new
asked-told tells ended first hooks gone t old new grew told = (
  t,
  grew,
  (λ plan have. let all = all_told-planned tells plan hooks gone t (told plan have) in (inl all, λ lasted. all)),
)

-- and where one was, but in a fire that was cut off for want of memory
pub asked-cut : {H : Type 0} (tells : Telling H) (first hooks gone hooks' gone' : List (Option H)) (f : DriveFault) (t a : Trace)
    (s s' : State) (old new : Option Trace) → Grew old new (t ++ a) → CutTurn f s a s' → HooksTellBut tells hooks gone hooks' gone' a →
    AllTold tells first hooks gone t → AskedByPlans tells (status_of f) first old new
asked-cut tells first hooks gone hooks' gone' f t a s s' old new grew cut but told =
    (t ++ a, grew, (λ plan have. go f plan (told plan have) cut))
  where
    whole : (f : DriveFault) (plan : SideId → List PlanLine) → f ≢ fault.Memory → AllToldOf tells plan hooks gone t → CutTurn f s a s' →
        AskPlanned plan TurnAnswer.Memory (t ++ a) × (status_of f ≢ status.Memory → AskedAsPlanned plan (t ++ a))
    whole f plan far all cut =
        let asked = planned-cut plan f t a s s' far cut (all_told-planned tells plan hooks gone t all) in (inl asked, λ lasted. asked)

    go : (f : DriveFault) (plan : SideId → List PlanLine) → AllToldOf tells plan hooks gone t → CutTurn f s a s' →
        AskPlanned plan TurnAnswer.Memory (t ++ a) × (status_of f ≢ status.Memory → AskedAsPlanned plan (t ++ a))
    go fault.Memory plan all cut = (planned-short tells plan hooks gone hooks' gone' t a all but, λ lasted. absurd (lasted refl))
    go fault.PollFault plan all cut = whole fault.PollFault plan (λ e. absurd (cc e)) all cut
    go fault.OpenFault plan all cut = whole fault.OpenFault plan (λ e. absurd (cc e)) all cut
    go fault.Spent plan all cut = whole fault.Spent plan (λ e. absurd (cc e)) all cut

-- nothing was asked where nothing was put
pub asked-nothing : {H : Type 0} (tells : Telling H) (ended : Status) (first : List (Option H)) (old : Option Trace) →
    AskedByPlans tells ended first old old
asked-nothing tells ended first old = ([], Grew-none old, (λ plan have. (inl (λ e. refl), λ lasted e. refl)))

-- a report may run out of memory behind a run, and where it doesn't the run didn't
pub asked-reported : {H : Type 0} (tells : Telling H) (ended result : Status) (first : List (Option H)) (old new : Option Trace) →
    (result ≢ status.Memory → ended ≢ status.Memory) → AskedByPlans tells ended first old new → AskedByPlans tells result first old new
asked-reported tells ended result first old new lasts h =
    (h.0, h.1, (λ plan have. let k = h.2 plan have in (k.0, λ lasted. k.1 (lasts lasted))))
