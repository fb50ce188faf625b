-- How a run ended, from what its turns came to.
use Rattle.std.proofs.Common.{◌≡◌, ◌≢◌, ◌⊎◌, inl, inr, ℕ, zero, suc, ◌+◌, Bool, true, false, ◌||◌, ◌&&◌, if◌then◌else◌, List, [], ◌∷◌, refl}
use Rattle.std.proofs.Common.{sym, ◌∙◌, ap, subst, arith, fold, Result, Ok, Err, Option, Some, None}
use Rattle.std.specs.Prelude.{MatchResult}
use Rattle.std.specs.List.{All}
use Rattle.std.proofs.lemmas.List.Elements.{All-nil, All-cons, All-append}
use Rattle.ev_types.specs.declared.entry.Entry.TheVariants as entry
use Rattle.ev_types.specs.declared.side.SideId.{SideId}
use Rattle.ev_types.specs.declared.status.LinkCount.{LinkCount}
use Rattle.ev_types.specs.declared.status.LinkState.TheVariants as state
use Rattle.ev_types.specs.declared.status.Status.{Status}
use Rattle.ev_types.specs.declared.status.Status.TheVariants as status
use Rattle.ev_types.specs.Growth.{Grew}
use Rattle.ev_types.specs.Trace.{Event, Trace}
use Rattle.ev_port.specs.StreamBytes.{TookOn}
use Rattle.ev_port.specs.Calls.{StartedAt}
use Rattle.ev_port.specs.EndSteps.{AllWent, no_step}
use Rattle.ev_port.specs.Faults.{ListenerFaults}
use Rattle.script_text.specs.ReportText.{report_text}
use Rattle.relay_model.specs.Answers.{TurnAnswer, LeftAt}
use Rattle.relay_model.specs.Plain.{side_at}
use Rattle.relay_model.specs.Settings.{Settings}
use Rattle.relay_model.specs.Stages.{Stage, at}
use Rattle.relay_model.proofs.TiedLemmas.{nothing_is_tied}
use Rattle.relay_model.proofs.PollLemmas.{Poll, poll_by, poll_at, poll_is_told}
use Rattle.ev_types.specs.declared.route.Route.{Route}
use Rattle.relay_state.specs.State.{State, new_state}
use Rattle.relay_state.specs.Closing.{in_side, out_side}
use Rattle.relay_state.specs.Counting.{link_count, link_state, is_open, open_below}
use Rattle.relay_steps.specs.Meaning.{StandsFor, LeftFor}
use Rattle.relay_laws.specs.Report.{lines_below}
use Rattle.relay_laws.specs.Relayed.{StoodBetween}
use Rattle.relay_laws.proofs.LawLemmas.{new_relay_stands}
use Rattle.relay_laws.proofs.LinkLemmas.{links-told}
use Rattle.relay_laws.proofs.RelayedLemmas.{relayed-of}
use Rattle.relay_laws.proofs.TurnEndLemmas.{ends-none}
use Rattle.relay_drive.specs.declared.fault.DriveFault.{DriveFault}
use Rattle.relay_drive.specs.declared.fault.DriveFault.TheVariants as fault
use Rattle.relay_drive.specs.Advances.{Heard, is_poll_failed, has_poll_failed}
use Rattle.relay_drive.specs.DriveStands.{StandsBetween}
use Rattle.relay_drive.proofs.GoesLemmas.{Grew-none, Heard-join}
use Rattle.relay_drive.proofs.HeardLemmas.{Heard-open}
use Rattle.program_end.specs.EndStatus.{status_of}
use Rattle.command_words.specs.WordsStatus.{status_of_words}
use Rattle.command_words.specs.declared.fault.WordsFault.{WordsFault}
use Rattle.command_words.specs.declared.fault.WordsFault.TheVariants as words
use Rattle.relay_serve.specs.Seen.{Seen, Drained}
use Rattle.relay_serve.specs.Served.{settings_on, BeganSo, IsServed, EndedAs, ReportedAll, RanOut, Did, DidWith}
use Rattle.relay_serve.specs.Served.{turns_told, HasWork, LeavesClosed}
use Rattle.relay_serve.specs.Underway.{TurnsWent, TurnsEnd, TurnsCut, IsServedOut, RanTo, Reported, ended_as}
use Rattle.relay_serve.specs.declared.run.ServeEnd.{ServeEnd}
use Rattle.relay_serve.specs.declared.run.ServeEnd.TheVariants as serve_end
use Rattle.program_end.proofs.StopLemmas.{never_stopped}
use Rattle.relay_serve.proofs.TurnsLemmas.{built}

-- a sum of which the whole is 0
both-none : (m n : ℕ) → m + n ≡ 0 → (m ≡ 0) × (n ≡ 0)
both-none m n h = (omega (arith, h), omega (arith, h))

-- a link that is told as open is
told-open : (lives done : Bool) → (if lives then state.Live else (if done then state.Done else state.Gone)) ≡ state.Live → lives ≡ true
told-open true done h = refl
told-open false true h = absurd (cc)
told-open false false h = absurd (cc)

-- what a link adds to the number of open ones
abbrev one : Bool → ℕ
one lives = if lives then 1 else 0

not-live : (s : State) (k : ℕ) → one (is_open s k) ≡ 0 → link_state s k ≢ state.Live
not-live s k h live =
    let done : Bool = (side_at s.plain (in_side k)).write_ended && (side_at s.plain (out_side k)).write_ended in
    let lives : is_open s k ≡ true = told-open (is_open s k) done live in
    absurd (let e = ap one lives in omega (arith, e, h))

-- where no link is open, none is told as open
none-live : (s : State) (n : ℕ) → open_below s n ≡ 0 → All (λ link. link.state ≢ state.Live) (lines_below s n)
none-live s zero h = All-nil (λ (link : LinkCount). link.state ≢ state.Live)
none-live s (suc n) h =
    let P : LinkCount → Type 0 = λ link. link.state ≢ state.Live in
    let parts = both-none (open_below s n) (one (is_open s n)) h in
    All-append P (lines_below s n) (link_count s n ∷ []) (none-live s n parts.0)
    (All-cons P (link_count s n) [] (not-live s n parts.1) (All-nil P))

-- a trace whose last poll failed tells of a failed poll
poll-any : (p : Poll) (t : Trace) → fold poll_by p t ≡ Poll.Failed → (p ≡ Poll.Failed) ⊎ (has_poll_failed t ≡ true)
poll-any p [] h = inl h
poll-any p (y ∷ t) h = on (poll-any (poll_by p y) t h)
  where
    by_event : (y : Event) → poll_by p y ≡ Poll.Failed → (p ≡ Poll.Failed) ⊎ (is_poll_failed y ≡ true)
    by_event (entry.Turn ms, bytes) h = absurd (cc)
    by_event (entry.Poll timeout, bytes) h = absurd (cc)
    by_event (entry.PollFailed, bytes) h = inr refl
    by_event (entry.Want side read write, bytes) h = inl h
    by_event (entry.Ready side read write, bytes) h = inl h
    by_event (entry.Opened link connected, bytes) h = inl h
    by_event (entry.Conn side answer, bytes) h = inl h
    by_event (entry.Read side room answer, bytes) h = inl h
    by_event (entry.Write side offered answer, bytes) h = inl h
    by_event (entry.Fired side why, bytes) h = inl h
    by_event (entry.Asked side act answer, bytes) h = inl h
    by_event (entry.Freed side cause moved given, bytes) h = inl h
    by_event (entry.CloseWrite side, bytes) h = inl h
    by_event (entry.Close side, bytes) h = inl h

    here : (p ≡ Poll.Failed) ⊎ (is_poll_failed y ≡ true) → (p ≡ Poll.Failed) ⊎ (has_poll_failed (y ∷ t) ≡ true)
    here (inl h) = inl h
    here (inr h) = inr (ap (λ b. b || has_poll_failed t) h)

    or_true : (b : Bool) → b || true ≡ true
    or_true true = refl
    or_true false = refl

    on : (poll_by p y ≡ Poll.Failed) ⊎ (has_poll_failed t ≡ true) → (p ≡ Poll.Failed) ⊎ (has_poll_failed (y ∷ t) ≡ true)
    on (inl h) = here (by_event y h)
    on (inr h) = inr (ap (λ b. is_poll_failed y || b) h ∙ or_true (is_poll_failed y))

-- a run that was left by a failed poll tells of it
failed-told : (t : Trace) (s : State) → LeftFor TurnAnswer.PollFault t s → has_poll_failed t ≡ true
failed-told t s k = by_case (poll-any Poll.Idle t (poll_is_told s.settings t _ k.stands.reached ∙ ap poll_at k.left))
  where
    by_case : (Poll.Idle ≡ Poll.Failed) ⊎ (has_poll_failed t ≡ true) → has_poll_failed t ≡ true
    by_case (inl h) = absurd (cc)
    by_case (inr h) = h

-- The port was started, and told this from then on. The scribe kept nothing of that.
pub record Begun (route : Route) (old mid : Seen) (start_failed : Bool) : Type 0 where
  pub log : mid.log ≡ old.log
  pub start : BeganSo route old mid.told mid.ends
  pub heard : Heard old.faults mid.faults [] start_failed

-- so it is where the port says of its start what every port does
pub begun-by : (route : Route) (old mid : Seen) (start_failed : Bool) → mid.log ≡ old.log →
    ListenerFaults old.faults mid.faults start_failed →
    AllWent old.ends mid.ends (λ _. no_step) → StartedAt old.told mid.told route.listen route.to → Begun route old mid start_failed
begun-by route old mid start_failed log cause ends told = record {
  log = log;
  start = record { told_of_start = told; ends_stay = ends };
  heard = Heard-open old.faults mid.faults [] start_failed cause (λ e. refl) refl;
}

module _ (route : Route) (hooks : List SideId) (old mid new : Seen) (b : Begun route old mid false) where
  -- what turns behind the start came to, where a turn may answer so
  served : (answer : TurnAnswer) (failed : Bool) (x : Stage) (s : State) (After : Trace → State → Type 0) →
      (w : TurnsWent (settings_on route hooks) answer After failed mid new s) → StandsFor w.added x s → LeftAt s.settings answer x s.plain →
      IsServed route hooks answer failed old new w.added (lines_below s s.plain.opened)
  served answer failed x s After w k left = record {
    list = subst (λ z. Grew z new.log w.added) b.log w.list;
    relayed = relayed-of (settings_on route hooks) answer w.added x s w.settings k left w.ends;
    work = w.work;
    began = mid.told;
    ends_began = mid.ends;
    start = b.start;
    tied = w.tied;
    closed = w.closed;
    heard = Heard-join old.faults mid.faults new.faults [] w.added false failed b.heard w.heard;
  }

  left-served : (answer : TurnAnswer) (failed : Bool) (s : State) →
      (w : TurnsWent (settings_on route hooks) answer (LeftFor answer) failed mid new s) →
      IsServed route hooks answer failed old new w.added (lines_below s s.plain.opened)
  left-served answer failed s w = served answer failed w.after.stage s (LeftFor answer) w w.after.stands w.after.left

  went-served : (s : State) → (w : TurnsWent (settings_on route hooks) TurnAnswer.Went StandsBetween false mid new s) →
      IsServed route hooks TurnAnswer.Went false old new w.added (lines_below s s.plain.opened)
  went-served s w = served TurnAnswer.Went false Stage.Between s StandsBetween w w.after refl

  -- all was served
  pub ran-out : (s : State) → TurnsWent (settings_on route hooks) TurnAnswer.Went StandsBetween false mid new s → IsServedOut s →
      RanTo route hooks status.Ok old new s
  ran-out s w all = (
    w.added,
    (
      went-served s w,
      record {
        all_opened = sym (links-told w.added Stage.Between s w.after) ∙ all.all_opened
            ∙ ap (λ (z : Settings). z.links) w.settings;
        none_open = none-live s s.plain.opened all.none_open;
      },
    ),
  )

  -- a hook stopped a turn
  pub ran-stopped : (link turn : ℕ) (s : State) →
      (went : TurnsWent (settings_on route hooks) (TurnAnswer.Stopped link) (LeftFor (TurnAnswer.Stopped link)) false mid new s)
      × (turn ≡ turns_told went.added) →
      RanTo route hooks (status.Stopped link turn) old new s
  ran-stopped link turn s w =
      let went = w.0 in
      let stands = went.after.stands in (
        went.added,
        (
          left-served (TurnAnswer.Stopped link) false s went,
          w.1,
          (λ empty. never_stopped s.settings went.added (at went.after.stage s.plain) link
              (record { none = ap (λ (z : Settings). z.hooks) went.settings ∙ empty }) stands.reached went.after.left),
        ),
      )

  -- a turn was refused
  pub ran-cut : (f : DriveFault) (s : State) → TurnsCut f (settings_on route hooks) mid new s → RanTo route hooks (status_of f) old new s
  ran-cut fault.Memory s w = (w.added, left-served TurnAnswer.Memory false s w)
  ran-cut fault.PollFault s w =
      let v = left-served TurnAnswer.PollFault false s w in
      (w.added, (v, v.heard.polling.fault (failed-told w.added s w.after)))
  ran-cut fault.OpenFault s w =
      let v = left-served TurnAnswer.OpenFault true s w in (w.added, (inl v, v.heard.listener.fault refl))
  ran-cut fault.Spent s w = (w.0.added, (went-served s w.0, w.1))

-- what came of the turns behind a start
pub ran-of : (route : Route) (hooks : List SideId) (old mid new : Seen) → Begun route old mid false → (s : State) (g : Settings) →
    g ≡ settings_on route hooks →
    (r : Result ServeEnd DriveFault) → MatchResult r (λ end. TurnsEnd end g mid new s) (λ why. TurnsCut why g mid new s) →
    RanTo route hooks (ended_as r) old new s
ran-of route hooks old mid new b s g is (Ok serve_end.ServedOut) h =
    ran-out route hooks old mid new b s (subst (λ z. TurnsWent z TurnAnswer.Went StandsBetween false mid new s) is h.0) h.1
ran-of route hooks old mid new b s g is (Ok (serve_end.Stopped link turn)) h =
    ran-stopped route hooks old mid new b link turn s (subst (λ z. TurnsEnd (serve_end.Stopped link turn) z mid new s) is h)
ran-of route hooks old mid new b s g is (Err why) h =
    ran-cut route hooks old mid new b why s (subst (λ z. TurnsCut why z mid new s) is h)

-- The start alone

-- nothing was done behind the start
module _ (route : Route) (hooks : List SideId) (old new : Seen) (failed : Bool) (b : Begun route old new failed) where
  only-started : (answer : TurnAnswer) →
      LeftAt (settings_on route hooks) answer Stage.Between (new_state (settings_on route hooks)).plain →
      LeavesClosed answer (settings_on route hooks) new.told new.told [] → IsServed route hooks answer failed old new [] []
  only-started answer left closed =
      let g = settings_on route hooks in
      let k = new_relay_stands g (built route.settings hooks) in
      record {
        list = subst (λ z. Grew old.log z []) (sym b.log) (Grew-none old.log);
        relayed = relayed-of g answer [] Stage.Between (new_state g) refl k left (ends-none (StoodBetween g));
        work = ends-none (HasWork route.settings.links);
        began = new.told;
        ends_began = new.ends;
        start = b.start;
        tied = nothing_is_tied g new.told new.ends;
        closed = closed;
        heard = b.heard;
      }

pub start-failed : (route : Route) (hooks : List SideId) (old new : Seen) → Begun route old new true →
    RanTo route hooks status.OpenFault old new (new_state (settings_on route hooks))
start-failed route hooks old new b = (
  [],
  (
    inr (refl, only-started route hooks old new true b TurnAnswer.Went refl (λ some. absurd (some refl))),
    b.heard.listener.fault refl,
  ),
)

pub start-lacked : (route : Route) (hooks : List SideId) (old new : Seen) → Begun route old new false →
    RanTo route hooks status.Memory old new (new_state (settings_on route hooks))
start-lacked route hooks old new b = ([], only-started route hooks old new false b TurnAnswer.Memory tt tt)

-- The report

-- What a call did: its run ended so, and its report was written whole, or in part, or not at all.
pub did : (route : Route) (hooks : List SideId) (ended result : Status) (old new : Seen) (s : State) (before after : Drained) →
    RanTo route hooks ended old new s →
    Reported ended result (report_text (lines_below s s.plain.opened)) before after → Did route hooks result old new before after
did route hooks ended result old new s before after ran told = by_result result told
  where
    links : List LinkCount
    links = lines_below s s.plain.opened

    -- a status with which no run ends
    never : (x : Status) → ended ≡ x → (RanTo route hooks x old new s → ⊥) → ⊥
    never x is none = none (subst (λ e. RanTo route hooks e old new s) is ran)

    ran-as : (e : Status) → e ≢ status.Memory → RanTo route hooks e old new s → (t : Trace) × EndedAs route hooks e old new t links
    ran-as status.Memory k r = absurd (k refl)
    ran-as status.Ok k r = r
    ran-as status.Usage k r = r
    ran-as (status.BadScript line) k r = r
    ran-as status.ReadFault k r = r
    ran-as status.WriteFault k r = r
    ran-as status.PollFault k r = r
    ran-as (status.Stopped link turn) k r = r
    ran-as status.TooLong k r = r
    ran-as status.OpenFault k r = r
    ran-as status.Spent k r = r

    lacked : (e : Status) → RanTo route hooks e old new s → RanOut route hooks old new
    lacked status.Memory r = inl (r.0, links, r.1)
    lacked status.Ok r = inr (inl (r.0, links, status.Ok, r.1))
    lacked status.PollFault r = inr (inl (r.0, links, status.PollFault, r.1))
    lacked status.OpenFault r = inr (inl (r.0, links, status.OpenFault, r.1))
    lacked status.Spent r = inr (inl (r.0, links, status.Spent, r.1))
    lacked (status.Stopped link turn) r = inr (inl (r.0, links, status.Stopped link turn, r.1))
    lacked status.Usage r = absurd r.1
    lacked (status.BadScript line) r = absurd r.1
    lacked status.ReadFault r = absurd r.1
    lacked status.WriteFault r = absurd r.1
    lacked status.TooLong r = absurd r.1

    all : (e : Status) → e ≡ ended → e ≢ status.Memory → TookOn before.taken after.taken (report_text links) →
        ReportedAll route hooks e old new before after
    all e is k took = let r = ran-as e k (subst (λ x. RanTo route hooks x old new s) (sym is) ran) in (r.0, links, r.1, took)

    by_result : (r : Status) → Reported ended r (report_text links) before after → Did route hooks r old new before after
    by_result status.Memory h = lacked ended ran
    by_result status.WriteFault h = let r = ran-as ended h.0 ran in ((r.0, links, ended, h.1, r.1, h.2, h.3), h.4)
    by_result status.Ok h = all status.Ok h.0 (λ e. absurd (cc)) h.1
    by_result status.PollFault h = all status.PollFault h.0 (λ e. absurd (cc)) h.1
    by_result status.OpenFault h = all status.OpenFault h.0 (λ e. absurd (cc)) h.1
    by_result status.Spent h = all status.Spent h.0 (λ e. absurd (cc)) h.1
    by_result status.Usage h = never status.Usage (sym h.0) (λ r. r.1)
    by_result (status.BadScript line) h = never (status.BadScript line) (sym h.0) (λ r. r.1)
    by_result status.ReadFault h = never status.ReadFault (sym h.0) (λ r. r.1)
    by_result (status.Stopped link turn) h = all (status.Stopped link turn) h.0 (λ e. absurd (cc)) h.1
    by_result status.TooLong h = never status.TooLong (sym h.0) (λ r. r.1)

-- Where a call did not run out of memory its run did not.
pub reported-lasted : (ended result : Status) (text : List ℕ) (before after : Drained) → Reported ended result text before after →
    result ≢ status.Memory → ended ≢ status.Memory
reported-lasted ended status.Memory text before after h k = absurd (k refl)
reported-lasted ended status.WriteFault text before after h k = h.0
reported-lasted ended status.Ok text before after h k = λ is. absurd (let same = h.0 in cc)
reported-lasted ended status.Usage text before after h k = λ is. absurd (let same = h.0 in cc)
reported-lasted ended (status.BadScript line) text before after h k = λ is. absurd (let same = h.0 in cc)
reported-lasted ended status.ReadFault text before after h k = λ is. absurd (let same = h.0 in cc)
reported-lasted ended status.PollFault text before after h k = λ is. absurd (let same = h.0 in cc)
reported-lasted ended (status.Stopped link turn) text before after h k = λ is. absurd (let same = h.0 in cc)
reported-lasted ended status.TooLong text before after h k = λ is. absurd (let same = h.0 in cc)
reported-lasted ended status.OpenFault text before after h k = λ is. absurd (let same = h.0 in cc)
reported-lasted ended status.Spent text before after h k = λ is. absurd (let same = h.0 in cc)

-- Words

-- The words are not in the grammar, or memory ran out while they were read: nothing was done.
pub words-ended : (o : Option Route) (hooks : List SideId) (why : WordsFault) (old : Seen) (before : Drained) →
    (why ≡ words.Usage → o ≡ None) →
    DidWith o hooks (status_of_words why) old old before before
words-ended o hooks words.Usage old before none =
    subst (λ z. DidWith z hooks status.Usage old old before before) (sym (none refl)) (inl refl, refl, refl)
words-ended None hooks words.Memory old before none = (inr refl, refl, refl)
words-ended (Some route) hooks words.Memory old before none = inr (inr refl)
