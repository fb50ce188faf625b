-- What steps leave of the plain state: its shape always but where a turn begins or a link opens, and the limits and
-- groups of sides but where a hook asks for others or a side is freed.
use Rattle.std.proofs.Common.{◌≡◌, inl, inr, ℕ, ◌+◌, Bool, true, false, if◌then◌else◌, List, [], ◌∷◌, length, Option, Some, None, fold}
use Rattle.std.proofs.Common.{filter, refl, sym, ◌∙◌, subst}
use Rattle.std.specs.Prelude.{nat_le, nat_lt, not}
use Rattle.std.proofs.lemmas.List.{length-set}
use Rattle.token_bucket.specs.declared.limit.Dir.{Dir}
use Rattle.token_bucket.specs.declared.limit.Dir.TheVariants as dir
use Rattle.ev_types.specs.declared.side.Side.TheVariants.{In, Out}
use Rattle.ev_types.specs.declared.side.SideId.{SideId}
use Rattle.ev_types.specs.declared.act.Act.{Act}
use Rattle.ev_types.specs.declared.act.Act.TheVariants as act
use Rattle.ev_types.specs.declared.answer.AskAnswer.{AskAnswer}
use Rattle.ev_types.specs.declared.answer.ConnAnswer.{ConnAnswer}
use Rattle.ev_types.specs.declared.answer.ConnAnswer.TheVariants as conn
use Rattle.ev_types.specs.declared.answer.ReadAnswer.{ReadAnswer}
use Rattle.ev_types.specs.declared.answer.ReadAnswer.TheVariants as read
use Rattle.ev_types.specs.declared.answer.WriteAnswer.{WriteAnswer}
use Rattle.ev_types.specs.declared.answer.WriteAnswer.TheVariants as write
use Rattle.ev_types.specs.declared.why.Why.{Why}
use Rattle.ev_types.specs.declared.why.Why.TheVariants as why
use Rattle.ev_types.specs.Sides.{number, peer}
use Rattle.relay_model.specs.Flow.{Flow}
use Rattle.relay_model.specs.Settings.{Settings}
use Rattle.relay_model.specs.Due.{Due, with_reason, without_due}
use Rattle.relay_model.specs.Plain.{Plain, PlainSide, Standing, Timer, side_at, flow_at, put_side, change_side, change_flow, all_sides}
use Rattle.relay_model.specs.Plain.{freed, without_timer}
use Rattle.relay_model.specs.Past.{Past}
use Rattle.relay_model.specs.Rooms.{wants}
use Rattle.relay_model.specs.Reasons.{raise, raise_read, raise_write, happened, end_flag, error_flag, timeout_flag}
use Rattle.relay_model.specs.Asks.{Answered, done}
use Rattle.relay_model.specs.Moments.{is_timed, has_run_out, expire, timers_taken, timed, side_timed, time_passed, both_ways, active_at}
use Rattle.relay_model.specs.Serve.{after_conn, after_read, after_write}
use Rattle.relay_model.specs.Close.{CloseStep, closed_by}
use Rattle.relay_model.specs.Stages.{Stage, State}
use Rattle.relay_model.proofs.PlainLemmas.{seen-change}

-- what bounds the rates of a side
abbrev pub rates_of : PlainSide → Option Standing × Option ℕ
rates_of x = (x.limit, x.group)

-- the clock, the number of links, and how many sides and directions there are
pub record SameShape (old new : Plain) : Type 0 where
  pub time : new.time ≡ old.time
  pub turn : new.turn ≡ old.turn
  pub opened : new.opened ≡ old.opened
  pub sides : length new.sides ≡ length old.sides
  pub flows : length new.flows ≡ length old.flows

-- the same, and the limit and the group of each side
pub record SameFrame (old new : Plain) : Type 0 where
  pub shape : SameShape old new
  pub rates : (a : SideId) → rates_of (side_at new a) ≡ rates_of (side_at old a)

pub shape-same : (s : Plain) → SameShape s s
shape-same s = record { time = refl; turn = refl; opened = refl; sides = refl; flows = refl }

pub shape-then : (a b c : Plain) → SameShape a b → SameShape b c → SameShape a c
shape-then a b c x y = record {
  time = y.time ∙ x.time;
  turn = y.turn ∙ x.turn;
  opened = y.opened ∙ x.opened;
  sides = y.sides ∙
      x.sides;
  flows = y.flows ∙ x.flows;
}

pub shape-is : (old new : Plain) → new ≡ old → SameShape old new
shape-is old new e = subst (λ z. SameShape old z) (sym e) (shape-same old)

pub frame-same : (s : Plain) → SameFrame s s
frame-same s = record { shape = shape-same s; rates = λ a. refl }

pub frame-then : (a b c : Plain) → SameFrame a b → SameFrame b c → SameFrame a c
frame-then a b c x y = record { shape = shape-then a b c x.shape y.shape; rates = λ e. y.rates e ∙ x.rates e }

pub frame-at : (s after : Plain) (x : Stage) (new : State) → new ≡ record { stage = x; plain = after } → SameFrame s after →
    SameFrame s new.plain
frame-at s after x new e k = subst (λ z. SameFrame s z.plain) (sym e) k

-- a change of one side, of one direction, and of the timers or the due entries
pub shape-put : (e : SideId) (x : PlainSide) (s : Plain) → SameShape s (put_side e x s)
shape-put e x s = record { time = refl; turn = refl; opened = refl; sides = length-set s.sides (number e) x; flows = refl }

pub frame-change : (e : SideId) (f : PlainSide → PlainSide) (s : Plain) → ((x : PlainSide) → rates_of (f x) ≡ rates_of x) →
    SameFrame s (change_side e f s)
frame-change e f s same = record { shape = shape-put e (f (side_at s e)) s; rates = λ a. seen-change rates_of e a f s same }

pub frame-flow : (e : SideId) (f : Flow → Flow) (s : Plain) → SameFrame s (change_flow e f s)
frame-flow e f s = record {
  shape = record { time = refl; turn = refl; opened = refl; sides = refl; flows = length-set s.flows (number e) (f (flow_at s e)) };
  rates = λ a. refl;
}

pub frame-waiting : (s : Plain) (timers : List Timer) (due : List Due) → SameFrame s (record s { timers = timers; due = due })
frame-waiting s timers due = record {
  shape = record { time = refl; turn = refl; opened = refl; sides = refl; flows = refl };
  rates
      = λ a. refl;
}

pub frame-raise : (g : Settings) (e : SideId) (y : Why) (s : Plain) → SameFrame s (raise g e y s)
frame-raise g e y s = if_so _
  where
    if_so : (b : Bool) → SameFrame s (if b then record s { due = with_reason e y s.due } else s)
    if_so true = frame-waiting s s.timers _
    if_so false = frame-same s

pub frame-if : (b : Bool) (s x y : Plain) → SameFrame s x → SameFrame s y → SameFrame s (if b then x else y)
frame-if true s x y p q = p
frame-if false s x y p q = q

pub frame-fold : {A : Type 0} (f : Plain → A → Plain) (s : Plain) (xs : List A) → ((z : Plain) (x : A) → SameFrame z (f z x)) →
    SameFrame s (fold f s xs)
frame-fold f s [] same = frame-same s
frame-fold f s (x ∷ xs) same = frame-then s (f s x) _ (same s x) (frame-fold f (f s x) xs same)

pub active-rates : (time : ℕ) (d : Dir) (x : PlainSide) → rates_of (active_at time d x) ≡ rates_of x
active-rates time dir.Read x = refl
active-rates time dir.Write x = refl

pub expire-rates : (d : Dir) (x : PlainSide) → rates_of (expire d x) ≡ rates_of x
expire-rates dir.Read x = refl
expire-rates dir.Write x = refl

pub frame-timed : (g : Settings) (p : Past) (e : SideId) (s : Plain) (d : Dir) → SameFrame s (timed g p e s d)
frame-timed g p e s d =
    frame-if (not (is_timed (side_at s e) d)) s s _ (frame-same s)
    (frame-if (not (wants g p s e d)) s (change_side e (active_at s.time d) s) _ (frame-change e (active_at s.time d) s
    (active-rates s.time d))
    (frame-if (has_run_out (side_at s e) d s.time) s _ s
    (frame-then s (change_side e (expire d) s) _ (frame-change e (expire d) s (expire-rates d))
    (frame-raise g e (happened d timeout_flag) (change_side e (expire d) s)))
    (frame-same s)))

pub frame-time_passed : (g : Settings) (p : Past) (s : Plain) → SameFrame s (time_passed g p s)
frame-time_passed g p s =
    frame-then s (timers_taken g s) _
    (frame-then s (record s { timers = left }) _ (frame-waiting s left s.due)
    (frame-fold {A = Timer} (λ state x. raise g x.side why.Timer state) (record s { timers = left }) taken
    (λ z x. frame-raise g x.side why.Timer z)))
    (frame-fold (side_timed g p) (timers_taken g s) (all_sides s) (λ z e. frame-fold (timed g p e) z both_ways (frame-timed g p e)))
  where
    left : List Timer
    left = filter (λ x. nat_lt s.time x.deadline) s.timers

    taken : List Timer
    taken = filter (λ x. nat_le x.deadline s.time) s.timers

pub frame-raise_read : (g : Settings) (p : Past) (e : SideId) (s : Plain) → SameFrame s (raise_read g p e s)
frame-raise_read g p e s = frame-if _ s (raise g e why.Read s) s (frame-raise g e why.Read s) (frame-same s)

pub frame-raise_write : (g : Settings) (p : Past) (e : SideId) (s : Plain) → SameFrame s (raise_write g p e s)
frame-raise_write g p e s = frame-if _ s (raise g e why.Write s) s (frame-raise g e why.Write s) (frame-same s)

-- a free
pub shape-freed : (e : SideId) (s : Plain) → SameShape s (freed e s)
shape-freed e s =
    shape-then s (record s { timers = _; due = _ }) _
    (SameFrame.shape (frame-waiting s (without_timer e s.timers) (without_due e s.due))) (shape-put e _ _)

pub shape-done : (g : Settings) (p : Past) (s : Plain) (a : Act) → SameShape s (done g p s a)
shape-done g p s (act.Free e) = shape-freed e s
shape-done g p s (act.Enable e d) = shape-put e _ s
shape-done g p s (act.Disable e d) = shape-put e _ s
shape-done g p s (act.Marks e d low high) = shape-put e _ s
shape-done g p s (act.Timeouts e r w) = shape-put e _ s
shape-done g p s (act.Rate e cfg) = shape-put e _ s
shape-done g p s (act.Join e group) = shape-put e _ s
shape-done g p s (act.Leave e) = shape-put e _ s
shape-done g p s (act.Trigger e dir.Read) = (frame-raise_read g p e s).shape
shape-done g p s (act.Trigger e dir.Write) = (frame-raise_write g p e s).shape
shape-done g p s (act.Timer e delay) = (frame-waiting s _ s.due).shape
shape-done g p s (act.Cancel e) = (frame-waiting s _ s.due).shape
shape-done g p s (act.Incref e) = shape-put e _ s
shape-done g p s (act.Decref e) = shape-put e _ s
shape-done g p s act.Stop = shape-same s

pub shape-answered : (r : Option AskAnswer) (g : Settings) (p : Past) (s : Plain) (a : Act) (answer : AskAnswer) (new : Plain) →
    Answered r g p s a answer new → SameShape s new
shape-answered (Some refused) g p s a answer new h = shape-is s new h.1
shape-answered None g p s a answer new h =
    elim h [ inl ok ↦ subst (λ z. SameShape s z) (sym ok.1) (shape-done g p s a) | inr lacks ↦ shape-is s new lacks.2 ]

pub frame-conn : (g : Settings) (e : SideId) (answer : ConnAnswer) (s : Plain) → SameFrame s (after_conn g e answer s)
frame-conn g e conn.Connected s = frame-then s (change_side e (λ x. record x { connecting = false }) s) _
    (frame-change e (λ x. record x { connecting = false }) s (λ x. refl)) (frame-raise g e why.Connected _)
frame-conn g e conn.Pending s = frame-same s
frame-conn g e conn.Failed s = frame-then s (change_side e (λ x. record x { failed = true; writes = false }) s) _
    (frame-change e (λ x. record x { failed = true; writes = false }) s (λ x. refl)) (frame-raise g e (happened dir.Write error_flag) _)

pub frame-read : (g : Settings) (e : SideId) (answer : ReadAnswer) (s : Plain) → SameFrame s (after_read g e answer s)
frame-read g e (read.Got n) s = frame-change e (active_at s.time dir.Read) s (λ x. refl)
frame-read g e read.Ended s = frame-then s (change_side e (λ x. record x { ended = true; reads = false }) s) _
    (frame-change e (λ x. record x { ended = true; reads = false }) s (λ x. refl)) (frame-raise g e (happened dir.Read end_flag) _)
frame-read g e read.NotYet s = frame-same s
frame-read g e read.Failed s = frame-then s (change_side e (λ x. record x { failed = true; reads = false }) s) _
    (frame-change e (λ x. record x { failed = true; reads = false }) s (λ x. refl)) (frame-raise g e (happened dir.Read error_flag) _)

pub frame-write : (g : Settings) (p : Past) (e : SideId) (answer : WriteAnswer) (s : Plain) → SameFrame s (after_write g p e answer s)
frame-write g p e (write.Took n) s =
    frame-then s (change_side e (active_at s.time dir.Write) (change_flow (peer e) (λ f. record f { given = f.given + n }) s)) _
    (frame-then s (change_flow (peer e) (λ f. record f { given = f.given + n }) s) _ (frame-flow (peer e)
    (λ f. record f { given = f.given + n }) s)
    (frame-change e (active_at s.time dir.Write) (change_flow (peer e) (λ f. record f { given = f.given + n }) s) (λ x. refl)))
    (frame-raise_write g p e _)
frame-write g p e write.NotYet s = frame-same s
frame-write g p e write.Failed s = frame-then s (change_side e (λ x. record x { failed = true; writes = false }) s) _
    (frame-change e (λ x. record x { failed = true; writes = false }) s (λ x. refl)) (frame-raise g e (happened dir.Write error_flag) _)
frame-write g p e write.NoMemory s = frame-same s

pub shape-closed : (c : CloseStep) (s : Plain) → SameShape s (closed_by c s)
shape-closed (CloseStep.Faulty e) s = shape-freed e s
shape-closed (CloseStep.EndWriting e) s = shape-put e _ s
shape-closed (CloseStep.BothDone k) s = shape-freed (record { link = k; side = In }) s
shape-closed (CloseStep.OutDone k) s = shape-freed (record { link = k; side = Out }) s
shape-closed (CloseStep.PeerGone e) s = shape-freed e s
shape-closed (CloseStep.Shut e) s = shape-put e _ s
