-- What holds at the stages of a fire and of closing, by induction over the steps.
use Rattle.std.proofs.Common.{◌≡◌, ℕ, Bool, true, false, ◌&&◌, ◌||◌, if◌then◌else◌, List, [], ◌∷◌, ◌++◌, None, ◌⊎◌, inl, inr, refl, sym}
use Rattle.std.proofs.Common.{◌∙◌, ap, subst}
use Rattle.std.specs.Prelude.{⊤}
use Rattle.std.specs.List.{list_any, list_all}
use Rattle.std.proofs.lemmas.Bool.{and_from, or_left, or_right}
use Rattle.ev_types.specs.declared.side.SideId.{SideId}
use Rattle.ev_types.specs.declared.act.Act.TheVariants as act
use Rattle.ev_types.specs.declared.answer.AskAnswer.TheVariants as ask
use Rattle.ev_types.specs.declared.answer.ReadAnswer.{ReadAnswer}
use Rattle.ev_types.specs.declared.answer.ReadAnswer.TheVariants as read
use Rattle.ev_types.specs.declared.entry.Entry.TheVariants as entry
use Rattle.ev_types.specs.Trace.{Event, Trace}
use Rattle.relay_model.specs.Settings.{Settings}
use Rattle.relay_model.specs.Due.{Reason}
use Rattle.relay_model.specs.Plain.{Plain, all_sides, is_live, freed}
use Rattle.relay_model.specs.Past.{past}
use Rattle.relay_model.specs.Rooms.{Want, wanted}
use Rattle.relay_model.specs.Serve.{marks_left, after_got}
use Rattle.relay_model.specs.Close.{CloseStep, closing_from, closing_entry}
use Rattle.relay_model.specs.Stages.{Stage, State, at, Between, Wanting, Marking, Accepting, Serving, Filtering, Dispatching, Firing}
use Rattle.relay_model.specs.Stages.{Freeing, Passing, Closing, Over, Halt}
use Rattle.relay_model.specs.Turn.{after_reading, after_fire, Quietly}
use Rattle.relay_model.specs.Told.{freed_by, is_freed}
use Rattle.relay_model.specs.Round.{Part, do_part, round_parts}
use Rattle.relay_model.specs.Quiet.{is_within_fire}
use Rattle.std.proofs.lemmas.List.Folds.{list_all-append, list_any-append}
use Rattle.relay_model.proofs.SplitLemmas.{IsLast, IsEarlier, pushed_split}
use Rattle.relay_model.proofs.KindLemmas.{PutKind}

-- Silent steps

-- stages that are neither between turns, nor within a fire, nor closing
abbrev pub is_open_stage : Stage → Bool
is_open_stage Between = false
is_open_stage (Firing x rs) = false
is_open_stage (Freeing gone x rs) = false
is_open_stage (Closing cs) = false
is_open_stage _ = true

pub data QuietKind (g : Settings) (t : Trace) (s : Plain) : Stage → State → Type 0 where
  moved : {x : Stage} (next : Stage) → is_open_stage next ≡ true → QuietKind g t s x (at next s)
  filtered : {e : SideId} {ms : List Want} → QuietKind g t s (Filtering e ms) (at (Serving ms) (after_got g (past g t) e s))
  dispatched : {rs : List Reason} → QuietKind g t s (Serving []) (at (Dispatching rs) (record s { due = [] }))
  passed : {x : Part} {xs : List Part} {e : SideId} {es : List SideId} → QuietKind g t s (Passing (x ∷ xs) (e ∷ es))
      (at (Passing xs (e ∷ es)) (do_part g (past g t) e x s))
  closes : QuietKind g t s (Passing [] []) (at (Closing (closing_from 0 s.opened)) s)
  looked : {c : CloseStep} {cs : List CloseStep} → closing_entry g (past g t) s c ≡ None → QuietKind g t s (Closing (c ∷ cs))
      (at (Closing cs) s)
  over : QuietKind g t s (Closing []) (at Between s)

after_fire-open : (b : Bool) (k : ℕ) (rs : List Reason) → is_open_stage (if b then Over (Halt.StoppedBy k) else Dispatching rs) ≡ true
after_fire-open true k rs = refl
after_fire-open false k rs = refl

pub quiet-kind : (g : Settings) (t : Trace) (x : Stage) (s : Plain) (new : State) → Quietly g t x s new → QuietKind g t s x new
quiet-kind g t (Wanting []) s new h = subst (λ z. QuietKind g t s (Wanting []) z) (sym h) (QuietKind.moved
    (Marking (wanted g (past g t) s) []) refl)
quiet-kind g t (Marking (w ∷ ws) marks) s new h = subst (λ z. QuietKind g t s (Marking (w ∷ ws) marks) z) (sym h)
    (QuietKind.moved (Marking ws marks) refl)
quiet-kind g t (Marking [] marks) s new h = subst (λ z. QuietKind g t s (Marking [] marks) z) (sym h)
    (QuietKind.moved (Accepting 0 marks) refl)
quiet-kind g t (Accepting n marks) s new h = subst (λ z. QuietKind g t s (Accepting n marks) z) (sym h)
    (QuietKind.moved (Serving marks) refl)
quiet-kind g t (Serving (m ∷ ms)) s new h = subst (λ z. QuietKind g t s (Serving (m ∷ ms)) z) (sym h.1)
    (QuietKind.moved (Serving (marks_left s m ms)) refl)
quiet-kind g t (Filtering e ms) s new h = subst (λ z. QuietKind g t s (Filtering e ms) z) (sym h) QuietKind.filtered
quiet-kind g t (Serving []) s new h = subst (λ z. QuietKind g t s (Serving []) z) (sym h) QuietKind.dispatched
quiet-kind g t (Firing x rs) s new h = subst (λ z. QuietKind g t s (Firing x rs) z) (sym h)
    (QuietKind.moved (after_fire x rs) (after_fire-open x.stopped x.side.link rs))
quiet-kind g t (Dispatching []) s new h = subst (λ z. QuietKind g t s (Dispatching []) z) (sym h)
    (QuietKind.moved (Passing [] (all_sides s)) refl)
quiet-kind g t (Passing [] (e ∷ es)) s new (inl h) = subst (λ z. QuietKind g t s (Passing [] (e ∷ es)) z) (sym h.1)
    (QuietKind.moved (Passing [] es) refl)
quiet-kind g t (Passing [] (e ∷ es)) s new (inr h) = subst (λ z. QuietKind g t s (Passing [] (e ∷ es)) z) (sym h)
    (QuietKind.moved (Passing (round_parts g (past g t) e s) (e ∷ es)) refl)
quiet-kind g t (Passing (x ∷ xs) (e ∷ es)) s new h = subst (λ z. QuietKind g t s (Passing (x ∷ xs) (e ∷ es)) z) (sym h) QuietKind.passed
quiet-kind g t (Passing [] []) s new h = subst (λ z. QuietKind g t s (Passing [] []) z) (sym h) QuietKind.closes
quiet-kind g t (Closing (c ∷ cs)) s new h = subst (λ z. QuietKind g t s (Closing (c ∷ cs)) z) (sym h.1) (QuietKind.looked h.0)
quiet-kind g t (Closing []) s new h = subst (λ z. QuietKind g t s (Closing []) z) (sym h) QuietKind.over
quiet-kind g t _ s new h = absurd h

-- Within a fire

-- behind a free of the side only asks and frees stand
abbrev pub InRun : SideId → Trace → Type 0
InRun e t = (before : Trace) (y : Event) (after : Trace) → freed_by e y ≡ true → t ≡ before ++ y ∷ after → list_all is_within_fire
    after ≡ true

-- so it is of the side whose hook runs
abbrev pub Runs : Stage → Trace → Type 0
Runs (Firing x rs) t = InRun x.side t
Runs (Freeing gone x rs) t = InRun x.side t
Runs _ t = ⊤

open-runs : (x : Stage) (t : Trace) → is_open_stage x ≡ true → Runs x t
open-runs Between t h = absurd (cc)
open-runs (Firing f rs) t h = absurd (cc)
open-runs (Freeing gone f rs) t h = absurd (cc)
open-runs (Closing cs) t h = absurd (cc)
open-runs _ t h = tt

-- one event more within the fire
run-push : (e : SideId) (t : Trace) (x : Event) → is_within_fire x ≡ true → InRun e t → InRun e (t ++ x ∷ [])
run-push e t x within h before y after freed split = go (pushed_split t x before y after split)
  where
    go : IsLast t x before y after ⊎ IsEarlier t x before y after → list_all is_within_fire after ≡ true
    go (inl k) = ap (λ z. list_all is_within_fire z) k.none_after
    go (inr k) =
        ap (λ z. list_all is_within_fire z) k.after_is ∙ list_all-append is_within_fire k.rest (x ∷ [])
        ∙ and_from (list_all is_within_fire k.rest) (list_all is_within_fire (x ∷ [])) (h before y k.rest freed k.there)
        (ap (λ z. z && true) within)

-- an event of a split trace
pub any-split : (p : Event → Bool) (before : Trace) (y : Event) (after : Trace) → p y ≡ true → list_any p (before ++ y ∷ after) ≡ true
any-split p before y after h = list_any-append p before (y ∷ after) ∙ or_right (list_any p before) (p y || list_any p after)
    (or_left (p y) (list_any p after) h)

-- a fire begins at a side that was not freed
run-begins : (e : SideId) (t : Trace) (x : Event) → freed_by e x ≡ false → is_freed e t ≡ false → InRun e (t ++ x ∷ [])
run-begins e t x none unfreed before y after freed split = go (pushed_split t x before y after split)
  where
    go : IsLast t x before y after ⊎ IsEarlier t x before y after → list_all is_within_fire after ≡ true
    go (inl k) = absurd (let same : freed_by e x ≡ true = ap (λ z. freed_by e z) (sym k.is) ∙ freed in cc)
    go (inr k) = absurd (let was : is_freed e t ≡ true = ap (λ z. is_freed e z) k.there ∙ any-split (freed_by e) before y k.rest
        freed in cc)

pub reading-open : (side : SideId) (answer : ReadAnswer) (ms : List Want) → is_open_stage (after_reading side answer ms) ≡ true
reading-open side (read.Got n) ms = refl
reading-open side read.Ended ms = refl
reading-open side read.NotYet ms = refl
reading-open side read.Failed ms = refl

pub put-runs : (g : Settings) (t : Trace) (s : Plain) (x : Stage) (y : Event) (new : State) →
    ((e : SideId) → is_live s e ≡ true → is_freed e t ≡ false) → Runs x t → PutKind g t s x y new → Runs new.stage (t ++ y ∷ [])
put-runs g t s x y new live runs (PutKind.turned a b) = tt
put-runs g t s x y new live runs (PutKind.polled) = tt
put-runs g t s x y new live runs (PutKind.wanted a) = tt
put-runs g t s x y new live runs (PutKind.poll_failed) = tt
put-runs g t s x y new live runs (PutKind.readied a) = tt
put-runs g t s x y new live runs (PutKind.opened) = tt
put-runs g t s x y new live runs (PutKind.checked a) = tt
put-runs g t s x y new live runs (PutKind.was_read {side = side} {answer = answer} left a b) = open-runs
    (after_reading side answer left) _ (reading-open side answer left)
put-runs g t s x y new live runs (PutKind.written a b c) = tt
put-runs g t s x y new live runs (PutKind.fired {side = side} {y = why} a) = run-begins side t (entry.Fired side why, []) refl (live side a)
put-runs g t s x y new live runs (PutKind.frees {x = f} {next = next} {gone = gone} a same) =
    subst (λ z. InRun z (t ++ (entry.Asked f.side (act.Free gone) ask.Ok, []) ∷ [])) (sym same) (run-push f.side t _ refl runs)
put-runs g t s x y new live runs (PutKind.asked {x = f} {next = next} {a = a} {answer = answer} same k l) =
    subst (λ z. InRun z (t ++ (entry.Asked f.side a answer, []) ∷ [])) (sym same) (run-push f.side t _ refl runs)
put-runs g t s x y new live runs (PutKind.recorded {x = f}) = run-push f.side t _ refl runs
put-runs g t s x y new live runs (PutKind.closed a) = tt

pub quiet-runs : (g : Settings) (t : Trace) (s : Plain) (x : Stage) (new : State) → QuietKind g t s x new → Runs new.stage t
quiet-runs g t s x new (QuietKind.moved next h) = open-runs next t h
quiet-runs g t s x new QuietKind.filtered = tt
quiet-runs g t s x new QuietKind.dispatched = tt
quiet-runs g t s x new QuietKind.passed = tt
quiet-runs g t s x new QuietKind.closes = tt
quiet-runs g t s x new (QuietKind.looked h) = tt
quiet-runs g t s x new QuietKind.over = tt
