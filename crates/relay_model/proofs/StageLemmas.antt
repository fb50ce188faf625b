-- Silent steps leave all but bad places, and what each next stage names is there.
use Rattle.std.proofs.Common.{◌≡◌, ℕ, ◌+◌, ◌*◌, ◌<◌, Bool, true, false, if◌then◌else◌, List, [], ◌∷◌, length, None, ◌⊎◌, inl, inr, refl}
use Rattle.std.proofs.Common.{sym, ap, subst, arith}
use Rattle.ev_types.specs.declared.side.SideId.{SideId}
use Rattle.ev_types.specs.declared.act.Act.{Act}
use Rattle.ev_types.specs.declared.act.Act.TheVariants as act
use Rattle.ev_types.specs.declared.answer.AskAnswer.{AskAnswer}
use Rattle.ev_types.specs.declared.answer.AskAnswer.TheVariants as ask
use Rattle.ev_types.specs.declared.answer.ReadAnswer.{ReadAnswer}
use Rattle.ev_types.specs.declared.answer.ReadAnswer.TheVariants as read
use Rattle.ev_types.specs.declared.entry.Entry.{Entry}
use Rattle.ev_types.specs.declared.entry.Entry.TheVariants as entry
use Rattle.ev_types.specs.Trace.{Trace}
use Rattle.relay_model.specs.Settings.{Settings}
use Rattle.relay_model.specs.Due.{Reason, without_due}
use Rattle.relay_model.specs.Plain.{Plain, is_live, freed, without_timer}
use Rattle.relay_model.specs.Past.{Past, past}
use Rattle.relay_model.specs.Rooms.{Want}
use Rattle.relay_model.specs.Asks.{Ask}
use Rattle.relay_model.specs.Close.{CloseStep, closed_by, steps_left}
use Rattle.relay_model.specs.Stages.{Stage, Fire, State, Between, Polling, Wanting, Marking, Accepting, Serving, Filtering, Dispatching}
use Rattle.relay_model.specs.Stages.{Firing, Freeing, Passing, Closing, Over, Halt, after_ask}
use Rattle.relay_model.specs.Turn.{after_reading, Puts, Quietly}
use Rattle.relay_model.specs.Told.{is_freeing}
use Rattle.relay_model.proofs.KeepsLemmas.{Keeps, Keeps-refl, Keeps-due, change_side-same}
use Rattle.relay_model.proofs.SeenLemmas.{but_bad, after_got-keeps, do_part-keeps}
use Rattle.relay_model.proofs.PlacedLemmas.{Placed, live-there, AllOpened, link_of, wanted-live, closing-opened}
use Rattle.relay_model.proofs.AskLemmas.{Frees, GoesOn, ask-outcome}

-- Silent steps

after_fire-still : (b : Bool) (k : ℕ) (rs : List Reason) (e : SideId) → is_freeing (if b then Over (Halt.StoppedBy k)
    else Dispatching rs) e ≡ false
after_fire-still true k rs e = refl
after_fire-still false k rs e = refl

-- what a silent step leaves
pub record Silent (x : Stage) (s : Plain) (after : Stage) (new : Plain) : Type 0 where
  pub keeps : Keeps but_bad s new
  pub before : (e : SideId) → is_freeing x e ≡ false
  pub still : (e : SideId) → is_freeing after e ≡ false

same-silent : (x : Stage) (s : Plain) (after : Stage) → ((e : SideId) → is_freeing x e ≡ false) →
    ((e : SideId) → is_freeing after e ≡ false) → Silent x s after s
same-silent x s after before still = record { keeps = Keeps-refl but_bad s; before = before; still = still }

pub quiet-silent : (g : Settings) (t : Trace) (x : Stage) (s : Plain) (new : State) → Quietly g t x s new → Silent x s new.stage new.plain
quiet-silent g t (Wanting []) s new h = subst (λ z. Silent (Wanting []) s z.stage z.plain) (sym h)
    (same-silent (Wanting []) s _ (λ e. refl) (λ e. refl))
quiet-silent g t (Marking (w ∷ ws) marks) s new h = subst (λ z. Silent (Marking (w ∷ ws) marks) s z.stage z.plain) (sym h)
    (same-silent (Marking (w ∷ ws) marks) s _ (λ e. refl) (λ e. refl))
quiet-silent g t (Marking [] marks) s new h = subst (λ z. Silent (Marking [] marks) s z.stage z.plain) (sym h)
    (same-silent (Marking [] marks) s _ (λ e. refl) (λ e. refl))
quiet-silent g t (Accepting n marks) s new h = subst (λ z. Silent (Accepting n marks) s z.stage z.plain) (sym h)
    (same-silent (Accepting n marks) s _ (λ e. refl) (λ e. refl))
quiet-silent g t (Serving (m ∷ ms)) s new h = subst (λ z. Silent (Serving (m ∷ ms)) s z.stage z.plain) (sym h.1)
    (same-silent (Serving (m ∷ ms)) s _ (λ e. refl) (λ e. refl))
quiet-silent g t (Filtering e ms) s new h =
    subst (λ z. Silent (Filtering e ms) s z.stage z.plain) (sym h)
    (record { keeps = after_got-keeps g (past g t) e s; before = λ e. refl; still = λ e. refl })
quiet-silent g t (Serving []) s new h =
    subst (λ z. Silent (Serving []) s z.stage z.plain) (sym h)
    (record { keeps = Keeps-due but_bad s []; before = λ e. refl; still = λ e. refl })
quiet-silent g t (Firing x rs) s new h =
    subst (λ z. Silent (Firing x rs) s z.stage z.plain) (sym h) (same-silent (Firing x rs) s _ (λ e. refl)
    (after_fire-still x.stopped x.side.link rs))
quiet-silent g t (Dispatching []) s new h = subst (λ z. Silent (Dispatching []) s z.stage z.plain) (sym h)
    (same-silent (Dispatching []) s _ (λ e. refl) (λ e. refl))
quiet-silent g t (Passing [] (e ∷ es)) s new (inl h) = subst (λ z. Silent (Passing [] (e ∷ es)) s z.stage z.plain) (sym h.1)
    (same-silent (Passing [] (e ∷ es)) s _ (λ e. refl) (λ e. refl))
quiet-silent g t (Passing [] (e ∷ es)) s new (inr h) = subst (λ z. Silent (Passing [] (e ∷ es)) s z.stage z.plain) (sym h)
    (same-silent (Passing [] (e ∷ es)) s _ (λ e. refl) (λ e. refl))
quiet-silent g t (Passing (x ∷ xs) (e ∷ es)) s new h =
    subst (λ z. Silent (Passing (x ∷ xs) (e ∷ es)) s z.stage z.plain) (sym h)
    (record { keeps = do_part-keeps g (past g t) e x s; before = λ e. refl; still = λ e. refl })
quiet-silent g t (Passing [] []) s new h = subst (λ z. Silent (Passing [] []) s z.stage z.plain) (sym h)
    (same-silent (Passing [] []) s _ (λ e. refl) (λ e. refl))
quiet-silent g t (Closing (c ∷ cs)) s new h = subst (λ z. Silent (Closing (c ∷ cs)) s z.stage z.plain) (sym h.1)
    (same-silent (Closing (c ∷ cs)) s _ (λ e. refl) (λ e. refl))
quiet-silent g t (Closing []) s new h = subst (λ z. Silent (Closing []) s z.stage z.plain) (sym h)
    (same-silent (Closing []) s _ (λ e. refl) (λ e. refl))
quiet-silent g t _ s new h = absurd h

-- What the next stage names

after_fire-placed : (b : Bool) (k : ℕ) (rs : List Reason) (s : Plain) → Placed (if b then Over (Halt.StoppedBy k) else Dispatching rs) s
after_fire-placed true k rs s = tt
after_fire-placed false k rs s = tt

pub quiet-placed : (g : Settings) (t : Trace) (x : Stage) (s : Plain) (new : State) → Placed x s → Quietly g t x s new → Placed
    new.stage new.plain
quiet-placed g t (Wanting []) s new placed h = subst (λ z. Placed z.stage z.plain) (sym h) (wanted-live g (past g t) s)
quiet-placed g t (Marking (w ∷ ws) marks) s new placed h = subst (λ z. Placed z.stage z.plain) (sym h) placed.1
quiet-placed g t (Marking [] marks) s new placed h = subst (λ z. Placed z.stage z.plain) (sym h) tt
quiet-placed g t (Accepting n marks) s new placed h = subst (λ z. Placed z.stage z.plain) (sym h) tt
quiet-placed g t (Serving (m ∷ ms)) s new placed h = subst (λ z. Placed z.stage z.plain) (sym h.1) tt
quiet-placed g t (Filtering e ms) s new placed h = subst (λ z. Placed z.stage z.plain) (sym h) tt
quiet-placed g t (Serving []) s new placed h = subst (λ z. Placed z.stage z.plain) (sym h) tt
quiet-placed g t (Firing x rs) s new placed h = subst (λ z. Placed z.stage z.plain) (sym h) (after_fire-placed x.stopped x.side.link rs s)
quiet-placed g t (Dispatching []) s new placed h = subst (λ z. Placed z.stage z.plain) (sym h) tt
quiet-placed g t (Passing [] (e ∷ es)) s new placed (inl h) = subst (λ z. Placed z.stage z.plain) (sym h.1) tt
quiet-placed g t (Passing [] (e ∷ es)) s new placed (inr h) = subst (λ z. Placed z.stage z.plain) (sym h) tt
quiet-placed g t (Passing (x ∷ xs) (e ∷ es)) s new placed h = subst (λ z. Placed z.stage z.plain) (sym h) tt
quiet-placed g t (Passing [] []) s new placed h = subst (λ z. Placed z.stage z.plain) (sym h)
    (closing-opened 0 s.opened s.opened (omega arith))
quiet-placed g t (Closing (c ∷ cs)) s new placed h = subst (λ z. Placed z.stage z.plain) (sym h.1) placed.1
quiet-placed g t (Closing []) s new placed h = subst (λ z. Placed z.stage z.plain) (sym h) tt
quiet-placed g t _ s new placed h = absurd h

reading-placed : (side : SideId) (answer : ReadAnswer) (ms : List Want) (s : Plain) → Placed (after_reading side answer ms) s
reading-placed side (read.Got n) ms s = tt
reading-placed side read.Ended ms s = tt
reading-placed side read.NotYet ms s = tt
reading-placed side read.Failed ms s = tt

asked-placed : (g : Settings) (p : Past) (s : Plain) (x : Fire) (rs : List Reason) (a : Act) (answer : AskAnswer) (after : Plain) →
    length s.sides ≡ 2 * s.opened → x.side.link < s.opened → Ask g p s a answer after → Placed (after_ask x rs a answer) after
asked-placed g p s x rs a answer after size lt h = go (ask-outcome g p s x rs a answer after h)
  where
    freeing : (gone : SideId) → is_live s gone ≡ true → Placed (after_ask x rs (act.Free gone) ask.Ok) (freed gone s)
    freeing gone live =
        let there = live-there s gone size live in (
          there,
          lt,
          ap (λ z. z.live) (change_side-same gone (λ z. record z { live = false; group = None })
              (record s { timers = without_timer gone s.timers; due = without_due gone s.due }) size there),
        )

    go : Frees s after a answer ⊎ GoesOn x rs s after a answer → Placed (after_ask x rs a answer) after
    go (inl k) =
        subst (λ z. Placed (after_ask x rs a answer) z) (sym k.freed)
        (subst (λ z. Placed (after_ask x rs z answer) (freed k.gone s)) (sym k.act)
        (subst (λ z. Placed (after_ask x rs (act.Free k.gone) z) (freed k.gone s)) (sym k.answered) (freeing k.gone k.live)))
    go (inr k) =
        let in_range : k.fire.side.link < after.opened = let o = k.keeps.opened in let l : k.fire.side.link ≡ x.side.link = ap
        (λ z. z.link) k.same in omega arith in
        subst (λ z. Placed z after) (sym k.stage) in_range

steps-placed : (c : CloseStep) (cs : List CloseStep) (n : ℕ) → link_of c < n → AllOpened n cs → AllOpened n (steps_left c cs)
steps-placed (CloseStep.Faulty e) cs n lt h = h
steps-placed (CloseStep.EndWriting e) cs n lt h = h
steps-placed (CloseStep.BothDone k) cs n lt h = (lt, h)
steps-placed (CloseStep.OutDone k) cs n lt h = h
steps-placed (CloseStep.PeerGone e) cs n lt h = h
steps-placed (CloseStep.Shut e) cs n lt h = h

pub closed-opened : (c : CloseStep) (s : Plain) → (closed_by c s).opened ≡ s.opened
closed-opened (CloseStep.Faulty e) s = refl
closed-opened (CloseStep.EndWriting e) s = refl
closed-opened (CloseStep.BothDone k) s = refl
closed-opened (CloseStep.OutDone k) s = refl
closed-opened (CloseStep.PeerGone e) s = refl
closed-opened (CloseStep.Shut e) s = refl

pub put-placed : (g : Settings) (t : Trace) (x : Stage) (s : Plain) (e : Entry) (bytes : List ℕ) (new : State) → length s.sides ≡ 2
    * s.opened → Placed x s → Puts g t x s e bytes new → Placed new.stage new.plain
put-placed g t Between s (entry.Turn ms) bytes new size placed h = subst (λ z. Placed z.stage z.plain) (sym h.3) tt
put-placed g t Polling s (entry.Poll timeout) bytes new size placed h = subst (λ z. Placed z.stage z.plain) (sym h.2)
    (wanted-live g (past g t) s)
put-placed g t (Wanting (w ∷ ws)) s (entry.Want side r d) bytes new size placed h = subst (λ z. Placed z.stage z.plain) (sym h.2) placed.1
put-placed g t (Wanting []) s entry.PollFailed bytes new size placed h = subst (λ z. Placed z.stage z.plain) (sym h.1) tt
put-placed g t (Marking (w ∷ ws) marks) s (entry.Ready side r d) bytes new size placed h = subst (λ z. Placed z.stage z.plain)
    (sym h.3) placed.1
put-placed g t (Accepting n marks) s (entry.Opened link connected) bytes new size placed h = subst (λ z. Placed z.stage z.plain)
    (sym h.4) tt
put-placed g t (Serving (m ∷ ms)) s (entry.Conn side answer) bytes new size placed h = subst (λ z. Placed z.stage z.plain) (sym h.3) tt
put-placed g t (Serving (m ∷ ms)) s (entry.Read side room answer) bytes new size placed h = subst (λ z. Placed z.stage z.plain)
    (sym h.3) (reading-placed side answer _ _)
put-placed g t (Serving (m ∷ ms)) s (entry.Write side offered answer) bytes new size placed h = subst (λ z. Placed z.stage z.plain)
    (sym h.3) tt
put-placed g t (Dispatching (r ∷ rs)) s (entry.Fired side y) bytes new size placed h = subst (λ z. Placed z.stage z.plain)
    (sym h.3) (live-there s side size h.1)
put-placed g t (Firing x rs) s (entry.Asked side a answer) bytes new size placed h =
    subst (λ z. Placed z.stage z.plain) (sym h.5) (asked-placed g (past g t) s (record x { asks = x.asks + 1 }) rs a answer h.3
    size placed h.4)
put-placed g t (Freeing gone x rs) s e bytes new size placed h = subst (λ z. Placed z.stage z.plain) (sym h.2) placed.1
put-placed g t (Closing (c ∷ cs)) s e bytes new size placed h =
    subst (λ z. Placed z.stage z.plain) (sym h.2) (subst (λ n. AllOpened n (steps_left c cs)) (sym (closed-opened c s))
    (steps-placed c cs s.opened placed.0 placed.1))
put-placed g t _ s e bytes new size placed h = absurd h
