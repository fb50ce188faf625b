-- An entry can be put at one place only of those that the relay goes through between two entries.
use Rattle.std.proofs.Common.{◌≡◌, inl, inr, ℕ, zero, suc, ◌+◌, ◌≤◌, Bool, true, false, if◌then◌else◌, List, [], ◌∷◌, Some, None, refl, sym}
use Rattle.std.proofs.Common.{ap, subst, arith, lit≤}
use Rattle.ev_types.specs.declared.side.SideId.{SideId}
use Rattle.ev_types.specs.declared.answer.ReadAnswer.{ReadAnswer}
use Rattle.ev_types.specs.declared.answer.ReadAnswer.TheVariants as read
use Rattle.ev_types.specs.declared.answer.AskAnswer.{AskAnswer}
use Rattle.ev_types.specs.declared.answer.AskAnswer.TheVariants as ask
use Rattle.ev_types.specs.declared.act.Act.{Act}
use Rattle.ev_types.specs.declared.act.Act.TheVariants as act
use Rattle.ev_types.specs.declared.why.Why.{Why}
use Rattle.ev_types.specs.declared.entry.Entry.{Entry}
use Rattle.ev_types.specs.declared.entry.Entry.TheVariants as entry
use Rattle.ev_types.specs.Sides.{number}
use Rattle.ev_types.specs.Trace.{Trace}
use Rattle.relay_model.specs.Settings.{Settings}
use Rattle.relay_model.specs.Plain.{Plain}
use Rattle.relay_model.specs.Past.{past}
use Rattle.relay_model.specs.Rooms.{Want}
use Rattle.relay_model.specs.Serve.{Call, call_for}
use Rattle.relay_model.specs.Close.{closing_entry}
use Rattle.relay_model.specs.Stages.{Fire, Halt, Stage, Between, Polling, Wanting, Marking, Accepting, Serving, Filtering, Dispatching}
use Rattle.relay_model.specs.Stages.{Firing, Freeing, Passing, Closing, Over, State, at, after_ask}
use Rattle.relay_model.specs.Turn.{Puts, Quietly, after_reading}
use Rattle.relay_rows.specs.Laws.{Ahead}
use Rattle.relay_rows.proofs.OrderLemmas.{rank, ahead-rank, fired-rank, no_closing, no_freeing, poll_failed-rank, opened-rank, asked-rank}
use Rattle.relay_rows.proofs.OrderLemmas.{Rise, rise-weaken, wanted-rise}

-- the sides of which marks may still be set
abbrev pub unmarked : Stage → List Want
unmarked (Marking ws marks) = ws
unmarked _ = []

stays : (y : Stage) (p : Plain) (new : State) → new ≡ at y p → Rise 0 (unmarked y) → Rise 0 (unmarked new.stage)
stays y p new e h = subst (λ z. Rise 0 (unmarked z)) (ap (λ x. x.stage) (sym e)) h

after_fire-rise : (x : Fire) (stopped : Bool) (rs : List (SideId × Why)) → Rise 0 (unmarked
    (if stopped then Over (Halt.StoppedBy x.side.link) else Dispatching rs))
after_fire-rise x true rs = tt
after_fire-rise x false rs = tt

-- they rise in number, at every stage
pub quietly-rise : (g : Settings) (t : Trace) (x : Stage) (p : Plain) (new : State) → Quietly g t x p new → Rise 0 (unmarked x) →
    Rise 0 (unmarked new.stage)
quietly-rise g t (Wanting []) p new h r = stays _ _ new h (wanted-rise g (past g t) p)
quietly-rise g t (Marking (w ∷ ws) marks) p new h r = stays (Marking ws marks) _ new h (rise-weaken 0 (number w.side + 1) ws
    (omega arith) r.1)
quietly-rise g t (Marking [] marks) p new h r = stays (Accepting 0 marks) _ new h tt
quietly-rise g t (Accepting n marks) p new h r = stays (Serving marks) _ new h tt
quietly-rise g t (Serving (m ∷ ms)) p new h r = stays _ _ new h.1 tt
quietly-rise g t (Filtering e ms) p new h r = stays _ _ new h tt
quietly-rise g t (Serving []) p new h r = stays _ _ new h tt
quietly-rise g t (Firing x rs) p new h r = stays _ _ new h (after_fire-rise x x.stopped rs)
quietly-rise g t (Dispatching []) p new h r = stays _ _ new h tt
quietly-rise g t (Passing [] (e ∷ es)) p new (inl h) r = stays _ _ new h.1 tt
quietly-rise g t (Passing [] (e ∷ es)) p new (inr h) r = stays _ _ new h tt
quietly-rise g t (Passing (x ∷ xs) (e ∷ es)) p new h r = stays _ _ new h tt
quietly-rise g t (Passing [] []) p new h r = stays _ _ new h tt
quietly-rise g t (Closing (c ∷ cs)) p new h r = stays _ _ new h.1 tt
quietly-rise g t (Closing []) p new h r = stays _ _ new h tt
quietly-rise g t _ p new h r = absurd h

after_reading-rise : (e : SideId) (answer : ReadAnswer) (ms : List Want) → Rise 0 (unmarked (after_reading e answer ms))
after_reading-rise e (read.Got n) ms = tt
after_reading-rise e _ ms = tt

after_ask-rise : (x : Fire) (rs : List (SideId × Why)) (a : Act) (answer : AskAnswer) → Rise 0 (unmarked (after_ask x rs a answer))
after_ask-rise x rs (act.Free e) ask.Ok = tt
after_ask-rise x rs act.Stop ask.Ok = tt
after_ask-rise x rs _ _ = tt

pub puts-rise : (g : Settings) (t : Trace) (x : Stage) (p : Plain) (e : Entry) (bytes : List ℕ) (new : State) → Puts g t x p e
    bytes new → Rise 0 (unmarked x) → Rise 0 (unmarked new.stage)
puts-rise g t Between p (entry.Turn ms) bytes new h r = stays _ _ new h.3 tt
puts-rise g t Polling p (entry.Poll timeout) bytes new h r = stays _ _ new h.2 tt
puts-rise g t (Wanting (w ∷ ws)) p (entry.Want side read write) bytes new h r = stays _ _ new h.2 tt
puts-rise g t (Wanting []) p entry.PollFailed bytes new h r = stays _ _ new h.1 tt
puts-rise g t (Marking (w ∷ ws) marks) p (entry.Ready side read write) bytes new h r = stays _ _ new h.3
    (rise-weaken 0 (number w.side + 1) ws (omega arith) r.1)
puts-rise g t (Accepting n marks) p (entry.Opened link connected) bytes new h r = stays _ _ new h.4 tt
puts-rise g t (Serving (m ∷ ms)) p (entry.Conn side answer) bytes new h r = stays _ _ new h.3 tt
puts-rise g t (Serving (m ∷ ms)) p (entry.Read side room answer) bytes new h r = stays _ _ new h.3 (after_reading-rise side answer _)
puts-rise g t (Serving (m ∷ ms)) p (entry.Write side offered answer) bytes new h r = stays _ _ new h.3 tt
puts-rise g t (Dispatching (y ∷ rs)) p (entry.Fired side why) bytes new h r = stays _ _ new h.3 tt
puts-rise g t (Firing x rs) p (entry.Asked side a answer) bytes new h r = stays _ _ new h.5 (after_ask-rise _ rs a answer)
puts-rise g t (Freeing gone x rs) p e bytes new h r = stays _ _ new h.2 tt
puts-rise g t (Closing (c ∷ cs)) p e bytes new h r = stays _ _ new h.2 tt
puts-rise g t _ p _ bytes new h r = absurd h

-- marks of sides below a number can't be set any more
abbrev pub Beyond : ℕ → Stage → Type 0
Beyond n Polling = ⊥
Beyond n (Wanting ws) = ⊥
Beyond n (Marking ws marks) = Rise n ws
Beyond n _ = Unit {0}

moves : (n : ℕ) (y : Stage) (p : Plain) (new : State) → new ≡ at y p → Beyond n y → Beyond n new.stage
moves n y p new e h = subst (λ z. Beyond n z) (ap (λ x. x.stage) (sym e)) h

after_fire-beyond : (n : ℕ) (x : Fire) (stopped : Bool) (rs : List (SideId × Why)) → Beyond n
    (if stopped then Over (Halt.StoppedBy x.side.link) else Dispatching rs)
after_fire-beyond n x true rs = tt
after_fire-beyond n x false rs = tt

rise-rest : (n : ℕ) (w : Want) (ws : List Want) → Rise n (w ∷ ws) → Rise n ws
rise-rest n w ws h = let here = h.0 in rise-weaken n (number w.side + 1) ws (omega arith) h.1

quietly-beyond : (n : ℕ) (g : Settings) (t : Trace) (x : Stage) (p : Plain) (new : State) → Quietly g t x p new → Beyond n x →
    Beyond n new.stage
quietly-beyond n g t (Wanting []) p new h b = absurd b
quietly-beyond n g t (Marking (w ∷ ws) marks) p new h b = moves n (Marking ws marks) _ new h (rise-rest n w ws b)
quietly-beyond n g t (Marking [] marks) p new h b = moves n _ _ new h tt
quietly-beyond n g t (Accepting m marks) p new h b = moves n _ _ new h tt
quietly-beyond n g t (Serving (m ∷ ms)) p new h b = moves n _ _ new h.1 tt
quietly-beyond n g t (Filtering e ms) p new h b = moves n _ _ new h tt
quietly-beyond n g t (Serving []) p new h b = moves n _ _ new h tt
quietly-beyond n g t (Firing x rs) p new h b = moves n _ _ new h (after_fire-beyond n x x.stopped rs)
quietly-beyond n g t (Dispatching []) p new h b = moves n _ _ new h tt
quietly-beyond n g t (Passing [] (e ∷ es)) p new (inl h) b = moves n _ _ new h.1 tt
quietly-beyond n g t (Passing [] (e ∷ es)) p new (inr h) b = moves n _ _ new h tt
quietly-beyond n g t (Passing (x ∷ xs) (e ∷ es)) p new h b = moves n _ _ new h tt
quietly-beyond n g t (Passing [] []) p new h b = moves n _ _ new h tt
quietly-beyond n g t (Closing (c ∷ cs)) p new h b = moves n _ _ new h.1 tt
quietly-beyond n g t (Closing []) p new h b = moves n _ _ new h tt
quietly-beyond n g t _ p new h b = absurd h

ahead-beyond : (n : ℕ) (g : Settings) (t : Trace) (k : ℕ) (a s : State) → Ahead g t k a s → Beyond n a.stage → Beyond n s.stage
ahead-beyond n g t zero a s h b = subst (λ x. Beyond n x.stage) h b
ahead-beyond n g t (suc k) a s h b = ahead-beyond n g t k h.0 s h.2 (quietly-beyond n g t a.stage a.plain h.0 h.1 b)

ready-beyond : (n : ℕ) (g : Settings) (t : Trace) (x : Stage) (p : Plain) (side : SideId) (read write : Bool) (bytes : List ℕ)
    (new : State) →
    Puts g t x p (entry.Ready side read write) bytes new → Beyond n x → n ≤ number side
ready-beyond n g t (Marking (w ∷ ws) marks) p side read write bytes new h b = subst (λ e. n ≤ number e) (sym h.0) b.0
ready-beyond n g t (Freeing gone x rs) p side read write bytes new h b = absurd (no_freeing p gone (entry.Ready side read write) refl h.0)
ready-beyond n g t (Closing (c ∷ cs)) p side read write bytes new h b = absurd (no_closing g t p c (entry.Ready side read write) refl h.0)
ready-beyond n g t (Wanting []) p side read write bytes new h b = absurd h
ready-beyond n g t (Wanting (w ∷ ws)) p side read write bytes new h b = absurd h
ready-beyond n g t (Marking [] marks) p side read write bytes new h b = absurd h
ready-beyond n g t (Serving []) p side read write bytes new h b = absurd h
ready-beyond n g t (Serving (m ∷ ms)) p side read write bytes new h b = absurd h
ready-beyond n g t (Dispatching []) p side read write bytes new h b = absurd h
ready-beyond n g t (Dispatching (r ∷ rs)) p side read write bytes new h b = absurd h
ready-beyond n g t (Closing []) p side read write bytes new h b = absurd h
ready-beyond n g t _ p side read write bytes new h b = absurd h

-- Where an entry can be put and the relay goes on silently all the same, the entry can't be put any more.
module _ (g : Settings) (t : Trace) (p : Plain) (bytes : List ℕ) (y b s new : State) (k : ℕ) (ahead : Ahead g t k b s) where
  pub put_once : (x : Stage) (e : Entry) → Rise 0 (unmarked x) → Puts g t x p e bytes y → Quietly g t x p b → Puts g t s.stage
      s.plain e bytes new → ⊥
  put_once (Wanting []) entry.PollFailed r h q again =
      let later : 1 ≤ rank b.stage = subst (λ x. 1 ≤ rank x.stage) (sym q) (lit≤ tt) in
      let there = ahead-rank g t k b s ahead in
      let zero_rank = poll_failed-rank g t s.stage s.plain bytes new again in
      omega arith
  put_once (Marking (w ∷ ws) marks) (entry.Ready side read write) r h q again =
      let later : Beyond (number w.side + 1) b.stage = subst (λ x. Beyond (number w.side + 1) x.stage) (sym q) r.1 in
      let there = ahead-beyond (number w.side + 1) g t k b s ahead later in
      let up = ready-beyond (number w.side + 1) g t s.stage s.plain side read write bytes new again there in
      let same : number side ≡ number w.side = ap number h.0 in
      omega arith
  put_once (Accepting n marks) (entry.Opened link connected) r h q again =
      let later : 3 ≤ rank b.stage = subst (λ x. 3 ≤ rank x.stage) (sym q) (lit≤ tt) in
      let there = ahead-rank g t k b s ahead in
      let two = opened-rank g t s.stage s.plain link connected bytes new again in
      omega arith
  put_once (Serving (m ∷ ms)) (entry.Conn side answer) r h q again =
      let one : call_for g (past g t) p m ≡ Call.Nothing = q.0 in
      let other : call_for g (past g t) p m ≡ Call.AskConnect = h.1 in
      absurd (cc)
  put_once (Serving (m ∷ ms)) (entry.Read side room answer) r h q again =
      let one : call_for g (past g t) p m ≡ Call.Nothing = q.0 in
      let other : call_for g (past g t) p m ≡ Call.AskRead room = h.1 in
      absurd (cc)
  put_once (Serving (m ∷ ms)) (entry.Write side offered answer) r h q again =
      let one : call_for g (past g t) p m ≡ Call.Nothing = q.0 in
      let other : call_for g (past g t) p m ≡ Call.AskWrite offered = h.1 in
      absurd (cc)
  put_once (Firing x rs) (entry.Asked side a answer) r h q again =
      let later = fired-rank x rs p b q in
      let there = ahead-rank g t k b s ahead in
      let four = asked-rank g t s.stage s.plain side a answer bytes new again in
      omega arith
  put_once (Closing (c ∷ cs)) e r h q again =
      let one : closing_entry g (past g t) p c ≡ None = q.0 in
      let other : closing_entry g (past g t) p c ≡ Some e = h.0 in
      absurd (cc)
  put_once Between (entry.Turn ms) r h q again = absurd q
  put_once Polling (entry.Poll timeout) r h q again = absurd q
  put_once (Wanting (w ∷ ws)) (entry.Want side read write) r h q again = absurd q
  put_once (Dispatching (x ∷ rs)) (entry.Fired side y) r h q again = absurd q
  put_once (Freeing gone x rs) e r h q again = absurd q
  put_once _ _ r h q again = absurd h
