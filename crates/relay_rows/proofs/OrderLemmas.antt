-- The order of stages between two entries. The relay goes through them in one direction, and an entry can be put at one
-- place of them only.
use Rattle.std.specs.Prelude.{filter, map}
use Rattle.std.proofs.Common.{◌≡◌, inl, inr, ℕ, zero, suc, ◌+◌, ◌*◌, ◌≤◌, Bool, true, false, ◌||◌, if◌then◌else◌, List, [], ◌∷◌, Some, refl}
use Rattle.std.proofs.Common.{sym, ap, subst, arith, lit≤}
use Rattle.ev_types.specs.declared.side.SideId.{SideId}
use Rattle.ev_types.specs.declared.act.Act.{Act}
use Rattle.ev_types.specs.declared.answer.AskAnswer.{AskAnswer}
use Rattle.ev_types.specs.declared.why.Why.{Why}
use Rattle.ev_types.specs.declared.why.Cause.TheVariants as cause
use Rattle.ev_types.specs.declared.entry.Entry.{Entry}
use Rattle.ev_types.specs.declared.entry.Entry.TheVariants as entry
use Rattle.ev_types.specs.Sides.{number}
use Rattle.ev_types.specs.Trace.{Trace}
use Rattle.relay_model.specs.Settings.{Settings}
use Rattle.relay_model.specs.Plain.{Plain, sides_from, all_sides}
use Rattle.relay_model.specs.Past.{Past, past}
use Rattle.relay_model.specs.Rooms.{Want, want_of, wanted}
use Rattle.relay_model.specs.Close.{CloseStep, freed_entry, closing_entry}
use Rattle.relay_model.specs.Stages.{Fire, Halt, Stage, Between, Polling, Wanting, Marking, Accepting, Serving, Filtering, Dispatching}
use Rattle.relay_model.specs.Stages.{Firing, Freeing, Passing, Closing, Over, State, at}
use Rattle.relay_model.specs.Turn.{Puts, Quietly, after_fire}
use Rattle.relay_rows.specs.Laws.{Ahead}
use Rattle.relay_rows.proofs.PutConverse.{is_closing, closing_entry-is}

-- how far a stage is on the way from one entry to the next
abbrev pub rank : Stage → ℕ
rank Between = 8
rank Polling = 0
rank (Wanting ws) = 0
rank (Marking ws marks) = 1
rank (Accepting n marks) = 2
rank (Serving ms) = 3
rank (Filtering e ms) = 3
rank (Firing x rs) = 4
rank (Freeing gone x rs) = 4
rank (Dispatching rs) = 5
rank (Passing xs es) = 6
rank (Closing cs) = 7
rank (Over why) = 8

goes_to : (n : ℕ) (y : Stage) (p : Plain) (new : State) → new ≡ at y p → n ≤ rank y → n ≤ rank new.stage
goes_to n y p new e h = subst (λ z. n ≤ rank z) (ap (λ x. x.stage) (sym e)) h

after_fire-rank : (x : Fire) (stopped : Bool) (rs : List (SideId × Why)) → 5 ≤ rank (if stopped then Over
    (Halt.StoppedBy x.side.link) else Dispatching rs)
after_fire-rank x true rs = lit≤ tt
after_fire-rank x false rs = lit≤ tt

pub fired-rank : (x : Fire) (rs : List (SideId × Why)) (p : Plain) (new : State) → new ≡ at (after_fire x rs) p → 5 ≤ rank new.stage
fired-rank x rs p new e = goes_to 5 (after_fire x rs) p new e (after_fire-rank x x.stopped rs)

-- a silent step doesn't go back
quietly-rank : (g : Settings) (t : Trace) (x : Stage) (p : Plain) (new : State) → Quietly g t x p new → rank x ≤ rank new.stage
quietly-rank g t (Wanting []) p new h = goes_to 0 _ _ new h (lit≤ tt)
quietly-rank g t (Marking (w ∷ ws) marks) p new h = goes_to 1 _ _ new h (lit≤ tt)
quietly-rank g t (Marking [] marks) p new h = goes_to 1 _ _ new h (lit≤ tt)
quietly-rank g t (Accepting n marks) p new h = goes_to 2 _ _ new h (lit≤ tt)
quietly-rank g t (Serving (m ∷ ms)) p new h = goes_to 3 _ _ new h.1 (lit≤ tt)
quietly-rank g t (Filtering e ms) p new h = goes_to 3 _ _ new h (lit≤ tt)
quietly-rank g t (Serving []) p new h = goes_to 3 _ _ new h (lit≤ tt)
quietly-rank g t (Firing x rs) p new h = let k = fired-rank x rs p new h in omega arith
quietly-rank g t (Dispatching []) p new h = goes_to 5 _ _ new h (lit≤ tt)
quietly-rank g t (Passing [] (e ∷ es)) p new (inl h) = goes_to 6 _ _ new h.1 (lit≤ tt)
quietly-rank g t (Passing [] (e ∷ es)) p new (inr h) = goes_to 6 _ _ new h (lit≤ tt)
quietly-rank g t (Passing (x ∷ xs) (e ∷ es)) p new h = goes_to 6 _ _ new h (lit≤ tt)
quietly-rank g t (Passing [] []) p new h = goes_to 6 _ _ new h (lit≤ tt)
quietly-rank g t (Closing (c ∷ cs)) p new h = goes_to 7 _ _ new h.1 (lit≤ tt)
quietly-rank g t (Closing []) p new h = goes_to 7 _ _ new h (lit≤ tt)
quietly-rank g t _ p new h = absurd h

pub ahead-rank : (g : Settings) (t : Trace) (k : ℕ) (a s : State) → Ahead g t k a s → rank a.stage ≤ rank s.stage
ahead-rank g t zero a s h = subst (λ x. rank a.stage ≤ rank x.stage) h (omega arith)
ahead-rank g t (suc k) a s h =
    let here = quietly-rank g t a.stage a.plain h.0 h.1 in
    let there = ahead-rank g t k h.0 s h.2 in
    omega arith

-- Where some entries can be put

pub no_closing : (g : Settings) (t : Trace) (p : Plain) (c : CloseStep) (e : Entry) → is_closing e ≡ false → closing_entry g
    (past g t) p c ≡ Some e → ⊥
no_closing g t p c e other h = let yes = closing_entry-is g (past g t) p c e h in absurd (cc)

pub no_freeing : (p : Plain) (gone : SideId) (e : Entry) → is_closing e ≡ false → e ≡ freed_entry p gone cause.Hook → ⊥
no_freeing p gone e other h = let yes : is_closing e ≡ true = ap is_closing h in absurd (cc)

pub poll_failed-rank : (g : Settings) (t : Trace) (x : Stage) (p : Plain) (bytes : List ℕ) (new : State) → Puts g t x p
    entry.PollFailed bytes new → rank x ≡ 0
poll_failed-rank g t (Wanting []) p bytes new h = refl
poll_failed-rank g t (Wanting (w ∷ ws)) p bytes new h = absurd h
poll_failed-rank g t (Marking [] marks) p bytes new h = absurd h
poll_failed-rank g t (Marking (w ∷ ws) marks) p bytes new h = absurd h
poll_failed-rank g t (Serving []) p bytes new h = absurd h
poll_failed-rank g t (Serving (m ∷ ms)) p bytes new h = absurd h
poll_failed-rank g t (Dispatching []) p bytes new h = absurd h
poll_failed-rank g t (Dispatching (r ∷ rs)) p bytes new h = absurd h
poll_failed-rank g t (Closing []) p bytes new h = absurd h
poll_failed-rank g t (Freeing gone x rs) p bytes new h = absurd (no_freeing p gone entry.PollFailed refl h.0)
poll_failed-rank g t (Closing (c ∷ cs)) p bytes new h = absurd (no_closing g t p c entry.PollFailed refl h.0)
poll_failed-rank g t _ p bytes new h = absurd h

pub opened-rank : (g : Settings) (t : Trace) (x : Stage) (p : Plain) (link : ℕ) (connected : Bool) (bytes : List ℕ) (new : State) →
    Puts g t x p (entry.Opened link connected) bytes new → rank x ≡ 2
opened-rank g t (Accepting n marks) p link connected bytes new h = refl
opened-rank g t (Wanting []) p link connected bytes new h = absurd h
opened-rank g t (Wanting (w ∷ ws)) p link connected bytes new h = absurd h
opened-rank g t (Marking [] marks) p link connected bytes new h = absurd h
opened-rank g t (Marking (w ∷ ws) marks) p link connected bytes new h = absurd h
opened-rank g t (Serving []) p link connected bytes new h = absurd h
opened-rank g t (Serving (m ∷ ms)) p link connected bytes new h = absurd h
opened-rank g t (Dispatching []) p link connected bytes new h = absurd h
opened-rank g t (Dispatching (r ∷ rs)) p link connected bytes new h = absurd h
opened-rank g t (Closing []) p link connected bytes new h = absurd h
opened-rank g t (Freeing gone x rs) p link connected bytes new h = absurd (no_freeing p gone (entry.Opened link connected) refl h.0)
opened-rank g t (Closing (c ∷ cs)) p link connected bytes new h = absurd (no_closing g t p c (entry.Opened link connected) refl h.0)
opened-rank g t _ p link connected bytes new h = absurd h

pub asked-rank : (g : Settings) (t : Trace) (x : Stage) (p : Plain) (side : SideId) (a : Act) (answer : AskAnswer) (bytes : List ℕ)
    (new : State) →
    Puts g t x p (entry.Asked side a answer) bytes new → rank x ≡ 4
asked-rank g t (Firing x rs) p side a answer bytes new h = refl
asked-rank g t (Wanting []) p side a answer bytes new h = absurd h
asked-rank g t (Wanting (w ∷ ws)) p side a answer bytes new h = absurd h
asked-rank g t (Marking [] marks) p side a answer bytes new h = absurd h
asked-rank g t (Marking (w ∷ ws) marks) p side a answer bytes new h = absurd h
asked-rank g t (Serving []) p side a answer bytes new h = absurd h
asked-rank g t (Serving (m ∷ ms)) p side a answer bytes new h = absurd h
asked-rank g t (Dispatching []) p side a answer bytes new h = absurd h
asked-rank g t (Dispatching (r ∷ rs)) p side a answer bytes new h = absurd h
asked-rank g t (Closing []) p side a answer bytes new h = absurd h
asked-rank g t (Freeing gone x rs) p side a answer bytes new h = absurd (no_freeing p gone (entry.Asked side a answer) refl h.0)
asked-rank g t (Closing (c ∷ cs)) p side a answer bytes new h = absurd (no_closing g t p c (entry.Asked side a answer) refl h.0)
asked-rank g t _ p side a answer bytes new h = absurd h

-- Marks are put in the order of sides

-- the sides of a list rise, from a number on
abbrev pub Rise : ℕ → List Want → Type 0
Rise n [] = Unit {0}
Rise n (w ∷ ws) = (n ≤ number w.side) × Rise (number w.side + 1) ws

pub rise-weaken : (n m : ℕ) (ws : List Want) → n ≤ m → Rise m ws → Rise n ws
rise-weaken n m [] le h = tt
rise-weaken n m (w ∷ ws) le h = let here = h.0 in (omega arith, h.1)

rise-filter : (keeps : Want → Bool) (n : ℕ) (ws : List Want) → Rise n ws → Rise n (filter keeps ws)
rise-filter keeps n [] h = tt
rise-filter keeps n (w ∷ ws) h =
    let more = rise-filter keeps (number w.side + 1) ws h.1 in
    let here = h.0 in
    elim (keeps w) as (λ b. Rise n (if b then w ∷ filter keeps ws else filter keeps ws)) [
      | true ↦ (here, more)
      | false ↦ rise-weaken n (number w.side + 1) (filter keeps ws) (omega arith) more
    ]

rise-sides : (g : Settings) (p : Past) (s : Plain) (n k : ℕ) → Rise (2 * k) (map (want_of g p s) (sides_from k n))
rise-sides g p s zero k = tt
rise-sides g p s (suc n) k = (
  omega arith,
  (
    omega arith,
    rise-weaken (2 * k + 1 + 1) (2 * (k + 1)) (map (want_of g p s) (sides_from (k + 1) n))
        (omega arith) (rise-sides g p s n (k + 1)),
  ),
)

pub wanted-rise : (g : Settings) (p : Past) (s : Plain) → Rise 0 (wanted g p s)
wanted-rise g p s = rise-filter (λ w. w.read || w.write) 0 (map (want_of g p s) (all_sides s)) (rise-sides g p s s.opened 0)
