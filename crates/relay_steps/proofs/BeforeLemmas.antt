-- A side that is served has a limit that was set before this turn: links are opened only after the wants of a turn were told, and hooks ask
-- only once all marks were served. So what is moved falls into a turn that the bucket counts.
use Rattle.std.proofs.Common.{◌≡◌, ◌≢◌, inl, inr, ℕ, ◌+◌, ◌*◌, ◌<◌, Bool, true, false, ◌&&◌, not, if◌then◌else◌, List, [], ◌∷◌, ◌++◌}
use Rattle.std.proofs.Common.{length, Option, Some, None, sym, ap, subst, arith}
use Rattle.std.specs.Prelude.{⊤}
use Rattle.std.specs.List.{AllByRecursion}
use Rattle.token_bucket.specs.declared.limit.Dir.{Dir}
use Rattle.ev_types.specs.declared.side.SideId.{SideId}
use Rattle.ev_types.specs.declared.act.Act.{Act}
use Rattle.ev_types.specs.declared.act.Act.TheVariants as act
use Rattle.ev_types.specs.declared.answer.AskAnswer.{AskAnswer}
use Rattle.ev_types.specs.declared.answer.AskAnswer.TheVariants as ask
use Rattle.ev_types.specs.declared.answer.ReadAnswer.{ReadAnswer}
use Rattle.ev_types.specs.declared.answer.ReadAnswer.TheVariants as read
use Rattle.ev_types.specs.declared.entry.Entry.{Entry}
use Rattle.ev_types.specs.declared.entry.Entry.TheVariants as entry
use Rattle.ev_types.specs.Trace.{Trace}
use Rattle.relay_model.specs.Settings.{Settings}
use Rattle.relay_model.specs.Due.{Reason}
use Rattle.relay_model.specs.Plain.{Plain, Standing, side_at, with_link}
use Rattle.relay_model.specs.Past.{past}
use Rattle.relay_model.specs.Rates.{side_spells}
use Rattle.relay_model.specs.Rooms.{Want, wanted, is_connecting}
use Rattle.relay_model.specs.Moments.{time_passed}
use Rattle.relay_model.specs.Serve.{marks_left, after_got}
use Rattle.relay_model.specs.Stages.{Fire, Halt, Stage, State, at, Between, Polling, Wanting, Marking, Accepting, Serving, Filtering}
use Rattle.relay_model.specs.Stages.{Dispatching, Firing, Freeing, Passing, Closing, Over, after_ask}
use Rattle.relay_model.specs.Turn.{turned_to, after_reading, Puts, Quietly, Reaches}
use Rattle.relay_model.proofs.Frames.{SameFrame, frame-time_passed, frame-conn, frame-read, frame-write}
use Rattle.relay_model.proofs.QuietSteps.{KeptQuietly, kept-after_got}
use Rattle.relay_model.proofs.PlainLemmas.{side_at-old}
use Rattle.relay_model.proofs.PlacedLemmas.{AllLive, live-there, wanted-live}
use Rattle.relay_model.proofs.RatesTold.{IsBegun}
use Rattle.relay_model.proofs.RatesLaw.{rated}
use Rattle.relay_model.proofs.SpellLemmas.{spells-count}

-- a limit that was set in an earlier turn than this
abbrev pub IsBefore : ℕ → Option Standing → Type 0
IsBefore turn None = ⊤
IsBefore turn (Some y) = y.turn < turn

abbrev AllBefore : Plain → Type 0
AllBefore p = (a : SideId) → IsBefore p.turn (side_at p a).limit

abbrev AllThere : Plain → List Want → Type 0
AllThere p ws = AllByRecursion (λ w. w.side.link < p.opened) ws

-- each of these is at a link that is open, with a limit of an earlier turn
abbrev Each : Plain → List Want → Type 0
Each p ws = AllByRecursion (λ w. (w.side.link < p.opened) × IsBefore p.turn (side_at p w.side).limit) ws

-- what is so at a stage
abbrev Early : Stage → Plain → Type 0
Early Polling p = AllBefore p
Early (Wanting ws) p = AllBefore p
Early (Marking ws marks) p = AllBefore p × AllThere p ws × AllThere p marks
Early (Accepting n marks) p = Each p marks
Early (Serving marks) p = Each p marks
Early (Filtering e marks) p = Each p marks
Early _ p = ⊤

-- where the clock, the links and all limits are as they were
record SameLimits (p q : Plain) : Type 0 where
  turn : q.turn ≡ p.turn
  opened : q.opened ≡ p.opened
  limits : (a : SideId) → (side_at q a).limit ≡ (side_at p a).limit

by-frame : (p q : Plain) → SameFrame p q → SameLimits p q
by-frame p q h = record { turn = h.shape.turn; opened = h.shape.opened; limits = λ a. ap (λ z. z.0) (h.rates a) }

by-quiet : (p q : Plain) → KeptQuietly p q → SameLimits p q
by-quiet p q h = record { turn = h.turn; opened = h.opened; limits = λ a. ap (λ z. z.limit) (h.sides a) }

before-same : (m n : ℕ) (x y : Option Standing) → n ≡ m → y ≡ x → IsBefore m x → IsBefore n y
before-same m n x y same is h = subst (λ z. IsBefore z y) (sym same) (subst (IsBefore m) (sym is) h)

each-same : (p q : Plain) (ws : List Want) → SameLimits p q → Each p ws → Each q ws
each-same p q [] same h = tt
each-same p q (w ∷ ws) same h =
    let there = h.0.0 in (
      (
        omega (arith, there, same.opened),
        before-same p.turn q.turn (side_at p w.side).limit (side_at q w.side).limit same.turn
            (same.limits w.side) h.0.1,
      ),
      each-same p q ws same h.1,
    )

each-both : (p : Plain) (ws : List Want) → AllBefore p → AllThere p ws → Each p ws
each-both p [] all there = tt
each-both p (w ∷ ws) all there = ((there.0, all w.side), each-both p ws all there.1)

there-live : (p : Plain) (ws : List Want) → length p.sides ≡ 2 * p.opened → AllLive p ws → AllThere p ws
there-live p [] size h = tt
there-live p (w ∷ ws) size h = (live-there p w.side size h.0, there-live p ws size h.1)

there-append : (p : Plain) (xs ys : List Want) → AllThere p xs → AllThere p ys → AllThere p (xs ++ ys)
there-append p [] ys h k = k
there-append p (x ∷ xs) ys h k = (h.0, there-append p xs ys h.1 k)

module _ (g : Settings) where
  -- a link opens: who was there is as it was
  each-opened : (connected : Bool) (p : Plain) (ws : List Want) → length p.sides ≡ 2 * p.opened → Each p ws →
      Each (with_link g connected p) ws
  each-opened connected p [] size h = tt
  each-opened connected p (w ∷ ws) size h =
      let there = h.0.0 in
      let apart : p.opened ≢ w.side.link = λ same. omega (arith, there, same) in (
        (omega (arith, there), subst (λ z. IsBefore p.turn z.limit) (sym (side_at-old g connected p w.side size apart)) h.0.1),
        each-opened connected p ws size h.1,
      )

  each-left : (p : Plain) (m : Want) (ms : List Want) → Each p (m ∷ ms) → Each p (marks_left p m ms)
  each-left p m ms h = go (not (is_connecting p m.side) && m.read)
    where
      go : (b : Bool) → Each p (if b then record m { read = false } ∷ ms else ms)
      go true = (h.0, h.1)
      go false = h.1

  early-at : (x : Stage) (p : Plain) (new : State) → new ≡ at x p → Early x p → Early new.stage new.plain
  early-at x p new e k = subst (λ z. Early z.stage z.plain) (sym e) k

  early-reading : (e : SideId) (answer : ReadAnswer) (ms : List Want) (p : Plain) → Each p ms → Early (after_reading e answer ms) p
  early-reading e (read.Got n) ms p h = h
  early-reading e read.Ended ms p h = h
  early-reading e read.NotYet ms p h = h
  early-reading e read.Failed ms p h = h

  served : (p q : Plain) (m : Want) (ms : List Want) → SameFrame p q → Each p (m ∷ ms) → Each q (marks_left p m ms)
  served p q m ms same h = each-same p q (marks_left p m ms) (by-frame p q same) (each-left p m ms h)

  begins-before : (ms : ℕ) (t : Trace) (p : Plain) → ((a : SideId) → IsBegun p.turn (side_at p a).limit) →
      AllBefore (time_passed g (past g (t ++ (entry.Turn ms, []) ∷ [])) (turned_to ms p))
  begins-before ms t p begun a =
      let q : Plain = time_passed g (past g (t ++ (entry.Turn ms, []) ∷ [])) (turned_to ms p) in
      let same = by-frame (turned_to ms p) q (frame-time_passed g (past g (t ++ (entry.Turn ms, []) ∷ [])) (turned_to ms p)) in
      before-same (p.turn + 1) q.turn (side_at p a).limit (side_at q a).limit same.turn (same.limits a)
      (later (side_at p a).limit (begun a))
    where
      later : (o : Option Standing) → IsBegun p.turn o → IsBefore (p.turn + 1) o
      later None h = tt
      later (Some y) h = omega (arith, h)

  put-early : (t : Trace) (x : Stage) (p : Plain) (e : Entry) (bytes : List ℕ) (new : State) → length p.sides ≡ 2 * p.opened →
      ((a : SideId) → IsBegun p.turn (side_at p a).limit) → Early x p → Puts g t x p e bytes new → Early new.stage new.plain
  put-early t Between p (entry.Turn ms) bytes new size begun k h = early-at Polling _ new h.3 (begins-before ms t p begun)
  put-early t Polling p (entry.Poll timeout) bytes new size begun k h = early-at _ p new h.2 k
  put-early t (Wanting (w ∷ ws)) p (entry.Want side r d) bytes new size begun k h = early-at (Wanting ws) p new h.2 k
  put-early t (Wanting []) p entry.PollFailed bytes new size begun k h = early-at _ p new h.1 tt
  put-early t (Marking (w ∷ ws) marks) p (entry.Ready side r d) bytes new size begun k h =
      let there : side.link < p.opened = subst (λ z. z.link < p.opened) (sym h.0) k.1.0 in
      early-at _ p new h.3 (k.0, k.1.1, there-append p marks _ k.2 (there, tt))
  put-early t (Accepting n marks) p (entry.Opened link connected) bytes new size begun k h =
      early-at (Accepting (n + 1) marks) (with_link g connected p) new h.4 (each-opened connected p marks size k)
  put-early t (Serving (m ∷ ms)) p (entry.Conn side answer) bytes new size begun k h =
      early-at (Serving (marks_left p m ms)) _ new h.3 (served p _ m ms (frame-conn g side answer p) k)
  put-early t (Serving (m ∷ ms)) p (entry.Read side room answer) bytes new size begun k h =
      early-at (after_reading side answer (marks_left p m ms)) _ new h.3
      (early-reading side answer (marks_left p m ms) _ (served p _ m ms (frame-read g side answer p) k))
  put-early t (Serving (m ∷ ms)) p (entry.Write side offered answer) bytes new size begun k h =
      early-at (Serving (marks_left p m ms)) _ new h.3 (served p _ m ms (frame-write g (past g t) side answer p) k)
  put-early t (Dispatching (r ∷ rs)) p (entry.Fired side y) bytes new size begun k h = early-at _ p new h.3 tt
  put-early t (Firing x rs) p (entry.Asked side a answer) bytes new size begun k h = early-at _ h.3 new h.5 (asks-late _ rs a answer h.3)
    where
      asks-late : (x : Fire) (rs : List Reason) (a : Act)
          (answer : AskAnswer) (p : Plain) → Early (after_ask x rs a answer) p
      asks-late x rs (act.Free e) ask.Ok p = tt
      asks-late x rs act.Stop ask.Ok p = tt
      asks-late x rs _ _ p = tt
  put-early t (Freeing gone x rs) p e bytes new size begun k h = early-at _ p new h.2 tt
  put-early t (Closing (c ∷ cs)) p e bytes new size begun k h = early-at _ _ new h.2 tt
  put-early t _ p e bytes new size begun k h = absurd h

  fire-late : (b : Bool) (link : ℕ) (rs : List Reason) (p : Plain) →
      Early (if b then Over (Halt.StoppedBy link) else Dispatching rs) p
  fire-late true link rs p = tt
  fire-late false link rs p = tt

  quiet-early : (t : Trace) (x : Stage) (p : Plain) (new : State) → length p.sides ≡ 2 * p.opened → Early x p → Quietly g t x p new →
      Early new.stage new.plain
  quiet-early t (Wanting []) p new size k h =
      early-at _ p new h (k, there-live p (wanted g (past g t) p) size (wanted-live g (past g t) p), tt)
  quiet-early t (Marking (w ∷ ws) marks) p new size k h = early-at _ p new h (k.0, k.1.1, k.2)
  quiet-early t (Marking [] marks) p new size k h = early-at _ p new h (each-both p marks k.0 k.2)
  quiet-early t (Accepting n marks) p new size k h = early-at (Serving marks) p new h k
  quiet-early t (Serving (m ∷ ms)) p new size k h = early-at (Serving (marks_left p m ms)) p new h.1 (each-left p m ms k)
  quiet-early t (Filtering e ms) p new size k h =
      early-at (Serving ms) (after_got g (past g t) e p) new h
      (each-same p (after_got g (past g t) e p) ms (by-quiet p (after_got g (past g t) e p) (kept-after_got g (past g t) e p)) k)
  quiet-early t (Serving []) p new size k h = early-at _ _ new h tt
  quiet-early t (Firing x rs) p new size k h = early-at _ p new h (fire-late x.stopped x.side.link rs p)
  quiet-early t (Dispatching []) p new size k h = early-at _ p new h tt
  quiet-early t (Passing [] (e ∷ es)) p new size k (inl h) = early-at _ p new h.1 tt
  quiet-early t (Passing [] (e ∷ es)) p new size k (inr h) = early-at _ p new h tt
  quiet-early t (Passing (x ∷ xs) (e ∷ es)) p new size k h = early-at _ _ new h tt
  quiet-early t (Passing [] []) p new size k h = early-at _ p new h tt
  quiet-early t (Closing (c ∷ cs)) p new size k h = early-at _ p new h.1 tt
  quiet-early t (Closing []) p new size k h = early-at _ p new h tt
  quiet-early t _ p new size k h = absurd h

  all-early : (t : Trace) (s : State) → Reaches g t s → Early s.stage s.plain
  all-early t s Reaches.begins = tt
  all-early t new (Reaches.goes {t = u} {s = old} r h) =
      quiet-early u old.stage old.plain new (rated g r).shape.sides (all-early u old r) h
  all-early t new (Reaches.puts {t = u} {s = old} e bytes r h) =
      put-early u old.stage old.plain e bytes new (rated g r).shape.sides (rated g r).begun (all-early u old r) h

  -- So the limit of a side that is served was set in a turn before that which runs.
  pub set-before : (t : Trace) (p : Plain) (m : Want) (ms : List Want) → Reaches g t (at (Serving (m ∷ ms)) p) → (y : Standing) →
      (side_at p m.side).limit ≡ Some y → (d : Dir) → y.turn < length (side_spells m.side d t)
  set-before t p m ms r y is d =
      let k : IsBefore p.turn (side_at p m.side).limit = (all-early t (at (Serving (m ∷ ms)) p) r).0.1 in
      let before : y.turn < p.turn = subst (IsBefore p.turn) is k in
      let turns = (rated g r).shape.turn in
      let many = spells-count m.side d t in
      omega (arith, before, turns, many)
