-- A link that was opened in a turn isn't read in it, as the marks of the turn name older links: so none of its ends has ended as the turn
-- ends.
use Rattle.std.proofs.Common.{◌≡◌, ℕ, ◌+◌, ◌<◌, ◌≤◌, Bool, true, false, ◌&&◌, not, if◌then◌else◌, List, [], ◌∷◌, ◌++◌, Some}
use Rattle.std.proofs.Common.{inl, inr, refl, sym, ◌∙◌, ap, subst, arith}
use Rattle.std.specs.List.{AllByRecursion}
use Rattle.std.proofs.lemmas.Bool.{or_from}
use Rattle.std.proofs.lemmas.List.Sums.{fold_push}
use Rattle.ev_types.specs.declared.side.SideId.{SideId}
use Rattle.ev_types.specs.declared.answer.ReadAnswer.{ReadAnswer}
use Rattle.ev_types.specs.declared.answer.ReadAnswer.TheVariants as read
use Rattle.ev_types.specs.declared.entry.Entry.{Entry}
use Rattle.ev_types.specs.declared.entry.Entry.TheVariants as entry
use Rattle.ev_types.specs.declared.why.Cause.TheVariants as cause
use Rattle.ev_types.specs.Sides.{same_end}
use Rattle.ev_types.specs.Trace.{Event, Trace}
use Rattle.relay_model.specs.Trace.{ended_by, has_ended}
use Rattle.relay_model.specs.Settings.{Settings}
use Rattle.relay_model.specs.Due.{Reason}
use Rattle.relay_model.specs.Plain.{Plain}
use Rattle.relay_model.specs.Past.{past}
use Rattle.relay_model.specs.Rooms.{Want, is_connecting}
use Rattle.relay_model.specs.Serve.{marks_left}
use Rattle.relay_model.specs.Close.{CloseStep, closing_entry, freed_entry}
use Rattle.relay_model.specs.Stages.{Stage, State, Fire, Halt, at, Between, Polling, Wanting, Marking, Accepting, Serving, Filtering}
use Rattle.relay_model.specs.Stages.{Dispatching}
use Rattle.relay_model.specs.Stages.{Firing, Freeing, Passing, Closing, Over}
use Rattle.relay_model.specs.Turn.{Puts, Quietly, Reaches, after_reading}
use Rattle.relay_model.specs.RatesKept.{is_turn}
use Rattle.relay_model.specs.Totals.{is_opened, opened, opened_by, opened_in_turn}
use Rattle.relay_model.specs.Told.{names}
use Rattle.relay_model.proofs.EndLemmas.{same_end-apart}
use Rattle.relay_model.proofs.PlacedLemmas.{live-there}
use Rattle.relay_model.proofs.KindLemmas.{PutKind, put-kind}
use Rattle.relay_model.proofs.EntryKinds.{is_ending, closed-ends}
use Rattle.relay_model.proofs.ToldLemmas.{Kept, kept, list_any-push, count_by-push, none_of, ended-names}

-- the marks that a stage has
abbrev pub marks-of : Stage → List Want
marks-of (Marking ws marks) = marks
marks-of (Accepting n marks) = marks
marks-of (Serving ms) = ms
marks-of (Filtering e ms) = ms
marks-of _ = []

-- a stage of a turn before any link is opened in it
abbrev pub is_early : Stage → Bool
is_early Polling = true
is_early (Wanting ws) = true
is_early (Marking ws marks) = true
is_early _ = false

-- all wants are of links that were there before the last ones, so many of all
abbrev pub Older : ℕ → ℕ → List Want → Type 0
Older n all ws = AllByRecursion (λ w. w.side.link + n < all) ws

-- What is kept along a run: no link was opened early in a turn, marks are of links that weren't opened in the turn, and no end of a link
-- that was opened in it has ended.
pub record Fresh (t : Trace) (x : Stage) : Type 0 where
  pub early : is_early x ≡ true → opened_in_turn t ≡ 0
  pub older : Older (opened_in_turn t) (opened t) (marks-of x)
  pub unread : (z : SideId) → opened t ≤ z.link + opened_in_turn t → has_ended z t ≡ false

-- Events that neither begin a turn nor open a link, nor end an end

record IsCalm (y : Event) : Type 0 where
  turn : is_turn y ≡ false
  opens : is_opened y ≡ false
  ends : (z : SideId) → ended_by z y ≡ false

same-in_turn : (n : ℕ) (y : Event) → is_turn y ≡ false → is_opened y ≡ false → opened_by n y ≡ n
same-in_turn n (entry.Turn ms, bytes) h k = absurd (cc)
same-in_turn n (entry.Opened link connected, bytes) h k = absurd (cc)
same-in_turn n _ h k = refl

nothing-more : (n : ℕ) (b : Bool) → b ≡ false → n + (if b then 1 else 0) ≡ n
nothing-more n false h = omega arith
nothing-more n true h = absurd (cc)

ending-calm : (y : Event) → is_ending y.0 ≡ true → IsCalm y
ending-calm (entry.Freed side why moved given, bytes) h = record { turn = refl; opens = refl; ends = λ z. refl }
ending-calm (entry.CloseWrite side, bytes) h = record { turn = refl; opens = refl; ends = λ z. refl }
ending-calm (entry.Close side, bytes) h = record { turn = refl; opens = refl; ends = λ z. refl }
ending-calm _ h = absurd (cc)

abbrev MarksStay : Stage → Stage → Type 0
MarksStay x after = (n all : ℕ) → Older n all (marks-of x) → Older n all (marks-of after)

none-stay : (x after : Stage) → marks-of after ≡ [] → MarksStay x after
none-stay x after none n all h = subst (Older n all) (sym none) tt

-- what may stand behind an event that ends no end of a new link
still-push : (t : Trace) (y : Event) (x after : Stage) → is_turn y ≡ false → is_opened y ≡ false →
    ((z : SideId) → opened t ≤ z.link + opened_in_turn t → ended_by z y ≡ false) → MarksStay x after →
    (is_early after ≡ true → is_early x ≡ true) → Fresh t x → Fresh (t ++ y ∷ []) after
still-push t y x after turn opens ends marks early f = record {
  early = λ h. in_turn ∙ f.early (early h);
  older = subst (λ n. Older n (opened (t ++ y ∷ [])) (marks-of after)) (sym in_turn)
      (subst (λ all. Older (opened_in_turn t) all (marks-of after)) (sym all) (marks (opened_in_turn t) (opened t) f.older));
  unread = λ z h.
      (let le : opened t ≤ z.link + opened_in_turn t = omega (arith, h, in_turn, all) in
      list_any-push (ended_by z) t y ∙ or_from (has_ended z t) (ended_by z y) (f.unread z le) (ends z le));
}
  where
    in_turn : opened_in_turn (t ++ y ∷ []) ≡ opened_in_turn t
    in_turn = fold_push opened_by 0 t y ∙ same-in_turn (opened_in_turn t) y turn opens

    all : opened (t ++ y ∷ []) ≡ opened t
    all = count_by-push is_opened t y ∙ nothing-more (opened t) (is_opened y) opens

calm-push : (t : Trace) (y : Event) (x after : Stage) → IsCalm y → MarksStay x after → (is_early after ≡ true → is_early x ≡ true) →
    Fresh t x → Fresh (t ++ y ∷ []) after
calm-push t y x after c marks early f = still-push t y x after c.turn c.opens (λ z h. c.ends z) marks early f

quiet-on : (t : Trace) (x after : Stage) → MarksStay x after → (is_early after ≡ true → is_early x ≡ true) → Fresh t x → Fresh t after
quiet-on t x after marks early f = record {
  early = λ h. f.early (early h);
  older = marks (opened_in_turn t) (opened t) f.older;
  unread = f.unread;
}

left-older : (n all : ℕ) (s : Plain) (m : Want) (ms : List Want) → Older n all (m ∷ ms) → Older n all (marks_left s m ms)
left-older n all s m ms h = go (not (is_connecting s m.side) && m.read)
  where
    go : (b : Bool) → Older n all (if b then record m { read = false } ∷ ms else ms)
    go true = (h.0, h.1)
    go false = h.1

older-push : (n all : ℕ) (ws : List Want) (w : Want) → Older n all ws → w.side.link + n < all → Older n all (ws ++ w ∷ [])
older-push n all [] w h k = (k, tt)
older-push n all (v ∷ ws) w h k = (h.0, older-push n all ws w h.1 k)

older-more : (n all : ℕ) (ws : List Want) → Older n all ws → Older (n + 1) (all + 1) ws
older-more n all [] h = tt
older-more n all (w ∷ ws) h = ((let a = h.0 in omega (arith, a)), older-more n all ws h.1)

-- a turn begins
turn-fresh : (g : Settings) (t : Trace) (s : Plain) (ms : ℕ) (bytes : List ℕ) → Reaches g t (at Between s) →
    Fresh (t ++ (entry.Turn ms, bytes) ∷ []) Polling
turn-fresh g t s ms bytes r = record {
  early = λ h. in_turn;
  older = tt;
  unread = λ z h.
      (let le : s.opened ≤ z.link = (let a = k.counts.shape.opened in omega (arith, h, in_turn, all, a)) in
      list_any-push (ended_by z) t (entry.Turn ms, bytes)
      ∙ or_from (has_ended z t) false (none_of (names z) (ended_by z) (ended-names z) t (k.counts.named z le)) refl);
}
  where
    k : Kept g t Between s
    k = kept g t (at Between s) r

    in_turn : opened_in_turn (t ++ (entry.Turn ms, bytes) ∷ []) ≡ 0
    in_turn = fold_push opened_by 0 t (entry.Turn ms, bytes)

    all : opened (t ++ (entry.Turn ms, bytes) ∷ []) ≡ opened t
    all = count_by-push is_opened t (entry.Turn ms, bytes) ∙ (omega arith)

-- a side is marked that is wanted, and so of a link that was opened before the turn
ready-fresh : (g : Settings) (t : Trace) (s : Plain) (w : Want) (ws marks : List Want) (side : SideId) (rd wr : Bool) (bytes : List ℕ) →
    Reaches g t (at (Marking (w ∷ ws) marks) s) → side ≡ w.side → Fresh t (Marking (w ∷ ws) marks) →
    Fresh (t ++ (entry.Ready side rd wr, bytes) ∷ []) (Marking ws (marks ++ record { side = side; read = rd; write = wr } ∷ []))
ready-fresh g t s w ws marks side rd wr bytes r same f =
    calm-push t (entry.Ready side rd wr, bytes) (Marking (w ∷ ws) (marks ++ m ∷ [])) (Marking ws (marks ++ m ∷ []))
    (record { turn = refl; opens = refl; ends = λ z. refl }) (λ n all h. h) (λ h. refl)
    (record { early = f.early; older = older-push (opened_in_turn t) (opened t) marks m f.older older; unread = f.unread })
  where
    m : Want
    m = record { side = side; read = rd; write = wr }

    k : Kept g t (Marking (w ∷ ws) marks) s
    k = kept g t (at (Marking (w ∷ ws) marks) s) r

    older : m.side.link + opened_in_turn t < opened t
    older =
        let a = live-there s w.side k.counts.shape.sides k.placed.0 in
        let b = k.counts.shape.opened in
        let c = f.early refl in
        let d : m.side.link ≡ w.side.link = ap (λ v. v.link) same in
        omega (arith, a, b, c, d)

-- a link is opened
opened-fresh : (t : Trace) (n link : ℕ) (connected : Bool) (bytes : List ℕ) (marks : List Want) → Fresh t (Accepting n marks) →
    Fresh (t ++ (entry.Opened link connected, bytes) ∷ []) (Accepting (n + 1) marks)
opened-fresh t n link connected bytes marks f = record {
  early = λ h. absurd (cc);
  older = subst (λ m. Older m (opened (t ++ y ∷ [])) marks) (sym in_turn)
      (subst (λ all. Older (opened_in_turn t + 1) all marks) (sym all) (older-more (opened_in_turn t) (opened t) marks f.older));
  unread = λ z h.
      (let le : opened t ≤ z.link + opened_in_turn t = omega (arith, h, in_turn, all) in
      list_any-push (ended_by z) t y ∙ or_from (has_ended z t) false (f.unread z le) refl);
}
  where
    y : Event
    y = (entry.Opened link connected, bytes)

    in_turn : opened_in_turn (t ++ y ∷ []) ≡ opened_in_turn t + 1
    in_turn = fold_push opened_by 0 t y

    all : opened (t ++ y ∷ []) ≡ opened t + 1
    all = count_by-push is_opened t y

-- a side is read that is marked, and so of an older link
read-fresh : (t : Trace) (s : Plain) (m : Want) (ms : List Want) (room : ℕ) (answer : ReadAnswer) (bytes : List ℕ) →
    Fresh t (Serving (m ∷ ms)) →
    Fresh (t ++ (entry.Read m.side room answer, bytes) ∷ []) (after_reading m.side answer (marks_left s m ms))
read-fresh t s m ms room answer bytes f = go answer
  where
    stay : (n all : ℕ) → Older n all (m ∷ ms) → Older n all (marks_left s m ms)
    stay n all h = left-older n all s m ms h

    apart : (z : SideId) → opened t ≤ z.link + opened_in_turn t → same_end m.side z ≡ false
    apart z h = same_end-apart m.side z z.link (let a = f.older.0 in omega (arith, a, h)) (omega arith)

    go : (answer : ReadAnswer) →
        Fresh (t ++ (entry.Read m.side room answer, bytes) ∷ []) (after_reading m.side answer (marks_left s m ms))
    go (read.Got n) =
        still-push t (entry.Read m.side room (read.Got n), bytes) (Serving (m ∷ ms)) (Filtering m.side (marks_left s m ms)) refl refl
        (λ z h. refl) stay (λ h. absurd (cc)) f
    go read.Ended =
        still-push t (entry.Read m.side room read.Ended, bytes) (Serving (m ∷ ms)) (Serving (marks_left s m ms)) refl refl
        (λ z h. apart z h) stay (λ h. absurd (cc)) f
    go read.NotYet =
        still-push t (entry.Read m.side room read.NotYet, bytes) (Serving (m ∷ ms)) (Serving (marks_left s m ms)) refl refl
        (λ z h. refl) stay (λ h. absurd (cc)) f
    go read.Failed =
        still-push t (entry.Read m.side room read.Failed, bytes) (Serving (m ∷ ms)) (Serving (marks_left s m ms)) refl refl
        (λ z h. refl) stay (λ h. absurd (cc)) f

-- a hook asks
fired-fresh : (g : Settings) (t : Trace) (s : Plain) (x : Fire) (rs : List Reason) (y : Event) (new : State) →
    PutKind g t s (Firing x rs) y new → Fresh t (Firing x rs) → Fresh (t ++ y ∷ []) new.stage
fired-fresh g t s x rs y new (PutKind.frees {next = next} {left = left} {gone = gone} a same) f =
    calm-push t y (Firing x rs) (Freeing gone next left) (record { turn = refl; opens = refl; ends = λ z. refl }) (λ n all h. tt)
    (λ h. absurd (cc)) f
fired-fresh g t s x rs y new (PutKind.asked {next = next} {left = left} same k l) f =
    calm-push t y (Firing x rs) (Firing next left) (record { turn = refl; opens = refl; ends = λ z. refl }) (λ n all h. tt)
    (λ h. absurd (cc)) f

closed-ending : (g : Settings) (t : Trace) (s : Plain) (c : CloseStep) (y : Entry) → closing_entry g (past g t) s c ≡ Some y →
    is_ending y ≡ true
closed-ending g t s c y h = go (is_ending y) refl
  where
    go : (b : Bool) → is_ending y ≡ b → is_ending y ≡ true
    go true e = e
    go false e = absurd (closed-ends g (past g t) s c y h e)

put-fresh : (g : Settings) (t : Trace) (x : Stage) (s : Plain) (e : Entry) (bytes : List ℕ) (new : State) → Reaches g t (at x s) →
    Fresh t x → Puts g t x s e bytes new → Fresh (t ++ (e, bytes) ∷ []) new.stage
put-fresh g t Between s (entry.Turn ms) bytes new r f p =
    subst (λ (v : State). Fresh (t ++ (entry.Turn ms, bytes) ∷ []) v.stage) (sym p.3) (turn-fresh g t s ms bytes r)
put-fresh g t Polling s (entry.Poll timeout) bytes new r f p =
    subst (λ (v : State). Fresh (t ++ (entry.Poll timeout, bytes) ∷ []) v.stage) (sym p.2)
    (calm-push t (entry.Poll timeout, bytes) Polling _ (record { turn = refl; opens = refl; ends = λ z. refl }) (λ n all h. tt)
    (λ h. refl) f)
put-fresh g t (Wanting (w ∷ ws)) s (entry.Want side rd wr) bytes new r f p =
    subst (λ (v : State). Fresh (t ++ (entry.Want side rd wr, bytes) ∷ []) v.stage) (sym p.2)
    (calm-push t (entry.Want side rd wr, bytes) (Wanting (w ∷ ws)) (Wanting ws) (record { turn = refl; opens = refl; ends = λ z. refl })
    (λ n all h. tt) (λ h. refl) f)
put-fresh g t (Wanting []) s entry.PollFailed bytes new r f p =
    subst (λ (v : State). Fresh (t ++ (entry.PollFailed, bytes) ∷ []) v.stage) (sym p.1)
    (calm-push t (entry.PollFailed, bytes) (Wanting []) _ (record { turn = refl; opens = refl; ends = λ z. refl }) (λ n all h. tt)
    (λ h. absurd (cc)) f)
put-fresh g t (Marking (w ∷ ws) marks) s (entry.Ready side rd wr) bytes new r f p =
    subst (λ (v : State). Fresh (t ++ (entry.Ready side rd wr, bytes) ∷ []) v.stage) (sym p.3)
    (ready-fresh g t s w ws marks side rd wr bytes r p.0 f)
put-fresh g t (Accepting n marks) s (entry.Opened link connected) bytes new r f p =
    subst (λ (v : State). Fresh (t ++ (entry.Opened link connected, bytes) ∷ []) v.stage) (sym p.4)
    (opened-fresh t n link connected bytes marks f)
put-fresh g t (Serving (m ∷ ms)) s (entry.Conn side answer) bytes new r f p =
    subst (λ (v : State). Fresh (t ++ (entry.Conn side answer, bytes) ∷ []) v.stage) (sym p.3)
    (calm-push t (entry.Conn side answer, bytes) (Serving (m ∷ ms)) (Serving (marks_left s m ms))
    (record { turn = refl; opens = refl; ends = λ z. refl }) (λ n all h. left-older n all s m ms h) (λ h. absurd (cc)) f)
put-fresh g t (Serving (m ∷ ms)) s (entry.Read side room answer) bytes new r f p =
    subst (λ (v : State). Fresh (t ++ (entry.Read side room answer, bytes) ∷ []) v.stage) (sym p.3)
    (subst (λ e. Fresh (t ++ (entry.Read e room answer, bytes) ∷ []) (after_reading e answer (marks_left s m ms))) (sym p.0)
    (read-fresh t s m ms room answer bytes f))
put-fresh g t (Serving (m ∷ ms)) s (entry.Write side offered answer) bytes new r f p =
    subst (λ (v : State). Fresh (t ++ (entry.Write side offered answer, bytes) ∷ []) v.stage) (sym p.3)
    (calm-push t (entry.Write side offered answer, bytes) (Serving (m ∷ ms)) (Serving (marks_left s m ms))
    (record { turn = refl; opens = refl; ends = λ z. refl }) (λ n all h. left-older n all s m ms h) (λ h. absurd (cc)) f)
put-fresh g t (Dispatching (x ∷ rs)) s (entry.Fired side y) bytes new r f p =
    subst (λ (v : State). Fresh (t ++ (entry.Fired side y, bytes) ∷ []) v.stage) (sym p.3)
    (calm-push t (entry.Fired side y, bytes) (Dispatching (x ∷ rs)) _ (record { turn = refl; opens = refl; ends = λ z. refl })
    (λ n all h. tt) (λ h. absurd (cc)) f)
put-fresh g t (Firing x rs) s (entry.Asked side a answer) bytes new r f p =
    fired-fresh g t s x rs (entry.Asked side a answer, bytes) new
    (put-kind g t (Firing x rs) s (entry.Asked side a answer) bytes new (kept g t (at (Firing x rs) s) r).placed p) f
put-fresh g t (Freeing gone x rs) s e bytes new r f p =
    subst (λ (v : State). Fresh (t ++ (e, bytes) ∷ []) v.stage) (sym p.2)
    (subst (λ v. Fresh (t ++ (v, bytes) ∷ []) (Firing x rs)) (sym p.0)
    (calm-push t (freed_entry s gone cause.Hook, bytes) (Freeing gone x rs) (Firing x rs)
    (record { turn = refl; opens = refl; ends = λ z. refl }) (λ n all h. tt) (λ h. absurd (cc)) f))
put-fresh g t (Closing (c ∷ cs)) s e bytes new r f p =
    subst (λ (v : State). Fresh (t ++ (e, bytes) ∷ []) v.stage) (sym p.2)
    (calm-push t (e, bytes) (Closing (c ∷ cs)) _ (ending-calm (e, bytes) (closed-ending g t s c e p.0)) (λ n all h. tt)
    (λ h. absurd (cc)) f)
put-fresh g t x s e bytes new r f p = absurd p

quiet-fresh : (g : Settings) (t : Trace) (x : Stage) (s : Plain) (new : State) → Fresh t x → Quietly g t x s new → Fresh t new.stage
quiet-fresh g t (Wanting []) s new f q =
    subst (λ (v : State). Fresh t v.stage) (sym q) (quiet-on t (Wanting []) _ (λ n all h. tt) (λ h. refl) f)
quiet-fresh g t (Marking (w ∷ ws) marks) s new f q =
    subst (λ (v : State). Fresh t v.stage) (sym q) (quiet-on t (Marking (w ∷ ws) marks) (Marking ws marks) (λ n all h. h) (λ h. refl) f)
quiet-fresh g t (Marking [] marks) s new f q =
    subst (λ (v : State). Fresh t v.stage) (sym q) (quiet-on t (Marking [] marks) (Accepting 0 marks) (λ n all h. h) (λ h. refl) f)
quiet-fresh g t (Accepting n marks) s new f q =
    subst (λ (v : State). Fresh t v.stage) (sym q) (quiet-on t (Accepting n marks) (Serving marks) (λ n all h. h) (λ h. absurd (cc)) f)
quiet-fresh g t (Serving (m ∷ ms)) s new f q =
    subst (λ (v : State). Fresh t v.stage) (sym q.1)
    (quiet-on t (Serving (m ∷ ms)) (Serving (marks_left s m ms)) (λ n all h. left-older n all s m ms h) (λ h. absurd (cc)) f)
quiet-fresh g t (Filtering e ms) s new f q =
    subst (λ (v : State). Fresh t v.stage) (sym q) (quiet-on t (Filtering e ms) (Serving ms) (λ n all h. h) (λ h. absurd (cc)) f)
quiet-fresh g t (Serving []) s new f q =
    subst (λ (v : State). Fresh t v.stage) (sym q) (quiet-on t (Serving []) _ (λ n all h. tt) (λ h. absurd (cc)) f)
quiet-fresh g t (Firing x rs) s new f q = subst (λ (v : State). Fresh t v.stage) (sym q) (go x.stopped)
  where
    go : (b : Bool) → Fresh t (if b then Over (Halt.StoppedBy x.side.link) else Dispatching rs)
    go true = quiet-on t (Firing x rs) _ (λ n all h. tt) (λ h. absurd (cc)) f
    go false = quiet-on t (Firing x rs) _ (λ n all h. tt) (λ h. absurd (cc)) f
quiet-fresh g t (Dispatching []) s new f q =
    subst (λ (v : State). Fresh t v.stage) (sym q) (quiet-on t (Dispatching []) _ (λ n all h. tt) (λ h. absurd (cc)) f)
quiet-fresh g t (Passing [] (e ∷ es)) s new f (inl q) =
    subst (λ (v : State). Fresh t v.stage) (sym q.1) (quiet-on t (Passing [] (e ∷ es)) _ (λ n all h. tt) (λ h. absurd (cc)) f)
quiet-fresh g t (Passing [] (e ∷ es)) s new f (inr q) =
    subst (λ (v : State). Fresh t v.stage) (sym q) (quiet-on t (Passing [] (e ∷ es)) _ (λ n all h. tt) (λ h. absurd (cc)) f)
quiet-fresh g t (Passing (x ∷ xs) (e ∷ es)) s new f q =
    subst (λ (v : State). Fresh t v.stage) (sym q) (quiet-on t (Passing (x ∷ xs) (e ∷ es)) _ (λ n all h. tt) (λ h. absurd (cc)) f)
quiet-fresh g t (Passing [] []) s new f q =
    subst (λ (v : State). Fresh t v.stage) (sym q) (quiet-on t (Passing [] []) _ (λ n all h. tt) (λ h. absurd (cc)) f)
quiet-fresh g t (Closing (c ∷ cs)) s new f q =
    subst (λ (v : State). Fresh t v.stage) (sym q.1) (quiet-on t (Closing (c ∷ cs)) _ (λ n all h. tt) (λ h. absurd (cc)) f)
quiet-fresh g t (Closing []) s new f q =
    subst (λ (v : State). Fresh t v.stage) (sym q) (quiet-on t (Closing []) Between (λ n all h. tt) (λ h. absurd (cc)) f)
quiet-fresh g t x s new f q = absurd q

pub fresh-links : (g : Settings) (t : Trace) (s : State) → Reaches g t s → Fresh t s.stage
fresh-links g t s (Reaches.begins) = record { early = λ h. refl; older = tt; unread = λ z h. refl }
fresh-links g t new (Reaches.goes {s = old} r q) = quiet-fresh g t old.stage old.plain new (fresh-links g t old r) q
fresh-links g t new (Reaches.puts {t = u} {s = old} e bytes r p) =
    put-fresh g u old.stage old.plain e bytes new r (fresh-links g u old r) p
