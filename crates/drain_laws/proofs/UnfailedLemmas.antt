-- In a run over a script that can be drained no end fails; and where an end has ended, all that the script brings in there was read.
use Rattle.std.proofs.Common.{◌≡◌, ℕ, min, Bool, true, false, ◌&&◌, ◌||◌, not, nat_le, if◌then◌else◌, List, [], ◌∷◌, ◌++◌, length}
use Rattle.std.proofs.Common.{take, drop, fold, Option, Some, None, inl, inr, refl, sym, ◌∙◌, ap, subst, arith, append_assoc}
use Rattle.std.specs.List.{flat_map, list_any}
use Rattle.std.proofs.lemmas.Bool.{or_from, or_parts, or_left, or_right}
use Rattle.std.proofs.lemmas.Grind.{flat_map-append}
use Rattle.std.proofs.lemmas.List.{append-nil, take-append-drop}
use Rattle.std.proofs.lemmas.List.Folds.{list_any-append}
use Rattle.ev_types.specs.declared.side.SideId.{SideId}
use Rattle.ev_types.specs.declared.answer.ConnAnswer.TheVariants as conn
use Rattle.ev_types.specs.declared.answer.ReadAnswer.{ReadAnswer}
use Rattle.ev_types.specs.declared.answer.ReadAnswer.TheVariants as read
use Rattle.ev_types.specs.declared.answer.WriteAnswer.{WriteAnswer}
use Rattle.ev_types.specs.declared.answer.WriteAnswer.TheVariants as write
use Rattle.ev_types.specs.declared.entry.Entry.{Entry}
use Rattle.ev_types.specs.declared.entry.Entry.TheVariants as entry
use Rattle.ev_types.specs.declared.turn_line.TurnLine.{TurnLine}
use Rattle.ev_types.specs.Sides.{same_end}
use Rattle.ev_types.specs.ScriptTurn.{ScriptTurn, lines_of}
use Rattle.ev_types.specs.Trace.{Event, Trace}
use Rattle.relay_model.specs.Trace.{ended_by, bytes_read, has_ended}
use Rattle.relay_model.specs.Settings.{Settings}
use Rattle.relay_model.specs.Rooms.{Want, at_most}
use Rattle.relay_model.specs.Lines.{decides, brings, fails_reads, fails_writes}
use Rattle.relay_model.specs.MovingOn.{is_call}
use Rattle.relay_model.specs.Told.{failed_by, has_failed}
use Rattle.relay_model.specs.Totals.{opened, is_made_connected}
use Rattle.relay_model.specs.Scripted.{first_or, decided_answer, begun, lines, is_closing, waiting, is_undecided, decision, pending}
use Rattle.relay_model.specs.Scripted.{is_ended, reads_fail, may_take, writes_fail, poll_fails, marks}
use Rattle.relay_model.specs.Plays.{PlayStep, want_events, ready_events, accepted, own_events, events, IsAnswered}
use Rattle.relay_model.proofs.EndLemmas.{same_end-eq}
use Rattle.relay_model.proofs.ListEnds.{cons-head, cons-tail, append-empty, split-at_one}
use Rattle.relay_model.proofs.PlayedLemmas.{answers_go_on}
use Rattle.relay_model.proofs.PlayedReads.{reads_what_comes}
use Rattle.relay_model.proofs.ToldLemmas.{none_of}
use Rattle.relay_model.proofs.TraceLemmas.{bytes_read-append}
use Rattle.drain_laws.specs.CanDrain.{CanDrain, brought_at, NoneBehind}

-- Lists

-- where an event of a trace passes a test
pub record Found (p : Event → Bool) (t : Trace) : Type 0 where
  pub before : Trace
  pub event : Event
  pub after : Trace
  pub is : t ≡ before ++ event ∷ after
  pub passes : p event ≡ true

pub found : (p : Event → Bool) (t : Trace) → list_any p t ≡ true → Found p t
found p [] h = absurd (cc)
found p (y ∷ t) h = go (p y) refl (λ k. found p t k) h
  where
    go : (b : Bool) → p y ≡ b → (list_any p t ≡ true → Found p t) → (b || list_any p t) ≡ true → Found p (y ∷ t)
    go true e rest k = record { before = []; event = y; after = t; is = refl; passes = e }
    go false e rest k =
        let f = rest k in
        record { before = y ∷ f.before; event = f.event; after = f.after; is = ap (λ z. y ∷ z) f.is; passes = f.passes }

-- an event that passes makes the whole pass
pub any-there : (p : Event → Bool) (t before after : Trace) (y : Event) → t ≡ before ++ y ∷ after → p y ≡ true → list_any p t ≡ true
any-there p t before after y is h =
    ap (list_any p) is ∙ list_any-append p before (y ∷ after)
    ∙ or_right (list_any p before) (p y || list_any p after) (or_left (p y) (list_any p after) h)

-- of two lists in a row, an event that passes stands in the first where none does in the second
cut-at : (p : Event → Bool) (xs ys zs : Trace) (z : Event) (ws : Trace) → list_any p ys ≡ false → p z ≡ true → xs ++ ys ≡ zs ++ z ∷ ws →
    (part : Trace) × (xs ≡ zs ++ z ∷ part)
cut-at p [] ys zs z ws none passes h = absurd (let a = any-there p ys zs ws z h passes in cc)
cut-at p (x ∷ xs) ys [] z ws none passes h = (xs, ap (λ v. v ∷ xs) (cons-head x z (xs ++ ys) ws h))
cut-at p (x ∷ xs) ys (c ∷ zs) z ws none passes h =
    let k = cut-at p xs ys zs z ws none passes (cons-tail x c (xs ++ ys) (zs ++ z ∷ ws) h) in
    (k.0, (λ i. cons-head x c (xs ++ ys) (zs ++ z ∷ ws) h i ∷ k.1 i))

-- no line of the first ones passes where none of all does
none-first : {A : Type 0} (p : A → Bool) (xs ys zs : List A) → zs ≡ xs ++ ys → list_any p zs ≡ false → list_any p xs ≡ false
none-first p xs ys zs is h = (or_parts (list_any p xs) (list_any p ys) (sym (list_any-append p xs ys) ∙ ap (list_any p) (sym is) ∙ h)).0

nothing-more : (xs ys : List ℕ) → xs ++ ys ≡ xs → ys ≡ []
nothing-more [] ys h = h
nothing-more (x ∷ xs) ys h = nothing-more xs ys (cons-tail x x (xs ++ ys) xs h)

front-empty : (xs ys : List ℕ) → xs ++ ys ≡ [] → xs ≡ []
front-empty [] ys h = refl
front-empty (x ∷ xs) ys h = absurd (cc)

none-left : (xs : List ℕ) → nat_le 1 (length xs) ≡ false → xs ≡ []
none-left [] h = refl
none-left (x ∷ xs) h = absurd (grind arith)

and-no : (a b : Bool) → b ≡ false → (a && b) ≡ false
and-no true b h = h
and-no false b h = refl

-- Of calls alone

failed-called : (e : SideId) (y : Event) → is_call y ≡ false → failed_by e y ≡ false
failed-called e (entry.Conn side answer, bytes) h = absurd (cc)
failed-called e (entry.Read side room answer, bytes) h = absurd (cc)
failed-called e (entry.Write side offered answer, bytes) h = absurd (cc)
failed-called e _ h = refl

ended-called : (e : SideId) (y : Event) → is_call y ≡ false → ended_by e y ≡ false
ended-called e (entry.Read side room answer, bytes) h = absurd (cc)
ended-called e _ h = refl

uncalled-wants : (ws : List Want) → (list_any is_call (want_events ws) ≡ false) × (list_any is_call (ready_events ws) ≡ false)
uncalled-wants [] = (refl, refl)
uncalled-wants (w ∷ ws) = uncalled-wants ws

uncalled-accepted : (link : ℕ) (ws : List Bool) → list_any is_call (accepted link ws) ≡ false
uncalled-accepted link [] = refl
uncalled-accepted link (w ∷ ws) = refl

uncalled-own : (x : Entry) → list_any is_call (own_events x) ≡ false
uncalled-own (entry.Fired side why) = refl
uncalled-own (entry.Asked side act answer) = refl
uncalled-own (entry.Freed side cause moved given) = refl
uncalled-own (entry.CloseWrite side) = refl
uncalled-own (entry.Close side) = refl
uncalled-own _ = refl

first-none : (o : Option Bool) (xs : List Bool) → (o ≡ Some false → ⊥) → list_any not xs ≡ false → first_or o xs ≡ Some false → ⊥
first-none o [] n h k = n k
first-none o (true ∷ xs) n h k = cc
first-none o (false ∷ xs) n h k = cc

module _ (g : Settings) (turns : List ScriptTurn) (step : ℕ) (can : CanDrain g turns) (ordered : NoneBehind (lines_of turns)) where
  uncalled-poll : (t : Trace) (timeout : Option ℕ) (wants : List Want) →
      list_any is_call (events turns step t (PlayStep.Poll timeout wants)) ≡ false
  uncalled-poll t timeout wants =
      list_any-append is_call (want_events wants) (tail-of (poll_fails turns t))
      ∙ (λ i. (uncalled-wants wants).0 i || tail-uncalled (poll_fails turns t) i)
    where
      tail-of : Bool → Trace
      tail-of b = if b then (entry.PollFailed, []) ∷ [] else ready_events (marks turns t wants)

      tail-uncalled : (b : Bool) → list_any is_call (tail-of b) ≡ false
      tail-uncalled true = refl
      tail-uncalled false = (uncalled-wants (marks turns t wants)).1

  -- The lines so far

  abbrev rest_of : Trace → List TurnLine
  rest_of t = flat_map (λ turn. turn.1) (drop (begun turns t) turns)

  -- the lines so far are the first of all
  lines-first : (t : Trace) → lines_of turns ≡ lines turns t ++ rest_of t
  lines-first t =
      ap (λ ts. flat_map (λ (turn : ScriptTurn). turn.1) ts) (sym (take-append-drop (begun turns t) turns))
      ∙ flat_map-append (λ (turn : ScriptTurn). turn.1) (take (begun turns t) turns) (drop (begun turns t) turns)

  none-so_far : (p : TurnLine → Bool) (t : Trace) → list_any p (lines_of turns) ≡ false → list_any p (lines turns t) ≡ false
  none-so_far p t h = none-first p (lines turns t) (rest_of t) (lines_of turns) (lines-first t) h

  none-refused : (t : Trace) (link : ℕ) → list_any not (flat_map (decides link) (lines turns t)) ≡ false
  none-refused t link =
      none-first not (flat_map (decides link) (lines turns t)) (flat_map (decides link) (rest_of t))
      (flat_map (decides link) (lines_of turns))
      (ap (flat_map (decides link)) (lines-first t) ∙ flat_map-append (decides link) (lines turns t) (rest_of t))
      (can.drainable.none_is_refused link)

  brought-first : (t : Trace) (e : SideId) →
      brought_at turns e ≡ flat_map (brings e) (lines turns t) ++ flat_map (brings e) (rest_of t)
  brought-first t e = ap (flat_map (brings e)) (lines-first t) ∙ flat_map-append (brings e) (lines turns t) (rest_of t)

  -- No end fails

  abbrev pub Unfailed : Trace → Type 0
  Unfailed t = (e : SideId) → has_failed e t ≡ false

  unfailed-more : (t added : Trace) → Unfailed t → Unfailed added → Unfailed (t ++ added)
  unfailed-more t added h k e = list_any-append (failed_by e) t added ∙ or_from (has_failed e t) (has_failed e added) (h e) (k e)

  unfailed-uncalled : (added : Trace) → list_any is_call added ≡ false → Unfailed added
  unfailed-uncalled added h e = none_of is_call (failed_by e) (failed-called e) added h

  not-refused : (t : Trace) (side : SideId) → decision turns t side ≡ Some false → ⊥
  not-refused t side h =
      first-none (if is_closing turns t then Some true else None) (flat_map (decides side.link) (lines turns t))
      (go (is_closing turns t)) (none-refused t side.link) h
    where
      go : (b : Bool) → (if b then Some true else None) ≡ Some false → ⊥
      go true k = cc
      go false k = cc

  checked : (t : Trace) (side : SideId) → Unfailed (events turns step t (PlayStep.Check side))
  checked t side e = go (is_undecided turns t side) (decision turns t side) (is_made_connected side t) (not-refused t side)
    where
      go : (a : Bool) (o : Option Bool) (b : Bool) → (o ≡ Some false → ⊥) →
          has_failed e ((entry.Conn side (if a then decided_answer o else (if b then conn.Connected else conn.Pending)), []) ∷ []) ≡ false
      go true (Some true) b h = refl
      go true (Some false) b h = absurd (h refl)
      go true None b h = refl
      go false o true h = refl
      go false o false h = refl

  -- what a read is answered
  abbrev got : Trace → SideId → ℕ → Bool → Bool → Bool → ReadAnswer × List ℕ
  got t side room some fails over =
      if some then (read.Got (min room (length (pending turns t side))), take room (pending turns t side))
      else (if fails then (read.Failed, []) else (if over then (read.Ended, []) else (read.NotYet, [])))

  was_read : (t : Trace) (side : SideId) (room : ℕ) → Unfailed (events turns step t (PlayStep.Read side room))
  was_read t side room e =
      go (nat_le 1 (length (pending turns t side))) (reads_fail turns t side) (is_ended turns t side)
      (none-so_far (fails_reads side) t (can.drainable.no_read_fails side))
    where
      go : (some fails over : Bool) → fails ≡ false →
          has_failed e ((entry.Read side room (got t side room some fails over).0, (got t side room some fails over).1) ∷ []) ≡ false
      go true fails over h = refl
      go false true over h = absurd (cc)
      go false false true h = refl
      go false false false h = refl

  was_written : (t : Trace) (side : SideId) (offered : List ℕ) → Unfailed (events turns step t (PlayStep.Write side offered))
  was_written t side offered e =
      go (at_most (may_take turns t side) (length offered)) (nat_le 1 (at_most (may_take turns t side) (length offered)))
      (writes_fail turns t side)
      (and-no (not (is_closing turns t)) (list_any (fails_writes side) (lines turns t))
      (none-so_far (fails_writes side) t (can.no_write_fails side)))
    where
      pair : ℕ → Bool → Bool → WriteAnswer × List ℕ
      pair n some fails =
          if some then (write.Took n, take n offered) else (if fails then (write.Failed, []) else (write.NotYet, []))

      go : (n : ℕ) (some fails : Bool) → fails ≡ false →
          has_failed e ((entry.Write side (length offered) (pair n some fails).0, (pair n some fails).1) ∷ []) ≡ false
      go n true fails h = refl
      go n false true h = absurd (cc)
      go n false false h = refl

  step-unfailed : (t : Trace) (x : PlayStep) → Unfailed (events turns step t x)
  step-unfailed t PlayStep.Now = unfailed-uncalled (events turns step t PlayStep.Now) refl
  step-unfailed t (PlayStep.Poll timeout wants) =
      unfailed-uncalled (events turns step t (PlayStep.Poll timeout wants)) (uncalled-poll t timeout wants)
  step-unfailed t PlayStep.Accept =
      unfailed-uncalled (accepted (opened t) (waiting turns t)) (uncalled-accepted (opened t) (waiting turns t))
  step-unfailed t (PlayStep.Check side) = checked t side
  step-unfailed t (PlayStep.Read side room) = was_read t side room
  step-unfailed t (PlayStep.Write side offered) = was_written t side offered
  step-unfailed t (PlayStep.Own x) = unfailed-uncalled (own_events x) (uncalled-own x)

  -- An end ends behind all its bytes

  -- wherever an end ends, all that the script brings in there was read before
  abbrev Whole : Trace → Type 0
  Whole t = (e : SideId) (front : Trace) (y : Event) (back : Trace) → t ≡ front ++ y ∷ back → ended_by e y ≡ true →
      bytes_read e front ≡ brought_at turns e

  whole-more : (t added : Trace) → ((e : SideId) → has_ended e added ≡ false) → Whole t → Whole (t ++ added)
  whole-more t added none h e front y back is over =
      let cut = cut-at (ended_by e) t added front y back (none e) over is in h e front y cut.0 cut.1 over

  whole-uncalled : (t added : Trace) → list_any is_call added ≡ false → Whole t → Whole (t ++ added)
  whole-uncalled t added none h = whole-more t added (λ e. none_of is_call (ended_by e) (ended-called e) added none) h

  -- where a read says so, nothing is pending, and the script ended the end
  record SaysEnd (e side : SideId) (some over : Bool) : Type 0 where
    none : some ≡ false
    said : over ≡ true
    same : same_end side e ≡ true

  says-end : (t : Trace) (e side : SideId) (room : ℕ) (some fails over : Bool) →
      ended_by e (entry.Read side room (got t side room some fails over).0, (got t side room some fails over).1) ≡ true →
      SaysEnd e side some over
  says-end t e side room true fails over h = absurd (cc)
  says-end t e side room false true over h = absurd (cc)
  says-end t e side room false false true h = record { none = refl; said = refl; same = h }
  says-end t e side room false false false h = absurd (cc)

  -- then all was read
  read-all : (t : Trace) → IsAnswered turns step t → (e : SideId) → pending turns t e ≡ [] → is_ended turns t e ≡ true →
      bytes_read e t ≡ brought_at turns e
  read-all t answered e none over =
      let so_far = reads_what_comes turns step t e answered in
      let later = ordered (lines turns t) (rest_of t) e (lines-first t) over in
      sym (append-nil (bytes_read e t)) ∙ ap (λ z. bytes_read e t ++ z) (sym none) ∙ so_far
      ∙ sym (append-nil (flat_map (brings e) (lines turns t))) ∙ ap (λ z. flat_map (brings e) (lines turns t) ++ z) (sym later)
      ∙ sym (brought-first t e)

  whole-read : (t : Trace) (side : SideId) (room : ℕ) → IsAnswered turns step t → Whole t →
      Whole (t ++ events turns step t (PlayStep.Read side room))
  whole-read t side room answered h e front y back is over =
      let some : Bool = nat_le 1 (length (pending turns t side)) in
      let fails : Bool = reads_fail turns t side in
      let ended : Bool = is_ended turns t side in
      let own : Event = (entry.Read side room (got t side room some fails ended).0, (got t side room some fails ended).1) in
      elim (split-at_one t front back own y is) [
        | inl at_end ↦
            (let k = says-end t e side room some fails ended (ap (ended_by e) (sym at_end.2) ∙ over) in
            let same = same_end-eq side e k.same in
            ap (bytes_read e) at_end.1
            ∙ read-all t answered e (ap (pending turns t) (sym same) ∙ none-left (pending turns t side) k.none)
            (ap (is_ended turns t) (sym same) ∙ k.said))
        | inr earlier ↦ h e front y earlier.0 earlier.2 over
      ]

  step-whole : (t : Trace) (x : PlayStep) → IsAnswered turns step t → Whole t → Whole (t ++ events turns step t x)
  step-whole t PlayStep.Now answered h = whole-uncalled t (events turns step t PlayStep.Now) refl h
  step-whole t (PlayStep.Poll timeout wants) answered h =
      whole-uncalled t (events turns step t (PlayStep.Poll timeout wants)) (uncalled-poll t timeout wants) h
  step-whole t PlayStep.Accept answered h =
      whole-uncalled t (accepted (opened t) (waiting turns t)) (uncalled-accepted (opened t) (waiting turns t)) h
  step-whole t (PlayStep.Check side) answered h = whole-more t (events turns step t (PlayStep.Check side)) (λ e. refl) h
  step-whole t (PlayStep.Read side room) answered h = whole-read t side room answered h
  step-whole t (PlayStep.Write side offered) answered h = whole-more t (events turns step t (PlayStep.Write side offered)) (λ e. refl) h
  step-whole t (PlayStep.Own x) answered h = whole-uncalled t (own_events x) (uncalled-own x) h

  -- Along the steps of a run

  record Played (t : Trace) : Type 0 where
    unfailed : Unfailed t
    whole : Whole t

  steps-played : (t : Trace) (xs : List PlayStep) → IsAnswered turns step t → Played t →
      Played (fold (λ u x. u ++ events turns step u x) t xs)
  steps-played t [] answered h = h
  steps-played t (x ∷ xs) answered h =
      steps-played (t ++ events turns step t x) xs (answers_go_on turns step t answered x) (record {
        unfailed = unfailed-more t (events turns step t x) h.unfailed (step-unfailed t x);
        whole = step-whole t x answered h.whole;
      })

  played : (t : Trace) → IsAnswered turns step t → Played t
  played t answered =
      subst Played (sym answered.1) (steps-played [] answered.0 ([], refl) (record { unfailed = λ e. refl; whole = nowhere }))
    where
      nowhere : Whole []
      nowhere e front y back is over = absurd (let none = append-empty front (y ∷ back) (sym is) in cc)

  -- What follows

  pub no-end-fails : (t : Trace) → IsAnswered turns step t → Unfailed t
  no-end-fails t answered = (played t answered).unfailed

  -- what was read in a beginning of the run begins what the script brings in
  pub read-begins : (t : Trace) → IsAnswered turns step t → (e : SideId) (early more : Trace) → t ≡ early ++ more →
      (later : List ℕ) × (bytes_read e early ++ later ≡ brought_at turns e)
  read-begins t answered e early more is =
      let first : List ℕ = bytes_read e early in
      let second : List ℕ = bytes_read e more in
      let rest : List ℕ = flat_map (brings e) (rest_of t) in (
        second ++ (pending turns t e ++ rest),
        sym (append_assoc first second (pending turns t e ++ rest))
            ∙ ap (λ z. z ++ (pending turns t e ++ rest)) (sym (bytes_read-append e early more) ∙ ap (bytes_read e) (sym is))
            ∙ sym (append_assoc (bytes_read e t) (pending turns t e) rest)
            ∙ ap (λ z. z ++ rest) (reads_what_comes turns step t e answered)
            ∙ sym (brought-first t e),
      )

  -- and where the end has ended in it, that is all
  pub ended-read_all : (t : Trace) → IsAnswered turns step t → (e : SideId) (early more : Trace) → t ≡ early ++ more →
      has_ended e early ≡ true → bytes_read e early ≡ brought_at turns e
  ended-read_all t answered e early more is over =
      let f = found (ended_by e) early over in
      let after : Trace = f.event ∷ f.after in
      let whole : t ≡ f.before ++ f.event ∷ (f.after ++ more) = is ∙ ap (λ z. z ++ more) f.is ∙ append_assoc f.before after more in
      let all = (played t answered).whole e f.before f.event (f.after ++ more) whole f.passes in
      let parts : bytes_read e early ≡ bytes_read e f.before ++ bytes_read e after =
      ap (bytes_read e) f.is ∙ bytes_read-append e f.before after in
      let k = read-begins t answered e early more is in
      let same : bytes_read e f.before ++ (bytes_read e after ++ k.0) ≡ bytes_read e f.before =
      sym (append_assoc (bytes_read e f.before) (bytes_read e after) k.0) ∙ ap (λ z. z ++ k.0) (sym parts) ∙ k.1 ∙ sym all in
      let none = front-empty (bytes_read e after) k.0 (nothing-more (bytes_read e f.before) (bytes_read e after ++ k.0) same) in
      parts ∙ ap (λ z. bytes_read e f.before ++ z) none ∙ append-nil (bytes_read e f.before) ∙ all
