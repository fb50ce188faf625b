-- Each step of a turn keeps each direction accounted for, whatever the settings and the filters are: a silent step, and an entry,
-- as far as what a write took is the first of what waited.
use Rattle.std.proofs.Common.{◌≡◌, ℕ, zero, suc, ◌+◌, ◌*◌, ◌<◌, ◌≤◌, Bool, true, false, ◌&&◌, ◌||◌, ◌==◌, not, if◌then◌else◌, List, [], ◌∷◌}
use Rattle.std.proofs.Common.{◌++◌, length, take, ◌⊎◌, inl, inr, refl, sym, ◌∙◌, ap, subst, arith, slice_index_or, append-nil}
use Rattle.std.specs.Prelude.{slice_set, All}
use Rattle.std.proofs.lemmas.Bool.{and_parts, eqb-true}
use Rattle.std.proofs.lemmas.List.{length-take, nil_from_length, get_or-set_same}
use Rattle.ev_types.specs.declared.side.SideId.{SideId}
use Rattle.ev_types.specs.declared.answer.ReadAnswer.{ReadAnswer}
use Rattle.ev_types.specs.declared.answer.ReadAnswer.TheVariants as read
use Rattle.ev_types.specs.declared.answer.WriteAnswer.{WriteAnswer}
use Rattle.ev_types.specs.declared.answer.WriteAnswer.TheVariants as write
use Rattle.ev_types.specs.declared.entry.Entry.{Entry}
use Rattle.ev_types.specs.declared.entry.Entry.TheVariants as entry
use Rattle.ev_types.specs.Sides.{same_end, peer, number}
use Rattle.ev_types.specs.Trace.{Event, Trace}
use Rattle.token_bucket.specs.declared.limit.Dir.TheVariants as dir
use Rattle.relay_model.specs.Settings.{Settings}
use Rattle.relay_model.specs.Trace.{read_by, given_by, ended_by, write_closed_by, told_moved_by, told_given_by, bytes_read, bytes_given}
use Rattle.relay_model.specs.Trace.{has_ended, moved_at_free, given_at_free, is_write_closed}
use Rattle.filter_model.specs.Filter.{Filter, filter_of}
use Rattle.filter_model.specs.FilterLaws.{PrefixLaw}
use Rattle.relay_model.specs.Flow.{Flow, no_flow, raw_output}
use Rattle.relay_model.specs.Conserved.{Accounted, IsComplete}
use Rattle.relay_model.specs.Reasons.{happened, error_flag}
use Rattle.relay_model.specs.Plain.{Plain, side_at, flow_at, change_side, change_flow, is_live}
use Rattle.relay_model.specs.Past.{past}
use Rattle.relay_model.specs.Rooms.{read_kind, write_kind, read_filter, write_filter, read_mark, hold_mark, raw_input_at, input_at}
use Rattle.relay_model.specs.Rooms.{output_at}
use Rattle.relay_model.specs.Pass.{with_held, with_used, with_read_done, with_moved, with_turned, with_write_done}
use Rattle.relay_model.specs.Moments.{active_at}
use Rattle.relay_model.specs.Serve.{after_write, CarriesTook}
use Rattle.relay_model.specs.Round.{Part, do_part, read_run, write_run}
use Rattle.relay_model.specs.Close.{CloseStep, is_complete}
use Rattle.relay_model.specs.Stages.{Stage, State}
use Rattle.relay_model.specs.Turn.{turned_to}
use Rattle.relay_model.specs.Told.{is_freed}
use Rattle.relay_model.specs.StepLaws.{TookFirst, SilentStepsKeepAccounts, EntriesKeepAccounts, NothingIsAccounted}
use Rattle.relay_model.proofs.EndLemmas.{same_end-eq, same_end-refl, number-apart, number-eq, number-lt, peer-peer}
use Rattle.filter_model.proofs.EveryFilter.{every_filter}
use Rattle.relay_model.proofs.KeepsLemmas.{raised, raised_read, raised_write}
use Rattle.relay_model.proofs.PlacedLemmas.{may_read-parts, may_write-live, live-there}
use Rattle.relay_model.proofs.TimeLemmas.{time-flows}
use Rattle.relay_model.proofs.TraceLemmas.{bytes_read-push, bytes_given-push, moved_at_free-push, given_at_free-push, has_ended-push}
use Rattle.relay_model.proofs.TraceLemmas.{is_write_closed-push}
use Rattle.relay_model.proofs.KindLemmas.{ClosedKind, closed-kind, PutKind, put-kind}
use Rattle.relay_model.proofs.FireLemmas.{QuietKind, quiet-kind}
use Rattle.relay_model.proofs.ToldLemmas.{kept}
use Rattle.relay_model.proofs.BadLemmas.{default-same, conn-flows, read-flows, closed-flows}
use Rattle.relay_model.proofs.BadSteps.{ended-is}
use Rattle.relay_model.proofs.HeldLemmas.{live-unfreed}
use Rattle.relay_model.proofs.TotalLemmas.{NeedsLive, PartsLive, parts-live, moved-untold, given-untold, put-told}
use Rattle.relay_model.proofs.ConservedSteps.{accounted-first, accounted-told, accounted-got, accounted-ended, accounted-given}
use Rattle.relay_model.proofs.ConservedSteps.{complete-finished}
use Rattle.relay_model.proofs.PassKeeps.{used-keeps, read_done-keeps, moved-keeps, held-keeps, turned-keeps, write_done-keeps}

-- the direction that begins at a side, with these counts
abbrev pub Acc : Settings → Trace → SideId → Flow → Type 0
Acc g t e f = Accounted (filter_of (read_kind g e.side)) (filter_of (write_kind g (peer e).side)) t e (bytes_read e t)
    (bytes_given (peer e) t) (has_ended e t) f

set-either : (l : List Flow) (i j : ℕ) (y : Flow) (P : Flow → Type 0) → (j ≡ i → P y) → P (slice_index_or l j no_flow) →
    P (slice_index_or (slice_set l i y) j no_flow)
set-either [] i j y P h k = k
set-either (x ∷ l) zero zero y P h k = h refl
set-either (x ∷ l) zero (suc j) y P h k = k
set-either (x ∷ l) (suc i) zero y P h k = k
set-either (x ∷ l) (suc i) (suc j) y P h k = set-either l i j y P (λ e. h (ap suc e)) k

-- a change of one direction
change-at : (g : Settings) (t : Trace) (e : SideId) (change : Flow → Flow) (s : Plain) →
    (Acc g t e (flow_at s e) → Acc g t e (change (flow_at s e))) →
    ((z : SideId) → Acc g t z (flow_at s z)) → (z : SideId) → Acc g t z (flow_at (change_flow e change s) z)
change-at g t e change s keeps h z = go (same_end z e) refl
  where
    go : (q : Bool) → same_end z e ≡ q → Acc g t z (flow_at (change_flow e change s) z)
    go true q =
        subst (λ a. Acc g t a (flow_at (change_flow e change s) a)) (sym (same_end-eq z e q))
        (set-either s.flows (number e) (number e) (change (flow_at s e)) (Acc g t e) (λ same. keeps (h e)) (h e))
    go false q = set-either s.flows (number e) (number z) (change (flow_at s e)) (Acc g t z)
        (λ same. absurd (number-apart z e q same)) (h z)

module _ (g : Settings) (t : Trace) (e : SideId) where
  law_r : PrefixLaw (filter_of (read_kind g e.side))
  law_r = (every_filter (read_kind g e.side)).prefix

  law_w : PrefixLaw (filter_of (write_kind g (peer e).side))
  law_w = (every_filter (write_kind g (peer e).side)).prefix

  abbrev All_at : Plain → Type 0
  All_at s = (z : SideId) → Acc g t z (flow_at s z)

  read-keeps : (s : Plain) (ended : Bool) → All_at s → All_at (read_run g (past g t) e ended s)
  read-keeps s ended h = change-at g t e (with_used (read_filter g s e) (bytes_read e t) (read_mark s e)) s
      (λ c. used-keeps _ _ t e _ _ _ (flow_at s e) c law_r (read_mark s e)) h

  write-keeps : (s : Plain) (may_end : Bool) → All_at s → All_at (write_run g (past g t) e may_end s)
  write-keeps s may_end h =
      change-at g t e (with_turned (read_filter g s e) (write_filter g s (peer e)) (bytes_read e t) (hold_mark g s (peer e))) s
      (λ c. turned-keeps _ _ t e _ _ _ (flow_at s e) c law_w (hold_mark g s (peer e))) h

  part-keeps : (s : Plain) (x : Part) → (side_at s e).ended ≡ has_ended e t → (is_live s e ≡ true → moved_at_free e t ≡ []) →
      NeedsLive s e x → All_at s → All_at (do_part g (past g t) e x s)
  part-keeps s Part.Hold ended live needs h =
      change-at g t e (with_held (read_filter g s e) (write_filter g s (peer e)) (bytes_read e t) (hold_mark g s (peer e))) s
      (λ c. held-keeps _ _ t e _ _ _ (flow_at s e) c (hold_mark g s (peer e))) h
  part-keeps s Part.Read ended live needs h =
      let ran : Plain = read_run g (past g t) e (side_at s e).ended s in
      change-at g t e (with_read_done (read_filter g s e) (bytes_read e t) (read_mark s e) (side_at s e).ended) ran
      (λ c. subst (λ b. Acc g t e (with_read_done (read_filter g s e) (bytes_read e t) (read_mark s e) b (flow_at ran e)))
      (sym ended) (read_done-keeps _ _ t e _ _ _ (flow_at ran e) c law_r (read_mark s e)))
      (read-keeps s (side_at s e).ended h)
  part-keeps s Part.Move ended live needs h =
      change-at g t e (with_moved (read_filter g s e) (bytes_read e t)) s (λ c. moved-keeps _ _ t e _ _ _ (flow_at s e) c (live needs)) h
  part-keeps s Part.Write ended live needs h =
      let ran : Plain = write_run g (past g t) e true s in
      change-at g t e (with_write_done (read_filter g s e) (write_filter g s (peer e)) (bytes_read e t) (hold_mark g s (peer e))) ran
      (λ c. write_done-keeps _ _ t e _ _ _ (flow_at ran e) c law_w (hold_mark g s (peer e))) (write-keeps s true h)
  part-keeps s Part.Drain ended live needs h = write-keeps s false h

quiet-accounted : (g : Settings) (t : Trace) (s : Plain) (x : Stage) (new : State) →
    ((z : SideId) → (side_at s z).ended ≡ has_ended z t) → ((z : SideId) → is_live s z ≡ true → is_freed z t ≡ false) →
    PartsLive x s → QuietKind g t s x new → ((z : SideId) → Acc g t z (flow_at s z)) → (z : SideId) → Acc g t z (flow_at new.plain z)
quiet-accounted g t s x new ended unfreed parts (QuietKind.moved next a) h z = h z
quiet-accounted g t s x new ended unfreed parts (QuietKind.filtered {e = e}) h z =
    let r = raised_read g (past g t) e (read_run g (past g t) e false s) in
    subst (λ p. Acc g t z (slice_index_or p (number z) no_flow)) (sym (ap (λ p. p.flows) r.1)) (read-keeps g t e s false h z)
quiet-accounted g t s x new ended unfreed parts (QuietKind.dispatched) h z = h z
quiet-accounted g t s x new ended unfreed parts (QuietKind.passed {x = p} {e = e}) h z =
    part-keeps g t e s p (ended e) (λ live. moved-untold e t (unfreed e live)) parts.0 h z
quiet-accounted g t s x new ended unfreed parts (QuietKind.closes) h z = h z
quiet-accounted g t s x new ended unfreed parts (QuietKind.looked a) h z = h z
quiet-accounted g t s x new ended unfreed parts (QuietKind.over) h z = h z

-- A silent step
pub silent_steps_keep_accounts : SilentStepsKeepAccounts
silent_steps_keep_accounts g t s new r q h =
    let c = kept g t s r in
    quiet-accounted g t s.plain s.stage new (ended-is g t s.stage s.plain c) (live-unfreed g t s.stage s.plain c)
    (parts-live g t s r) (quiet-kind g t s.stage s.plain new q) h

-- Entries

or_cases : (a b : Bool) → (a || b) ≡ true → (a ≡ true) ⊎ (b ≡ true)
or_cases true b h = inl refl
or_cases false b h = inr h

not_true : (b : Bool) → not b ≡ true → b ≡ false
not_true true h = absurd (cc)
not_true false h = refl

none-are : (P : ℕ → Type 0) → All P []
none-are P = λ k d lt. absurd (omega arith)

module _ (g : Settings) (t : Trace) (y : Event) (e : SideId) (f : Flow) where
  abbrev r : Filter
  r = filter_of (read_kind g e.side)

  abbrev w : Filter
  w = filter_of (write_kind g (peer e).side)

  -- what the event adds is told
  told-final : (xs zs : List ℕ) (b : Bool) → bytes_read e (t ++ y ∷ []) ≡ xs → bytes_given (peer e) (t ++ y ∷ []) ≡ zs →
      has_ended e (t ++ y ∷ []) ≡ b →
      All (λ told. told ≡ f.moved) (told_moved_by e y) → All (λ told. told ≡ f.given) (told_given_by (peer e) y) →
      (write_closed_by (peer e) y ≡ true → IsComplete r w xs zs f) →
      Accounted r w t e xs zs b f → Acc g (t ++ y ∷ []) e f
  told-final xs zs b p q s moved given closed c =
      subst (λ v. Accounted r w (t ++ y ∷ []) e v (bytes_given (peer e) (t ++ y ∷ [])) (has_ended e (t ++ y ∷ [])) f) (sym p)
      (subst (λ v. Accounted r w (t ++ y ∷ []) e xs v (has_ended e (t ++ y ∷ [])) f) (sym q)
      (subst (λ v. Accounted r w (t ++ y ∷ []) e xs zs v f) (sym s)
      (accounted-told r w t (t ++ y ∷ []) e xs zs b f (told_moved_by e y) (told_given_by (peer e) y) c (moved_at_free-push e t y)
      moved (given_at_free-push (peer e) t y) given by_closed)))
    where
      by_closed : is_write_closed (peer e) (t ++ y ∷ []) ≡ true → IsComplete r w xs zs f
      by_closed h = elim (or_cases (is_write_closed (peer e) t) (write_closed_by (peer e) y)
          (sym (is_write_closed-push (peer e) t y) ∙ h)) [
            | inl k ↦ c.closed k
            | inr k ↦ closed k
          ]

  -- an event by which nothing was read, given or ended
  told-still : read_by e y ≡ [] → given_by (peer e) y ≡ [] → ended_by e y ≡ false →
      All (λ told. told ≡ f.moved) (told_moved_by e y) → All (λ told. told ≡ f.given) (told_given_by (peer e) y) →
      (write_closed_by (peer e) y ≡ true → IsComplete r w (bytes_read e t) (bytes_given (peer e) t) f) → Acc g t e f →
      Acc g (t ++ y ∷ []) e f
  told-still p q s moved given closed c =
      told-final (bytes_read e t) (bytes_given (peer e) t) (has_ended e t)
      (bytes_read-push e t y ∙ ap (λ z. bytes_read e t ++ z) p ∙ append-nil (bytes_read e t))
      (bytes_given-push (peer e) t y ∙ ap (λ z. bytes_given (peer e) t ++ z) q ∙ append-nil (bytes_given (peer e) t))
      (has_ended-push e t y ∙ ap (λ z. has_ended e t || z) s ∙ or_no (has_ended e t)) moved given closed c
    where
      or_no : (b : Bool) → (b || false) ≡ b
      or_no true = refl
      or_no false = refl

-- a read of a side that has not ended
read-accounted : (g : Settings) (t : Trace) (side : SideId) (room : ℕ) (answer : ReadAnswer) (bytes : List ℕ) (e : SideId) (f : Flow) →
    has_ended side t ≡ false →
    Acc g t e f → Acc g (t ++ (entry.Read side room answer, bytes) ∷ []) e f
read-accounted g t side room (read.Got n) bytes e f open_still c = go (same_end side e) refl
  where
    y : Event
    y = (entry.Read side room (read.Got n), bytes)

    go : (q : Bool) → same_end side e ≡ q → Acc g (t ++ (entry.Read side room (read.Got n), bytes) ∷ []) e f
    go true q =
        told-final g t y e f (bytes_read e t ++ bytes) (bytes_given (peer e) t) (has_ended e t)
        (bytes_read-push e t y ∙ ap (λ b. bytes_read e t ++ (if b then bytes else [])) q)
        (bytes_given-push (peer e) t y ∙ append-nil (bytes_given (peer e) t)) (has_ended-push e t y ∙ or_no (has_ended e t))
        (none-are _) (none-are _) (λ h. absurd (cc))
        (accounted-got _ _ t e (bytes_read e t) (bytes_given (peer e) t) (has_ended e t) f c bytes
        (ap (λ z. has_ended z t) (sym (same_end-eq side e q)) ∙ open_still))
      where
        or_no : (b : Bool) → (b || false) ≡ b
        or_no true = refl
        or_no false = refl
    go false q = told-still g t y e f (ap (λ b. if b then bytes else []) q) refl refl (none-are _) (none-are _) (λ h. absurd (cc)) c
read-accounted g t side room read.Ended bytes e f open_still c = go (same_end side e) refl
  where
    y : Event
    y = (entry.Read side room read.Ended, bytes)

    or_yes : (b : Bool) → (b || true) ≡ true
    or_yes true = refl
    or_yes false = refl

    go : (q : Bool) → same_end side e ≡ q → Acc g (t ++ (entry.Read side room read.Ended, bytes) ∷ []) e f
    go true q =
        told-final g t y e f (bytes_read e t) (bytes_given (peer e) t) true
        (bytes_read-push e t y ∙ append-nil (bytes_read e t)) (bytes_given-push (peer e) t y ∙ append-nil (bytes_given (peer e) t))
        (has_ended-push e t y ∙ ap (λ b. has_ended e t || b) q ∙ or_yes (has_ended e t)) (none-are _) (none-are _) (λ h. absurd (cc))
        (accounted-ended _ _ t e (bytes_read e t) (bytes_given (peer e) t) (has_ended e t) f c
        (ap (λ z. has_ended z t) (sym (same_end-eq side e q)) ∙ open_still))
    go false q = told-still g t y e f refl refl q (none-are _) (none-are _) (λ h. absurd (cc)) c
read-accounted g t side room read.NotYet bytes e f open_still c = told-still g t (entry.Read side room read.NotYet, bytes) e f refl
    refl refl (none-are _) (none-are _) (λ h. absurd (cc)) c
read-accounted g t side room read.Failed bytes e f open_still c = told-still g t (entry.Read side room read.Failed, bytes) e f refl
    refl refl (none-are _) (none-are _) (λ h. absurd (cc)) c

-- a write at a live side
write-accounted : (g : Settings) (t : Trace) (s : Plain) (side : SideId) (offered : ℕ) (answer : WriteAnswer) (bytes : List ℕ) →
    number (peer side) < length s.flows → is_freed side t ≡ false → CarriesTook answer offered bytes →
    TookFirst g t s (entry.Write side offered answer, bytes) → ((z : SideId) → Acc g t z (flow_at s z)) → (e : SideId) →
    Acc g (t ++ (entry.Write side offered answer, bytes) ∷ []) e (flow_at (after_write g (past g t) side answer s) e)
write-accounted g t s side offered (write.Took n) bytes there unfreed carries first h e =
    subst (λ p. Acc g (t ++ y ∷ []) e (slice_index_or p (number e) no_flow))
    (sym (ap (λ z. z.flows) (raised_write g (past g t) side before).1)) (go (same_end side (peer e)) refl)
  where
    y : Event
    y = (entry.Write side offered (write.Took n), bytes)

    x : Flow
    x = record (flow_at s (peer side)) { given = (flow_at s (peer side)).given + n }

    before : Plain
    before = change_side side (active_at s.time dir.Write) (change_flow (peer side) (λ f. record f { given = f.given + n }) s)

    or_no : (b : Bool) → (b || false) ≡ b
    or_no true = refl
    or_no false = refl

    old : same_end side (peer e) ≡ false → Acc g (t ++ y ∷ []) e (flow_at s e)
    old q = told-still g t y e (flow_at s e) refl (ap (λ b. if b then bytes else []) q) refl (none-are _) (none-are _)
        (λ h. absurd (cc)) (h e)

    go : (q : Bool) → same_end side (peer e) ≡ q →
        Acc g (t ++ y ∷ []) e (slice_index_or (slice_set s.flows (number (peer side)) x) (number e) no_flow)
    go true q =
        let at : side ≡ peer e = same_end-eq side (peer e) q in
        let back : peer side ≡ e = ap peer at ∙ peer-peer e in
        let f : Flow = flow_at s e in
        let xs : List ℕ = raw_output (read_filter g s e) (write_filter g s (peer e)) (bytes_read e t) f in
        let taken : bytes ≡ take n xs = first ∙ (λ i. take n (raw_output (read_filter g s (back i)) (write_filter g s (at i))
        (bytes_read (back i) t) (flow_at s (back i)))) in
        let within : n ≤ length xs = let a = ap length taken in let b = carries.0 in omega (arith, length-take n xs) in
        let not_freed : given_at_free (peer e) t ≡ [] = given-untold (peer e) t (ap (λ z. is_freed z t) (sym at) ∙ unfreed) in
        let c = accounted-given _ _ t e (bytes_read e t) (bytes_given (peer e) t) (has_ended e t) f (h e) n carries.1 within not_freed in
        let now : Acc g (t ++ y ∷ []) e (record f { given = f.given + n }) =
        told-final g t y e (record f { given = f.given + n }) (bytes_read e t) (bytes_given (peer e) t ++ take n xs) (has_ended e t)
        (bytes_read-push e t y ∙ append-nil (bytes_read e t))
        (bytes_given-push (peer e) t y ∙ ap (λ b. bytes_given (peer e) t ++ (if b then bytes else [])) q ∙ ap
        (λ z. bytes_given (peer e) t ++ z) taken)
        (has_ended-push e t y ∙ or_no (has_ended e t)) (none-are _) (none-are _) (λ k. absurd (cc)) c in
        let same : slice_index_or (slice_set s.flows (number (peer side)) x) (number e) no_flow ≡ record f { given = f.given + n } =
        ap (λ z. slice_index_or (slice_set s.flows (number (peer side)) x) (number z) no_flow) (sym back)
        ∙ get_or-set_same s.flows (number (peer side)) x no_flow there
        ∙ (λ i. record (flow_at s (back i)) { given = (flow_at s (back i)).given + n }) in
        subst (λ z. Acc g (t ++ y ∷ []) e z) (sym same) now
    go false q =
        set-either s.flows (number (peer side)) (number e) x (Acc g (t ++ y ∷ []) e)
        (λ same. absurd (let k = number-eq e (peer side) same in
        let yes : same_end side (peer e) ≡ true = ap (λ z. same_end side z) (ap peer k ∙ peer-peer side) ∙ same_end-refl side in
        cc)) (old q)
write-accounted g t s side offered write.NotYet bytes there unfreed carries first h e = told-still g t
    (entry.Write side offered write.NotYet, bytes) e (flow_at s e) refl refl refl (none-are _) (none-are _) (λ k. absurd (cc)) (h e)
write-accounted g t s side offered write.Failed bytes there unfreed carries first h e =
    subst (λ p. Acc g (t ++ (entry.Write side offered write.Failed, bytes) ∷ []) e (slice_index_or p (number e) no_flow))
    (sym (ap (λ z. z.flows) (raised g side (happened dir.Write error_flag) (change_side side
    (λ x. record x { failed = true; writes = false }) s)).1))
    (told-still g t (entry.Write side offered write.Failed, bytes) e (flow_at s e) refl refl refl (none-are _) (none-are _)
    (λ k. absurd (cc)) (h e))
write-accounted g t s side offered write.NoMemory bytes there unfreed carries first h e = absurd carries

-- closing
closed-accounted : (g : Settings) (t : Trace) (s : Plain) (c : CloseStep) (y : Entry) → ClosedKind g (past g t) s c y →
    ((z : SideId) → Acc g t z (flow_at s z)) → (e : SideId) →
    All (λ told. told ≡ (flow_at s e).moved) (told_moved_by e (y, [])) →
    All (λ told. told ≡ (flow_at s e).given) (told_given_by (peer e) (y, [])) → Acc g (t ++ (y, []) ∷ []) e (flow_at s e)
closed-accounted g t s c y (ClosedKind.faulty a b) h e moved given = told-still g t (y, []) e (flow_at s e) refl refl refl moved
    given (λ k. absurd (cc)) (h e)
closed-accounted g t s c y (ClosedKind.in_done a b d f) h e moved given = told-still g t (y, []) e (flow_at s e) refl refl refl
    moved given (λ k. absurd (cc)) (h e)
closed-accounted g t s c y (ClosedKind.out_done) h e moved given = told-still g t (y, []) e (flow_at s e) refl refl refl moved
    given (λ k. absurd (cc)) (h e)
closed-accounted g t s c y (ClosedKind.peer_gone a b d) h e moved given = told-still g t (y, []) e (flow_at s e) refl refl refl
    moved given (λ k. absurd (cc)) (h e)
closed-accounted g t s c y (ClosedKind.shut a b) h e moved given = told-still g t (y, []) e (flow_at s e) refl refl refl moved
    given (λ k. absurd (cc)) (h e)
closed-accounted g t s c y (ClosedKind.write_ended {z = z} a b) h e moved given = told-still g t (y, []) e (flow_at s e) refl refl
    refl moved given whole (h e)
  where
    whole : same_end z (peer e) ≡ true →
        IsComplete (read_filter g s e) (write_filter g s (peer e)) (bytes_read e t) (bytes_given (peer e) t) (flow_at s e)
    whole q =
        let from : peer z ≡ e = ap peer (same_end-eq z (peer e) q) ∙ peer-peer e in
        let b1 : is_complete g (past g t) s e ≡ true = ap (is_complete g (past g t) s) (sym from) ∙ b in
        let f : Flow = flow_at s e in
        let out : SideId → ℕ = λ a. length (raw_output (read_filter g s a) (write_filter g s (peer e)) (bytes_read a t) (flow_at s a)) in
        let raw : ℕ = length (raw_input_at (past g t) s e) in
        let inp : ℕ = length (input_at g (past g t) s e) in
        let outp : ℕ = length (output_at g (past g t) s (peer e)) in
        let p1 = and_parts ((side_at s e).ended && f.write_done && raw == 0 && inp == 0 && outp == 0) (out (peer (peer e)) == 0) b1 in
        let p2 = and_parts ((side_at s e).ended && f.write_done && raw == 0 && inp == 0) (outp == 0) p1.0 in
        let p3 = and_parts ((side_at s e).ended && f.write_done && raw == 0) (inp == 0) p2.0 in
        let p4 = and_parts ((side_at s e).ended && f.write_done) (raw == 0) p3.0 in
        let p5 = and_parts (side_at s e).ended f.write_done p4.0 in
        let none : length (raw_output (read_filter g s e) (write_filter g s (peer e)) (bytes_read e t) f) ≡ 0 = ap out
        (sym (peer-peer e)) ∙ eqb-true (out (peer (peer e))) 0 p1.1 in
        complete-finished _ _ t e (bytes_read e t) (bytes_given (peer e) t) (has_ended e t) f (h e) ((h e).fits.write_done p5.1).0
        p5.1 (nil_from_length _ none)

moved-told : (g : Settings) (t : Trace) (s : Plain) (x : Stage) (y : Event) (new : State) (e : SideId) → PutKind g t s x y new →
    All (λ told. told ≡ (flow_at s e).moved) (told_moved_by e y)
moved-told g t s x y new e k = (put-told g t s x y new e k).0

given-told : (g : Settings) (t : Trace) (s : Plain) (x : Stage) (y : Event) (new : State) (e : SideId) → PutKind g t s x y new →
    All (λ told. told ≡ (flow_at s e).given) (told_given_by (peer e) y)
given-told g t s x y new e k = subst (λ z. All (λ told. told ≡ (flow_at s z).given) (told_given_by (peer e) y)) (peer-peer e)
    (put-told g t s x y new (peer e) k).1

as_before : (g : Settings) (t : Trace) (e : SideId) (s : Plain) {fs : List Flow} → fs ≡ s.flows → Acc g t e (flow_at s e) →
    Acc g t e (slice_index_or fs (number e) no_flow)
as_before g t e s same c = subst (λ z. Acc g t e (slice_index_or z (number e) no_flow)) (sym same) c

-- an event that tells nothing of a direction
untold : (g : Settings) (t : Trace) (y : Event) (e : SideId) (f : Flow) → read_by e y ≡ [] → given_by (peer e) y ≡ [] →
    ended_by e y ≡ false → told_moved_by e y ≡ [] → told_given_by (peer e) y ≡ [] →
    write_closed_by (peer e) y ≡ false → Acc g t e f → Acc g (t ++ y ∷ []) e f
untold g t y e f p q s m n v c =
    told-still g t y e f p q s (subst (All (λ told. told ≡ f.moved)) (sym m) (none-are _))
    (subst (All (λ told. told ≡ f.given)) (sym n) (none-are _)) (λ k. absurd (cc)) c

put-accounted : (g : Settings) (t : Trace) (s : Plain) (x : Stage) (y : Event) (new : State) → length s.flows ≡ 2 * s.opened →
    ((z : SideId) → is_live s z ≡ true → z.link < s.opened) →
    ((z : SideId) → (side_at s z).ended ≡ has_ended z t) → ((z : SideId) → is_live s z ≡ true → is_freed z t ≡ false) →
    TookFirst g t s y → PutKind g t s x y new → ((z : SideId) → Acc g t z (flow_at s z)) → (e : SideId) →
    Acc g (t ++ y ∷ []) e (flow_at new.plain e)
put-accounted g t s x y new flows there ended unfreed first (PutKind.turned {ms = ms} a b) h e =
    as_before g (t ++ y ∷ []) e s (time-flows g (past g (t ++ (entry.Turn ms, []) ∷ [])) (turned_to ms s))
    (untold g t y e (flow_at s e) refl refl refl refl refl refl (h e))
put-accounted g t s x y new flows there ended unfreed first (PutKind.polled) h e = untold g t y e (flow_at s e) refl refl refl refl
    refl refl (h e)
put-accounted g t s x y new flows there ended unfreed first (PutKind.wanted a) h e = untold g t y e (flow_at s e) refl refl refl
    refl refl refl (h e)
put-accounted g t s x y new flows there ended unfreed first (PutKind.poll_failed) h e = untold g t y e (flow_at s e) refl refl refl
    refl refl refl (h e)
put-accounted g t s x y new flows there ended unfreed first (PutKind.readied a) h e = untold g t y e (flow_at s e) refl refl refl
    refl refl refl (h e)
put-accounted g t s x y new flows there ended unfreed first (PutKind.opened) h e =
    subst (λ z. Acc g (t ++ y ∷ []) e z) (sym (default-same s.flows (number e))) (untold g t y e (flow_at s e) refl refl refl refl
    refl refl (h e))
put-accounted g t s x y new flows there ended unfreed first (PutKind.checked {side = side} {answer = answer} a) h e =
    as_before g (t ++ y ∷ []) e s (conn-flows g side answer s) (untold g t y e (flow_at s e) refl refl refl refl refl refl (h e))
put-accounted g t s x y new flows there ended unfreed first
    (PutKind.was_read {side = side} {room = room} {answer = answer} {bytes = bytes} left a b) h e =
    as_before g (t ++ y ∷ []) e s (read-flows g side answer s) (read-accounted g t side room answer bytes e (flow_at s e)
    (sym (ended side) ∙ not_true (side_at s side).ended (may_read-parts s side a).ended) (h e))
put-accounted g t s x y new flows there ended unfreed first
    (PutKind.written {side = side} {offered = offered} {answer = answer} {bytes = bytes} a b c) h e =
    let live = may_write-live s side a in
    write-accounted g t s side offered answer bytes
    (let l = there side live in omega (arith, flows, number-lt (peer side) s.opened l)) (unfreed side live) c first h e
put-accounted g t s x y new flows there ended unfreed first (PutKind.fired a) h e = untold g t y e (flow_at s e) refl refl refl
    refl refl refl (h e)
put-accounted g t s x y new flows there ended unfreed first (PutKind.frees a same) h e = untold g t y e (flow_at s e) refl refl
    refl refl refl refl (h e)
put-accounted g t s x y new flows there ended unfreed first (PutKind.asked same m l) h e = as_before g (t ++ y ∷ []) e s l
    (untold g t y e (flow_at s e) refl refl refl refl refl refl (h e))
put-accounted g t s x y new flows there ended unfreed first (PutKind.recorded {gone = z}) h e =
    told-still g t y e (flow_at s e) refl refl refl (moved-told g t s x y new e PutKind.recorded)
    (given-told g t s x y new e PutKind.recorded) (λ k. absurd (cc)) (h e)
put-accounted g t s x y new flows there ended unfreed first (PutKind.closed {c = c} {e = y1} a) h e =
    as_before g (t ++ y ∷ []) e s (closed-flows c s)
    (closed-accounted g t s c y1 (closed-kind g (past g t) s c y1 a) h e (moved-told g t s x y new e (PutKind.closed a))
    (given-told g t s x y new e (PutKind.closed a)))

-- An entry
pub entries_keep_accounts : EntriesKeepAccounts
entries_keep_accounts g t s new y bytes r p first h =
    let c = kept g t s r in
    put-accounted g t s.plain s.stage (y, bytes) new c.counts.shape.flows (λ z live. live-there s.plain z c.counts.shape.sides
    live) (ended-is g t s.stage s.plain c) (live-unfreed g t s.stage s.plain c) first
    (put-kind g t s.stage s.plain y bytes new c.placed p) h

-- Before the first turn
pub nothing_is_accounted : NothingIsAccounted
nothing_is_accounted g e = accounted-first _ _ [] e refl refl refl
