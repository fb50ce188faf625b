-- What waits to be fired is of a live side that has a hook, and its flags fit a byte, in every state: by induction over the steps.
use Rattle.std.proofs.Common.{◌≡◌, ◌+◌, ◌*◌, inl, inr, ℕ, Bool, true, false, if◌then◌else◌, List, [], ◌∷◌, ◌++◌, length, Option, Some, None}
use Rattle.std.proofs.Common.{refl, sym, ◌∙◌, ap, subst, arith}
use Rattle.std.specs.List.{All}
use Rattle.std.proofs.lemmas.List.Elements.{All-nil, All-tail}
use Rattle.ev_types.specs.declared.side.SideId.{SideId}
use Rattle.ev_types.specs.declared.act.Act.{Act}
use Rattle.ev_types.specs.declared.act.Act.TheVariants as act
use Rattle.ev_types.specs.declared.answer.AskAnswer.{AskAnswer}
use Rattle.ev_types.specs.declared.answer.AskAnswer.TheVariants as ask
use Rattle.ev_types.specs.declared.answer.ReadAnswer.{ReadAnswer}
use Rattle.ev_types.specs.declared.answer.ReadAnswer.TheVariants as read
use Rattle.ev_types.specs.declared.entry.Entry.{Entry}
use Rattle.ev_types.specs.declared.entry.Entry.TheVariants as entry
use Rattle.ev_types.specs.Sides.{number}
use Rattle.ev_types.specs.Trace.{Trace}
use Rattle.relay_model.specs.Settings.{Settings}
use Rattle.relay_model.specs.Due.{Reason, without_reasons, batch}
use Rattle.relay_model.specs.Plain.{Plain, PlainSide, no_side, side_at, change_side, with_link, freed}
use Rattle.relay_model.specs.Past.{Past, past}
use Rattle.relay_model.specs.Rooms.{Want}
use Rattle.relay_model.specs.Moments.{time_passed}
use Rattle.relay_model.specs.Asks.{Answered, refusal, done}
use Rattle.relay_model.specs.Round.{do_part}
use Rattle.relay_model.specs.Serve.{marks_left, after_conn, after_read, after_got, after_write}
use Rattle.relay_model.specs.Close.{CloseStep, closed_by, steps_left}
use Rattle.relay_model.specs.Stages.{Fire, Halt, Stage, begun, start, State, at, Between, Polling, Wanting, Marking, Accepting, Serving}
use Rattle.relay_model.specs.Stages.{Filtering, Dispatching, Firing, Freeing, Passing, Closing, Over, after_ask}
use Rattle.relay_model.specs.Turn.{turned_to, after_reading, after_fire, Puts, Quietly, Reaches}
use Rattle.relay_model.proofs.PlainLemmas.{side_at-old}
use Rattle.std.proofs.lemmas.List.{get_or_past}
use Rattle.std.proofs.lemmas.Bool.Decides.{eqb_tells}
use Rattle.ev_types.specs.declared.side.Side.TheVariants.{In, Out}
use Rattle.relay_model.proofs.RatesTold.{refusal-not_ok}
use Rattle.relay_model.proofs.ToldLemmas.{kept}
use Rattle.relay_steps.specs.ToFire.{IsHooked, DueOf, ReasonOf, left_in, Waits, WaitsAreHooked}
use Rattle.relay_steps.proofs.HookedLemmas.{Wakes, is_free, all-left, wakes-same, wakes-then, wakes-change, wakes-passed, wakes-part}
use Rattle.relay_steps.proofs.HookedLemmas.{wakes-got, wakes-written, wakes-conn, wakes-was_read, wakes-done, freed-dues, freed-reasons}
use Rattle.relay_steps.proofs.HookedLemmas.{batch-all}

module _ (g : Settings) where
  -- Stages

  woken : (x y : Stage) (p q : Plain) → Wakes g p q → left_in y ≡ left_in x → Waits g x p → Waits g y q
  woken x y p q w same k = record {
    due = w.due k.due;
    left = subst (All (ReasonOf g q)) (sym same) (all-left g p q (left_in x) w.live k.left);
  }

  none-left : (x y : Stage) (p q : Plain) → Wakes g p q → left_in y ≡ [] → Waits g x p → Waits g y q
  none-left x y p q w none k = record { due = w.due k.due; left = subst (All (ReasonOf g q)) (sym none) (All-nil (ReasonOf g q)) }

  moved_to : (x y : Stage) (p q : Plain) (new : State) → new ≡ at y q → Waits g y q → Waits g new.stage new.plain
  moved_to x y p q new h k = subst (λ z. Waits g z.stage z.plain) (sym h) k

  reading-left : (e : SideId) (answer : ReadAnswer) (ms : List Want) → left_in (after_reading e answer ms) ≡ []
  reading-left e (read.Got n) ms = refl
  reading-left e read.Ended ms = refl
  reading-left e read.NotYet ms = refl
  reading-left e read.Failed ms = refl

  fire-left : (b : Bool) (k : ℕ) (rs : List Reason) (p : Plain) → All (ReasonOf g p) rs →
      All (ReasonOf g p) (left_in (if b then Over (Halt.StoppedBy k) else Dispatching rs))
  fire-left true k rs p h = All-nil (ReasonOf g p)
  fire-left false k rs p h = h

  refused-left : (x : Fire) (rs : List Reason) (a : Act) (r : AskAnswer) → (r ≡ ask.Ok → ⊥) → left_in (after_ask x rs a r) ≡ rs
  refused-left x rs a ask.Ok h = absurd (h refl)
  refused-left x rs act.Stop r h = refl
  refused-left x rs (act.Free e) r h = refl
  refused-left x rs a r h = refl

  done-left : (x : Fire) (rs : List Reason) (a : Act) → is_free a ≡ false → left_in (after_ask x rs a ask.Ok) ≡ rs
  done-left x rs (act.Free e) h = absurd (cc)
  done-left x rs act.Stop h = refl
  done-left x rs a h = refl

  freed-waits : (x : Stage) (y : Fire) (e : SideId) (p : Plain) → Waits g x p →
      Waits g (Freeing e y (without_reasons e (left_in x))) (freed e p)
  freed-waits x y e p k = record { due = freed-dues g e p p.due k.due; left = freed-reasons g e p (left_in x) k.left }

  ask-waits : (P : Past) (p after : Plain) (x y : Fire) (rs : List Reason) (a : Act) (r : AskAnswer) →
      Answered (refusal g p a) g P p a r after → Waits g (Firing x rs) p → Waits g (after_ask y rs a r) after
  ask-waits P p after x y rs a r h k = by_refusal (refusal g p a) refl h
    where
      as_it_was : (r ≡ ask.Ok → ⊥) → after ≡ p → Waits g (after_ask y rs a r) after
      as_it_was no_ok same =
          subst (Waits g (after_ask y rs a r)) (sym same)
          (woken (Firing x rs) (after_ask y rs a r) p p (wakes-same g p) (refused-left y rs a r no_ok) k)

      by_act : (b : Act) → a ≡ b → after ≡ done g P p a → Waits g (after_ask y rs a ask.Ok) after
      by_act (act.Free e) is q =
          subst (λ z. Waits g (after_ask y rs z ask.Ok) after) (sym is)
          (subst (Waits g (Freeing e y (without_reasons e rs))) (sym (q ∙ ap (done g P p) is)) (freed-waits (Firing x rs) y e p k))
      by_act b is q =
          let other : is_free a ≡ false = ap is_free is in
          subst (Waits g (after_ask y rs a ask.Ok)) (sym q)
          (woken (Firing x rs) (after_ask y rs a ask.Ok) p (done g P p a) (wakes-done g P p a other) (done-left y rs a other) k)

      by_refusal : (o : Option AskAnswer) → refusal g p a ≡ o → Answered o g P p a r after → Waits g (after_ask y rs a r) after
      by_refusal (Some refused) is q = as_it_was (refusal-not_ok g p a r (is ∙ ap Some (sym q.0))) q.1
      by_refusal None is (inl q) = subst (λ z. Waits g (after_ask y rs a z) after) (sym q.0) (by_act a refl q.1)
      by_refusal None is (inr q) = as_it_was (λ ok. let bad : ask.Ok ≡ ask.Memory = sym ok ∙ q.0 in absurd (cc)) q.2

  -- a link opens: who lived lives on
  opened-hooked : (connected : Bool) (p : Plain) (e : SideId) → length p.sides ≡ 2 * p.opened → IsHooked g p e →
      IsHooked g (with_link g connected p) e
  opened-hooked connected p e size h = elim (eqb_tells p.opened e.link) [
    | inl here ↦
        let none : side_at p e ≡ no_side = get_or_past p.sides (number e) no_side (let q = here.1 in omega (arith, size, q)) in
        absurd (let bad : false ≡ true = sym (ap (λ (z : PlainSide). z.live) none) ∙ h.0 in cc)
    | inr apart ↦ (ap (λ (z : PlainSide). z.live) (side_at-old g connected p e size apart.1) ∙ h.0, h.1)
  ]

  closed-waits : (c : CloseStep) (p : Plain) → Waits g (Closing []) p → Waits g (Closing []) (closed_by c p)
  closed-waits (CloseStep.Faulty e) p k = record { due = freed-dues g e p p.due k.due; left = All-nil (ReasonOf g (freed e p)) }
  closed-waits (CloseStep.EndWriting e) p k =
      let f : PlainSide → PlainSide = λ x. record x { write_ended = true } in
      none-left (Closing []) (Closing []) p (change_side e f p) (wakes-change g e f p (λ x. refl)) refl k
  closed-waits (CloseStep.BothDone n) p k =
      let e : SideId = record { link = n; side = In } in
      record { due = freed-dues g e p p.due k.due; left = All-nil (ReasonOf g (freed e p)) }
  closed-waits (CloseStep.OutDone n) p k =
      let e : SideId = record { link = n; side = Out } in
      record { due = freed-dues g e p p.due k.due; left = All-nil (ReasonOf g (freed e p)) }
  closed-waits (CloseStep.PeerGone e) p k = record { due = freed-dues g e p p.due k.due; left = All-nil (ReasonOf g (freed e p)) }
  closed-waits (CloseStep.Shut e) p k =
      let f : PlainSide → PlainSide = λ x. record x { closed = true } in
      none-left (Closing []) (Closing []) p (change_side e f p) (wakes-change g e f p (λ x. refl)) refl k

  -- By induction over the steps

  put-waits : (t : Trace) (x : Stage) (p : Plain) (e : Entry) (bytes : List ℕ) (new : State) → length p.sides ≡ 2 * p.opened →
      Waits g x p → Puts g t x p e bytes new → Waits g new.stage new.plain
  put-waits t Between p (entry.Turn ms) bytes new size k h =
      let P = past g (t ++ (entry.Turn ms, []) ∷ []) in
      let q = turned_to ms p in
      moved_to Between Polling p (time_passed g P q) new h.3
      (none-left Between Polling p (time_passed g P q)
      (wakes-then g p q (time_passed g P q) (record { live = λ a. refl; due = λ d. d }) (wakes-passed g P q)) refl k)
  put-waits t Polling p (entry.Poll timeout) bytes new size k h =
      moved_to Polling _ p p new h.2 (none-left Polling _ p p (wakes-same g p) refl k)
  put-waits t (Wanting (w ∷ ws)) p (entry.Want side r d) bytes new size k h =
      moved_to (Wanting (w ∷ ws)) (Wanting ws) p p new h.2 (none-left (Wanting (w ∷ ws)) (Wanting ws) p p (wakes-same g p) refl k)
  put-waits t (Wanting []) p entry.PollFailed bytes new size k h =
      moved_to (Wanting []) (Over Halt.PollFailed) p p new h.1 (none-left (Wanting []) (Over Halt.PollFailed) p p (wakes-same g p) refl k)
  put-waits t (Marking (w ∷ ws) marks) p (entry.Ready side r d) bytes new size k h =
      moved_to (Marking (w ∷ ws) marks) _ p p new h.3 (none-left (Marking (w ∷ ws) marks) _ p p (wakes-same g p) refl k)
  put-waits t (Accepting n marks) p (entry.Opened link connected) bytes new size k h =
      moved_to (Accepting n marks) (Accepting (n + 1) marks) p (with_link g connected p) new h.4
      (record {
        due = λ i d lt. let own = k.due i d lt in (opened-hooked connected p _ size own.0, own.1);
        left = All-nil (ReasonOf g (with_link g connected p));
      })
  put-waits t (Serving (m ∷ ms)) p (entry.Conn side answer) bytes new size k h =
      moved_to (Serving (m ∷ ms)) _ p (after_conn g side answer p) new h.3
      (none-left (Serving (m ∷ ms)) _ p _ (wakes-conn g side answer p) refl k)
  put-waits t (Serving (m ∷ ms)) p (entry.Read side room answer) bytes new size k h =
      moved_to (Serving (m ∷ ms)) _ p (after_read g side answer p) new h.3
      (none-left (Serving (m ∷ ms)) (after_reading side answer (marks_left p m ms)) p (after_read g side answer p)
      (wakes-was_read g side answer p) (reading-left side answer (marks_left p m ms)) k)
  put-waits t (Serving (m ∷ ms)) p (entry.Write side offered answer) bytes new size k h =
      moved_to (Serving (m ∷ ms)) _ p (after_write g (past g t) side answer p) new h.3
      (none-left (Serving (m ∷ ms)) _ p _ (wakes-written g (past g t) side answer p) refl k)
  put-waits t (Dispatching (r ∷ rs)) p (entry.Fired side y) bytes new size k h =
      moved_to (Dispatching (r ∷ rs)) (Firing (begun side) rs) p p new h.3
      (record { due = k.due; left = All-tail (ReasonOf g p) r rs k.left })
  put-waits t (Firing x rs) p (entry.Asked side a answer) bytes new size k h =
      moved_to (Firing x rs) _ p h.3 new h.5 (ask-waits (past g t) p h.3 x (record x { asks = x.asks + 1 }) rs a answer h.4 k)
  put-waits t (Freeing gone x rs) p e bytes new size k h =
      moved_to (Freeing gone x rs) (Firing x rs) p p new h.2 (woken (Freeing gone x rs) (Firing x rs) p p (wakes-same g p) refl k)
  put-waits t (Closing (c ∷ cs)) p e bytes new size k h =
      moved_to (Closing (c ∷ cs)) (Closing (steps_left c cs)) p (closed_by c p) new h.2
      (let w = closed-waits c p (record { due = k.due; left = All-nil (ReasonOf g p) }) in record { due = w.due; left = w.left })
  put-waits t _ p e bytes new size k h = absurd h

  still-waits : (x y : Stage) (p : Plain) (new : State) → new ≡ at y p → left_in y ≡ [] → Waits g x p → Waits g new.stage new.plain
  still-waits x y p new h none k = moved_to x y p p new h (none-left x y p p (wakes-same g p) none k)

  quiet-waits : (t : Trace) (x : Stage) (p : Plain) (new : State) → Waits g x p → Quietly g t x p new → Waits g new.stage new.plain
  quiet-waits t (Wanting []) p new k h = still-waits (Wanting []) _ p new h refl k
  quiet-waits t (Marking (w ∷ ws) marks) p new k h = still-waits (Marking (w ∷ ws) marks) _ p new h refl k
  quiet-waits t (Marking [] marks) p new k h = still-waits (Marking [] marks) _ p new h refl k
  quiet-waits t (Accepting n marks) p new k h = still-waits (Accepting n marks) _ p new h refl k
  quiet-waits t (Serving (m ∷ ms)) p new k h = still-waits (Serving (m ∷ ms)) _ p new h.1 refl k
  quiet-waits t (Filtering e ms) p new k h =
      moved_to (Filtering e ms) (Serving ms) p (after_got g (past g t) e p) new h
      (none-left (Filtering e ms) (Serving ms) p (after_got g (past g t) e p) (wakes-got g (past g t) e p) refl k)
  quiet-waits t (Serving []) p new k h =
      moved_to (Serving []) (Dispatching (batch p.due)) p (record p { due = [] }) new h
      (record { due = All-nil (DueOf g (record p { due = [] })); left = batch-all g p p.due k.due })
  quiet-waits t (Firing x rs) p new k h =
      moved_to (Firing x rs) (after_fire x rs) p p new h
      (record { due = k.due; left = fire-left x.stopped x.side.link rs p k.left })
  quiet-waits t (Dispatching []) p new k h = still-waits (Dispatching []) _ p new h refl k
  quiet-waits t (Passing [] (e ∷ es)) p new k (inl h) = still-waits (Passing [] (e ∷ es)) _ p new h.1 refl k
  quiet-waits t (Passing [] (e ∷ es)) p new k (inr h) = still-waits (Passing [] (e ∷ es)) _ p new h refl k
  quiet-waits t (Passing (x ∷ xs) (e ∷ es)) p new k h =
      moved_to (Passing (x ∷ xs) (e ∷ es)) (Passing xs (e ∷ es)) p (do_part g (past g t) e x p) new h
      (none-left (Passing (x ∷ xs) (e ∷ es)) (Passing xs (e ∷ es)) p (do_part g (past g t) e x p) (wakes-part g (past g t) e x p) refl k)
  quiet-waits t (Passing [] []) p new k h = still-waits (Passing [] []) _ p new h refl k
  quiet-waits t (Closing (c ∷ cs)) p new k h = still-waits (Closing (c ∷ cs)) _ p new h.1 refl k
  quiet-waits t (Closing []) p new k h = still-waits (Closing []) _ p new h refl k
  quiet-waits t _ p new k h = absurd h

  all-wait : (t : Trace) (s : State) → Reaches g t s → Waits g s.stage s.plain
  all-wait t s Reaches.begins = record { due = All-nil (DueOf g start.plain); left = All-nil (ReasonOf g start.plain) }
  all-wait t new (Reaches.goes {t = u} {s = old} r h) = quiet-waits u old.stage old.plain new (all-wait u old r) h
  all-wait t new (Reaches.puts {t = u} {s = old} e bytes r h) =
      put-waits u old.stage old.plain e bytes new (kept g u old r).counts.shape.sides (all-wait u old r) h

pub waits_are_hooked : WaitsAreHooked
waits_are_hooked = all-wait
