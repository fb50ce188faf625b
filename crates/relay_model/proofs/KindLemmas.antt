-- The kinds of entries that may be put, each with what is known where it is, and of silent steps.
use Rattle.std.proofs.Common.{◌≡◌, ℕ, ◌+◌, ◌≤◌, Bool, true, ◌&&◌, not, ◌==◌, List, [], ◌∷◌, ◌++◌, Option, Some, ◌⊎◌, inl, inr, refl, sym}
use Rattle.std.proofs.Common.{◌∙◌, ap, subst}
use Rattle.std.proofs.lemmas.Bool.{and_parts, eqb-true}
use Rattle.ev_types.specs.declared.side.Side.TheVariants.{In, Out}
use Rattle.ev_types.specs.declared.side.SideId.{SideId}
use Rattle.ev_types.specs.declared.act.Act.{Act}
use Rattle.ev_types.specs.declared.act.Act.TheVariants as act
use Rattle.ev_types.specs.declared.answer.AskAnswer.{AskAnswer}
use Rattle.ev_types.specs.declared.answer.AskAnswer.TheVariants as ask
use Rattle.ev_types.specs.declared.answer.ConnAnswer.{ConnAnswer}
use Rattle.ev_types.specs.declared.answer.ReadAnswer.{ReadAnswer}
use Rattle.ev_types.specs.declared.answer.WriteAnswer.{WriteAnswer}
use Rattle.ev_types.specs.declared.why.Cause.{Cause}
use Rattle.ev_types.specs.declared.why.Why.{Why}
use Rattle.ev_types.specs.declared.why.Cause.TheVariants as cause
use Rattle.ev_types.specs.declared.entry.Entry.{Entry}
use Rattle.ev_types.specs.declared.entry.Entry.TheVariants as entry
use Rattle.ev_types.specs.Sides.{peer}
use Rattle.ev_types.specs.Trace.{Event, Trace}
use Rattle.relay_model.specs.Settings.{Settings}
use Rattle.relay_model.specs.Due.{Reason}
use Rattle.relay_model.specs.Plain.{Plain, with_link, side_at, is_live, freed}
use Rattle.relay_model.specs.Past.{Past, past}
use Rattle.relay_model.specs.Rooms.{Want, may_read, may_write, write_room, output_length}
use Rattle.relay_model.specs.Moments.{time_passed}
use Rattle.relay_model.specs.Serve.{marks_left, after_conn, after_read, after_write, CarriesTook, CarriesGot}
use Rattle.relay_model.specs.Close.{CloseStep, fault, freed_entry, closing_entry, closed_by, steps_left, is_complete}
use Rattle.relay_model.specs.Stages.{Stage, Fire, State, at, Between, Polling, Wanting, Marking, Accepting, Serving, Dispatching, Firing}
use Rattle.relay_model.specs.Stages.{Freeing, Closing, Over, Halt, begun, after_ask}
use Rattle.ev_types.specs.Times.{latest}
use Rattle.relay_model.specs.Turn.{turned_to, after_reading, Puts}
use Rattle.relay_model.proofs.KeepsLemmas.{Keeps}
use Rattle.relay_model.proofs.SeenLemmas.{seen}
use Rattle.relay_model.proofs.PlacedLemmas.{Placed}
use Rattle.relay_model.proofs.AskLemmas.{Frees, GoesOn, ask-outcome}
use Rattle.relay_model.proofs.StepLemmas.{conn-live, read-called, write-called}
use Rattle.relay_model.proofs.CloseCases.{where_parts, faulty_parts}

-- What closing puts

pub data ClosedKind (g : Settings) (p : Past) (s : Plain) : CloseStep → Entry → Type 0 where
  faulty : {z : SideId} {why : Cause} → is_live s z ≡ true → fault (side_at s z) ≡ Some why → ClosedKind g p s (CloseStep.Faulty z)
      (freed_entry s z why)
  write_ended : {z : SideId} → is_live s z ≡ true → is_complete g p s (peer z) ≡ true → ClosedKind g p s (CloseStep.EndWriting z)
      (entry.CloseWrite z)
  in_done : {k : ℕ} → is_live s (record { link = k; side = In }) ≡ true → is_live s (record { link = k; side = Out }) ≡ true →
      (side_at s (record { link = k; side = In })).write_ended ≡ true → (side_at s (record { link = k; side = Out })).write_ended ≡ true →
      ClosedKind g p s (CloseStep.BothDone k) (freed_entry s (record { link = k; side = In }) cause.Done)
  out_done : {k : ℕ} → ClosedKind g p s (CloseStep.OutDone k) (freed_entry s (record { link = k; side = Out }) cause.Done)
  peer_gone : {z : SideId} → is_live s z ≡ true → not (is_live s (peer z)) ≡ true → output_length g p s z ≡ 0 → ClosedKind g p s
      (CloseStep.PeerGone z) (freed_entry s z cause.PeerGone)
  shut : {z : SideId} → not (is_live s z) ≡ true → not (side_at s z).closed ≡ true → ClosedKind g p s (CloseStep.Shut z) (entry.Close z)

pub closed-kind : (g : Settings) (p : Past) (s : Plain) (c : CloseStep) (e : Entry) → closing_entry g p s c ≡ Some e → ClosedKind g p s c e
closed-kind g p s (CloseStep.Faulty z) e h =
    let k = faulty_parts s z (is_live s z) (fault (side_at s z)) e h in
    subst (λ v. ClosedKind g p s (CloseStep.Faulty z) v) (sym k.1.2) (ClosedKind.faulty k.0 k.1.1)
closed-kind g p s (CloseStep.EndWriting z) e h =
    let x = side_at s z in
    let k = where_parts (x.live && is_live s (peer z) && is_complete g p s (peer z) && not x.connecting && not x.write_ended)
    (entry.CloseWrite z) e h in
    let a = and_parts (x.live && is_live s (peer z) && is_complete g p s (peer z) && not x.connecting) (not x.write_ended) k.0 in
    let b = and_parts (x.live && is_live s (peer z) && is_complete g p s (peer z)) (not x.connecting) a.0 in
    let c = and_parts (x.live && is_live s (peer z)) (is_complete g p s (peer z)) b.0 in
    subst (λ v. ClosedKind g p s (CloseStep.EndWriting z) v) (sym k.1) (ClosedKind.write_ended
    (and_parts x.live (is_live s (peer z)) c.0).0 c.1)
closed-kind g p s (CloseStep.BothDone n) e h =
    let i : SideId = record { link = n; side = In } in
    let x = side_at s i in
    let y = side_at s (peer i) in
    let k = where_parts (x.live && y.live && x.write_ended && y.write_ended) (freed_entry s i cause.Done) e h in
    let a = and_parts (x.live && y.live && x.write_ended) y.write_ended k.0 in
    let b = and_parts (x.live && y.live) x.write_ended a.0 in
    let c = and_parts x.live y.live b.0 in
    subst (λ v. ClosedKind g p s (CloseStep.BothDone n) v) (sym k.1) (ClosedKind.in_done c.0 c.1 b.1 a.1)
closed-kind g p s (CloseStep.OutDone n) e h =
    let same : freed_entry s (record { link = n; side = Out }) cause.Done ≡ e = cc in
    subst (λ v. ClosedKind g p s (CloseStep.OutDone n) v) same ClosedKind.out_done
closed-kind g p s (CloseStep.PeerGone z) e h =
    let k = where_parts (is_live s z && not (is_live s (peer z)) && output_length g p s z == 0) (freed_entry s z cause.PeerGone) e h in
    let a = and_parts (is_live s z && not (is_live s (peer z))) (output_length g p s z == 0) k.0 in
    let b = and_parts (is_live s z) (not (is_live s (peer z))) a.0 in
    subst (λ v. ClosedKind g p s (CloseStep.PeerGone z) v) (sym k.1) (ClosedKind.peer_gone b.0 b.1 (eqb-true (output_length g p s z) 0 a.1))
closed-kind g p s (CloseStep.Shut z) e h =
    let k = where_parts (not (is_live s z) && not (side_at s z).closed) (entry.Close z) e h in
    let a = and_parts (not (is_live s z)) (not (side_at s z).closed) k.0 in
    subst (λ v. ClosedKind g p s (CloseStep.Shut z) v) (sym k.1) (ClosedKind.shut a.0 a.1)

-- What is put

pub data PutKind (g : Settings) (t : Trace) (s : Plain) : Stage → Event → State → Type 0 where
  turned : {ms : ℕ} → s.time ≤ ms → ms ≤ latest → PutKind g t s Between (entry.Turn ms, [])
      (at Polling (time_passed g (past g (t ++ (entry.Turn ms, []) ∷ [])) (turned_to ms s)))
  polled : {timeout : Option ℕ} {ws : List Want} → PutKind g t s Polling (entry.Poll timeout, []) (at (Wanting ws) s)
  wanted : {w : Want} {ws : List Want} {side : SideId} {r d : Bool} → is_live s side ≡ true → PutKind g t s (Wanting (w ∷ ws))
      (entry.Want side r d, []) (at (Wanting ws) s)
  poll_failed : PutKind g t s (Wanting []) (entry.PollFailed, []) (at (Over Halt.PollFailed) s)
  readied : {w : Want} {ws marks new_marks : List Want} {side : SideId} {r d : Bool} → is_live s side ≡ true → PutKind g t s
      (Marking (w ∷ ws) marks) (entry.Ready side r d, []) (at (Marking ws new_marks) s)
  opened : {n : ℕ} {marks : List Want} {connected : Bool} → PutKind g t s (Accepting n marks) (entry.Opened s.opened connected, [])
      (at (Accepting (n + 1) marks) (with_link g connected s))
  checked : {ms left : List Want} {side : SideId} {answer : ConnAnswer} → is_live s side ≡ true →
      PutKind g t s (Serving ms) (entry.Conn side answer, []) (at (Serving left) (after_conn g side answer s))
  was_read : {ms : List Want} {side : SideId} {room : ℕ} {answer : ReadAnswer} {bytes : List ℕ} (left : List Want) → may_read s
      side ≡ true → CarriesGot answer room bytes →
      PutKind g t s (Serving ms) (entry.Read side room answer, bytes) (at (after_reading side answer left) (after_read g side answer s))
  written : {ms left : List Want} {side : SideId} {offered : ℕ} {answer : WriteAnswer} {bytes : List ℕ} → may_write s side ≡ true →
      offered ≡ write_room g (past g t) s side → CarriesTook answer offered bytes →
      PutKind g t s (Serving ms) (entry.Write side offered answer, bytes) (at (Serving left) (after_write g (past g t) side answer s))
  fired : {rs left : List Reason} {side : SideId} {y : Why} → is_live s side ≡ true → PutKind g t s (Dispatching rs)
      (entry.Fired side y, []) (at (Firing (begun side) left) s)
  frees : {x next : Fire} {rs left : List Reason} {gone : SideId} → is_live s gone ≡ true → next.side ≡ x.side →
      PutKind g t s (Firing x rs) (entry.Asked x.side (act.Free gone) ask.Ok, []) (at (Freeing gone next left) (freed gone s))
  asked : {x next : Fire} {rs left : List Reason} {a : Act} {answer : AskAnswer} {after : Plain} → next.side ≡ x.side → Keeps seen
      s after → after.flows ≡ s.flows →
      PutKind g t s (Firing x rs) (entry.Asked x.side a answer, []) (at (Firing next left) after)
  recorded : {gone : SideId} {x : Fire} {rs : List Reason} → PutKind g t s (Freeing gone x rs) (freed_entry s gone cause.Hook, [])
      (at (Firing x rs) s)
  closed : {c : CloseStep} {cs : List CloseStep} {e : Entry} → closing_entry g (past g t) s c ≡ Some e → PutKind g t s
      (Closing (c ∷ cs)) (e, []) (at (Closing (steps_left c cs)) (closed_by c s))

pub put-kind : (g : Settings) (t : Trace) (x : Stage) (s : Plain) (e : Entry) (bytes : List ℕ) (new : State) → Placed x s → Puts g
    t x s e bytes new → PutKind g t s x (e, bytes) new
put-kind g t Between s (entry.Turn ms) bytes new placed h =
    subst (λ b. PutKind g t s Between (entry.Turn ms, b) new) (sym h.2) (subst (λ z. PutKind g t s Between (entry.Turn ms, []) z)
    (sym h.3) (PutKind.turned h.0 h.1))
put-kind g t Polling s (entry.Poll timeout) bytes new placed h =
    subst (λ b. PutKind g t s Polling (entry.Poll timeout, b) new) (sym h.1)
    (subst (λ z. PutKind g t s Polling (entry.Poll timeout, []) z) (sym h.2) PutKind.polled)
put-kind g t (Wanting (w ∷ ws)) s (entry.Want side r d) bytes new placed h =
    let live : is_live s side ≡ true = ap (λ z. is_live s z) (sym (ap (λ z. z.side) h.0)) ∙ placed.0 in
    subst (λ b. PutKind g t s (Wanting (w ∷ ws)) (entry.Want side r d, b) new) (sym h.1) (subst
    (λ z. PutKind g t s (Wanting (w ∷ ws)) (entry.Want side r d, []) z) (sym h.2) (PutKind.wanted live))
put-kind g t (Wanting []) s entry.PollFailed bytes new placed h =
    subst (λ b. PutKind g t s (Wanting []) (entry.PollFailed, b) new) (sym h.0)
    (subst (λ z. PutKind g t s (Wanting []) (entry.PollFailed, []) z) (sym h.1) PutKind.poll_failed)
put-kind g t (Marking (w ∷ ws) marks) s (entry.Ready side r d) bytes new placed h =
    let live : is_live s side ≡ true = ap (λ z. is_live s z) h.0 ∙ placed.0 in
    subst (λ b. PutKind g t s (Marking (w ∷ ws) marks) (entry.Ready side r d, b) new) (sym h.2)
    (subst (λ z. PutKind g t s (Marking (w ∷ ws) marks) (entry.Ready side r d, []) z) (sym h.3) (PutKind.readied live))
put-kind g t (Accepting n marks) s (entry.Opened link connected) bytes new placed h =
    subst (λ b. PutKind g t s (Accepting n marks) (entry.Opened link connected, b) new) (sym h.3)
    (subst (λ k. PutKind g t s (Accepting n marks) (entry.Opened k connected, []) new) (sym h.0)
    (subst (λ z. PutKind g t s (Accepting n marks) (entry.Opened s.opened connected, []) z) (sym h.4) PutKind.opened))
put-kind g t (Serving (m ∷ ms)) s (entry.Conn side answer) bytes new placed h =
    let live : is_live s side ≡ true = ap (λ z. is_live s z) h.0 ∙ conn-live g (past g t) s m h.1 in
    subst (λ b. PutKind g t s (Serving (m ∷ ms)) (entry.Conn side answer, b) new) (sym h.2)
    (subst (λ z. PutKind g t s (Serving (m ∷ ms)) (entry.Conn side answer, []) z) (sym h.3) (PutKind.checked live))
put-kind g t (Serving (m ∷ ms)) s (entry.Read side room answer) bytes new placed h =
    let may : may_read s side ≡ true = ap (λ z. may_read s z) h.0 ∙ (read-called g (past g t) s m room h.1).may in
    subst (λ z. PutKind g t s (Serving (m ∷ ms)) (entry.Read side room answer, bytes) z) (sym h.3)
    (PutKind.was_read (marks_left s m ms) may h.2)
put-kind g t (Serving (m ∷ ms)) s (entry.Write side offered answer) bytes new placed h =
    let called = write-called g (past g t) s m offered h.1 in
    let may : may_write s side ≡ true = ap (λ z. may_write s z) h.0 ∙ called.may in
    let room : offered ≡ write_room g (past g t) s side = called.is_offered ∙ ap (λ z. write_room g (past g t) s z) (sym h.0) in
    subst (λ z. PutKind g t s (Serving (m ∷ ms)) (entry.Write side offered answer, bytes) z) (sym h.3) (PutKind.written may room h.2)
put-kind g t (Dispatching (r ∷ rs)) s (entry.Fired side y) bytes new placed h =
    subst (λ b. PutKind g t s (Dispatching (r ∷ rs)) (entry.Fired side y, b) new) (sym h.2)
    (subst (λ z. PutKind g t s (Dispatching (r ∷ rs)) (entry.Fired side y, []) z) (sym h.3) (PutKind.fired h.1))
put-kind g t (Firing x rs) s (entry.Asked side a answer) bytes new placed h =
    subst (λ b. PutKind g t s (Firing x rs) (entry.Asked side a answer, b) new) (sym h.2)
    (subst (λ z. PutKind g t s (Firing x rs) (entry.Asked z a answer, []) new) (sym h.0)
    (subst (λ z. PutKind g t s (Firing x rs) (entry.Asked x.side a answer, []) z) (sym h.5)
    (go (ask-outcome g (past g t) s next rs a answer h.3 h.4))))
  where
    next : Fire
    next = record x { asks = x.asks + 1 }

    go : Frees s h.3 a answer ⊎ GoesOn next rs s h.3 a answer → PutKind g t s (Firing x rs) (entry.Asked x.side a answer, [])
        (at (after_ask next rs a answer) h.3)
    go (inl k) =
        subst (λ z. PutKind g t s (Firing x rs) (entry.Asked x.side a answer, []) (at (after_ask next rs a answer) z)) (sym k.freed)
        (subst (λ z. PutKind g t s (Firing x rs) (entry.Asked x.side z answer, []) (at (after_ask next rs z answer)
        (freed k.gone s))) (sym k.act)
        (subst (λ z. PutKind g t s (Firing x rs) (entry.Asked x.side (act.Free k.gone) z, [])
        (at (after_ask next rs (act.Free k.gone) z) (freed k.gone s))) (sym k.answered) (PutKind.frees k.live refl)))
    go (inr k) = subst (λ z. PutKind g t s (Firing x rs) (entry.Asked x.side a answer, []) (at z h.3)) (sym k.stage)
        (PutKind.asked k.same k.keeps k.flows)
put-kind g t (Freeing gone x rs) s e bytes new placed h =
    subst (λ b. PutKind g t s (Freeing gone x rs) (e, b) new) (sym h.1)
    (subst (λ z. PutKind g t s (Freeing gone x rs) (z, []) new) (sym h.0)
    (subst (λ z. PutKind g t s (Freeing gone x rs) (freed_entry s gone cause.Hook, []) z) (sym h.2) PutKind.recorded))
put-kind g t (Closing (c ∷ cs)) s e bytes new placed h =
    subst (λ b. PutKind g t s (Closing (c ∷ cs)) (e, b) new) (sym h.1) (subst (λ z. PutKind g t s (Closing (c ∷ cs)) (e, []) z)
    (sym h.2) (PutKind.closed h.0))
put-kind g t _ s e bytes new placed h = absurd h
