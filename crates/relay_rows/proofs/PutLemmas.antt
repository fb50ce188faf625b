-- What the replay puts, the relation lets be put.
use Rattle.std.proofs.Common.{◌≡◌, inl, inr, ℕ, ◌+◌, ◌≤◌, Bool, true, false, ◌==◌, ◌&&◌, ◌||◌, not, nat_lt, nat_le, if◌then◌else◌, List, []}
use Rattle.std.proofs.Common.{◌∷◌, ◌++◌, length, Option, Some, None, option_map, IsTrue, refl, ap, eqb-true, leb-true, ltb-true}
use Rattle.std.proofs.lemmas.Bool.{and_parts}
use Rattle.ev_types.specs.declared.side.SideId.{SideId}
use Rattle.ev_types.specs.declared.answer.ConnAnswer.{ConnAnswer}
use Rattle.ev_types.specs.declared.answer.ReadAnswer.{ReadAnswer}
use Rattle.ev_types.specs.declared.answer.ReadAnswer.TheVariants as read
use Rattle.ev_types.specs.declared.answer.WriteAnswer.{WriteAnswer}
use Rattle.ev_types.specs.declared.answer.WriteAnswer.TheVariants as write
use Rattle.ev_types.specs.declared.answer.AskAnswer.{AskAnswer}
use Rattle.ev_types.specs.declared.answer.AskAnswer.TheVariants as ask
use Rattle.ev_types.specs.declared.act.Act.{Act}
use Rattle.ev_types.specs.declared.why.Cause.TheVariants as cause
use Rattle.ev_types.specs.declared.why.Why.{Why}
use Rattle.ev_types.specs.declared.entry.Entry.{Entry}
use Rattle.ev_types.specs.declared.entry.Entry.TheVariants as entry
use Rattle.ev_types.specs.Sides.{same_end}
use Rattle.ev_types.specs.Trace.{Trace}
use Rattle.relay_model.specs.Settings.{Settings}
use Rattle.relay_model.specs.Due.{Reason}
use Rattle.relay_model.specs.Plain.{Plain, with_link, is_live}
use Rattle.relay_model.specs.Past.{Past, past}
use Rattle.relay_model.specs.Rooms.{Want, wanted}
use Rattle.relay_model.specs.Asks.{most_asks, refusal, may_lack, Answered, Ask}
use Rattle.relay_model.specs.Moments.{poll_timeout, time_passed}
use Rattle.relay_model.specs.Serve.{Call, call_for, marks_left, CarriesGot, CarriesTook, after_conn, after_read, after_write}
use Rattle.relay_model.specs.Close.{CloseStep, freed_entry, closing_entry, closed_by, steps_left}
use Rattle.relay_model.specs.Stages.{Fire, Halt, Stage, Between, Polling, Wanting, Marking, Accepting, Serving, Dispatching, Firing}
use Rattle.relay_model.specs.Stages.{Freeing, Closing, Over, State, at, begun, after_ask}
use Rattle.ev_types.specs.Times.{latest}
use Rattle.relay_model.specs.Turn.{most_opened, turned_to, after_reading, IsPartOf, Puts}
use Rattle.relay_rows.specs.Same.{is_empty, same_flag, same_number, same_why, same_answer, same_end_of}
use Rattle.relay_rows.specs.Put.{provided, asks_connect, asks_read, asks_write, asks_nothing, is_count_of, carries_got, carries_took}
use Rattle.relay_rows.specs.Put.{is_part_of, answered, put}
use Rattle.relay_rows.proofs.SameLemmas.{is_empty-is, same_flag-is, same_number-is, same_end-is, same_why-is, same_answer-is}
use Rattle.relay_rows.proofs.SameLemmas.{same_end_of-is}

pub provided-is : {X : Type 0} (test : Bool) (x new : X) → provided test x ≡ Some new → (test ≡ true) × (new ≡ x)
provided-is true x new h = (refl, cc)
provided-is false x new h = absurd (cc)

pub asks_connect-is : (c : Call) → asks_connect c ≡ true → c ≡ Call.AskConnect
asks_connect-is Call.AskConnect h = refl
asks_connect-is _ h = absurd (cc)

pub asks_read-is : (room : ℕ) (c : Call) → asks_read room c ≡ true → c ≡ Call.AskRead room
asks_read-is room (Call.AskRead n) h = ap Call.AskRead (eqb-true n room h)
asks_read-is room _ h = absurd (cc)

pub asks_write-is : (offered : ℕ) (c : Call) → asks_write offered c ≡ true → c ≡ Call.AskWrite offered
asks_write-is offered (Call.AskWrite n) h = ap Call.AskWrite (eqb-true n offered h)
asks_write-is offered _ h = absurd (cc)

pub asks_nothing-is : (c : Call) → asks_nothing c ≡ true → c ≡ Call.Nothing
asks_nothing-is Call.Nothing h = refl
asks_nothing-is _ h = absurd (cc)

is_count_of-is : (n room : ℕ) (bytes : List ℕ) → is_count_of n room bytes ≡ true → (length bytes ≡ n) × (1 ≤ n) × (n ≤ room)
is_count_of-is n room bytes h =
    let p = and_parts (length bytes == n && nat_le 1 n) (nat_le n room) h in
    let q = and_parts (length bytes == n) (nat_le 1 n) p.0 in
    (eqb-true (length bytes) n q.0, leb-true 1 n q.1, leb-true n room p.1)

carries_got-is : (answer : ReadAnswer) (room : ℕ) (bytes : List ℕ) → carries_got answer room bytes ≡ true → CarriesGot answer room bytes
carries_got-is (read.Got n) room bytes h = is_count_of-is n room bytes h
carries_got-is read.Ended room bytes h = is_empty-is bytes h
carries_got-is read.NotYet room bytes h = is_empty-is bytes h
carries_got-is read.Failed room bytes h = is_empty-is bytes h

carries_took-is : (answer : WriteAnswer) (offered : ℕ) (bytes : List ℕ) → carries_took answer offered bytes ≡ true → CarriesTook
    answer offered bytes
carries_took-is (write.Took n) offered bytes h = is_count_of-is n offered bytes h
carries_took-is write.NotYet offered bytes h = is_empty-is bytes h
carries_took-is write.Failed offered bytes h = is_empty-is bytes h
carries_took-is write.NoMemory offered bytes h = absurd (cc)

implies : (a b : Bool) → (not a || b) ≡ true → IsTrue a → IsTrue b
implies true b h t = h
implies false b h t = absurd (cc)

is_part_of-is : (read write : Bool) (w : Want) → is_part_of read write w ≡ true → IsPartOf read write w
is_part_of-is read write w h =
    let p = and_parts ((not read || w.read) && (not write || w.write)) (read || write) h in
    let q = and_parts (not read || w.read) (not write || w.write) p.0 in
    (implies read w.read q.0, implies write w.write q.1, p.1)

answered-is : (refused : Option AskAnswer) (g : Settings) (p : Past) (s : Plain) (a : Act) (answer : AskAnswer) (new : Plain) →
    answered refused g p s a answer ≡ Some new → Answered refused g p s a answer new
answered-is (Some refused) g p s a answer new h =
    let w = provided-is (same_answer answer refused) s new h in
    (same_answer-is answer refused w.0, w.1)
answered-is None g p s a ask.Ok new h = inl (refl, cc)
answered-is None g p s a ask.Memory new h = let w = provided-is (may_lack a) s new h in inr (refl, w.0, w.1)
answered-is None g p s a ask.NotLive new h = absurd (cc)
answered-is None g p s a ask.NoGroup new h = absurd (cc)
answered-is None g p s a ask.BadValue new h = absurd (cc)
answered-is None g p s a ask.TooManyRefs new h = absurd (cc)

module _ (g : Settings) (t : Trace) (s : Plain) where
  turn-is : (ms : ℕ) (bytes : List ℕ) (new : State) → put g t Between s (entry.Turn ms) bytes ≡ Some new → Puts g t Between s
      (entry.Turn ms) bytes new
  turn-is ms bytes new h =
      let w = provided-is (nat_le s.time ms && nat_le ms latest && is_empty bytes) (at Polling
      (time_passed g (past g (t ++ (entry.Turn ms, []) ∷ [])) (turned_to ms s))) new h in
      let p = and_parts (nat_le s.time ms && nat_le ms latest) (is_empty bytes) w.0 in
      let q = and_parts (nat_le s.time ms) (nat_le ms latest) p.0 in
      (leb-true s.time ms q.0, leb-true ms latest q.1, is_empty-is bytes p.1, w.1)

  poll-is : (timeout : Option ℕ) (bytes : List ℕ) (new : State) → put g t Polling s (entry.Poll timeout) bytes ≡ Some new → Puts g
      t Polling s (entry.Poll timeout) bytes new
  poll-is timeout bytes new h =
      let w = provided-is (same_number timeout (poll_timeout g (past g t) s) && is_empty bytes)
      (at (Wanting (wanted g (past g t) s)) s) new h in
      let p = and_parts (same_number timeout (poll_timeout g (past g t) s)) (is_empty bytes) w.0 in
      (same_number-is timeout (poll_timeout g (past g t) s) p.0, is_empty-is bytes p.1, w.1)

  want-is : (w : Want) (ws : List Want) (side : SideId) (read write : Bool) (bytes : List ℕ) (new : State) →
      put g t (Wanting (w ∷ ws)) s (entry.Want side read write) bytes ≡ Some new → Puts g t (Wanting (w ∷ ws)) s
      (entry.Want side read write) bytes new
  want-is w ws side read write bytes new h =
      let x = provided-is (same_end w.side side && same_flag w.read read && same_flag w.write write && is_empty bytes)
      (at (Wanting ws) s) new h in
      let p = and_parts (same_end w.side side && same_flag w.read read && same_flag w.write write) (is_empty bytes) x.0 in
      let q = and_parts (same_end w.side side && same_flag w.read read) (same_flag w.write write) p.0 in
      let r = and_parts (same_end w.side side) (same_flag w.read read) q.0 in
      let a = same_end-is w.side side r.0 in
      let b = same_flag-is w.read read r.1 in
      let c = same_flag-is w.write write q.1 in
      (λ i. record { side = a i; read = b i; write = c i }, is_empty-is bytes p.1, x.1)

  poll_failed-is : (bytes : List ℕ) (new : State) → put g t (Wanting []) s entry.PollFailed bytes ≡ Some new → Puts g t
      (Wanting []) s entry.PollFailed bytes new
  poll_failed-is bytes new h = let x = provided-is (is_empty bytes) (at (Over Halt.PollFailed) s) new h in (is_empty-is bytes x.0, x.1)

  ready-is : (w : Want) (ws marks : List Want) (side : SideId) (read write : Bool) (bytes : List ℕ) (new : State) →
      put g t (Marking (w ∷ ws) marks) s (entry.Ready side read write) bytes ≡ Some new → Puts g t (Marking (w ∷ ws) marks) s
      (entry.Ready side read write) bytes new
  ready-is w ws marks side read write bytes new h =
      let x = provided-is (same_end side w.side && is_part_of read write w && is_empty bytes)
      (at (Marking ws (marks ++ record { side = side; read = read; write = write } ∷ [])) s) new h in
      let p = and_parts (same_end side w.side && is_part_of read write w) (is_empty bytes) x.0 in
      let q = and_parts (same_end side w.side) (is_part_of read write w) p.0 in
      (same_end-is side w.side q.0, is_part_of-is read write w q.1, is_empty-is bytes p.1, x.1)

  opened-is : (n : ℕ) (marks : List Want) (link : ℕ) (connected : Bool) (bytes : List ℕ) (new : State) →
      put g t (Accepting n marks) s (entry.Opened link connected) bytes ≡ Some new → Puts g t (Accepting n marks) s
      (entry.Opened link connected) bytes new
  opened-is n marks link connected bytes new h =
      let x = provided-is (link == s.opened && nat_lt n most_opened && nat_lt link g.links && is_empty bytes)
      (at (Accepting (n + 1) marks) (with_link g connected s)) new h in
      let p = and_parts (link == s.opened && nat_lt n most_opened && nat_lt link g.links) (is_empty bytes) x.0 in
      let q = and_parts (link == s.opened && nat_lt n most_opened) (nat_lt link g.links) p.0 in
      let r = and_parts (link == s.opened) (nat_lt n most_opened) q.0 in
      (eqb-true link s.opened r.0, ltb-true n most_opened r.1, ltb-true link g.links q.1, is_empty-is bytes p.1, x.1)

  conn-is : (m : Want) (ms : List Want) (side : SideId) (answer : ConnAnswer) (bytes : List ℕ) (new : State) →
      put g t (Serving (m ∷ ms)) s (entry.Conn side answer) bytes ≡ Some new → Puts g t (Serving (m ∷ ms)) s
      (entry.Conn side answer) bytes new
  conn-is m ms side answer bytes new h =
      let x = provided-is (same_end side m.side && asks_connect (call_for g (past g t) s m) && is_empty bytes)
      (at (Serving (marks_left s m ms)) (after_conn g side answer s)) new h in
      let p = and_parts (same_end side m.side && asks_connect (call_for g (past g t) s m)) (is_empty bytes) x.0 in
      let q = and_parts (same_end side m.side) (asks_connect (call_for g (past g t) s m)) p.0 in
      (same_end-is side m.side q.0, asks_connect-is (call_for g (past g t) s m) q.1, is_empty-is bytes p.1, x.1)

  read-is : (m : Want) (ms : List Want) (side : SideId) (room : ℕ) (answer : ReadAnswer) (bytes : List ℕ) (new : State) →
      put g t (Serving (m ∷ ms)) s (entry.Read side room answer) bytes ≡ Some new → Puts g t (Serving (m ∷ ms)) s
      (entry.Read side room answer) bytes new
  read-is m ms side room answer bytes new h =
      let x = provided-is (same_end side m.side && asks_read room (call_for g (past g t) s m) && carries_got answer room bytes)
      (at (after_reading side answer (marks_left s m ms)) (after_read g side answer s)) new h in
      let p = and_parts (same_end side m.side && asks_read room (call_for g (past g t) s m)) (carries_got answer room bytes) x.0 in
      let q = and_parts (same_end side m.side) (asks_read room (call_for g (past g t) s m)) p.0 in
      (same_end-is side m.side q.0, asks_read-is room (call_for g (past g t) s m) q.1, carries_got-is answer room bytes p.1, x.1)

  write-is : (m : Want) (ms : List Want) (side : SideId) (offered : ℕ) (answer : WriteAnswer) (bytes : List ℕ) (new : State) →
      put g t (Serving (m ∷ ms)) s (entry.Write side offered answer) bytes ≡ Some new → Puts g t (Serving (m ∷ ms)) s
      (entry.Write side offered answer) bytes new
  write-is m ms side offered answer bytes new h =
      let x = provided-is (same_end side m.side && asks_write offered (call_for g (past g t) s m) && carries_took answer offered
      bytes) (at (Serving (marks_left s m ms)) (after_write g (past g t) side answer s)) new h in
      let p = and_parts (same_end side m.side && asks_write offered (call_for g (past g t) s m)) (carries_took answer offered bytes) x.0 in
      let q = and_parts (same_end side m.side) (asks_write offered (call_for g (past g t) s m)) p.0 in
      (same_end-is side m.side q.0, asks_write-is offered (call_for g (past g t) s m) q.1, carries_took-is answer offered bytes p.1, x.1)

  fired-is : (r : Reason) (rs : List Reason) (side : SideId) (y : Why) (bytes : List ℕ) (new : State) →
      put g t (Dispatching (r ∷ rs)) s (entry.Fired side y) bytes ≡ Some new → Puts g t (Dispatching (r ∷ rs)) s
      (entry.Fired side y) bytes new
  fired-is r rs side y bytes new h =
      let x = provided-is (same_end r.0 side && same_why r.1 y && is_live s side && is_empty bytes) (at (Firing (begun side) rs) s) new h in
      let p = and_parts (same_end r.0 side && same_why r.1 y && is_live s side) (is_empty bytes) x.0 in
      let q = and_parts (same_end r.0 side && same_why r.1 y) (is_live s side) p.0 in
      let w = and_parts (same_end r.0 side) (same_why r.1 y) q.0 in
      let a = same_end-is r.0 side w.0 in
      let b = same_why-is r.1 y w.1 in
      (λ i. (a i, b i), q.1, is_empty-is bytes p.1, x.1)

  asked_from : (x : Fire) (rs : List Reason) (side : SideId) (a : Act) (answer : AskAnswer) (bytes : List ℕ) (new : State)
      (after : Option Plain) →
      answered (refusal g s a) g (past g t) s a answer ≡ after → option_map
      (at (after_ask (record x { asks = x.asks + 1 }) rs a answer)) after ≡ Some new →
      (mid : Plain) × Ask g (past g t) s a answer mid × (new ≡ at (after_ask (record x { asks = x.asks + 1 }) rs a answer) mid)
  asked_from x rs side a answer bytes new None e h = absurd (cc)
  asked_from x rs side a answer bytes new (Some mid) e h = (mid, answered-is (refusal g s a) g (past g t) s a answer mid e, cc)

  asked_at : (test : Bool) (x : Fire) (rs : List Reason) (side : SideId) (a : Act) (answer : AskAnswer) (bytes : List ℕ) (new : State) →
      (if test then option_map (at (after_ask (record x { asks = x.asks + 1 }) rs a answer))
      (answered (refusal g s a) g (past g t) s a answer) else None) ≡ Some new →
      (test ≡ true) × (mid : Plain) × Ask g (past g t) s a answer mid ×
      (new ≡ at (after_ask (record x { asks = x.asks + 1 }) rs a answer) mid)
  asked_at true x rs side a answer bytes new h =
      let w = asked_from x rs side a answer bytes new (answered (refusal g s a) g (past g t) s a answer) refl h in
      (refl, w.0, w.1, w.2)
  asked_at false x rs side a answer bytes new h = absurd (cc)

  asked-is : (x : Fire) (rs : List Reason) (side : SideId) (a : Act) (answer : AskAnswer) (bytes : List ℕ) (new : State) →
      put g t (Firing x rs) s (entry.Asked side a answer) bytes ≡ Some new → Puts g t (Firing x rs) s (entry.Asked side a answer) bytes new
  asked-is x rs side a answer bytes new h =
      let w = asked_at (same_end side x.side && nat_lt x.asks most_asks && is_empty bytes) x rs side a answer bytes new h in
      let p = and_parts (same_end side x.side && nat_lt x.asks most_asks) (is_empty bytes) w.0 in
      let q = and_parts (same_end side x.side) (nat_lt x.asks most_asks) p.0 in
      (same_end-is side x.side q.0, ltb-true x.asks most_asks q.1, is_empty-is bytes p.1, w.1, w.2, w.3)

  freeing-is : (gone : SideId) (x : Fire) (rs : List Reason) (e : Entry) (bytes : List ℕ) (new : State) →
      put g t (Freeing gone x rs) s e bytes ≡ Some new → Puts g t (Freeing gone x rs) s e bytes new
  freeing-is gone x rs e bytes new h =
      let w = provided-is (same_end_of e (freed_entry s gone cause.Hook) && is_empty bytes) (at (Firing x rs) s) new h in
      let p = and_parts (same_end_of e (freed_entry s gone cause.Hook)) (is_empty bytes) w.0 in
      (same_end_of-is e (freed_entry s gone cause.Hook) p.0, is_empty-is bytes p.1, w.1)

  closing_at : (due : Option Entry) (c : CloseStep) (cs : List CloseStep) (e : Entry) (bytes : List ℕ) (new : State) →
      elim due [
        | Some x ↦ provided (same_end_of x e && is_empty bytes) (at (Closing (steps_left c cs)) (closed_by c s))
        | None
            ↦ None
      ] ≡ Some new →
      (due ≡ Some e) × (bytes ≡ []) × (new ≡ at (Closing (steps_left c cs)) (closed_by c s))
  closing_at None c cs e bytes new h = absurd (cc)
  closing_at (Some x) c cs e bytes new h =
      let w = provided-is (same_end_of x e && is_empty bytes) (at (Closing (steps_left c cs)) (closed_by c s)) new h in
      let p = and_parts (same_end_of x e) (is_empty bytes) w.0 in
      (ap Some (same_end_of-is x e p.0), is_empty-is bytes p.1, w.1)

  closing-is : (c : CloseStep) (cs : List CloseStep) (e : Entry) (bytes : List ℕ) (new : State) →
      put g t (Closing (c ∷ cs)) s e bytes ≡ Some new → Puts g t (Closing (c ∷ cs)) s e bytes new
  closing-is c cs e bytes new h = closing_at (closing_entry g (past g t) s c) c cs e bytes new h

pub put-is : (g : Settings) (t : Trace) (x : Stage) (s : Plain) (e : Entry) (bytes : List ℕ) (new : State) → put g t x s e bytes ≡
    Some new → Puts g t x s e bytes new
put-is g t Between s (entry.Turn ms) bytes new h = turn-is g t s ms bytes new h
put-is g t Polling s (entry.Poll timeout) bytes new h = poll-is g t s timeout bytes new h
put-is g t (Wanting (w ∷ ws)) s (entry.Want side read write) bytes new h = want-is g t s w ws side read write bytes new h
put-is g t (Wanting []) s entry.PollFailed bytes new h = poll_failed-is g t s bytes new h
put-is g t (Marking (w ∷ ws) marks) s (entry.Ready side read write) bytes new h = ready-is g t s w ws marks side read write bytes new h
put-is g t (Accepting n marks) s (entry.Opened link connected) bytes new h = opened-is g t s n marks link connected bytes new h
put-is g t (Serving (m ∷ ms)) s (entry.Conn side answer) bytes new h = conn-is g t s m ms side answer bytes new h
put-is g t (Serving (m ∷ ms)) s (entry.Read side room answer) bytes new h = read-is g t s m ms side room answer bytes new h
put-is g t (Serving (m ∷ ms)) s (entry.Write side offered answer) bytes new h = write-is g t s m ms side offered answer bytes new h
put-is g t (Dispatching (r ∷ rs)) s (entry.Fired side y) bytes new h = fired-is g t s r rs side y bytes new h
put-is g t (Firing x rs) s (entry.Asked side a answer) bytes new h = asked-is g t s x rs side a answer bytes new h
put-is g t (Freeing gone x rs) s e bytes new h = freeing-is g t s gone x rs e bytes new h
put-is g t (Closing (c ∷ cs)) s e bytes new h = closing-is g t s c cs e bytes new h
put-is g t _ s _ bytes new h = absurd (cc)
