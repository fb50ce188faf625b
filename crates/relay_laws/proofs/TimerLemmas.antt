-- No timer is further ahead than the longest delay that a hook may ask for: by induction over the steps.
use Rattle.std.proofs.Common.{◌≡◌, ℕ, ◌+◌, ◌≤◌, Bool, true, false, not, nat_lt, nat_le, if◌then◌else◌, List, [], ◌∷◌, ◌++◌, fold, Option}
use Rattle.std.proofs.Common.{Some, None, inl, inr, refl, sym, ◌∙◌, ap, subst, arith}
use Rattle.std.specs.Prelude.{filter}
use Rattle.std.specs.List.{AllByRecursion}
use Rattle.std.proofs.lemmas.Bool.{ltb-false}
use Rattle.token_bucket.specs.declared.limit.Dir.{Dir}
use Rattle.token_bucket.specs.declared.limit.Dir.TheVariants as dir
use Rattle.ev_types.specs.declared.act.Act.{Act}
use Rattle.ev_types.specs.declared.act.Act.TheVariants as act
use Rattle.ev_types.specs.declared.answer.AskAnswer.{AskAnswer}
use Rattle.ev_types.specs.declared.answer.ConnAnswer.{ConnAnswer}
use Rattle.ev_types.specs.declared.answer.ConnAnswer.TheVariants as conn
use Rattle.ev_types.specs.declared.answer.ReadAnswer.{ReadAnswer}
use Rattle.ev_types.specs.declared.answer.ReadAnswer.TheVariants as read
use Rattle.ev_types.specs.declared.answer.WriteAnswer.{WriteAnswer}
use Rattle.ev_types.specs.declared.answer.WriteAnswer.TheVariants as write
use Rattle.ev_types.specs.declared.side.Side.TheVariants.{In, Out}
use Rattle.ev_types.specs.declared.side.SideId.{SideId}
use Rattle.ev_types.specs.declared.why.Why.{Why}
use Rattle.ev_types.specs.declared.why.Why.TheVariants as why
use Rattle.ev_types.specs.declared.entry.Entry.TheVariants as entry
use Rattle.ev_types.specs.Sides.{peer, same_end}
use Rattle.ev_types.specs.Trace.{Event, Trace}
use Rattle.relay_model.specs.Settings.{Settings}
use Rattle.relay_model.specs.Due.{Due}
use Rattle.relay_model.specs.Plain.{Plain, PlainSide, Timer, side_at, change_side, change_flow, freed, without_timer, placed, all_sides}
use Rattle.relay_model.specs.Past.{Past, past}
use Rattle.relay_model.specs.Rooms.{wants}
use Rattle.relay_model.specs.Reasons.{raise, raise_write, happened, end_flag, error_flag, timeout_flag}
use Rattle.relay_model.specs.Moments.{is_timed, has_run_out, active_at, expire, both_ways, timers_taken, timed, side_timed, time_passed}
use Rattle.relay_model.specs.Asks.{most_ms, refusal, done, has_bad_value, Answered, Ask}
use Rattle.relay_model.specs.Serve.{after_conn, after_read, after_write}
use Rattle.relay_model.specs.Close.{CloseStep, closed_by}
use Rattle.relay_model.specs.Stages.{Stage, State}
use Rattle.relay_model.specs.Turn.{turned_to, Puts, Reaches}
use Rattle.relay_model.proofs.KeepsLemmas.{raised, raised_read, raised_write}
use Rattle.relay_model.proofs.QuietSteps.{kept-quietly}
use Rattle.relay_model.proofs.KindLemmas.{PutKind, put-kind}
use Rattle.relay_model.proofs.ToldLemmas.{kept}
use Rattle.relay_laws.proofs.SideLemmas.{fine-value}

-- timers that are no further ahead of a time
abbrev pub AllNear : ℕ → List Timer → Type 0
AllNear n ts = AllByRecursion (λ x. x.deadline ≤ n + most_ms) ts

-- A step within a turn lets no other timer come.
record Eases (s new : Plain) : Type 0 where
  time : new.time ≡ s.time
  near : AllNear s.time s.timers → AllNear s.time new.timers

near-kept : (n : ℕ) (keep : Timer → Bool) (ts : List Timer) → AllNear n ts → AllNear n (filter keep ts)
near-kept n keep [] h = tt
near-kept n keep (x ∷ xs) h = go (keep x) (near-kept n keep xs h.1)
  where
    go : (b : Bool) → AllNear n (filter keep xs) → AllNear n (if b then x ∷ filter keep xs else filter keep xs)
    go true rest = (h.0, rest)
    go false rest = rest

near-placed : (n : ℕ) (x : Timer) (ts : List Timer) → x.deadline ≤ n + most_ms → AllNear n ts → AllNear n (placed x ts)
near-placed n x [] le h = (le, tt)
near-placed n x (y ∷ ys) le h = go (nat_lt x.deadline y.deadline) (near-placed n x ys le h.1)
  where
    go : (b : Bool) → AllNear n (placed x ys) → AllNear n (if b then x ∷ y ∷ ys else y ∷ placed x ys)
    go true rest = (le, h)
    go false rest = (h.0, rest)

near-later : (n m : ℕ) (ts : List Timer) → n ≤ m → AllNear n ts → AllNear m ts
near-later n m [] le h = tt
near-later n m (x ∷ xs) le h = (let a = h.0 in omega (arith, a, le), near-later n m xs le h.1)

eases-same : (s : Plain) → Eases s s
eases-same s = record { time = refl; near = λ h. h }

eases-then : (a b c : Plain) → Eases a b → Eases b c → Eases a c
eases-then a b c x y = record {
  time = y.time ∙ x.time;
  near = λ h. subst (λ n. AllNear n c.timers) x.time (y.near (subst (λ n. AllNear n b.timers) (sym x.time) (x.near h)));
}

eases-if : (b : Bool) (s x y : Plain) → Eases s x → Eases s y → Eases s (if b then x else y)
eases-if true s x y p q = p
eases-if false s x y p q = q

eases-fold : {X : Type 0} (step : Plain → X → Plain) → ((s : Plain) (x : X) → Eases s (step s x)) → (s : Plain) (xs : List X) →
    Eases s (fold step s xs)
eases-fold step h s [] = eases-same s
eases-fold step h s (x ∷ xs) = eases-then s (step s x) (fold step (step s x) xs) (h s x) (eases-fold step h (step s x) xs)

eases-due : (s new : Plain) → ((ds : List Due) × (new ≡ record s { due = ds })) → Eases s new
eases-due s new h = subst (Eases s) (sym h.1) (record { time = refl; near = λ k. k })

module _ (g : Settings) where
  eases-raise : (e : SideId) (y : Why) (s : Plain) → Eases s (raise g e y s)
  eases-raise e y s = eases-due s (raise g e y s) (raised g e y s)

  -- a change of one side, and what becomes due by it
  eases-told : (e : SideId) (f : PlainSide → PlainSide) (y : Why) (s : Plain) → Eases s (raise g e y (change_side e f s))
  eases-told e f y s =
      let changed : Plain = change_side e f s in
      eases-then s changed (raise g e y changed) (record { time = refl; near = λ h. h }) (eases-raise e y changed)

  -- The start of a turn

  eases-timed : (p : Past) (e : SideId) (s : Plain) (d : Dir) → Eases s (timed g p e s d)
  eases-timed p e s d =
      eases-if (not (is_timed (side_at s e) d)) s s _ (eases-same s)
      (eases-if (not (wants g p s e d)) s (change_side e (active_at s.time d) s) _ (record { time = refl; near = λ h. h })
      (eases-if (has_run_out (side_at s e) d s.time) s (raise g e (happened d timeout_flag) (change_side e (expire d) s)) s
      (eases-told e (expire d) (happened d timeout_flag) s) (eases-same s)))

  eases-taken : (s : Plain) → Eases s (timers_taken g s)
  eases-taken s =
      let later : Plain = record s { timers = filter (λ x. nat_lt s.time x.deadline) s.timers } in
      eases-then s later (timers_taken g s)
      (record { time = refl; near = λ h. near-kept s.time (λ x. nat_lt s.time x.deadline) s.timers h })
      (eases-fold {X = Timer} (λ state x. raise g x.side why.Timer state) (λ z x. eases-raise x.side why.Timer z) later
      (filter (λ x. nat_le x.deadline s.time) s.timers))

  eases-passed : (p : Past) (s : Plain) → Eases s (time_passed g p s)
  eases-passed p s =
      eases-then s (timers_taken g s) (time_passed g p s) (eases-taken s)
      (eases-fold (side_timed g p) (λ z e. eases-fold (timed g p e) (λ y d. eases-timed p e y d) z both_ways) (timers_taken g s)
      (all_sides s))

  -- Serving

  eases-conn : (e : SideId) (answer : ConnAnswer) (s : Plain) → Eases s (after_conn g e answer s)
  eases-conn e conn.Connected s = eases-told e (λ x. record x { connecting = false }) why.Connected s
  eases-conn e conn.Pending s = eases-same s
  eases-conn e conn.Failed s = eases-told e (λ x. record x { failed = true; writes = false }) (happened dir.Write error_flag) s

  eases-read : (e : SideId) (answer : ReadAnswer) (s : Plain) → Eases s (after_read g e answer s)
  eases-read e (read.Got n) s = record { time = refl; near = λ h. h }
  eases-read e read.Ended s = eases-told e (λ x. record x { ended = true; reads = false }) (happened dir.Read end_flag) s
  eases-read e read.NotYet s = eases-same s
  eases-read e read.Failed s = eases-told e (λ x. record x { failed = true; reads = false }) (happened dir.Read error_flag) s

  eases-write : (p : Past) (e : SideId) (answer : WriteAnswer) (s : Plain) → Eases s (after_write g p e answer s)
  eases-write p e (write.Took n) s =
      let moved : Plain = change_side e (active_at s.time dir.Write) (change_flow (peer e) (λ f. record f { given = f.given + n }) s) in
      eases-then s moved (raise_write g p e moved) (record { time = refl; near = λ h. h })
      (eases-due moved (raise_write g p e moved) (raised_write g p e moved))
  eases-write p e write.NotYet s = eases-same s
  eases-write p e write.Failed s =
      eases-told e (λ x. record x { failed = true; writes = false }) (happened dir.Write error_flag) s
  eases-write p e write.NoMemory s = eases-same s

  -- Closing

  eases-freed : (e : SideId) (s : Plain) → Eases s (freed e s)
  eases-freed e s = record { time = refl; near = λ h. near-kept s.time (λ x. not (same_end x.side e)) s.timers h }

  eases-closed : (c : CloseStep) (s : Plain) → Eases s (closed_by c s)
  eases-closed (CloseStep.Faulty e) s = eases-freed e s
  eases-closed (CloseStep.EndWriting e) s = record { time = refl; near = λ h. h }
  eases-closed (CloseStep.BothDone n) s = eases-freed (record { link = n; side = In }) s
  eases-closed (CloseStep.OutDone n) s = eases-freed (record { link = n; side = Out }) s
  eases-closed (CloseStep.PeerGone e) s = eases-freed e s
  eases-closed (CloseStep.Shut e) s = record { time = refl; near = λ h. h }

  -- Asks

  eases-done : (p : Past) (a : Act) (s : Plain) → has_bad_value s a ≡ false → Eases s (done g p s a)
  eases-done p (act.Free e) s fine = eases-freed e s
  eases-done p (act.Trigger e dir.Read) s fine = eases-due s _ (raised_read g p e s)
  eases-done p (act.Trigger e dir.Write) s fine = eases-due s _ (raised_write g p e s)
  eases-done p (act.Timer e delay) s fine =
      let small = ltb-false most_ms delay fine in
      record {
        time = refl;
        near = λ h.
            near-placed s.time (record { side = e; deadline = s.time + delay }) (without_timer e s.timers) (omega (arith, small))
            (near-kept s.time (λ x. not (same_end x.side e)) s.timers h);
      }
  eases-done p (act.Cancel e) s fine =
      record { time = refl; near = λ h. near-kept s.time (λ x. not (same_end x.side e)) s.timers h }
  eases-done p act.Stop s fine = eases-same s
  eases-done p a s fine = record { time = refl; near = λ h. h }

  eases-asked : (p : Past) (s : Plain) (a : Act) (answer : AskAnswer) (after : Plain) → Ask g p s a answer after → Eases s after
  eases-asked p s a answer after q = go (refusal g s a) refl q
    where
      go : (r : Option AskAnswer) → refusal g s a ≡ r → Answered r g p s a answer after → Eases s after
      go (Some refused) is z = subst (Eases s) (sym z.1) (eases-same s)
      go None is (inl z) = subst (Eases s) (sym z.1) (eases-done p a s (fine-value g s a is))
      go None is (inr z) = subst (Eases s) (sym z.2) (eases-same s)

  -- Steps

  near-eased : (s new : Plain) → Eases s new → AllNear s.time s.timers → AllNear new.time new.timers
  near-eased s new k h = subst (λ n. AllNear n new.timers) (sym k.time) (k.near h)

  put-near : (t : Trace) (s : Plain) (x : Stage) (y : Event) (new : State) → PutKind g t s x y new → Puts g t x s y.0 y.1 new →
      AllNear s.time s.timers → AllNear new.plain.time new.plain.timers
  put-near t s x y new (PutKind.turned {ms = ms} a b) put h =
      let u = past g (t ++ (entry.Turn ms, []) ∷ []) in
      near-eased (turned_to ms s) (time_passed g u (turned_to ms s)) (eases-passed u (turned_to ms s)) (near-later s.time ms s.timers a h)
  put-near t s x y new PutKind.polled put h = h
  put-near t s x y new (PutKind.wanted a) put h = h
  put-near t s x y new PutKind.poll_failed put h = h
  put-near t s x y new (PutKind.readied a) put h = h
  put-near t s x y new PutKind.opened put h = h
  put-near t s x y new (PutKind.checked {side = side} {answer = answer} a) put h = near-eased s new.plain (eases-conn side answer s) h
  put-near t s x y new (PutKind.was_read {side = side} {answer = answer} left a b) put h =
      near-eased s new.plain (eases-read side answer s) h
  put-near t s x y new (PutKind.written {side = side} {answer = answer} a b d) put h =
      near-eased s new.plain (eases-write (past g t) side answer s) h
  put-near t s x y new (PutKind.fired a) put h = h
  put-near t s x y new (PutKind.frees {gone = gone} a same) put h = near-eased s new.plain (eases-freed gone s) h
  put-near t s x y new (PutKind.asked {a = a} {answer = answer} same k l) put h =
      subst (λ z. AllNear z.time z.timers) (sym (ap (λ (z : State). z.plain) put.5))
      (near-eased s put.3 (eases-asked (past g t) s a answer put.3 put.4) h)
  put-near t s x y new PutKind.recorded put h = h
  put-near t s x y new (PutKind.closed {c = c} a) put h = near-eased s new.plain (eases-closed c s) h

  pub timers-near : (t : Trace) (s : State) → Reaches g t s → AllNear s.plain.time s.plain.timers
  timers-near t s Reaches.begins = tt
  timers-near t new (Reaches.goes {t = u} {s = old} r h) =
      let k = kept-quietly g u old.stage old.plain new h in
      near-eased old.plain new.plain (record { time = k.time; near = λ z. subst (AllNear old.plain.time) (sym k.timers) z })
      (timers-near u old r)
  timers-near t new (Reaches.puts {t = u} {s = old} e bytes r h) =
      put-near u old.plain old.stage (e, bytes) new (put-kind g u old.stage old.plain e bytes new (kept g u old r).placed h) h
      (timers-near u old r)
