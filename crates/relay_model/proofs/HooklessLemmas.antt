-- With no hooks nothing is asked, so that the marks of each side stay those of the settings, by induction over the steps.
use Rattle.std.proofs.Common.{◌≡◌, ℕ, ◌+◌, ◌*◌, ◌<◌, ◌≤◌, Bool, true, false, ◌&&◌, if◌then◌else◌, List, [], ◌∷◌, ◌++◌, length, fold, filter}
use Rattle.std.proofs.Common.{◌⊎◌, inl, inr, refl, sym, ◌∙◌, ap, subst, arith, slice_index_or}
use Rattle.std.specs.Prelude.{⊤, nat_le, nat_lt, not}
use Rattle.std.specs.List.{list_any}
use Rattle.std.proofs.lemmas.Bool.{cases_lt}
use Rattle.std.proofs.lemmas.List.{get_or_append_left, get_or-append-add}
use Rattle.token_bucket.specs.declared.limit.Dir.{Dir}
use Rattle.token_bucket.specs.declared.limit.Dir.TheVariants as dir
use Rattle.ev_types.specs.declared.side.Side.{Side}
use Rattle.ev_types.specs.declared.side.Side.TheVariants.{In, Out}
use Rattle.ev_types.specs.declared.side.SideId.{SideId}
use Rattle.ev_types.specs.declared.answer.ConnAnswer.{ConnAnswer}
use Rattle.ev_types.specs.declared.answer.ConnAnswer.TheVariants as conn
use Rattle.ev_types.specs.declared.answer.ReadAnswer.{ReadAnswer}
use Rattle.ev_types.specs.declared.answer.ReadAnswer.TheVariants as read
use Rattle.ev_types.specs.declared.answer.WriteAnswer.{WriteAnswer}
use Rattle.ev_types.specs.declared.answer.WriteAnswer.TheVariants as write
use Rattle.ev_types.specs.declared.why.Why.{Why}
use Rattle.ev_types.specs.declared.why.Why.TheVariants as why
use Rattle.ev_types.specs.declared.entry.Entry.{Entry}
use Rattle.ev_types.specs.declared.entry.Entry.TheVariants as entry
use Rattle.ev_types.specs.Sides.{same_end, number, half, peer}
use Rattle.ev_types.specs.Trace.{Event, Trace}
use Rattle.relay_model.specs.Settings.{Settings, HasNoHooks, marks_set}
use Rattle.relay_model.specs.Due.{Due, batch, with_reason}
use Rattle.relay_model.specs.Plain.{Plain, PlainSide, Timer, no_side, new_side, with_link, side_at, flow_at, put_flow, change_side}
use Rattle.relay_model.specs.Plain.{change_flow, is_live, all_sides}
use Rattle.relay_model.specs.Past.{Past, past}
use Rattle.relay_model.specs.Rooms.{Want, wants, read_filter, read_mark}
use Rattle.relay_model.specs.Pass.{with_used}
use Rattle.relay_model.specs.Reasons.{raise, raise_read, raise_write, happened, end_flag, error_flag, timeout_flag}
use Rattle.relay_model.specs.Moments.{active_at, is_timed, has_run_out, expire, timed, side_timed, timers_taken, time_passed, both_ways}
use Rattle.relay_model.specs.Round.{Part, do_part, read_run}
use Rattle.relay_model.specs.Serve.{marks_left, after_conn, after_read, after_write, after_got}
use Rattle.relay_model.specs.Close.{CloseStep, closed_by}
use Rattle.relay_model.specs.Stages.{Stage, State, Between, Polling, Wanting, Marking, Accepting, Serving, Filtering, Dispatching, Firing}
use Rattle.relay_model.specs.Stages.{Freeing, Passing, Closing}
use Rattle.relay_model.specs.Turn.{turned_to, after_reading, Quietly, Puts, Reaches}
use Rattle.relay_model.proofs.EndLemmas.{number-lt}
use Rattle.relay_model.proofs.PlainLemmas.{seen-change}
use Rattle.relay_model.proofs.KeepsLemmas.{raised, raised_read, raised_write}
use Rattle.relay_model.proofs.TimeLemmas.{time-marks}
use Rattle.relay_model.proofs.ToldLemmas.{kept}
use Rattle.relay_model.specs.Totals.{is_opened}
use Rattle.relay_model.proofs.EffectLemmas.{Effect}
use Rattle.relay_model.proofs.StepLemmas.{put-effect}
use Rattle.relay_model.proofs.StageLemmas.{closed-opened}
use Rattle.relay_model.proofs.SeenLemmas.{do_part-keeps}
use Rattle.relay_model.proofs.FirstMet.{meets-marks}
use Rattle.relay_model.proofs.PassedLemmas.{part-marks, closed-marks}

-- Nothing becomes due

module _ (g : Settings) (none : HasNoHooks g) where
  raise-none : (e : SideId) (y : Why) (s : Plain) → raise g e y s ≡ s
  raise-none e y s =
      ap (λ hs. if list_any (λ x. same_end x e) hs && is_live s e then record s { due = with_reason e y s.due } else s) none.none

  raise_read-none : (p : Past) (e : SideId) (s : Plain) → raise_read g p e s ≡ s
  raise_read-none p e s = go (nat_le (side_at s e).marks.read_low _)
    where
      go : (b : Bool) → (if b then raise g e why.Read s else s) ≡ s
      go true = raise-none e why.Read s
      go false = refl

  raise_write-none : (p : Past) (e : SideId) (s : Plain) → raise_write g p e s ≡ s
  raise_write-none p e s = go (nat_le _ (side_at s e).marks.write_low)
    where
      go : (b : Bool) → (if b then raise g e why.Write s else s) ≡ s
      go true = raise-none e why.Write s
      go false = refl

  fold-due : {X : Type 0} (step : Plain → X → Plain) → ((s : Plain) (x : X) → (step s x).due ≡ s.due) → (s : Plain) (xs : List X) →
      (fold step s xs).due ≡ s.due
  fold-due step h s [] = refl
  fold-due step h s (x ∷ xs) = fold-due step h (step s x) xs ∙ h s x

  timed-due : (p : Past) (e : SideId) (s : Plain) (d : Dir) → (timed g p e s d).due ≡ s.due
  timed-due p e s d = go (not (is_timed (side_at s e) d)) (not (wants g p s e d)) (has_run_out (side_at s e) d s.time)
    where
      go : (a b c : Bool) → (if a then s
          else (if b then change_side e (active_at s.time d) s
          else (if c then raise g e (happened d timeout_flag) (change_side e (expire d) s) else s))).due ≡ s.due
      go true b c = refl
      go false true c = refl
      go false false true = ap (λ z. z.due) (raise-none e (happened d timeout_flag) (change_side e (expire d) s))
      go false false false = refl

  time-due : (p : Past) (s : Plain) → (time_passed g p s).due ≡ s.due
  time-due p s =
      fold-due (side_timed g p) (λ x e. fold-due (timed g p e) (λ y d. timed-due p e y d) x both_ways) (timers_taken g s) (all_sides s)
      ∙ fold-due {X = Timer} (λ state x. raise g x.side why.Timer state) (λ z x. ap (λ v. v.due) (raise-none x.side why.Timer z))
      (record s { timers = filter (λ x. nat_lt s.time x.deadline) s.timers })
      (filter (λ x. nat_le x.deadline s.time) s.timers)

-- No hook runs.
abbrev Idle : Stage → Type 0
Idle (Firing x rs) = ⊥
Idle (Freeing gone x rs) = ⊥
Idle (Dispatching rs) = rs ≡ []
Idle _ = ⊤

reading-idle : (side : SideId) (answer : ReadAnswer) (ms : List Want) → Idle (after_reading side answer ms)
reading-idle side (read.Got n) ms = tt
reading-idle side read.Ended ms = tt
reading-idle side read.NotYet ms = tt
reading-idle side read.Failed ms = tt

part-due : (g : Settings) (p : Past) (e : SideId) (x : Part) (s : Plain) → (do_part g p e x s).due ≡ s.due
part-due g p e Part.Hold s = refl
part-due g p e Part.Read s = refl
part-due g p e Part.Move s = refl
part-due g p e Part.Write s = refl
part-due g p e Part.Drain s = refl

closed-due : (c : CloseStep) (s : Plain) → s.due ≡ [] → (closed_by c s).due ≡ []
closed-due (CloseStep.Faulty e) s h = ap (λ ds. filter (λ d. not (same_end d.side e)) ds) h
closed-due (CloseStep.EndWriting e) s h = h
closed-due (CloseStep.BothDone k) s h = ap (λ ds. filter (λ d. not (same_end d.side (record { link = k; side = In }))) ds) h
closed-due (CloseStep.OutDone k) s h = ap (λ ds. filter (λ d. not (same_end d.side (record { link = k; side = Out }))) ds) h
closed-due (CloseStep.PeerGone e) s h = ap (λ ds. filter (λ d. not (same_end d.side e)) ds) h
closed-due (CloseStep.Shut e) s h = h

-- Marks stay

active-marks : (time : ℕ) (d : Dir) (x : PlainSide) → (active_at time d x).marks ≡ x.marks
active-marks time dir.Read x = refl
active-marks time dir.Write x = refl

due-marks : (s new : Plain) (e : SideId) → ((ds : List Due) × (new ≡ record s { due = ds })) → (side_at new e).marks ≡ (side_at s e).marks
due-marks s new e h = ap (λ z. (side_at z e).marks) h.1

pub conn-marks : (g : Settings) (side : SideId) (answer : ConnAnswer) (s : Plain) (e : SideId) →
    (side_at (after_conn g side answer s) e).marks ≡ (side_at s e).marks
conn-marks g side conn.Connected s e =
    due-marks (change_side side (λ x. record x { connecting = false }) s) _ e (raised g side why.Connected _)
    ∙ seen-change (λ v. v.marks) side e (λ x. record x { connecting = false }) s (λ x. refl)
conn-marks g side conn.Pending s e = refl
conn-marks g side conn.Failed s e =
    due-marks (change_side side (λ x. record x { failed = true; writes = false }) s) _ e (raised g side (happened dir.Write error_flag) _)
    ∙ seen-change (λ v. v.marks) side e (λ x. record x { failed = true; writes = false }) s (λ x. refl)

pub read-marks : (g : Settings) (side : SideId) (answer : ReadAnswer) (s : Plain) (e : SideId) →
    (side_at (after_read g side answer s) e).marks ≡ (side_at s e).marks
read-marks g side (read.Got n) s e = seen-change (λ v. v.marks) side e (active_at s.time dir.Read) s (λ x. refl)
read-marks g side read.Ended s e =
    due-marks (change_side side (λ x. record x { ended = true; reads = false }) s) _ e (raised g side (happened dir.Read end_flag) _)
    ∙ seen-change (λ v. v.marks) side e (λ x. record x { ended = true; reads = false }) s (λ x. refl)
read-marks g side read.NotYet s e = refl
read-marks g side read.Failed s e =
    due-marks (change_side side (λ x. record x { failed = true; reads = false }) s) _ e (raised g side (happened dir.Read error_flag) _)
    ∙ seen-change (λ v. v.marks) side e (λ x. record x { failed = true; reads = false }) s (λ x. refl)

pub write-marks : (g : Settings) (p : Past) (side : SideId) (answer : WriteAnswer) (s : Plain) (e : SideId) →
    (side_at (after_write g p side answer s) e).marks ≡ (side_at s e).marks
write-marks g p side (write.Took n) s e =
    let given : Plain = change_flow (peer side) (λ f. record f { given = f.given + n }) s in
    due-marks (change_side side (active_at s.time dir.Write) given) _ e (raised_write g p side _)
    ∙ seen-change (λ v. v.marks) side e (active_at s.time dir.Write) given (λ x. refl)
write-marks g p side write.NotYet s e = refl
write-marks g p side write.Failed s e =
    due-marks (change_side side (λ x. record x { failed = true; writes = false }) s) _ e (raised g side (happened dir.Write error_flag) _)
    ∙ seen-change (λ v. v.marks) side e (λ x. record x { failed = true; writes = false }) s (λ x. refl)
write-marks g p side write.NoMemory s e = refl

pub got-marks : (g : Settings) (p : Past) (side : SideId) (s : Plain) (e : SideId) →
    (side_at (after_got g p side s) e).marks ≡ (side_at s e).marks
got-marks g p side s e =
    due-marks (read_run g p side false s) _ e (raised_read g p side (read_run g p side false s))
    ∙ meets-marks (put_flow side (with_used (read_filter g s side) (p.read side) (read_mark s side) (flow_at s side)) s) side _ e

-- the sides of a new link
pub link-marks : (g : Settings) (connected : Bool) (s : Plain) → length s.sides ≡ 2 * s.opened → (e : SideId) → e.link ≡ s.opened →
    (side_at (with_link g connected s) e).marks ≡ marks_set g e.side
link-marks g connected s size e link = go e.side refl
  where
    two : List PlainSide
    two = new_side g s.time s.turn In true ∷ new_side g s.time s.turn Out connected ∷ []

    go : (z : Side) → e.side ≡ z → (side_at (with_link g connected s) e).marks ≡ marks_set g e.side
    go In z =
        let i : number e ≡ length s.sides + 0 = omega (arith, ap half z) in
        ap (λ v. (slice_index_or (s.sides ++ two) v no_side).marks) i ∙ ap (λ v. v.marks) (get_or-append-add s.sides two 0 no_side)
        ∙ ap (marks_set g) (sym z)
    go Out z =
        let i : number e ≡ length s.sides + 1 = omega (arith, ap half z) in
        ap (λ v. (slice_index_or (s.sides ++ two) v no_side).marks) i ∙ ap (λ v. v.marks) (get_or-append-add s.sides two 1 no_side)
        ∙ ap (marks_set g) (sym z)

pub old-marks : (g : Settings) (connected : Bool) (s : Plain) → length s.sides ≡ 2 * s.opened → (e : SideId) → e.link < s.opened →
    (side_at (with_link g connected s) e).marks ≡ (side_at s e).marks
old-marks g connected s size e lt =
    ap (λ v. v.marks) (get_or_append_left s.sides
    (new_side g s.time s.turn In true ∷ new_side g s.time s.turn Out connected ∷ []) no_side (number e)
    (omega (arith, number-lt e s.opened lt)))

-- By induction

pub record Asleep (g : Settings) (x : Stage) (s : Plain) : Type 0 where
  pub due : s.due ≡ []
  pub idle : Idle x
  pub marks : (e : SideId) → e.link < s.opened → (side_at s e).marks ≡ marks_set g e.side

-- nothing but the stage, or what hooks don't look at
same-asleep : (g : Settings) (x y : Stage) (s : Plain) → Idle y → Asleep g x s → Asleep g y s
same-asleep g x y s idle h = record { due = h.due; idle = idle; marks = h.marks }

quiet-asleep : (g : Settings) (none : HasNoHooks g) (t : Trace) (x : Stage) (s : Plain) (new : State) → Asleep g x s →
    Quietly g t x s new →
    Asleep g new.stage new.plain
quiet-asleep g none t (Wanting []) s new h q = subst (λ z. Asleep g z.stage z.plain) (sym q) (same-asleep g (Wanting []) _ s tt h)
quiet-asleep g none t (Marking (w ∷ ws) marks) s new h q =
    subst (λ z. Asleep g z.stage z.plain) (sym q) (same-asleep g (Marking (w ∷ ws) marks) _ s tt h)
quiet-asleep g none t (Marking [] marks) s new h q =
    subst (λ z. Asleep g z.stage z.plain) (sym q) (same-asleep g (Marking [] marks) _ s tt h)
quiet-asleep g none t (Accepting n marks) s new h q =
    subst (λ z. Asleep g z.stage z.plain) (sym q) (same-asleep g (Accepting n marks) _ s tt h)
quiet-asleep g none t (Serving (m ∷ ms)) s new h q =
    subst (λ z. Asleep g z.stage z.plain) (sym q.1) (same-asleep g (Serving (m ∷ ms)) _ s tt h)
quiet-asleep g none t (Filtering e ms) s new h q =
    subst (λ z. Asleep g z.stage z.plain) (sym q)
    (record {
      due = ap (λ z. z.due) (raise_read-none g none (past g t) e (read_run g (past g t) e false s)) ∙ h.due;
      idle = tt;
      marks = λ z lt. got-marks g (past g t) e s z ∙ h.marks z (subst (λ n. z.link < n) opened lt);
    })
  where
    opened : (after_got g (past g t) e s).opened ≡ s.opened
    opened = ap (λ z. z.opened) (raise_read-none g none (past g t) e (read_run g (past g t) e false s))
quiet-asleep g none t (Serving []) s new h q =
    subst (λ z. Asleep g z.stage z.plain) (sym q) (record { due = refl; idle = ap batch h.due; marks = h.marks })
quiet-asleep g none t (Firing x rs) s new h q = absurd h.idle
quiet-asleep g none t (Dispatching []) s new h q = subst (λ z. Asleep g z.stage z.plain) (sym q) (same-asleep g (Dispatching []) _ s tt h)
quiet-asleep g none t (Passing [] (e ∷ es)) s new h (inl q) =
    subst (λ z. Asleep g z.stage z.plain) (sym q.1) (same-asleep g (Passing [] (e ∷ es)) _ s tt h)
quiet-asleep g none t (Passing [] (e ∷ es)) s new h (inr q) =
    subst (λ z. Asleep g z.stage z.plain) (sym q) (same-asleep g (Passing [] (e ∷ es)) _ s tt h)
quiet-asleep g none t (Passing (x ∷ parts) (e ∷ es)) s new h q =
    subst (λ z. Asleep g z.stage z.plain) (sym q)
    (record {
      due = part-due g (past g t) e x s ∙ h.due;
      idle = tt;
      marks = λ z lt. part-marks g (past g t) s e x z ∙ h.marks z (subst (λ n. z.link < n) (do_part-keeps g (past g t) e x s).opened lt);
    })
quiet-asleep g none t (Passing [] []) s new h q = subst (λ z. Asleep g z.stage z.plain) (sym q) (same-asleep g (Passing [] []) _ s tt h)
quiet-asleep g none t (Closing (c ∷ cs)) s new h q =
    subst (λ z. Asleep g z.stage z.plain) (sym q.1) (same-asleep g (Closing (c ∷ cs)) _ s tt h)
quiet-asleep g none t (Closing []) s new h q = subst (λ z. Asleep g z.stage z.plain) (sym q) (same-asleep g (Closing []) _ s tt h)
quiet-asleep g none t _ s new h q = absurd q

conn-due : (g : Settings) (none : HasNoHooks g) (side : SideId) (answer : ConnAnswer) (s : Plain) →
    (after_conn g side answer s).due ≡ s.due
conn-due g none side conn.Connected s =
    ap (λ z. z.due) (raise-none g none side why.Connected (change_side side (λ x. record x { connecting = false }) s))
conn-due g none side conn.Pending s = refl
conn-due g none side conn.Failed s =
    ap (λ z. z.due) (raise-none g none side (happened dir.Write error_flag)
    (change_side side (λ x. record x { failed = true; writes = false }) s))

read-due : (g : Settings) (none : HasNoHooks g) (side : SideId) (answer : ReadAnswer) (s : Plain) →
    (after_read g side answer s).due ≡ s.due
read-due g none side (read.Got n) s = refl
read-due g none side read.Ended s =
    ap (λ z. z.due) (raise-none g none side (happened dir.Read end_flag)
    (change_side side (λ x. record x { ended = true; reads = false }) s))
read-due g none side read.NotYet s = refl
read-due g none side read.Failed s =
    ap (λ z. z.due) (raise-none g none side (happened dir.Read error_flag)
    (change_side side (λ x. record x { failed = true; reads = false }) s))

write-due : (g : Settings) (none : HasNoHooks g) (p : Past) (side : SideId) (answer : WriteAnswer) (s : Plain) →
    (after_write g p side answer s).due ≡ s.due
write-due g none p side (write.Took n) s =
    ap (λ z. z.due) (raise_write-none g none p side
    (change_side side (active_at s.time dir.Write) (change_flow (peer side) (λ f. record f { given = f.given + n }) s)))
write-due g none p side write.NotYet s = refl
write-due g none p side write.Failed s =
    ap (λ z. z.due) (raise-none g none side (happened dir.Write error_flag)
    (change_side side (λ x. record x { failed = true; writes = false }) s))
write-due g none p side write.NoMemory s = refl

pub opened-by : (s new : Plain) (y : Event) → new.opened ≡ (s.opened + (if is_opened y then 1 else 0)) → is_opened y ≡ false →
    new.opened ≡ s.opened
opened-by s new y h k = h ∙ ap (λ b. s.opened + (if b then 1 else 0)) k ∙ (let a : s.opened + 0 ≡ s.opened = omega arith in a)

put-asleep : (g : Settings) (none : HasNoHooks g) (t : Trace) (x : Stage) (s : Plain) (y : Entry) (bytes : List ℕ) (new : State) →
    length s.sides ≡ 2 * s.opened → Effect g x s (y, bytes) new.stage new.plain → Asleep g x s → Puts g t x s y bytes new →
    Asleep g new.stage new.plain
put-asleep g none t Between s (entry.Turn ms) bytes new size k h q =
    let p : Past = past g (t ++ (entry.Turn ms, []) ∷ []) in
    let opened = opened-by s new.plain (entry.Turn ms, bytes) k.opened refl in
    record {
      due = ap (λ z. z.plain.due) q.3 ∙ time-due g none p (turned_to ms s) ∙ h.due;
      idle = subst (λ z. Idle z.stage) (sym q.3) tt;
      marks =
          λ z lt. ap (λ v. (side_at v.plain z).marks) q.3 ∙ time-marks g p (turned_to ms s) z
          ∙ h.marks z (subst (λ n. z.link < n) opened lt);
    }
put-asleep g none t Polling s (entry.Poll timeout) bytes new size k h q =
    subst (λ z. Asleep g z.stage z.plain) (sym q.2) (same-asleep g Polling _ s tt h)
put-asleep g none t (Wanting (w ∷ ws)) s (entry.Want side r d) bytes new size k h q =
    subst (λ z. Asleep g z.stage z.plain) (sym q.2) (same-asleep g (Wanting (w ∷ ws)) _ s tt h)
put-asleep g none t (Wanting []) s entry.PollFailed bytes new size k h q =
    subst (λ z. Asleep g z.stage z.plain) (sym q.1) (same-asleep g (Wanting []) _ s tt h)
put-asleep g none t (Marking (w ∷ ws) marks) s (entry.Ready side r d) bytes new size k h q =
    subst (λ z. Asleep g z.stage z.plain) (sym q.3) (same-asleep g (Marking (w ∷ ws) marks) _ s tt h)
put-asleep g none t (Accepting n marks) s (entry.Opened link connected) bytes new size k h q =
    subst (λ z. Asleep g z.stage z.plain) (sym q.4)
    (record { due = h.due; idle = tt; marks = λ z lt. go z lt (cases_lt z.link s.opened) })
  where
    go : (z : SideId) → z.link < s.opened + 1 → (z.link < s.opened) ⊎ (s.opened ≤ z.link) →
        (side_at (with_link g connected s) z).marks ≡ marks_set g z.side
    go z lt (inl old) = old-marks g connected s size z old ∙ h.marks z old
    go z lt (inr ge) = link-marks g connected s size z (omega arith)
put-asleep g none t (Serving (m ∷ ms)) s (entry.Conn side answer) bytes new size k h q =
    let opened = opened-by s new.plain (entry.Conn side answer, bytes) k.opened refl in
    record {
      due = ap (λ z. z.plain.due) q.3 ∙ conn-due g none side answer s ∙ h.due;
      idle = subst (λ z. Idle z.stage) (sym q.3) tt;
      marks =
          λ z lt. ap (λ v. (side_at v.plain z).marks) q.3 ∙ conn-marks g side answer s z ∙ h.marks z (subst (λ n. z.link < n) opened lt);
    }
put-asleep g none t (Serving (m ∷ ms)) s (entry.Read side room answer) bytes new size k h q =
    let opened = opened-by s new.plain (entry.Read side room answer, bytes) k.opened refl in
    record {
      due = ap (λ z. z.plain.due) q.3 ∙ read-due g none side answer s ∙ h.due;
      idle = subst (λ z. Idle z.stage) (sym q.3) (reading-idle side answer (marks_left s m ms));
      marks =
          λ z lt. ap (λ v. (side_at v.plain z).marks) q.3 ∙ read-marks g side answer s z ∙ h.marks z (subst (λ n. z.link < n) opened lt);
    }
put-asleep g none t (Serving (m ∷ ms)) s (entry.Write side offered answer) bytes new size k h q =
    let opened = opened-by s new.plain (entry.Write side offered answer, bytes) k.opened refl in
    record {
      due = ap (λ z. z.plain.due) q.3 ∙ write-due g none (past g t) side answer s ∙ h.due;
      idle = subst (λ z. Idle z.stage) (sym q.3) tt;
      marks =
          λ z lt. ap (λ v. (side_at v.plain z).marks) q.3 ∙ write-marks g (past g t) side answer s z
          ∙ h.marks z (subst (λ n. z.link < n) opened lt);
    }
put-asleep g none t (Dispatching (r ∷ rs)) s (entry.Fired side y) bytes new size k h q = absurd (let i = h.idle in cc)
put-asleep g none t (Firing x rs) s (entry.Asked side a answer) bytes new size k h q = absurd h.idle
put-asleep g none t (Freeing gone x rs) s y bytes new size k h q = absurd h.idle
put-asleep g none t (Closing (c ∷ cs)) s y bytes new size k h q =
    subst (λ z. Asleep g z.stage z.plain) (sym q.2)
    (record {
      due = closed-due c s h.due;
      idle = tt;
      marks = λ z lt. closed-marks c s z ∙ h.marks z (subst (λ n. z.link < n) (closed-opened c s) lt);
    })
put-asleep g none t _ s y bytes new size k h q = absurd q

pub asleep : (g : Settings) (t : Trace) (s : State) → HasNoHooks g → Reaches g t s → Asleep g s.stage s.plain
asleep g t s none (Reaches.begins) = record { due = refl; idle = tt; marks = λ z lt. absurd (omega arith) }
asleep g t new none (Reaches.goes {t = u} {s = old} r h) = quiet-asleep g none u old.stage old.plain new (asleep g u old none r) h
asleep g t new none (Reaches.puts {t = u} {s = old} y bytes r h) =
    let c = kept g u old r in
    put-asleep g none u old.stage old.plain y bytes new c.counts.shape.sides
    (put-effect g u old.stage old.plain y bytes new c.counts.shape.sides c.placed h) (asleep g u old none r) h
