-- What waits to be fired is of a live side that has a hook, and its flags fit a byte: what each change of the plain state leaves of that.
use Rattle.std.proofs.Common.{◌≡◌, ◌≢◌, ◌+◌, ◌-◌, ℕ, Bool, true, false, ◌&&◌, not, nat_le, nat_lt, if◌then◌else◌, List, [], ◌∷◌, ◌++◌, fold}
use Rattle.std.proofs.Common.{Option, Some, None, refl, sym, ◌∙◌, ap, subst, arith}
use Rattle.std.specs.Prelude.{filter, ◌^◌, ◌<◌, ◌≤◌, IfSome}
use Rattle.std.specs.List.{All}
use Rattle.std.proofs.lemmas.List.Elements.{All-nil, All-cons, All-head, All-tail, All-append}
use Rattle.std.proofs.lemmas.Bool.{and_parts}
use Rattle.token_bucket.specs.declared.limit.Dir.{Dir}
use Rattle.token_bucket.specs.declared.limit.Dir.TheVariants as dir
use Rattle.ev_types.specs.declared.side.SideId.{SideId}
use Rattle.ev_types.specs.declared.act.Act.{Act}
use Rattle.ev_types.specs.declared.act.Act.TheVariants as act
use Rattle.ev_types.specs.declared.answer.ConnAnswer.{ConnAnswer}
use Rattle.ev_types.specs.declared.answer.ConnAnswer.TheVariants as conn
use Rattle.ev_types.specs.declared.answer.ReadAnswer.{ReadAnswer}
use Rattle.ev_types.specs.declared.answer.ReadAnswer.TheVariants as read
use Rattle.ev_types.specs.declared.answer.WriteAnswer.{WriteAnswer}
use Rattle.ev_types.specs.declared.answer.WriteAnswer.TheVariants as write
use Rattle.ev_types.specs.declared.why.Why.{Why}
use Rattle.ev_types.specs.declared.why.Why.TheVariants as why
use Rattle.ev_types.specs.Sides.{peer, same_end}
use Rattle.relay_model.specs.Settings.{Settings}
use Rattle.relay_model.specs.Due.{Due, Reason, with_reason, without_due, without_reasons, joined, nothing_due, reason_where, event_reason}
use Rattle.relay_model.specs.Due.{reasons, event, batch, joined_flags}
use Rattle.relay_model.specs.Flow.{Flow}
use Rattle.relay_model.specs.Plain.{Plain, PlainSide, Timer, side_at, is_live, change_side, change_flow, freed, without_timer, placed}
use Rattle.relay_model.specs.Plain.{flow_at, all_sides}
use Rattle.relay_model.specs.Past.{Past}
use Rattle.relay_model.specs.Rooms.{wants, read_filter, write_filter, read_mark, hold_mark}
use Rattle.relay_model.specs.Reasons.{has_hook, raise, raise_read, raise_write, happened, end_flag, error_flag, timeout_flag}
use Rattle.relay_model.specs.Moments.{is_timed, has_run_out, active_at, expire, both_ways, timers_taken, timed, side_timed, time_passed}
use Rattle.filter_model.specs.Filter.{or_else}
use Rattle.relay_model.specs.Pass.{with_used, read_place, with_turned, write_place, with_held, with_read_done, with_moved, with_write_done}
use Rattle.relay_model.specs.Asks.{done, enabled, marked, limit_set}
use Rattle.relay_model.specs.Round.{Part, meets, read_run, write_run, do_part}
use Rattle.relay_model.specs.Serve.{after_conn, after_read, after_got, after_write}
use Rattle.relay_model.proofs.EndLemmas.{same_end-refl}
use Rattle.relay_model.proofs.PlainLemmas.{seen-change}
use Rattle.relay_steps.proofs.FitLemmas.{side-put_other}
use Rattle.std.proofs.lemmas.Nat.{or_of_8}
use Rattle.relay_steps.specs.ToFire.{IsHooked, FlagsFit, DueOf, ReasonOf}

-- A step that leaves who lives, and lets no other reason become due.
pub record Wakes (g : Settings) (p q : Plain) : Type 0 where
  pub live : (e : SideId) → is_live q e ≡ is_live p e
  pub due : All (DueOf g p) p.due → All (DueOf g q) q.due

abbrev pub is_free : Act → Bool
is_free (act.Free e) = true
is_free _ = false

module _ (g : Settings) where
  still_hooked : (p q : Plain) (e : SideId) → ((a : SideId) → is_live q a ≡ is_live p a) → IsHooked g p e → IsHooked g q e
  still_hooked p q e live h = (live e ∙ h.0, h.1)

  all-due : (p q : Plain) (ds : List Due) → ((a : SideId) → is_live q a ≡ is_live p a) → All (DueOf g p) ds → All (DueOf g q) ds
  all-due p q ds live h = λ k d lt. let own = h k d lt in (still_hooked p q _ live own.0, own.1)

  pub all-left : (p q : Plain) (rs : List Reason) → ((a : SideId) → is_live q a ≡ is_live p a) → All (ReasonOf g p) rs →
      All (ReasonOf g q) rs
  all-left p q rs live h = λ k d lt. let own = h k d lt in (still_hooked p q _ live own.0, own.1)

  pub wakes-same : (p : Plain) → Wakes g p p
  wakes-same p = record { live = λ e. refl; due = λ h. h }

  pub wakes-then : (p m q : Plain) → Wakes g p m → Wakes g m q → Wakes g p q
  wakes-then p m q a b = record { live = λ e. b.live e ∙ a.live e; due = λ h. b.due (a.due h) }

  wakes-if : (b : Bool) (p x y : Plain) → Wakes g p x → Wakes g p y → Wakes g p (if b then x else y)
  wakes-if true p x y h k = h
  wakes-if false p x y h k = k

  wakes-fold : {X : Type 0} (step : Plain → X → Plain) → ((p : Plain) (x : X) → Wakes g p (step p x)) → (p : Plain) (xs : List X) →
      Wakes g p (fold step p xs)
  wakes-fold step h p [] = wakes-same p
  wakes-fold step h p (x ∷ xs) = wakes-then p (step p x) (fold step (step p x) xs) (h p x) (wakes-fold step h (step p x) xs)

  pub wakes-change : (e : SideId) (f : PlainSide → PlainSide) (p : Plain) → ((x : PlainSide) → (f x).live ≡ x.live) →
      Wakes g p (change_side e f p)
  wakes-change e f p same =
      let live : (a : SideId) → is_live (change_side e f p) a ≡ is_live p a = λ a. seen-change (λ x. x.live) e a f p same in
      record { live = live; due = λ h. all-due p (change_side e f p) p.due live h }

  wakes-flow : (e : SideId) (f : Flow → Flow) (p : Plain) → Wakes g p (change_flow e f p)
  wakes-flow e f p = record { live = λ a. refl; due = λ h. h }

  wakes-timers : (ts : List Timer) (p : Plain) → Wakes g p (record p { timers = ts })
  wakes-timers ts p = record { live = λ a. refl; due = λ h. h }

  -- a reason joins an entry, or makes one
  joined-side : (d : Due) (y : Why) → (joined d y).side ≡ d.side
  joined-side d why.Connected = refl
  joined-side d why.Read = refl
  joined-side d why.Write = refl
  joined-side d why.Timer = refl
  joined-side d (why.Event flags) = refl

  joined_flags-fit : (o : Option ℕ) (n : ℕ) → IfSome o (λ flags. flags < 2 ^ 8) → n < 2 ^ 8 →
      IfSome (joined_flags o n) (λ flags. flags < 2 ^ 8)
  joined_flags-fit None n h k = k
  joined_flags-fit (Some m) n h k = or_of_8 m n h k

  joined-fits : (d : Due) (y : Why) → IfSome d.event (λ flags. flags < 2 ^ 8) → FlagsFit y →
      IfSome (joined d y).event (λ flags. flags < 2 ^ 8)
  joined-fits d why.Connected h k = h
  joined-fits d why.Read h k = h
  joined-fits d why.Write h k = h
  joined-fits d why.Timer h k = h
  joined-fits d (why.Event flags) h k = joined_flags-fit d.event flags.0 h k

  with_reason-all : (p : Plain) (e : SideId) (y : Why) (ds : List Due) → FlagsFit y → IsHooked g p e → All (DueOf g p) ds →
      All (DueOf g p) (with_reason e y ds)
  with_reason-all p e y [] fits h k =
      let none : Due = nothing_due e in
      All-cons (DueOf g p) (joined none y) [] (subst (IsHooked g p) (sym (joined-side none y)) h, joined-fits none y tt fits)
      (All-nil (DueOf g p))
  with_reason-all p e y (d ∷ ds) fits h k = go (with_reason-all p e y ds fits h (All-tail (DueOf g p) d ds k)) (same_end d.side e)
    where
      own : DueOf g p d
      own = All-head (DueOf g p) d ds k

      go : All (DueOf g p) (with_reason e y ds) → (b : Bool) → All (DueOf g p) (if b then joined d y ∷ ds else d ∷ with_reason e y ds)
      go rest true =
          All-cons (DueOf g p) (joined d y) ds (subst (IsHooked g p) (sym (joined-side d y)) own.0, joined-fits d y own.1 fits)
          (All-tail (DueOf g p) d ds k)
      go rest false = All-cons (DueOf g p) d (with_reason e y ds) own rest

  wakes-raise : (e : SideId) (y : Why) (p : Plain) → FlagsFit y → Wakes g p (raise g e y p)
  wakes-raise e y p fits = go (has_hook g e && is_live p e) refl
    where
      go : (b : Bool) → (has_hook g e && is_live p e) ≡ b → Wakes g p (if b then record p { due = with_reason e y p.due } else p)
      go true is =
          let parts = and_parts (has_hook g e) (is_live p e) is in
          record { live = λ a. refl; due = λ h. with_reason-all p e y p.due fits (parts.1, parts.0) h }
      go false is = wakes-same p

  happened-fits : (d : Dir) (flag : ℕ) → flag ≤ 64 → FlagsFit (happened d flag)
  happened-fits dir.Read flag h = omega (arith, h)
  happened-fits dir.Write flag h = omega (arith, h)

  -- a side was changed, and a reason became due
  wakes-told : (e : SideId) (f : PlainSide → PlainSide) (y : Why) (p : Plain) → FlagsFit y → ((x : PlainSide) → (f x).live ≡ x.live) →
      Wakes g p (raise g e y (change_side e f p))
  wakes-told e f y p fits same =
      wakes-then p (change_side e f p) (raise g e y (change_side e f p)) (wakes-change e f p same)
      (wakes-raise e y (change_side e f p) fits)

  -- The steps of the model

  active-live : (time : ℕ) (d : Dir) (x : PlainSide) → (active_at time d x).live ≡ x.live
  active-live time dir.Read x = refl
  active-live time dir.Write x = refl

  expire-live : (d : Dir) (x : PlainSide) → (expire d x).live ≡ x.live
  expire-live dir.Read x = refl
  expire-live dir.Write x = refl

  enabled-live : (d : Dir) (on : Bool) (x : PlainSide) → (enabled d on x).live ≡ x.live
  enabled-live dir.Read on x = refl
  enabled-live dir.Write on x = refl

  module _ (P : Past) where
    wakes-read : (e : SideId) (p : Plain) → Wakes g p (raise_read g P e p)
    wakes-read e p = wakes-if _ p (raise g e why.Read p) p (wakes-raise e why.Read p tt) (wakes-same p)

    wakes-write : (e : SideId) (p : Plain) → Wakes g p (raise_write g P e p)
    wakes-write e p = wakes-if _ p (raise g e why.Write p) p (wakes-raise e why.Write p tt) (wakes-same p)

    wakes-timed : (e : SideId) (p : Plain) (d : Dir) → Wakes g p (timed g P e p d)
    wakes-timed e p d =
        let gone = change_side e (expire d) p in
        wakes-if (not (is_timed (side_at p e) d)) p p _ (wakes-same p)
        (wakes-if (not (wants g P p e d)) p (change_side e (active_at p.time d) p) _
        (wakes-change e (active_at p.time d) p (active-live p.time d))
        (wakes-if (has_run_out (side_at p e) d p.time) p (raise g e (happened d timeout_flag) gone) p
        (wakes-then p gone _ (wakes-change e (expire d) p (expire-live d))
        (wakes-raise e (happened d timeout_flag) gone (happened-fits d timeout_flag (omega arith)))) (wakes-same p)))

    pub wakes-passed : (p : Plain) → Wakes g p (time_passed g P p)
    wakes-passed p =
        let later : List Timer = filter (λ x. nat_lt p.time x.deadline) p.timers in
        wakes-then p (timers_taken g p) _
        (wakes-then p (record p { timers = later }) (timers_taken g p) (wakes-timers later p)
        (wakes-fold {X = Timer} (λ state x. raise g x.side why.Timer state) (λ z x. wakes-raise x.side why.Timer z tt)
        (record p { timers = later }) (filter (λ x. nat_le x.deadline p.time) p.timers)))
        (wakes-fold (side_timed g P) (λ z e. wakes-fold (timed g P e) (λ w d. wakes-timed e w d) z both_ways) (timers_taken g p)
        (all_sides p))

    wakes-meets : (e : SideId) (place : Option ℕ) (p : Plain) → Wakes g p (meets e place p)
    wakes-meets e place p = wakes-change e (λ x. record x { bad = or_else x.bad place }) p (λ x. refl)

    wakes-run : (e : SideId) (ended : Bool) (p : Plain) → Wakes g p (read_run g P e ended p)
    wakes-run e ended p =
        let step = with_used (read_filter g p e) (P.read e) (read_mark p e) in
        let ran = change_flow e step p in
        let place = read_place (read_filter g p e) (P.read e) (read_mark p e) ended (flow_at ran e) in
        wakes-then p ran (meets e place ran) (wakes-flow e step p) (wakes-meets e place ran)

    wakes-turn : (e : SideId) (may_end : Bool) (p : Plain) → Wakes g p (write_run g P e may_end p)
    wakes-turn e may_end p =
        let hold = hold_mark g p (peer e) in
        let step = with_turned (read_filter g p e) (write_filter g p (peer e)) (P.read e) hold in
        let ran = change_flow e step p in
        let place = write_place (read_filter g p e) (write_filter g p (peer e)) (P.read e) hold may_end (flow_at ran e) in
        wakes-then p ran (meets (peer e) place ran) (wakes-flow e step p) (wakes-meets (peer e) place ran)

    pub wakes-part : (e : SideId) (x : Part) (p : Plain) → Wakes g p (do_part g P e x p)
    wakes-part e Part.Hold p =
        wakes-flow e (with_held (read_filter g p e) (write_filter g p (peer e)) (P.read e) (hold_mark g p (peer e))) p
    wakes-part e Part.Read p =
        let ran = read_run g P e (side_at p e).ended p in
        let step = with_read_done (read_filter g p e) (P.read e) (read_mark p e) (side_at p e).ended in
        wakes-then p ran (change_flow e step ran) (wakes-run e (side_at p e).ended p) (wakes-flow e step ran)
    wakes-part e Part.Move p = wakes-flow e (with_moved (read_filter g p e) (P.read e)) p
    wakes-part e Part.Write p =
        let ran = write_run g P e true p in
        let step = with_write_done (read_filter g p e) (write_filter g p (peer e)) (P.read e) (hold_mark g p (peer e)) in
        wakes-then p ran (change_flow e step ran) (wakes-turn e true p) (wakes-flow e step ran)
    wakes-part e Part.Drain p = wakes-turn e false p

    pub wakes-got : (e : SideId) (p : Plain) → Wakes g p (after_got g P e p)
    wakes-got e p = let ran = read_run g P e false p in wakes-then p ran (raise_read g P e ran) (wakes-run e false p) (wakes-read e ran)

    pub wakes-written : (e : SideId) (answer : WriteAnswer) (p : Plain) → Wakes g p (after_write g P e answer p)
    wakes-written e (write.Took n) p =
        let m : Plain = change_flow (peer e) (λ f. record f { given = f.given + n }) p in
        let q : Plain = change_side e (active_at p.time dir.Write) m in
        wakes-then p q (raise_write g P e q)
        (wakes-then p m q (wakes-flow (peer e) (λ f. record f { given = f.given + n }) p)
        (wakes-change e (active_at p.time dir.Write) m (active-live p.time dir.Write)))
        (wakes-write e q)
    wakes-written e write.NotYet p = wakes-same p
    wakes-written e write.Failed p =
        wakes-told e (λ x. record x { failed = true; writes = false }) (happened dir.Write error_flag) p
        (happened-fits dir.Write error_flag (omega arith)) (λ x. refl)
    wakes-written e write.NoMemory p = wakes-same p

  pub wakes-conn : (e : SideId) (answer : ConnAnswer) (p : Plain) → Wakes g p (after_conn g e answer p)
  wakes-conn e conn.Connected p = wakes-told e (λ x. record x { connecting = false }) why.Connected p tt (λ x. refl)
  wakes-conn e conn.Pending p = wakes-same p
  wakes-conn e conn.Failed p =
      wakes-told e (λ x. record x { failed = true; writes = false }) (happened dir.Write error_flag) p
      (happened-fits dir.Write error_flag (omega arith)) (λ x. refl)

  pub wakes-was_read : (e : SideId) (answer : ReadAnswer) (p : Plain) → Wakes g p (after_read g e answer p)
  wakes-was_read e (read.Got n) p = wakes-change e (active_at p.time dir.Read) p (active-live p.time dir.Read)
  wakes-was_read e read.Ended p =
      wakes-told e (λ x. record x { ended = true; reads = false }) (happened dir.Read end_flag) p
      (happened-fits dir.Read end_flag (omega arith)) (λ x. refl)
  wakes-was_read e read.NotYet p = wakes-same p
  wakes-was_read e read.Failed p =
      wakes-told e (λ x. record x { failed = true; reads = false }) (happened dir.Read error_flag) p
      (happened-fits dir.Read error_flag (omega arith)) (λ x. refl)

  pub wakes-done : (P : Past) (p : Plain) (a : Act) → is_free a ≡ false → Wakes g p (done g P p a)
  wakes-done P p (act.Free e) h = absurd (cc)
  wakes-done P p (act.Enable e d) h = wakes-change e (enabled d true) p (enabled-live d true)
  wakes-done P p (act.Disable e d) h = wakes-change e (enabled d false) p (enabled-live d false)
  wakes-done P p (act.Marks e d low high) h = wakes-change e (λ x. record x { marks = marked d low high x.marks }) p (λ x. refl)
  wakes-done P p (act.Timeouts e r w) h =
      wakes-change e (λ x. record x { timeouts = record { read_ms = r; write_ms = w }; last_read = p.time; last_write = p.time }) p
      (λ x. refl)
  wakes-done P p (act.Rate e cfg) h = wakes-change e (λ x. record x { limit = limit_set P p e x.limit cfg }) p (λ x. refl)
  wakes-done P p (act.Join e n) h = wakes-change e (λ x. record x { group = Some n }) p (λ x. refl)
  wakes-done P p (act.Leave e) h = wakes-change e (λ x. record x { group = None }) p (λ x. refl)
  wakes-done P p (act.Trigger e dir.Read) h = wakes-read P e p
  wakes-done P p (act.Trigger e dir.Write) h = wakes-write P e p
  wakes-done P p (act.Timer e delay) h =
      wakes-timers (placed (record { side = e; deadline = p.time + delay }) (without_timer e p.timers)) p
  wakes-done P p (act.Cancel e) h = wakes-timers (without_timer e p.timers) p
  wakes-done P p (act.Incref e) h = wakes-change e (λ x. record x { references = x.references + 1 }) p (λ x. refl)
  wakes-done P p (act.Decref e) h = wakes-change e (λ x. record x { references = x.references - 1 }) p (λ x. refl)
  wakes-done P p act.Stop h = wakes-same p

  -- A side is freed: nothing waits for it any more, and who else lives lives on.

  other_name : (a e : SideId) → same_end a e ≡ false → a ≢ e
  other_name a e h same = let bad : true ≡ false = sym (same_end-refl a) ∙ ap (same_end a) same ∙ h in absurd (cc)

  freed-live : (e a : SideId) (p : Plain) → same_end a e ≡ false → is_live (freed e p) a ≡ is_live p a
  freed-live e a p h =
      ap (λ (x : PlainSide). x.live)
      (side-put_other (record p { timers = without_timer e p.timers; due = without_due e p.due }) e a
      (record (side_at p e) { live = false; group = None }) (other_name a e h))

  pub freed-dues : (e : SideId) (p : Plain) (ds : List Due) → All (DueOf g p) ds → All (DueOf g (freed e p)) (without_due e ds)
  freed-dues e p [] h = All-nil (DueOf g (freed e p))
  freed-dues e p (d ∷ ds) h = go (freed-dues e p ds (All-tail (DueOf g p) d ds h)) (same_end d.side e) refl
    where
      go : All (DueOf g (freed e p)) (without_due e ds) → (b : Bool) → same_end d.side e ≡ b →
          All (DueOf g (freed e p)) (if not b then d ∷ without_due e ds else without_due e ds)
      go rest true is = rest
      go rest false is =
          let old = All-head (DueOf g p) d ds h in
          All-cons (DueOf g (freed e p)) d (without_due e ds) ((freed-live e d.side p is ∙ old.0.0, old.0.1), old.1) rest

  pub freed-reasons : (e : SideId) (p : Plain) (rs : List Reason) → All (ReasonOf g p) rs →
      All (ReasonOf g (freed e p)) (without_reasons e rs)
  freed-reasons e p [] h = All-nil (ReasonOf g (freed e p))
  freed-reasons e p (r ∷ rs) h = go (freed-reasons e p rs (All-tail (ReasonOf g p) r rs h)) (same_end r.0 e) refl
    where
      go : All (ReasonOf g (freed e p)) (without_reasons e rs) → (b : Bool) → same_end r.0 e ≡ b →
          All (ReasonOf g (freed e p)) (if not b then r ∷ without_reasons e rs else without_reasons e rs)
      go rest true is = rest
      go rest false is =
          let old = All-head (ReasonOf g p) r rs h in
          All-cons (ReasonOf g (freed e p)) r (without_reasons e rs) ((freed-live e r.0 p is ∙ old.0.0, old.0.1), old.1) rest

  -- the reasons of entries
  where-all : (p : Plain) (b : Bool) (e : SideId) (y : Why) → ReasonOf g p (e, y) → All (ReasonOf g p) (reason_where b e y)
  where-all p true e y h = All-cons (ReasonOf g p) (e, y) [] h (All-nil (ReasonOf g p))
  where-all p false e y h = All-nil (ReasonOf g p)

  event-all : (p : Plain) (e : SideId) (o : Option ℕ) → IsHooked g p e → IfSome o (λ flags. flags < 2 ^ 8) →
      All (ReasonOf g p) (event_reason e o)
  event-all p e None h fits = All-nil (ReasonOf g p)
  event-all p e (Some n) h fits = All-cons (ReasonOf g p) (e, event n) [] (h, fits) (All-nil (ReasonOf g p))

  pub batch-all : (p : Plain) (ds : List Due) → All (DueOf g p) ds → All (ReasonOf g p) (batch ds)
  batch-all p [] h = All-nil (ReasonOf g p)
  batch-all p (d ∷ ds) h =
      let R = ReasonOf g p in
      let own = All-head (DueOf g p) d ds h in
      let e = d.side in
      let c = reason_where d.connected e why.Connected in
      let r = reason_where d.read e why.Read in
      let w = reason_where d.write e why.Write in
      let v = event_reason e d.event in
      let t = reason_where d.timer e why.Timer in
      let one = All-append R c r (where-all p d.connected e why.Connected (own.0, tt)) (where-all p d.read e why.Read (own.0, tt)) in
      let two = All-append R (c ++ r) w one (where-all p d.write e why.Write (own.0, tt)) in
      let three = All-append R ((c ++ r) ++ w) v two (event-all p e d.event own.0 own.1) in
      let four = All-append R (((c ++ r) ++ w) ++ v) t three (where-all p d.timer e why.Timer (own.0, tt)) in
      All-append R (reasons d) (batch ds) four (batch-all p ds (All-tail (DueOf g p) d ds h))
