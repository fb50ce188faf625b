-- What is so of every side, of its timeouts, its last activity and its connection: it is kept by each step, where it is so of the sides
-- of a new link, of one that was active just now or connected just now, and of one whose timeouts a hook just asked for, and stays so
-- in time. By induction over the steps.
use Rattle.std.proofs.Common.{◌≡◌, ℕ, ◌+◌, ◌*◌, ◌≤◌, Bool, true, false, not, nat_lt, nat_le, if◌then◌else◌, List, [], ◌∷◌, ◌++◌, length}
use Rattle.std.proofs.Common.{fold, Option, Some, None, inl, inr, refl, sym, ap, subst}
use Rattle.std.specs.Prelude.{filter}
use Rattle.std.proofs.lemmas.Bool.{or_parts, ltb-false}
use Rattle.std.proofs.lemmas.Bool.Decides.{eqb_tells}
use Rattle.token_bucket.specs.declared.limit.Dir.{Dir}
use Rattle.token_bucket.specs.declared.limit.Dir.TheVariants as dir
use Rattle.ev_types.specs.declared.side.Side.TheVariants.{In, Out}
use Rattle.ev_types.specs.declared.side.SideId.{SideId}
use Rattle.ev_types.specs.declared.act.Act.{Act}
use Rattle.ev_types.specs.declared.act.Act.TheVariants as act
use Rattle.ev_types.specs.declared.answer.AskAnswer.{AskAnswer}
use Rattle.ev_types.specs.declared.answer.AskAnswer.TheVariants as ask
use Rattle.ev_types.specs.declared.answer.ConnAnswer.{ConnAnswer}
use Rattle.ev_types.specs.declared.answer.ConnAnswer.TheVariants as conn
use Rattle.ev_types.specs.declared.answer.ReadAnswer.{ReadAnswer}
use Rattle.ev_types.specs.declared.answer.ReadAnswer.TheVariants as read
use Rattle.ev_types.specs.declared.answer.WriteAnswer.{WriteAnswer}
use Rattle.ev_types.specs.declared.answer.WriteAnswer.TheVariants as write
use Rattle.ev_types.specs.declared.why.Why.{Why}
use Rattle.ev_types.specs.declared.why.Why.TheVariants as why
use Rattle.ev_types.specs.declared.entry.Entry.TheVariants as entry
use Rattle.ev_types.specs.Sides.{peer}
use Rattle.ev_types.specs.Trace.{Event, Trace}
use Rattle.relay_model.specs.Settings.{Settings, HasNoHooks}
use Rattle.ev_types.specs.declared.settings.Timeouts.{Timeouts}
use Rattle.relay_model.specs.Plain.{Plain, PlainSide, no_side, new_side, with_link, side_at, put_side, change_side, change_flow, freed}
use Rattle.relay_model.specs.Plain.{all_sides}
use Rattle.relay_model.specs.Past.{Past, past}
use Rattle.relay_model.specs.Rooms.{wants}
use Rattle.relay_model.specs.Reasons.{raise, raise_read, raise_write, happened, end_flag, error_flag, timeout_flag}
use Rattle.relay_model.specs.Moments.{is_timed, has_run_out, active_at, expire, both_ways, timers_taken, timed, side_timed, time_passed}
use Rattle.relay_model.specs.Asks.{most_ms, names_no_live, has_bad_value, names_no_group, has_too_many, refusal, enabled, done, Answered}
use Rattle.relay_model.specs.Asks.{Ask}
use Rattle.relay_model.specs.Round.{Part, read_run, write_run, do_part}
use Rattle.relay_model.specs.Serve.{after_conn, after_read, after_got, after_write}
use Rattle.relay_model.specs.Close.{CloseStep, closed_by}
use Rattle.relay_model.specs.Stages.{Stage, State}
use Rattle.relay_model.specs.Turn.{turned_to, Puts, Reaches}
use Rattle.relay_model.proofs.PlainLemmas.{side_at-new, side_at-old, is_connected}
use Rattle.relay_model.proofs.TimeLemmas.{put-cases}
use Rattle.relay_model.proofs.KeepsLemmas.{raised, raised_read, raised_write}
use Rattle.relay_model.proofs.FireLemmas.{QuietKind, quiet-kind}
use Rattle.relay_model.proofs.KindLemmas.{PutKind, put-kind}
use Rattle.relay_model.proofs.ToldLemmas.{kept}
use Rattle.relay_model.proofs.HooklessLemmas.{Asleep, asleep}

-- what is looked at of a side
pub record Looks : Type 0 where
  pub timeouts : Timeouts
  pub last_read : ℕ
  pub last_write : ℕ
  pub connecting : Bool

abbrev pub looks : PlainSide → Looks
looks x = record { timeouts = x.timeouts; last_read = x.last_read; last_write = x.last_write; connecting = x.connecting }

-- a fact on a side at a time that is kept
pub record IsKept (g : Settings) (P : ℕ → SideId → Looks → Type 0) : Type 0 where
  pub later : (n m : ℕ) (e : SideId) (x : Looks) → n ≤ m → P n e x → P m e x
  pub unopened : (n : ℕ) (e : SideId) → P n e (looks no_side)
  pub fresh : (n turn : ℕ) (e : SideId) (connected : Bool) → P n e (looks (new_side g n turn e.side (is_connected e.side connected)))
  pub was_read : (n : ℕ) (e : SideId) (x : Looks) → P n e x → P n e (record x { last_read = n })
  pub written : (n : ℕ) (e : SideId) (x : Looks) → P n e x → P n e (record x { last_write = n })
  pub connected : (n : ℕ) (e : SideId) (x : Looks) → P n e x → P n e (record x { connecting = false })
  pub asked : (n : ℕ) (e : SideId) (x : Looks) (read write : ℕ) → (HasNoHooks g → ⊥) → read ≤ most_ms → write ≤ most_ms → P n e x →
      P n e (record x { timeouts = record { read_ms = read; write_ms = write }; last_read = n; last_write = n })

-- an ask that nothing refuses has no bad value
pub fine-value : (g : Settings) (s : Plain) (a : Act) → refusal g s a ≡ None → has_bad_value s a ≡ false
fine-value g s a h = go (names_no_live s a) (has_bad_value s a) (names_no_group g a) (has_too_many s a) h
  where
    go : (b c d e : Bool) → (if b then Some ask.NotLive
        else (if c then Some ask.BadValue else (if d then Some ask.NoGroup else (if e then Some ask.TooManyRefs else None)))) ≡ None →
        c ≡ false
    go true c d e h = absurd (cc)
    go false true d e h = absurd (cc)
    go false false d e h = refl

-- it holds of all sides
abbrev pub HoldsOfAll : (ℕ → SideId → Looks → Type 0) → Plain → Type 0
HoldsOfAll P s = (e : SideId) → P s.time e (looks (side_at s e))

module _ (g : Settings) (P : ℕ → SideId → Looks → Type 0) (k : IsKept g P) where
  abbrev Holds : Plain → Type 0
  Holds s = HoldsOfAll P s

  holds-put : (e : SideId) (x : PlainSide) (s : Plain) → P s.time e (looks x) → Holds s → Holds (put_side e x s)
  holds-put e x s own h a = elim (put-cases e a x s) [
    | inl same ↦ subst (λ z. P s.time a (looks z)) (sym same.1) (subst (λ z. P s.time z (looks x)) (sym same.0) own)
    | inr other ↦ subst (λ z. P s.time a (looks z)) (sym other) (h a)
  ]

  holds-raise : (e : SideId) (y : Why) (s : Plain) → Holds s → Holds (raise g e y s)
  holds-raise e y s h = subst Holds (sym (raised g e y s).1) h

  holds-raise_read : (p : Past) (e : SideId) (s : Plain) → Holds s → Holds (raise_read g p e s)
  holds-raise_read p e s h = subst Holds (sym (raised_read g p e s).1) h

  holds-raise_write : (p : Past) (e : SideId) (s : Plain) → Holds s → Holds (raise_write g p e s)
  holds-raise_write p e s h = subst Holds (sym (raised_write g p e s).1) h

  holds-if : (b : Bool) (x y : Plain) → Holds x → Holds y → Holds (if b then x else y)
  holds-if true x y p q = p
  holds-if false x y p q = q

  holds-fold : {X : Type 0} (step : Plain → X → Plain) → ((s : Plain) (x : X) → Holds s → Holds (step s x)) →
      (s : Plain) (xs : List X) → Holds s → Holds (fold step s xs)
  holds-fold step f s [] h = h
  holds-fold step f s (x ∷ xs) h = holds-fold step f (step s x) xs (f s x h)

  -- The start of a turn

  active : (n : ℕ) (e : SideId) (d : Dir) (x : PlainSide) → P n e (looks x) → P n e (looks (active_at n d x))
  active n e dir.Read x h = k.was_read n e (looks x) h
  active n e dir.Write x h = k.written n e (looks x) h

  expires : (n : ℕ) (e : SideId) (d : Dir) (x : PlainSide) → P n e (looks x) → P n e (looks (expire d x))
  expires n e dir.Read x h = h
  expires n e dir.Write x h = h

  holds-timed : (p : Past) (e : SideId) (s : Plain) (d : Dir) → Holds s → Holds (timed g p e s d)
  holds-timed p e s d h =
      holds-if (not (is_timed (side_at s e) d)) s _ h
      (holds-if (not (wants g p s e d)) (change_side e (active_at s.time d) s) _
      (holds-put e (active_at s.time d (side_at s e)) s (active s.time e d (side_at s e) (h e)) h)
      (holds-if (has_run_out (side_at s e) d s.time) (raise g e (happened d timeout_flag) (change_side e (expire d) s)) s
      (holds-raise e (happened d timeout_flag) (change_side e (expire d) s)
      (holds-put e (expire d (side_at s e)) s (expires s.time e d (side_at s e) (h e)) h)) h))

  holds-taken : (s : Plain) → Holds s → Holds (timers_taken g s)
  holds-taken s h =
      holds-fold (λ state x. raise g x.side why.Timer state) (λ z x q. holds-raise x.side why.Timer z q)
      (record s { timers = filter (λ x. nat_lt s.time x.deadline) s.timers })
      ((filter (λ x. nat_le x.deadline s.time) s.timers)) h

  holds-passed : (p : Past) (s : Plain) → Holds s → Holds (time_passed g p s)
  holds-passed p s h =
      holds-fold (side_timed g p) (λ z e q. holds-fold (timed g p e) (λ y d r. holds-timed p e y d r) z both_ways q)
      (timers_taken g s) (all_sides s) (holds-taken s h)

  -- Serving

  holds-conn : (e : SideId) (answer : ConnAnswer) (s : Plain) → Holds s → Holds (after_conn g e answer s)
  holds-conn e conn.Connected s h =
      holds-raise e why.Connected (change_side e (λ x. record x { connecting = false }) s)
      (holds-put e (record (side_at s e) { connecting = false }) s (k.connected s.time e (looks (side_at s e)) (h e)) h)
  holds-conn e conn.Pending s h = h
  holds-conn e conn.Failed s h =
      holds-raise e (happened dir.Write error_flag) (change_side e (λ x. record x { failed = true; writes = false }) s)
      (holds-put e (record (side_at s e) { failed = true; writes = false }) s (h e) h)

  holds-read : (e : SideId) (answer : ReadAnswer) (s : Plain) → Holds s → Holds (after_read g e answer s)
  holds-read e (read.Got n) s h = holds-put e (active_at s.time dir.Read (side_at s e)) s (active s.time e dir.Read (side_at s e) (h e)) h
  holds-read e read.Ended s h =
      holds-raise e (happened dir.Read end_flag) (change_side e (λ x. record x { ended = true; reads = false }) s)
      (holds-put e (record (side_at s e) { ended = true; reads = false }) s (h e) h)
  holds-read e read.NotYet s h = h
  holds-read e read.Failed s h =
      holds-raise e (happened dir.Read error_flag) (change_side e (λ x. record x { failed = true; reads = false }) s)
      (holds-put e (record (side_at s e) { failed = true; reads = false }) s (h e) h)

  holds-write : (p : Past) (e : SideId) (answer : WriteAnswer) (s : Plain) → Holds s → Holds (after_write g p e answer s)
  holds-write p e (write.Took n) s h =
      holds-raise_write p e (change_side e (active_at s.time dir.Write) (change_flow (peer e) (λ f. record f { given = f.given + n }) s))
      (holds-put e (active_at s.time dir.Write (side_at s e)) s (active s.time e dir.Write (side_at s e) (h e)) h)
  holds-write p e write.NotYet s h = h
  holds-write p e write.Failed s h =
      holds-raise e (happened dir.Write error_flag) (change_side e (λ x. record x { failed = true; writes = false }) s)
      (holds-put e (record (side_at s e) { failed = true; writes = false }) s (h e) h)
  holds-write p e write.NoMemory s h = h

  -- Passing

  holds-read_run : (p : Past) (e : SideId) (ended : Bool) (s : Plain) → Holds s → Holds (read_run g p e ended s)
  holds-read_run p e ended s h = holds-put e _ s (h e) h

  holds-write_run : (p : Past) (e : SideId) (may_end : Bool) (s : Plain) → Holds s → Holds (write_run g p e may_end s)
  holds-write_run p e may_end s h = holds-put (peer e) _ s (h (peer e)) h

  holds-part : (p : Past) (e : SideId) (x : Part) (s : Plain) → Holds s → Holds (do_part g p e x s)
  holds-part p e Part.Hold s h = h
  holds-part p e Part.Read s h = holds-read_run p e (side_at s e).ended s h
  holds-part p e Part.Move s h = h
  holds-part p e Part.Write s h = holds-write_run p e true s h
  holds-part p e Part.Drain s h = holds-write_run p e false s h

  holds-got : (p : Past) (e : SideId) (s : Plain) → Holds s → Holds (after_got g p e s)
  holds-got p e s h = holds-raise_read p e (read_run g p e false s) (holds-read_run p e false s h)

  -- Closing

  holds-freed : (e : SideId) (s : Plain) → Holds s → Holds (freed e s)
  holds-freed e s h = holds-put e _ s (h e) h

  holds-closed : (c : CloseStep) (s : Plain) → Holds s → Holds (closed_by c s)
  holds-closed (CloseStep.Faulty e) s h = holds-freed e s h
  holds-closed (CloseStep.EndWriting e) s h = holds-put e _ s (h e) h
  holds-closed (CloseStep.BothDone n) s h = holds-freed (record { link = n; side = In }) s h
  holds-closed (CloseStep.OutDone n) s h = holds-freed (record { link = n; side = Out }) s h
  holds-closed (CloseStep.PeerGone e) s h = holds-freed e s h
  holds-closed (CloseStep.Shut e) s h = holds-put e _ s (h e) h

  -- Opening

  holds-link : (connected : Bool) (s : Plain) → length s.sides ≡ 2 * s.opened → Holds s → Holds (with_link g connected s)
  holds-link connected s size h e = elim (eqb_tells s.opened e.link) [
    | inl same ↦ subst (λ z. P s.time e (looks z)) (sym (side_at-new g connected s e size same.1)) (k.fresh s.time s.turn e connected)
    | inr apart ↦ subst (λ z. P s.time e (looks z)) (sym (side_at-old g connected s e size apart.1)) (h e)
  ]

  -- Asks

  enables : (n : ℕ) (e : SideId) (d : Dir) (on : Bool) (x : PlainSide) → P n e (looks x) → P n e (looks (enabled d on x))
  enables n e dir.Read on x h = h
  enables n e dir.Write on x h = h

  holds-done : (p : Past) (a : Act) (s : Plain) → (HasNoHooks g → ⊥) → has_bad_value s a ≡ false → Holds s → Holds (done g p s a)
  holds-done p (act.Free e) s hooked fine h = holds-freed e s h
  holds-done p (act.Enable e d) s hooked fine h = holds-put e _ s (enables s.time e d true (side_at s e) (h e)) h
  holds-done p (act.Disable e d) s hooked fine h = holds-put e _ s (enables s.time e d false (side_at s e) (h e)) h
  holds-done p (act.Marks e d low high) s hooked fine h = holds-put e _ s (h e) h
  holds-done p (act.Timeouts e read write) s hooked fine h =
      let small = or_parts (nat_lt most_ms read) (nat_lt most_ms write) fine in
      holds-put e _ s
      (k.asked s.time e (looks (side_at s e)) read write hooked (ltb-false most_ms read small.0) (ltb-false most_ms write small.1) (h e)) h
  holds-done p (act.Rate e cfg) s hooked fine h = holds-put e _ s (h e) h
  holds-done p (act.Join e n) s hooked fine h = holds-put e _ s (h e) h
  holds-done p (act.Leave e) s hooked fine h = holds-put e _ s (h e) h
  holds-done p (act.Trigger e dir.Read) s hooked fine h = holds-raise_read p e s h
  holds-done p (act.Trigger e dir.Write) s hooked fine h = holds-raise_write p e s h
  holds-done p (act.Timer e delay) s hooked fine h = h
  holds-done p (act.Cancel e) s hooked fine h = h
  holds-done p (act.Incref e) s hooked fine h = holds-put e _ s (h e) h
  holds-done p (act.Decref e) s hooked fine h = holds-put e _ s (h e) h
  holds-done p act.Stop s hooked fine h = h

  holds-asked : (p : Past) (s : Plain) (a : Act) (answer : AskAnswer) (after : Plain) → (HasNoHooks g → ⊥) → Ask g p s a answer after →
      Holds s → Holds after
  holds-asked p s a answer after hooked q h = go (refusal g s a) refl q
    where
      go : (r : Option AskAnswer) → refusal g s a ≡ r → Answered r g p s a answer after → Holds after
      go (Some refused) is z = subst Holds (sym z.1) h
      go None is (inl z) = subst Holds (sym z.1) (holds-done p a s hooked (fine-value g s a is) h)
      go None is (inr z) = subst Holds (sym z.2) h

  -- Steps

  put-holds : (t : Trace) (s : Plain) (x : Stage) (y : Event) (new : State) → PutKind g t s x y new → Puts g t x s y.0 y.1 new →
      (HasNoHooks g → Asleep g x s) → length s.sides ≡ 2 * s.opened → Holds s → Holds new.plain
  put-holds t s x y new (PutKind.turned {ms = ms} a b) put idle size h =
      holds-passed (past g (t ++ (entry.Turn ms, []) ∷ [])) (turned_to ms s) (λ e. k.later s.time ms e (looks (side_at s e)) a (h e))
  put-holds t s x y new PutKind.polled put idle size h = h
  put-holds t s x y new (PutKind.wanted a) put idle size h = h
  put-holds t s x y new PutKind.poll_failed put idle size h = h
  put-holds t s x y new (PutKind.readied a) put idle size h = h
  put-holds t s x y new (PutKind.opened {connected = connected}) put idle size h = holds-link connected s size h
  put-holds t s x y new (PutKind.checked {side = side} {answer = answer} a) put idle size h = holds-conn side answer s h
  put-holds t s x y new (PutKind.was_read {side = side} {answer = answer} left a b) put idle size h = holds-read side answer s h
  put-holds t s x y new (PutKind.written {side = side} {answer = answer} a b d) put idle size h = holds-write (past g t) side answer s h
  put-holds t s x y new (PutKind.fired a) put idle size h = h
  put-holds t s x y new (PutKind.frees {gone = gone} a same) put idle size h = holds-freed gone s h
  put-holds t s x y new (PutKind.asked {a = a} {answer = answer} same m l) put idle size h =
      subst Holds (sym (ap (λ (z : State). z.plain) put.5)) (holds-asked (past g t) s a answer put.3 (λ none. (idle none).idle) put.4 h)
  put-holds t s x y new PutKind.recorded put idle size h = h
  put-holds t s x y new (PutKind.closed {c = z} a) put idle size h = holds-closed z s h

  quiet-holds : (t : Trace) (s : Plain) (x : Stage) (new : State) → QuietKind g t s x new → Holds s → Holds new.plain
  quiet-holds t s x new (QuietKind.moved next q) h = h
  quiet-holds t s x new (QuietKind.filtered {e = e}) h = holds-got (past g t) e s h
  quiet-holds t s x new QuietKind.dispatched h = h
  quiet-holds t s x new (QuietKind.passed {x = part} {e = e}) h = holds-part (past g t) e part s h
  quiet-holds t s x new QuietKind.closes h = h
  quiet-holds t s x new (QuietKind.looked q) h = h
  quiet-holds t s x new QuietKind.over h = h

  pub all-hold : (t : Trace) (s : State) → Reaches g t s → Holds s.plain
  all-hold t s Reaches.begins = λ e. k.unopened 0 e
  all-hold t new (Reaches.goes {t = v} {s = old} r h) =
      quiet-holds v old.plain old.stage new (quiet-kind g v old.stage old.plain new h) (all-hold v old r)
  all-hold t new (Reaches.puts {t = v} {s = old} e bytes r h) =
      let c = kept g v old r in
      put-holds v old.plain old.stage (e, bytes) new (put-kind g v old.stage old.plain e bytes new c.placed h) h
      (λ none. asleep g v old none r) c.counts.shape.sides (all-hold v old r)
