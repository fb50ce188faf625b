-- What a hook frees just now, and what is freed as done, by induction over the steps.
use Rattle.std.proofs.Common.{◌≡◌, ℕ, zero, suc, ◌+◌, ◌*◌, ◌<◌, true, false, ◌==◌, List, [], ◌∷◌, ◌++◌, length, None, refl, sym, ◌∙◌, ap}
use Rattle.std.proofs.Common.{subst}
use Rattle.std.specs.Prelude.{⊤}
use Rattle.std.specs.List.{AllByRecursion}
use Rattle.std.proofs.lemmas.Bool.{and_right, or_parts, not-true}
use Rattle.ev_types.specs.declared.side.Side.TheVariants.{In, Out}
use Rattle.ev_types.specs.declared.side.SideId.{SideId}
use Rattle.ev_types.specs.declared.act.Act.TheVariants as act
use Rattle.ev_types.specs.declared.answer.AskAnswer.TheVariants as ask
use Rattle.ev_types.specs.declared.entry.Entry.{Entry}
use Rattle.ev_types.specs.declared.entry.Entry.TheVariants as entry
use Rattle.ev_types.specs.Sides.{same_end}
use Rattle.ev_types.specs.Trace.{Event, Trace}
use Rattle.relay_model.specs.Settings.{Settings}
use Rattle.relay_model.specs.Due.{without_due}
use Rattle.relay_model.specs.Plain.{Plain, side_at, is_live, freed, without_timer}
use Rattle.relay_model.specs.Past.{Past, past}
use Rattle.relay_model.specs.Close.{CloseStep, closing_from, closed_by, steps_left}
use Rattle.relay_model.specs.Stages.{Stage, State, Between, Firing, Freeing, Closing}
use Rattle.relay_model.specs.Turn.{after_reading, Reaches}
use Rattle.relay_model.specs.Told.{is_freed, is_freeing}
use Rattle.relay_model.proofs.EndLemmas.{same_end-eq}
use Rattle.relay_model.proofs.KeepsLemmas.{change_side-same, change_side-other}
use Rattle.relay_model.proofs.PlacedLemmas.{Placed, live-there, link_of}
use Rattle.relay_model.proofs.FireLemmas.{is_open_stage, QuietKind, quiet-kind, Runs, put-runs, quiet-runs, reading-open}
use Rattle.relay_model.proofs.ToldLemmas.{Kept, kept}
use Rattle.relay_model.proofs.StageLemmas.{quiet-silent}
use Rattle.relay_model.proofs.KindLemmas.{ClosedKind, closed-kind, PutKind, put-kind}

-- What a hook freed

-- the last event is an ask that freed this live side
pub record FreedByHook (g : Settings) (t : Trace) (gone : SideId) : Type 0 where
  pub early : Trace
  pub me : SideId
  pub is : t ≡ early ++ (entry.Asked me (act.Free gone) ask.Ok, []) ∷ []
  pub was_live : is_freed gone early ≡ false

pub still-freeing : (x : Stage) (gone : SideId) → is_open_stage x ≡ true → is_freeing x gone ≡ false
still-freeing Between gone h = refl
still-freeing (Firing f rs) gone h = refl
still-freeing (Freeing e f rs) gone h = absurd (cc)
still-freeing (Closing cs) gone h = refl
still-freeing _ gone h = refl

put-hook : (g : Settings) (t : Trace) (s : Plain) (x : Stage) (y : Event) (new : State) → ((e : SideId) → is_live s e ≡ true →
    is_freed e t ≡ false) → PutKind g t s x y new →
    (gone : SideId) → is_freeing new.stage gone ≡ true → FreedByHook g (t ++ y ∷ []) gone
put-hook g t s x y new live (PutKind.turned a b) gone h = absurd (cc)
put-hook g t s x y new live (PutKind.polled) gone h = absurd (cc)
put-hook g t s x y new live (PutKind.wanted a) gone h = absurd (cc)
put-hook g t s x y new live (PutKind.poll_failed) gone h = absurd (cc)
put-hook g t s x y new live (PutKind.readied a) gone h = absurd (cc)
put-hook g t s x y new live (PutKind.opened) gone h = absurd (cc)
put-hook g t s x y new live (PutKind.checked a) gone h = absurd (cc)
put-hook g t s x y new live (PutKind.was_read {side = side} {answer = answer} left a b) gone h = absurd
    (let k = still-freeing (after_reading side answer left) gone (reading-open side answer left) in cc)
put-hook g t s x y new live (PutKind.written a b c) gone h = absurd (cc)
put-hook g t s x y new live (PutKind.fired a) gone h = absurd (cc)
put-hook g t s x y new live (PutKind.frees {x = f} {gone = freed_one} a same) gone h =
    subst (λ z. FreedByHook g (t ++ (entry.Asked f.side (act.Free freed_one) ask.Ok, []) ∷ []) z) (same_end-eq freed_one gone h)
    (record { early = t; me = f.side; is = refl; was_live = live freed_one a })
put-hook g t s x y new live (PutKind.asked same k l) gone h = absurd (cc)
put-hook g t s x y new live (PutKind.recorded) gone h = absurd (cc)
put-hook g t s x y new live (PutKind.closed a) gone h = absurd (cc)

-- What is freed as done

abbrev pub IsLook : CloseStep → Type 0
IsLook (CloseStep.OutDone k) = ⊥
IsLook _ = ⊤

-- no side of these is freed as done without a look
abbrev pub AllLooks : List CloseStep → Type 0
AllLooks cs = AllByRecursion IsLook cs

-- the other side of a link whose In side was freed as done just now
pub record IsDone (s : Plain) (k : ℕ) : Type 0 where
  pub live : is_live s (record { link = k; side = Out }) ≡ true
  pub gone : is_live s (record { link = k; side = In }) ≡ false
  pub in_ended : (side_at s (record { link = k; side = In })).write_ended ≡ true
  pub out_ended : (side_at s (record { link = k; side = Out })).write_ended ≡ true

abbrev pub FirstReady : CloseStep → Plain → Type 0
FirstReady (CloseStep.OutDone k) s = IsDone s k
FirstReady _ s = ⊤

abbrev pub AllReady : List CloseStep → Plain → Type 0
AllReady [] s = ⊤
AllReady (c ∷ cs) s = FirstReady c s × AllLooks cs

abbrev pub DoneReady : Stage → Plain → Type 0
DoneReady (Closing cs) s = AllReady cs s
DoneReady _ s = ⊤

open-ready : (x : Stage) (s : Plain) → is_open_stage x ≡ true → DoneReady x s
open-ready (Closing cs) s h = absurd (cc)
open-ready _ s h = tt

look-first : (c : CloseStep) (s : Plain) → IsLook c → FirstReady c s
look-first (CloseStep.OutDone k) s h = absurd h
look-first (CloseStep.Faulty e) s h = tt
look-first (CloseStep.EndWriting e) s h = tt
look-first (CloseStep.BothDone k) s h = tt
look-first (CloseStep.PeerGone e) s h = tt
look-first (CloseStep.Shut e) s h = tt

looks-ready : (cs : List CloseStep) (s : Plain) → AllLooks cs → AllReady cs s
looks-ready [] s h = tt
looks-ready (c ∷ cs) s h = (look-first c s h.0, h.1)

closing-looks : (k left : ℕ) → AllLooks (closing_from k left)
closing-looks k zero = tt
closing-looks k (suc left) = (tt, (tt, (tt, (tt, (tt, (tt, (tt, (tt, (tt, closing-looks (k + 1) left)))))))))

-- the sides behind the free of one
pub freed-other : (s : Plain) (e z : SideId) → same_end z e ≡ false → side_at (freed e s) z ≡ side_at s z
freed-other s e z h = change_side-other e z (λ v. record v { live = false; group = None })
    (record s { timers = without_timer e s.timers; due = without_due e s.due }) h

pub freed-same : (s : Plain) (e : SideId) → length s.sides ≡ 2 * s.opened → e.link < s.opened → side_at (freed e s) e ≡
    record (side_at s e) { live = false; group = None }
freed-same s e size lt = change_side-same e (λ v. record v { live = false; group = None })
    (record s { timers = without_timer e s.timers; due = without_due e s.due }) size lt

closed-ready : (g : Settings) (p : Past) (s : Plain) (c : CloseStep) (cs : List CloseStep) (e : Entry) → length s.sides ≡ 2 *
    s.opened → link_of c < s.opened → AllLooks cs → ClosedKind g p s c e →
    AllReady (steps_left c cs) (closed_by c s)
closed-ready g p s c cs e size lt h (ClosedKind.faulty {z = z} a b) = looks-ready cs (closed_by (CloseStep.Faulty z) s) h
closed-ready g p s c cs e size lt h (ClosedKind.write_ended {z = z} a b) = looks-ready cs (closed_by (CloseStep.EndWriting z) s) h
closed-ready g p s c cs e size lt h (ClosedKind.in_done {k = k} a b d f) =
    let i : SideId = record { link = k; side = In } in
    let o : SideId = record { link = k; side = Out } in
    let apart : same_end o i ≡ false = and_right (k == k) false refl in
    let out : side_at (freed i s) o ≡ side_at s o = freed-other s i o apart in (
      record {
        live = ap (λ z. z.live) out ∙ b;
        gone = ap (λ z. z.live) (freed-same s i size lt);
        in_ended = ap (λ z. z.write_ended)
            (freed-same s i size lt) ∙ d;
        out_ended = ap (λ z. z.write_ended) out ∙ f;
      },
      h,
    )
closed-ready g p s c cs e size lt h (ClosedKind.out_done {k = k}) = looks-ready cs (closed_by (CloseStep.OutDone k) s) h
closed-ready g p s c cs e size lt h (ClosedKind.peer_gone {z = z} a b d) = looks-ready cs (closed_by (CloseStep.PeerGone z) s) h
closed-ready g p s c cs e size lt h (ClosedKind.shut {z = z} a b) = looks-ready cs (closed_by (CloseStep.Shut z) s) h

put-ready : (g : Settings) (t : Trace) (s : Plain) (x : Stage) (y : Event) (new : State) → length s.sides ≡ 2 * s.opened → Placed x
    s → DoneReady x s → PutKind g t s x y new → DoneReady new.stage new.plain
put-ready g t s x y new size placed ready (PutKind.turned a b) = tt
put-ready g t s x y new size placed ready (PutKind.polled) = tt
put-ready g t s x y new size placed ready (PutKind.wanted a) = tt
put-ready g t s x y new size placed ready (PutKind.poll_failed) = tt
put-ready g t s x y new size placed ready (PutKind.readied a) = tt
put-ready g t s x y new size placed ready (PutKind.opened) = tt
put-ready g t s x y new size placed ready (PutKind.checked a) = tt
put-ready g t s x y new size placed ready (PutKind.was_read {side = side} {answer = answer} left a b) = open-ready
    (after_reading side answer left) _ (reading-open side answer left)
put-ready g t s x y new size placed ready (PutKind.written a b c) = tt
put-ready g t s x y new size placed ready (PutKind.fired a) = tt
put-ready g t s x y new size placed ready (PutKind.frees a same) = tt
put-ready g t s x y new size placed ready (PutKind.asked same k l) = tt
put-ready g t s x y new size placed ready (PutKind.recorded) = tt
put-ready g t s x y new size placed ready (PutKind.closed {c = c} {cs = cs} {e = e} a) = closed-ready g (past g t) s c cs e size
    placed.0 ready.1 (closed-kind g (past g t) s c e a)

quiet-ready : (g : Settings) (t : Trace) (s : Plain) (x : Stage) (new : State) → DoneReady x s → QuietKind g t s x new → DoneReady
    new.stage new.plain
quiet-ready g t s x new ready (QuietKind.moved next h) = open-ready next s h
quiet-ready g t s x new ready QuietKind.filtered = tt
quiet-ready g t s x new ready QuietKind.dispatched = tt
quiet-ready g t s x new ready QuietKind.passed = tt
quiet-ready g t s x new ready QuietKind.closes = looks-ready (closing_from 0 s.opened) s (closing-looks 0 s.opened)
quiet-ready g t s x new ready (QuietKind.looked {cs = cs} h) = looks-ready cs s ready.1
quiet-ready g t s x new ready QuietKind.over = tt

-- All that holds at a stage

pub record Held (g : Settings) (t : Trace) (x : Stage) (s : Plain) : Type 0 where
  pub runs : Runs x t
  pub hook : (gone : SideId) → is_freeing x gone ≡ true → FreedByHook g t gone
  pub ready : DoneReady x s

-- a side that lives was not freed
pub live-unfreed : (g : Settings) (t : Trace) (x : Stage) (s : Plain) → Kept g t x s → (e : SideId) → is_live s e ≡ true → is_freed
    e t ≡ false
live-unfreed g t x s k e live =
    let told = k.each e (live-there s e k.counts.shape.sides live) in
    (or_parts (is_freed e t) (is_freeing x e) (not-true _ (sym told.live ∙ live))).0

pub held : (g : Settings) (t : Trace) (s : State) → Reaches g t s → Held g t s.stage s.plain
held g t s (Reaches.begins) = record { runs = tt; hook = λ gone h. absurd (cc); ready = tt }
held g t new (Reaches.goes {t = u} {s = old} r h) =
    let k = quiet-kind g u old.stage old.plain new h in
    let silent = quiet-silent g u old.stage old.plain new h in
    record {
      runs = quiet-runs g u old.plain old.stage new k;
      hook = λ gone f. absurd (let still = silent.still gone in cc);
      ready = quiet-ready g u old.plain old.stage new (held g u old r).ready k;
    }
held g t new (Reaches.puts {t = u} {s = old} e bytes r h) =
    let c = kept g u old r in
    let k = put-kind g u old.stage old.plain e bytes new c.placed h in
    let before = held g u old r in
    let unfreed = live-unfreed g u old.stage old.plain c in
    record {
      runs = put-runs g u old.plain old.stage (e, bytes) new unfreed before.runs k;
      hook = put-hook g u old.plain old.stage (e, bytes) new unfreed k;
      ready = put-ready g u old.plain old.stage (e, bytes) new c.counts.shape.sides c.placed before.ready k;
    }
