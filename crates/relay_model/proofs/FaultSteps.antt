-- Which side is faulty at a place of a trace, and why, by induction over the steps.
use Rattle.std.proofs.Common.{◌≡◌, ℕ, ◌<◌, ◌≤◌, Bool, true, false, ◌||◌, if◌then◌else◌, [], ◌∷◌, ◌++◌, Option, Some, None, ◌⊎◌, inl, inr}
use Rattle.std.proofs.Common.{refl, sym, ◌∙◌, ap, subst, arith, append_assoc}
use Rattle.std.specs.Prelude.{option_map, is_some}
use Rattle.std.specs.List.{list_any}
use Rattle.std.proofs.lemmas.Bool.{or_from, or_left, or_right, cases_lt, or_cases}
use Rattle.ev_types.specs.declared.side.Side.TheVariants.{In}
use Rattle.ev_types.specs.declared.side.SideId.{SideId}
use Rattle.ev_types.specs.declared.why.Cause.{Cause}
use Rattle.ev_types.specs.declared.entry.Entry.TheVariants as entry
use Rattle.ev_types.specs.Sides.{same_end}
use Rattle.ev_types.specs.Trace.{Event, Trace}
use Rattle.relay_model.specs.Settings.{Settings}
use Rattle.relay_model.specs.Plain.{Plain, PlainSide, side_at, is_live}
use Rattle.relay_model.specs.Past.{Past, past}
use Rattle.relay_model.specs.Moments.{time_passed}
use Rattle.relay_model.specs.Close.{CloseStep, fault, freed_entry, closing_entry, closed_by, steps_left}
use Rattle.relay_model.specs.Stages.{Stage, State, at, Between, Polling, Closing}
use Rattle.relay_model.specs.Turn.{turned_to, after_reading, Reaches}
use Rattle.relay_model.specs.RatesKept.{is_turn}
use Rattle.relay_model.specs.Told.{freed_by, failed_by}
use Rattle.relay_model.proofs.EndLemmas.{same_end-eq}
use Rattle.relay_model.proofs.KeepsLemmas.{Keeps, Keeps-side}
use Rattle.relay_model.proofs.SeenLemmas.{Seen, seen, but_bad, but_expired, time_passed-keeps}
use Rattle.relay_model.proofs.EffectLemmas.{SideEffect, Effect, fresh}
use Rattle.relay_model.proofs.FireLemmas.{QuietKind, quiet-kind, reading-open}
use Rattle.relay_model.proofs.ToldLemmas.{kept, list_any-push}
use Rattle.relay_model.proofs.StageLemmas.{Silent, quiet-silent, closed-opened}
use Rattle.relay_model.specs.Causes.{InThisTurn, TimedOut}
use Rattle.relay_model.proofs.TimeLemmas.{IsLate, time-expired}
use Rattle.relay_model.proofs.StepLemmas.{put-effect}
use Rattle.relay_model.proofs.FaultLemmas.{is_faulty, not-faulty, looks_at, FaultsAwait, open-awaits, looked-for, closed-fails, rest}
use Rattle.relay_model.proofs.FaultLemmas.{steps-looked, old-faulty, was-live}
use Rattle.relay_model.proofs.KindLemmas.{closed-kind, PutKind, put-kind}

-- Closing looks for each faulty side

put-await : (g : Settings) (t : Trace) (s : Plain) (x : Stage) (y : Event) (new : State) → Effect g x s y new.stage new.plain →
    FaultsAwait x s → PutKind g t s x y new → FaultsAwait new.stage new.plain
put-await g t s x y new k await (PutKind.turned a b) e lt live faulty = tt
put-await g t s x y new k await (PutKind.polled) e lt live faulty = tt
put-await g t s x y new k await (PutKind.wanted a) e lt live faulty = tt
put-await g t s x y new k await (PutKind.poll_failed) e lt live faulty = tt
put-await g t s x y new k await (PutKind.readied a) e lt live faulty = tt
put-await g t s x y new k await (PutKind.opened) e lt live faulty = tt
put-await g t s x y new k await (PutKind.checked a) e lt live faulty = tt
put-await g t s x y new k await (PutKind.was_read {side = side} {answer = answer} left a b) e lt live faulty = open-awaits
    (after_reading side answer left) e (reading-open side answer left)
put-await g t s x y new k await (PutKind.written a b c) e lt live faulty = tt
put-await g t s x y new k await (PutKind.fired a) e lt live faulty = tt
put-await g t s x y new k await (PutKind.frees a same) e lt live faulty = tt
put-await g t s x y new k await (PutKind.asked same m l) e lt live faulty = tt
put-await g t s x y new k await (PutKind.recorded) e lt live faulty = tt
put-await g t s x y new k await (PutKind.closed {c = c} {cs = cs} {e = z} a) e lt live faulty =
    let f = closed-fails g (past g t) s c z (closed-kind g (past g t) s c z a) e in
    let same : (closed_by c s).opened ≡ s.opened = closed-opened c s in
    let old : e.link < s.opened = subst (λ n. e.link < n) same lt in
    let one = k.each e old in
    let was = was-live e (z, []) (Closing (steps_left c cs)) (seen (side_at s e)) (seen (side_at (closed_by c s) e)) one live in
    let waits = await e old was.0 (old-faulty e (z, []) (Closing (steps_left c cs)) (seen (side_at s e))
    (seen (side_at (closed_by c s) e)) one f.1 f.0 faulty) in
    steps-looked c cs e (other (looks_at e c) refl was.1 f.2) waits
  where
    other : (q : Bool) → looks_at e c ≡ q → freed_by e (z, []) ≡ false → (looks_at e c ≡ true → freed_by e (z, []) ≡ true) →
        looks_at e c ≡ false
    other false q not_freed m = q
    other true q not_freed m = absurd (let v = m q in cc)

-- what closing doesn't call for is no faulty side
skipped : (g : Settings) (p : Past) (s : Plain) (c : CloseStep) (e : SideId) → closing_entry g p s c ≡ None → is_live s e ≡ true →
    is_faulty (seen (side_at s e)) ≡ true → looks_at e c ≡ false
skipped g p s (CloseStep.Faulty z) e none live faulty = go (same_end z e) refl
  where
    faultless : (b : Bool) (o : Option Cause) → b ≡ true → (if b then option_map (freed_entry s z) o else None) ≡ None → o ≡ None
    faultless true (Some why) b h = absurd (cc)
    faultless true None b h = refl
    faultless false o b h = absurd (cc)

    go : (q : Bool) → same_end z e ≡ q → same_end z e ≡ false
    go false q = q
    go true q = absurd (
        let same = same_end-eq z e q in
        let no = not-faulty (side_at s z) (faultless (is_live s z) (fault (side_at s z)) (ap (λ v. is_live s v) same ∙ live) none) in
        let yes : is_faulty (seen (side_at s z)) ≡ true = ap (λ v. is_faulty (seen (side_at s v))) same ∙ faulty in cc)
skipped g p s (CloseStep.EndWriting z) e none live faulty = refl
skipped g p s (CloseStep.BothDone z) e none live faulty = refl
skipped g p s (CloseStep.OutDone z) e none live faulty = refl
skipped g p s (CloseStep.PeerGone z) e none live faulty = refl
skipped g p s (CloseStep.Shut z) e none live faulty = refl

quiet-await : (g : Settings) (t : Trace) (s : Plain) (x : Stage) (new : State) → FaultsAwait x s → QuietKind g t s x new →
    FaultsAwait new.stage new.plain
quiet-await g t s x new await (QuietKind.moved next h) e lt live faulty = open-awaits next e h
quiet-await g t s x new await (QuietKind.filtered) e lt live faulty = tt
quiet-await g t s x new await (QuietKind.dispatched) e lt live faulty = tt
quiet-await g t s x new await (QuietKind.passed) e lt live faulty = tt
quiet-await g t s x new await (QuietKind.closes) e lt live faulty = looked-for 0 s.opened e (omega arith) (omega arith)
quiet-await g t s x new await (QuietKind.looked {c = c} {cs = cs} h) e lt live faulty = rest (looks_at e c) _
    (skipped g (past g t) s c e h live faulty) (await e lt live faulty)
quiet-await g t s x new await (QuietKind.over) e lt live faulty = absurd (let w = await e lt live faulty in cc)

-- Since when a side is faulty

pub turn-push : (test : Event → Bool) (t : Trace) (y : Event) → is_turn y ≡ false → InThisTurn test t → InThisTurn test (t ++ y ∷ [])
turn-push test t y no_turn h = record {
  early = h.early;
  event = h.event;
  since = h.since ++ y ∷ [];
  is = ap (λ z. z ++ y ∷ []) h.is ∙ append_assoc h.early (h.event ∷ h.since) (y ∷ []);
  passes = h.passes;
  same_turn = list_any-push is_turn h.since y ∙ or_from (list_any is_turn h.since) (is_turn y) h.same_turn no_turn;
}

pub turn-last : (test : Event → Bool) (t : Trace) (y : Event) → test y ≡ true → InThisTurn test (t ++ y ∷ [])
turn-last test t y h = record { early = t; event = y; since = []; is = refl; passes = h; same_turn = refl }

timed-push : (g : Settings) (t : Trace) (e : SideId) (y : Event) → is_turn y ≡ false → TimedOut g t e → TimedOut g (t ++ y ∷ []) e
timed-push g t e y no_turn h = record {
  early = h.early;
  ms = h.ms;
  since = h.since ++ y ∷ [];
  is = ap (λ z. z ++ y ∷ []) h.is ∙ append_assoc h.early ((entry.Turn h.ms, []) ∷ h.since) (y ∷ []);
  same_turn = list_any-push is_turn h.since y ∙ or_from (list_any is_turn h.since) (is_turn y) h.same_turn no_turn;
  before = h.before;
  reached = h.reached;
  dir = h.dir;
  overdue = h.overdue;
}

pub record Faults (g : Settings) (t : Trace) (x : Stage) (s : Plain) : Type 0 where
  pub await : FaultsAwait x s
  pub failed : (e : SideId) → e.link < s.opened → is_live s e ≡ true → (side_at s e).failed ≡ true → InThisTurn (failed_by e) t
  pub expired : (e : SideId) → e.link < s.opened → is_live s e ≡ true → (side_at s e).expired ≡ true → TimedOut g t e

-- an entry begins a turn, or none does
pub data TurnOrNot (g : Settings) (t : Trace) (s : Plain) : Stage → Event → State → Type 0 where
  turns : {ms : ℕ} → TurnOrNot g t s Between (entry.Turn ms, [])
      (at Polling (time_passed g (past g (t ++ (entry.Turn ms, []) ∷ [])) (turned_to ms s)))
  stays : {x : Stage} {y : Event} {new : State} → is_turn y ≡ false → TurnOrNot g t s x y new

pub turn_or_not : (g : Settings) (t : Trace) (s : Plain) (x : Stage) (y : Event) (new : State) → PutKind g t s x y new → TurnOrNot
    g t s x y new
turn_or_not g t s x y new (PutKind.turned a b) = TurnOrNot.turns
turn_or_not g t s x y new (PutKind.polled) = TurnOrNot.stays refl
turn_or_not g t s x y new (PutKind.wanted a) = TurnOrNot.stays refl
turn_or_not g t s x y new (PutKind.poll_failed) = TurnOrNot.stays refl
turn_or_not g t s x y new (PutKind.readied a) = TurnOrNot.stays refl
turn_or_not g t s x y new (PutKind.opened) = TurnOrNot.stays refl
turn_or_not g t s x y new (PutKind.checked a) = TurnOrNot.stays refl
turn_or_not g t s x y new (PutKind.was_read left a b) = TurnOrNot.stays refl
turn_or_not g t s x y new (PutKind.written a b c) = TurnOrNot.stays refl
turn_or_not g t s x y new (PutKind.fired a) = TurnOrNot.stays refl
turn_or_not g t s x y new (PutKind.frees a same) = TurnOrNot.stays refl
turn_or_not g t s x y new (PutKind.asked same m l) = TurnOrNot.stays refl
turn_or_not g t s x y new (PutKind.recorded) = TurnOrNot.stays refl
turn_or_not g t s x y new (PutKind.closed {c = c} {e = z} a) = TurnOrNot.stays (closed-fails g (past g t) s c z
    (closed-kind g (past g t) s c z a) (record { link = 0; side = In })).1

-- the side of a link that was opened just now is not faulty
fresh-faultless : (x : Seen) → x ≡ fresh → is_faulty x ≡ true → ⊥
fresh-faultless x same h = let k : is_faulty x ≡ false = ap is_faulty same in cc

failed-faulty : (x : PlainSide) → x.failed ≡ true → is_faulty (seen x) ≡ true
failed-faulty x h = or_left (x.failed || x.expired) (is_some x.bad) (or_left x.failed x.expired h)

expired-faulty : (x : PlainSide) → x.expired ≡ true → is_faulty (seen x) ≡ true
expired-faulty x h = or_left (x.failed || x.expired) (is_some x.bad) (or_right x.failed x.expired h)

put-faults : (g : Settings) (t : Trace) (s : Plain) (x : Stage) (y : Event) (new : State) → Reaches g t (at x s) → Effect g x s y
    new.stage new.plain → Faults g t x s → PutKind g t s x y new → TurnOrNot g t s x y new →
    Faults g (t ++ y ∷ []) new.stage new.plain
put-faults g t s x y new r k h kind (TurnOrNot.turns {ms = ms}) = record {
  await = put-await g t s Between (entry.Turn ms, []) _ k h.await kind;
  failed = λ e lt live fails.
      let old = same e in
      absurd (h.await e (subst (λ n. e.link < n) keeps.opened lt) (sym (ap (λ z. z.live) old) ∙ live)
      (failed-faulty (side_at s e) (sym (ap (λ z. z.failed) old) ∙ fails)));
  expired = λ e lt live late.
      go e (subst (λ n. e.link < n) keeps.opened lt) (sym (ap (λ z. z.live) (same e)) ∙ live) (time-expired g p (turned_to ms s) e late);
}
  where
    p : Past
    p = past g (t ++ (entry.Turn ms, []) ∷ [])

    keeps : Keeps but_expired (turned_to ms s) (time_passed g p (turned_to ms s))
    keeps = time_passed-keeps g p (turned_to ms s)

    same : (e : SideId) → but_expired (side_at (time_passed g p (turned_to ms s)) e) ≡ but_expired (side_at s e)
    same e = Keeps-side but_expired (turned_to ms s) (time_passed g p (turned_to ms s)) e keeps

    go : (e : SideId) → e.link < s.opened → is_live s e ≡ true → ((side_at s e).expired ≡ true) ⊎ IsLate g p (turned_to ms s) e →
        TimedOut g (t ++ (entry.Turn ms, []) ∷ []) e
    go e lt live (inl old) = absurd (h.await e lt live (expired-faulty (side_at s e) old))
    go e lt live (inr late) = record {
      early = t;
      ms = ms;
      since = [];
      is = refl;
      same_turn = refl;
      before = s;
      reached = r;
      dir = late.dir;
      overdue = record { has_timeout = late.has_timeout; wanted = late.wanted; idle = late.idle };
    }
put-faults g t s x y new r k h kind (TurnOrNot.stays no_turn) = record {
  await = put-await g t s x y new k h.await kind;
  failed = λ e lt live fails. failed e lt live fails (cases_lt e.link s.opened);
  expired = λ e lt live late. expired e lt live late (cases_lt e.link s.opened);
}
  where
    failed : (e : SideId) → e.link < new.plain.opened → is_live new.plain e ≡ true → (side_at new.plain e).failed ≡ true →
        (e.link < s.opened) ⊎ (s.opened ≤ e.link) → InThisTurn (failed_by e) (t ++ y ∷ [])
    failed e lt live fails (inr ge) = absurd (fresh-faultless (seen (side_at new.plain e)) (k.came e ge lt)
        (failed-faulty (side_at new.plain e) fails))
    failed e lt live fails (inl old) = by (or_cases (side_at s e).failed (failed_by e y) (sym one.failed ∙ fails))
      where
        one : SideEffect e y new.stage (seen (side_at s e)) (seen (side_at new.plain e))
        one = k.each e old

        by : ((side_at s e).failed ≡ true) ⊎ (failed_by e y ≡ true) → InThisTurn (failed_by e) (t ++ y ∷ [])
        by (inl was) = turn-push (failed_by e) t y no_turn
            (h.failed e old (was-live e y new.stage (seen (side_at s e)) (seen (side_at new.plain e)) one live).0 was)
        by (inr now_failed) = turn-last (failed_by e) t y now_failed

    expired : (e : SideId) → e.link < new.plain.opened → is_live new.plain e ≡ true → (side_at new.plain e).expired ≡ true →
        (e.link < s.opened) ⊎ (s.opened ≤ e.link) → TimedOut g (t ++ y ∷ []) e
    expired e lt live late (inr ge) = absurd (fresh-faultless (seen (side_at new.plain e)) (k.came e ge lt)
        (expired-faulty (side_at new.plain e) late))
    expired e lt live late (inl old) =
        let one = k.each e old in
        timed-push g t e y no_turn (h.expired e old (was-live e y new.stage (seen (side_at s e)) (seen (side_at new.plain e)) one
        live).0 (sym (one.expired no_turn) ∙ late))

quiet-faults : (g : Settings) (t : Trace) (s : Plain) (x : Stage) (new : State) → Silent x s new.stage new.plain → Faults g t x s →
    QuietKind g t s x new → Faults g t new.stage new.plain
quiet-faults g t s x new k h kind = record {
  await = quiet-await g t s x new h.await kind;
  failed = λ e lt live fails.
      let same = Keeps-side but_bad s new.plain e k.keeps in
      h.failed e (subst (λ n. e.link < n) k.keeps.opened lt) (sym (ap (λ z. z.live) same) ∙ live) (sym (ap (λ z. z.failed) same) ∙ fails);
  expired = λ e lt live late.
      let same = Keeps-side but_bad s new.plain e k.keeps in
      h.expired e (subst (λ n. e.link < n) k.keeps.opened lt) (sym (ap (λ z. z.live) same) ∙ live) (sym (ap (λ z. z.expired) same) ∙ late);
}

pub faults : (g : Settings) (t : Trace) (s : State) → Reaches g t s → Faults g t s.stage s.plain
faults g t s (Reaches.begins) = record {
  await = λ e lt live faulty. absurd (omega arith);
  failed = λ e lt live h. absurd
      (omega arith);
  expired = λ e lt live h. absurd (omega arith);
}
faults g t new (Reaches.goes {t = u} {s = old} r h) =
    quiet-faults g u old.plain old.stage new (quiet-silent g u old.stage old.plain new h) (faults g u old r)
    (quiet-kind g u old.stage old.plain new h)
faults g t new (Reaches.puts {t = u} {s = old} e bytes r h) =
    let c = kept g u old r in
    let kind = put-kind g u old.stage old.plain e bytes new c.placed h in
    put-faults g u old.plain old.stage (e, bytes) new r (put-effect g u old.stage old.plain e bytes new c.counts.shape.sides
    c.placed h) (faults g u old r) kind
    (turn_or_not g u old.plain old.stage (e, bytes) new kind)
