-- The laws on what the state and the trace tell of each other, and on quiet behind a free.
use Rattle.std.proofs.Common.{◌≡◌, ℕ, ◌+◌, ◌<◌, ◌≤◌, Bool, true, false, ◌||◌, if◌then◌else◌, List, [], ◌∷◌, ◌++◌, ◌⊎◌, inl, inr, refl, sym}
use Rattle.std.proofs.Common.{◌∙◌, ap, subst, arith, append_assoc, count_by}
use Rattle.std.specs.List.{list_any, list_all}
use Rattle.std.proofs.lemmas.Bool.{and_parts, or_parts, or_from, not-true}
use Rattle.ev_types.specs.declared.side.Side.TheVariants.{In, Out}
use Rattle.ev_types.specs.declared.side.SideId.{SideId}
use Rattle.ev_types.specs.declared.act.Act.TheVariants as act
use Rattle.ev_types.specs.declared.answer.AskAnswer.TheVariants as ask
use Rattle.ev_types.specs.declared.entry.Entry.{Entry}
use Rattle.ev_types.specs.declared.entry.Entry.TheVariants as entry
use Rattle.ev_types.specs.Trace.{Event, Trace}
use Rattle.relay_model.specs.Settings.{Settings}
use Rattle.relay_model.specs.Plain.{Plain, side_at, is_live, freed}
use Rattle.relay_model.specs.Past.{Past, past}
use Rattle.relay_model.specs.Close.{CloseStep}
use Rattle.relay_model.specs.Stages.{Stage, State}
use Rattle.ev_types.specs.Times.{latest}
use Rattle.relay_model.specs.Turn.{Reaches}
use Rattle.relay_model.specs.Told.{freed_by, is_freed, end_closed_by, is_freeing, StateIsTold, TimeRises, LinksInOrder}
use Rattle.relay_model.proofs.EndLemmas.{same_end-eq, same_end-refl}
use Rattle.relay_model.proofs.PlacedLemmas.{Placed, may_read-parts, may_write-live, link_of}
use Rattle.relay_model.specs.Quiet.{starts_at, asked_by, is_within_fire, behind_fire, LegalIsQuiet}
use Rattle.std.proofs.lemmas.List.Sums.{sum_by-append}
use Rattle.std.proofs.lemmas.List.Folds.{list_any-append}
use Rattle.relay_model.proofs.SplitLemmas.{reaches_split, none_from_splits}
use Rattle.relay_model.proofs.HeldLemmas.{Held, held, DoneReady, FirstReady, live-unfreed}
use Rattle.relay_model.proofs.FireLemmas.{InRun, Runs, any-split}
use Rattle.relay_model.proofs.ToldLemmas.{Kept, kept, list_any-push}
use Rattle.relay_model.proofs.KindLemmas.{ClosedKind, closed-kind, PutKind, put-kind}
use Rattle.relay_model.proofs.EntryKinds.{is_ending, EndKind, end-kind, closes-ends, closed-ends, OpenKind, open-kind}

pub state_is_told : StateIsTold
state_is_told g t x s r = let k = kept g t (record { stage = x; plain = s }) r in (k.counts, k.each)

-- what is known where an entry stands in a legal trace
pub record There (g : Settings) (t : Trace) (y : Event) : Type 0 where
  pub old : State
  pub new : State
  pub reached : Reaches g t old
  pub kind : PutKind g t old.plain old.stage y new
  pub kept : Kept g t old.stage old.plain
  pub held : Held g t old.stage old.plain

pub there : (g : Settings) (t : Trace) (s : State) → Reaches g t s → (before : Trace) (y : Event) (after : Trace) → t ≡ before ++ y
    ∷ after → There g before y
there g t s r before y after h =
    let p = reaches_split g t s r before y after h in
    let k = kept g before p.old p.reached in
    record {
      old = p.old;
      new = p.new;
      reached = p.reached;
      kind = put-kind g before p.old.stage p.old.plain y.0 y.1 p.new k.placed
          p.put;
      kept = k;
      held = held g before p.old p.reached;
    }

-- Turns and links

turn-put : (g : Settings) (t : Trace) (s : Plain) (x : Stage) (y : Event) (new : State) (ms : ℕ) → PutKind g t s x y new → y.0 ≡
    entry.Turn ms → (s.time ≤ ms) × (ms ≤ latest)
turn-put g t s x y new ms (PutKind.turned {ms = now} a b) h = let same : now ≡ ms = cc in (
  subst (λ n. s.time ≤ n) same a,
  subst
      (λ n. n ≤ latest) same b,
)
turn-put g t s x y new ms (PutKind.polled) h = absurd (cc)
turn-put g t s x y new ms (PutKind.wanted a) h = absurd (cc)
turn-put g t s x y new ms (PutKind.poll_failed) h = absurd (cc)
turn-put g t s x y new ms (PutKind.readied a) h = absurd (cc)
turn-put g t s x y new ms (PutKind.opened) h = absurd (cc)
turn-put g t s x y new ms (PutKind.checked a) h = absurd (cc)
turn-put g t s x y new ms (PutKind.was_read left a b) h = absurd (cc)
turn-put g t s x y new ms (PutKind.written a b c) h = absurd (cc)
turn-put g t s x y new ms (PutKind.fired a) h = absurd (cc)
turn-put g t s x y new ms (PutKind.frees a same) h = absurd (cc)
turn-put g t s x y new ms (PutKind.asked same k l) h = absurd (cc)
turn-put g t s x y new ms (PutKind.recorded) h = absurd (cc)
turn-put g t s x y new ms (PutKind.closed {c = c} {e = e} a) h = absurd (closed-ends g (past g t) s c e a (ap is_ending h))

pub time_rises : TimeRises
time_rises g t before after s x ms bytes r h =
    let k = there g t (record { stage = x; plain = s }) r before (entry.Turn ms, bytes) after h in
    let p = turn-put g before k.old.plain k.old.stage _ k.new ms k.kind refl in
    (subst (λ n. n ≤ ms) k.kept.counts.shape.time p.0, p.1)

link-put : (g : Settings) (s : Plain) (y : Event) (new : State) (link : ℕ) (connected : Bool) → OpenKind g s y new →
    y.0 ≡ entry.Opened link connected → link ≡ s.opened
link-put g s y new link connected (OpenKind.opens n {connected = c}) h = cc

pub links_in_order : LinksInOrder
links_in_order g t before after s x link connected bytes r h =
    let k = there g t (record { stage = x; plain = s }) r before (entry.Opened link connected, bytes) after h in
    link-put g k.old.plain _ k.new link connected (open-kind g before k.old.plain k.old.stage _ k.new k.kind refl) refl
    ∙ k.kept.counts.shape.opened

-- Quiet

-- what is begun at a side is begun while it lives, or it is its free
closed-starts : (g : Settings) (p : Past) (s : Plain) (c : CloseStep) (e : Entry) (z : SideId) (bytes : List ℕ) → FirstReady c s →
    ClosedKind g p s c e → starts_at z (e, bytes) ≡ true → is_live s z ≡ true
closed-starts g p s c e z bytes ready (ClosedKind.faulty {z = v} a b) h = ap (λ w. is_live s w) (sym (same_end-eq v z h)) ∙ a
closed-starts g p s c e z bytes ready (ClosedKind.write_ended {z = v} a b) h = ap (λ w. is_live s w) (sym (same_end-eq v z h)) ∙ a
closed-starts g p s c e z bytes ready (ClosedKind.in_done {k = k} a b d f) h = ap (λ w. is_live s w)
    (sym (same_end-eq (record { link = k; side = In }) z h)) ∙ a
closed-starts g p s c e z bytes ready (ClosedKind.out_done {k = k}) h = ap (λ w. is_live s w)
    (sym (same_end-eq (record { link = k; side = Out }) z h)) ∙ ready.live
closed-starts g p s c e z bytes ready (ClosedKind.peer_gone {z = v} a b d) h = ap (λ w. is_live s w) (sym (same_end-eq v z h)) ∙ a
closed-starts g p s c e z bytes ready (ClosedKind.shut a b) h = absurd (cc)

put-starts : (g : Settings) (t : Trace) (s : Plain) (x : Stage) (y : Event) (new : State) (z : SideId) → DoneReady x s → PutKind g
    t s x y new → starts_at z y ≡ true → (is_live s z ≡ true) ⊎ (is_freeing x z ≡ true)
put-starts g t s x y new z ready (PutKind.turned a b) h = absurd (cc)
put-starts g t s x y new z ready (PutKind.polled) h = absurd (cc)
put-starts g t s x y new z ready (PutKind.wanted {side = v} a) h = inl (ap (λ w. is_live s w) (sym (same_end-eq v z h)) ∙ a)
put-starts g t s x y new z ready (PutKind.poll_failed) h = absurd (cc)
put-starts g t s x y new z ready (PutKind.readied {side = v} a) h = inl (ap (λ w. is_live s w) (sym (same_end-eq v z h)) ∙ a)
put-starts g t s x y new z ready (PutKind.opened) h = absurd (cc)
put-starts g t s x y new z ready (PutKind.checked {side = v} a) h = inl (ap (λ w. is_live s w) (sym (same_end-eq v z h)) ∙ a)
put-starts g t s x y new z ready (PutKind.was_read {side = v} left a b) h = inl (ap (λ w. is_live s w) (sym (same_end-eq v z h)) ∙
    (may_read-parts s v a).live)
put-starts g t s x y new z ready (PutKind.written {side = v} a b c) h = inl (ap (λ w. is_live s w) (sym (same_end-eq v z h)) ∙
    may_write-live s v a)
put-starts g t s x y new z ready (PutKind.fired {side = v} a) h = inl (ap (λ w. is_live s w) (sym (same_end-eq v z h)) ∙ a)
put-starts g t s x y new z ready (PutKind.frees a same) h = absurd (cc)
put-starts g t s x y new z ready (PutKind.asked same k l) h = absurd (cc)
put-starts g t s x y new z ready (PutKind.recorded {gone = v}) h = inr h
put-starts g t s x y new z ready (PutKind.closed {c = c} {e = e} a) h = inl (closed-starts g (past g t) s c e z [] ready.0
    (closed-kind g (past g t) s c e a) h)

-- behind its free nothing is begun at a side
starts-late : (g : Settings) (t : Trace) (y : Event) (z : SideId) → There g t y → is_freed z t ≡ true → starts_at z y ≡ false
starts-late g t y z k freed = go (starts_at z y) refl
  where
    no : (is_live k.old.plain z ≡ true) ⊎ (is_freeing k.old.stage z ≡ true) → ⊥
    no (inl live) = let unfreed = live-unfreed g t k.old.stage k.old.plain k.kept z live in cc
    no (inr freeing) =
        let hook = k.held.hook z freeing in
        let before : is_freed z t ≡ (is_freed z hook.early || false) = ap (λ v. is_freed z v) hook.is ∙ list_any-push (freed_by z)
        hook.early (entry.Asked hook.me (act.Free z) ask.Ok, []) in
        let was = or_from (is_freed z hook.early) false hook.was_live refl in
        cc

    go : (q : Bool) → starts_at z y ≡ q → starts_at z y ≡ false
    go false h = h
    go true h = absurd (no (put-starts g t k.old.plain k.old.stage y k.new z k.held.ready k.kind h))

-- an end is closed that was not closed before
close-put : (g : Settings) (t : Trace) (s : Plain) (x : Stage) (y : Event) (new : State) (z : SideId) → Placed x s → EndKind g t s
    x y new → end_closed_by z y ≡ true → (z.link < s.opened) × ((side_at s z).closed ≡ false)
close-put g t s x y new z placed (EndKind.recorded) h = absurd (cc)
close-put g t s x y new z placed (EndKind.closed {c = c} {e = e} a) h = closed-close g (past g t) s c e z placed.0
    (closed-kind g (past g t) s c e a) h
  where
    closed-close : (g : Settings) (p : Past) (s : Plain) (c : CloseStep) (e : Entry) (z : SideId) → link_of c < s.opened →
        ClosedKind g p s c e → end_closed_by z (e, []) ≡ true → (z.link < s.opened) × ((side_at s z).closed ≡ false)
    closed-close g p s c e z lt (ClosedKind.faulty a b) h = absurd (cc)
    closed-close g p s c e z lt (ClosedKind.write_ended a b) h = absurd (cc)
    closed-close g p s c e z lt (ClosedKind.in_done a b d f) h = absurd (cc)
    closed-close g p s c e z lt (ClosedKind.out_done) h = absurd (cc)
    closed-close g p s c e z lt (ClosedKind.peer_gone a b d) h = absurd (cc)
    closed-close g p s c e z lt (ClosedKind.shut {z = v} a b) h =
        let same = same_end-eq v z h in
        (subst (λ w. w.link < s.opened) same lt, ap (λ w. (side_at s w).closed) (sym same) ∙ not-true (side_at s v).closed b)

close-once : (g : Settings) (t : Trace) (y : Event) (z : SideId) → There g t y → end_closed_by z y ≡ true → list_any
    (end_closed_by z) t ≡ false
close-once g t y z k h =
    let c = close-put g t k.old.plain k.old.stage y k.new z k.kept.placed
    (end-kind g t k.old.plain k.old.stage y k.new k.kind (closes-ends z y h)) h in
    sym (k.kept.each z c.0).closed ∙ c.1

-- a count with one event before
count-cons : (p : Event → Bool) (x : Event) (t : Trace) (b : Bool) → p x ≡ b → count_by p (x ∷ t) ≡ (if b then 1 else 0) + count_by p t
count-cons p x t b h = first ∙ ap (λ q. (if q then 1 else 0) + count_by p t) h
  where
    first : count_by p (x ∷ t) ≡ (if p x then 1 else 0) + count_by p t
    first = let c = sum_by-append (λ z. if p z then 1 else 0) (x ∷ []) t in omega arith

count-none : (p : Event → Bool) (t : Trace) → list_any p t ≡ false → count_by p t ≡ 0
count-none p [] h = refl
count-none p (y ∷ t) h =
    let parts = or_parts (p y) (list_any p t) h in
    let c = count-cons p y t false parts.0 in let z = count-none p t parts.1 in omega arith

-- what passes a test where nothing before it did stands once at most
at_most_one : (p : Event → Bool) (t : Trace) → ((before : Trace) (y : Event) (after : Trace) → t ≡ before ++ y ∷ after → p y ≡ true
    → list_any p before ≡ false) → count_by p t ≤ 1
at_most_one p [] h = omega arith
at_most_one p (x ∷ t) h = go (p x) refl (at_most_one p t
    (λ before y after k q. (or_parts (p x) (list_any p before) (h (x ∷ before) y after (ap (λ v. x ∷ v) k) q)).1))
  where
    none : p x ≡ true → (before : Trace) (y : Event) (after : Trace) → t ≡ before ++ y ∷ after → (q : Bool) → p y ≡ q → p y ≡ false
    none px before y after k false e = e
    none px before y after k true e = absurd (let parts = or_parts (p x) (list_any p before)
        (h (x ∷ before) y after (ap (λ v. x ∷ v) k) e) in let no = parts.0 in cc)

    go : (q : Bool) → p x ≡ q → count_by p t ≤ 1 → count_by p (x ∷ t) ≤ 1
    go false e le = let c : count_by p (x ∷ t) ≡ 0 + count_by p t = count-cons p x t false e in omega arith
    go true e le =
        let c : count_by p (x ∷ t) ≡ 1 + count_by p t = count-cons p x t true e in
        let z : count_by p t ≡ 0 = count-none p t (none_from_splits p t (λ before y after k. none e before y after k (p y) refl)) in
        omega arith

-- what the hook of a side asks is asked while its fire runs
ask-put : (g : Settings) (t : Trace) (s : Plain) (x : Stage) (y : Event) (new : State) (z : SideId) → Runs x t → PutKind g t s x y
    new → asked_by z y ≡ true → InRun z t
ask-put g t s x y new z runs (PutKind.turned a b) h = absurd (cc)
ask-put g t s x y new z runs (PutKind.polled) h = absurd (cc)
ask-put g t s x y new z runs (PutKind.wanted a) h = absurd (cc)
ask-put g t s x y new z runs (PutKind.poll_failed) h = absurd (cc)
ask-put g t s x y new z runs (PutKind.readied a) h = absurd (cc)
ask-put g t s x y new z runs (PutKind.opened) h = absurd (cc)
ask-put g t s x y new z runs (PutKind.checked a) h = absurd (cc)
ask-put g t s x y new z runs (PutKind.was_read left a b) h = absurd (cc)
ask-put g t s x y new z runs (PutKind.written a b c) h = absurd (cc)
ask-put g t s x y new z runs (PutKind.fired a) h = absurd (cc)
ask-put g t s x y new z runs (PutKind.frees {x = f} a same) h = subst (λ v. InRun v t) (same_end-eq f.side z h) runs
ask-put g t s x y new z runs (PutKind.asked {x = f} same k l) h = subst (λ v. InRun v t) (same_end-eq f.side z h) runs
ask-put g t s x y new z runs (PutKind.recorded) h = absurd (cc)
ask-put g t s x y new z runs (PutKind.closed {c = c} {e = e} a) h = absurd (closed-ends g (past g t) s c e a (other (e, []) h))
  where
    other : (y : Event) → asked_by z y ≡ true → is_ending y.0 ≡ false
    other (entry.Asked side act answer, bytes) h = refl
    other _ h = absurd (cc)

-- where each event that passes stands in the leading run, none passes behind it
behind-run : (p : Event → Bool) → ((y : Event) → p y ≡ true → is_within_fire y ≡ true) → (t : Trace) →
    ((before : Trace) (y : Event) (after : Trace) → t ≡ before ++ y ∷ after → p y ≡ true → list_all is_within_fire before ≡ true) →
    list_any p (behind_fire t) ≡ false
behind-run p within [] h = refl
behind-run p within (x ∷ t) h =
    go (is_within_fire x) refl (behind-run p within t
    (λ before y after k q. (and_parts (is_within_fire x) (list_all is_within_fire before)
    (h (x ∷ before) y after (ap (λ v. x ∷ v) k) q)).1))
  where
    outside : is_within_fire x ≡ false → (before : Trace) (y : Event) (after : Trace) → x ∷ t ≡ before ++ y ∷ after → p y ≡ true → ⊥
    outside late [] y after k q = let w = within y q in let same : x ≡ y = cc in let v : is_within_fire x ≡ is_within_fire y = ap
        is_within_fire same in cc
    outside late (b ∷ bs) y after k q =
        let w = (and_parts (is_within_fire b) (list_all is_within_fire bs) (h (b ∷ bs) y after k q)).0 in
        let same : x ≡ b = cc in let v : is_within_fire x ≡ is_within_fire b = ap is_within_fire same in cc

    fails : is_within_fire x ≡ false → (before : Trace) (y : Event) (after : Trace) → x ∷ t ≡ before ++ y ∷ after → (q : Bool) → p
        y ≡ q → p y ≡ false
    fails late before y after k false e = e
    fails late before y after k true e = absurd (outside late before y after k e)

    go : (q : Bool) → is_within_fire x ≡ q → list_any p (behind_fire t) ≡ false → list_any p (if q then behind_fire t else x ∷ t) ≡ false
    go true e k = k
    go false e k = none_from_splits p (x ∷ t) (λ before y after s. fails e before y after s (p y) refl)

ask-within : (z : SideId) (y : Event) → asked_by z y ≡ true → is_within_fire y ≡ true
ask-within z (entry.Asked side a answer, bytes) h = refl
ask-within z _ h = absurd (cc)

pub legal_is_quiet : LegalIsQuiet
legal_is_quiet g t legal before after e why moved given bytes split = record {
  starts = none_from_splits (starts_at e) after (λ mid y rest k. starts-late g (behind mid) y e (at_mid mid y rest k)
      (any-split (freed_by e) before freed mid (same_end-refl e)));
  closes = at_most_one (end_closed_by e) after (λ mid y rest k q. last_part (end_closed_by e) mid
      (close-once g (behind mid) y e (at_mid mid y rest k) q));
  asks = behind-run (asked_by e) (ask-within e) after (λ mid y rest k q. let v = at_mid mid y rest k in
      ask-put g (behind mid) v.old.plain v.old.stage y v.new e v.held.runs v.kind q before freed mid (same_end-refl e) refl);
}
  where
    freed : Event
    freed = (entry.Freed e why moved given, bytes)

    behind : Trace → Trace
    behind mid = before ++ freed ∷ mid

    at_mid : (mid : Trace) (y : Event) (rest : Trace) → after ≡ mid ++ y ∷ rest → There g (behind mid) y
    at_mid mid y rest k = there g t legal.0 legal.1 (behind mid) y rest (split ∙ ap (λ v. before ++ freed ∷ v) k ∙ sym
        (append_assoc before (freed ∷ mid) (y ∷ rest)))

    last_part : (p : Event → Bool) (mid : Trace) → list_any p (before ++ freed ∷ mid) ≡ false → list_any p mid ≡ false
    last_part p mid h = (or_parts (p freed) (list_any p mid) (or_parts (list_any p before) (list_any p (freed ∷ mid))
        (sym (list_any-append p before (freed ∷ mid)) ∙ h)).1).1
