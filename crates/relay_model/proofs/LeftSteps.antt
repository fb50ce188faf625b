-- What a step of closing leaves of what is still to be looked at, by induction over the steps.
use Rattle.relay_model.proofs.TraceLemmas.{bytes_read-push}
use Rattle.std.proofs.Common.{◌≡◌, ℕ, zero, suc, ◌<◌, ◌≤◌, Bool, true, false, ◌&&◌, ◌||◌, not, ◌==◌, List, [], ◌∷◌, ◌++◌, length, None, ◌⊎◌}
use Rattle.std.proofs.Common.{inl, inr, refl, sym, ◌∙◌, ap, subst, arith}
use Rattle.std.specs.List.{list_any}
use Rattle.std.proofs.lemmas.Bool.{and_from, or_parts, or_from, or_right, eqb-true, not-true, or_cases}
use Rattle.std.proofs.lemmas.List.{append-nil}
use Rattle.ev_types.specs.declared.side.SideId.{SideId}
use Rattle.ev_types.specs.declared.entry.Entry.{Entry}
use Rattle.ev_types.specs.Sides.{same_end, peer}
use Rattle.ev_types.specs.Trace.{Event, Trace}
use Rattle.relay_model.specs.Settings.{Settings}
use Rattle.relay_model.specs.Trace.{read_by, bytes_read, ended_by, write_closed_by}
use Rattle.relay_model.specs.Plain.{flow_at, Plain, side_at, is_live, freed}
use Rattle.relay_model.specs.Past.{Past, past}
use Rattle.relay_model.specs.Rooms.{raw_input_at, input_at, output_at, raw_output_at, output_length}
use Rattle.relay_model.specs.Close.{CloseStep, closed_by, steps_left, is_complete}
use Rattle.relay_model.specs.Stages.{Stage, State, at, Between, Closing}
use Rattle.relay_model.specs.Turn.{after_reading, Reaches}
use Rattle.relay_model.specs.Told.{freed_by, end_closed_by, is_freeing}
use Rattle.relay_model.proofs.EndLemmas.{peer-peer, same_end-eq, same_end-refl}
use Rattle.relay_model.proofs.KeepsLemmas.{Keeps, Keeps-side, Keeps-put}
use Rattle.relay_model.proofs.SeenLemmas.{Seen, seen}
use Rattle.relay_model.proofs.EffectLemmas.{SideEffect, Effect, or_no}
use Rattle.relay_model.proofs.FireLemmas.{quiet-kind, reading-open}
use Rattle.relay_model.proofs.ToldLemmas.{kept}
use Rattle.relay_model.proofs.StageLemmas.{closed-opened}
use Rattle.relay_model.specs.Causes.{NothingIsLeft}
use Rattle.relay_model.proofs.HeldLemmas.{held, FirstReady, DoneReady}
use Rattle.relay_model.proofs.StepLemmas.{put-effect}
use Rattle.relay_model.proofs.FaultLemmas.{rest, was-live}
use Rattle.relay_model.proofs.KindLemmas.{ClosedKind, closed-kind, PutKind, put-kind}
use Rattle.relay_model.proofs.BadLemmas.{closed-flows}
use Rattle.relay_model.proofs.LeftLemmas.{Needs, Followed, Left, Lefts, open-left, quiet-left, in-or-out, in_of, out_of, shuts, leaves}
use Rattle.relay_model.proofs.LeftLemmas.{ends, joins, Has}

-- What a step of closing leaves

-- a free leaves whether sides are connecting
freed-connecting : (e : SideId) (s : Plain) → Keeps (λ x. x.connecting) s (freed e s)
freed-connecting e s = record {
  time = refl;
  turn = refl;
  opened = refl;
  flows = refl;
  sides = (Keeps-put (λ x. x.connecting) e (record (side_at s e) { live = false; group = None }) s refl).sides;
}

closed-connecting : (c : CloseStep) (s : Plain) → Keeps (λ x. x.connecting) s (closed_by c s)
closed-connecting (CloseStep.Faulty e) s = freed-connecting e s
closed-connecting (CloseStep.EndWriting e) s = Keeps-put (λ x. x.connecting) e _ s refl
closed-connecting (CloseStep.BothDone k) s = freed-connecting (in_of k) s
closed-connecting (CloseStep.OutDone k) s = freed-connecting (out_of k) s
closed-connecting (CloseStep.PeerGone e) s = freed-connecting e s
closed-connecting (CloseStep.Shut e) s = Keeps-put (λ x. x.connecting) e _ s refl

-- the bytes that an end was read stay
reads-same : (g : Settings) (t : Trace) (y : Event) → ((e : SideId) → read_by e y ≡ []) → (past g (t ++ y ∷ [])).read ≡ (past g t).read
reads-same g t y none = λ i e. (bytes_read-push e t y ∙ ap (λ z. bytes_read e t ++ z) (none e) ∙ append-nil (bytes_read e t)) i

output-same : (g : Settings) (p q : Past) (s new : Plain) (e : SideId) → q.read ≡ p.read → new.flows ≡ s.flows → output_length g q
    new e ≡ output_length g p s e
output-same g p q s new e reads flows =
    ap (λ r. output_length g (record q { read = r }) new e) reads ∙ ap (λ f. output_length g p (record s { flows = f }) e) flows

complete-same : (g : Settings) (p q : Past) (s new : Plain) (e : SideId) → q.read ≡ p.read → new.flows ≡ s.flows →
    (side_at new e).ended ≡ (side_at s e).ended → is_complete g q new e ≡ is_complete g p s e
complete-same g p q s new e reads flows ended =
    ap (λ r. is_complete g (record q { read = r }) new e) reads
    ∙ ap (λ f. is_complete g p (record new { flows = f }) e) flows
    ∙ ap (λ b. b && (flow_at s e).write_done && length (raw_input_at p s e) == 0 && length (input_at g p s e) == 0
    && length (output_at g p s (peer e)) == 0 && length (raw_output_at g p s (peer e)) == 0) ended

-- what each step does, as the events tell it
record StepTells (c : CloseStep) (y : Event) (s : Plain) (cs : List CloseStep) : Type 0 where
  frees : (e : SideId) → freed_by e y ≡ true → Has (shuts e) cs × (is_live s (peer e) ≡ true → Has (leaves (peer e)) cs)
  writes : (e : SideId) → write_closed_by e y ≡ true → Has (joins e.link) cs
  reads : (e : SideId) → read_by e y ≡ []
  ends_no : (e : SideId) → ended_by e y ≡ false
  is_shut : (e : SideId) → shuts e c ≡ true → end_closed_by e y ≡ true
  is_gone : (e : SideId) → leaves e c ≡ true → freed_by e y ≡ true
  is_done : (k : ℕ) → joins k c ≡ true → freed_by (in_of k) y ≡ true
  is_end : (e : SideId) → ends e c ≡ true → write_closed_by e y ≡ true

step-tells : (g : Settings) (p : Past) (s : Plain) (c : CloseStep) (cs : List CloseStep) (y : Entry) → Needs c cs → FirstReady c s
    → ClosedKind g p s c y → StepTells c (y, []) s cs
step-tells g p s c cs y needs ready (ClosedKind.faulty {z = z} a b) = record {
  frees = λ e h. let same = same_end-eq z e h in (
    subst (λ v. Has (shuts v) cs) same needs.0,
    λ live. subst
        (λ v. Has (leaves (peer v)) cs) same needs.1,
  );
  writes = λ e h. absurd (cc);
  reads = λ e. refl;
  ends_no = λ e. refl;
  is_shut = λ e h. absurd (cc);
  is_gone = λ e h. absurd (cc);
  is_done = λ k h. absurd (cc);
  is_end = λ e h. absurd (cc);
}
step-tells g p s c cs y needs ready (ClosedKind.write_ended {z = z} a b) = record {
  frees = λ e h. absurd (cc);
  writes = λ e h. subst (λ v. Has (joins v.link) cs) (same_end-eq z e h) needs;
  reads = λ e. refl;
  ends_no = λ e. refl;
  is_shut = λ e h. absurd (cc);
  is_gone = λ e h. absurd (cc);
  is_done = λ k h. absurd (cc);
  is_end = λ e h. h;
}
step-tells g p s c cs y needs ready (ClosedKind.in_done {k = k} a b d f) = record {
  frees = λ e h. let same = same_end-eq (in_of k) e h in (
    subst (λ v. Has (shuts v) cs) same needs.0,
    λ live. subst
        (λ v. Has (leaves (peer v)) cs) same needs.1,
  );
  writes = λ e h. absurd (cc);
  reads = λ e. refl;
  ends_no = λ e. refl;
  is_shut = λ e h. absurd (cc);
  is_gone = λ e h. absurd (cc);
  is_done = λ n h. ap (λ v. same_end (in_of k) (in_of v)) (sym (eqb-true k n h)) ∙ same_end-refl (in_of k);
  is_end = λ e h. absurd (cc);
}
step-tells g p s c cs y needs ready (ClosedKind.out_done {k = k}) = record {
  frees = λ e h. let same = same_end-eq (out_of k) e h in (
    subst (λ v. Has (shuts v) cs) same needs,
    λ live. absurd (let dead : is_live s (peer e) ≡ false = ap
        (λ v. is_live s (peer v)) (sym same) ∙ ready.gone in cc),
  );
  writes = λ e h. absurd (cc);
  reads = λ e. refl;
  ends_no = λ e. refl;
  is_shut = λ e h. absurd (cc);
  is_gone = λ e h. absurd (cc);
  is_done = λ n h. absurd (cc);
  is_end = λ e h. absurd (cc);
}
step-tells g p s c cs y needs ready (ClosedKind.peer_gone {z = z} a b d) = record {
  frees = λ e h. let same = same_end-eq z e h in (
    subst (λ v. Has (shuts v) cs) same needs,
    λ live. absurd (let dead : is_live s (peer e) ≡ false = ap
        (λ v. is_live s (peer v)) (sym same) ∙ not-true (is_live s (peer z)) b in cc),
  );
  writes = λ e h. absurd (cc);
  reads = λ e. refl;
  ends_no = λ e. refl;
  is_shut = λ e h. absurd (cc);
  is_gone = λ e h. h;
  is_done = λ n h. absurd (cc);
  is_end = λ e h. absurd (cc);
}
step-tells g p s c cs y needs ready (ClosedKind.shut {z = z} a b) = record {
  frees = λ e h. absurd (cc);
  writes = λ e h. absurd (cc);
  reads = λ e. refl;
  ends_no = λ e. refl;
  is_shut = λ e h. h;
  is_gone = λ e h. absurd (cc);
  is_done = λ n h. absurd (cc);
  is_end = λ e h. absurd (cc);
}

steps-keep : (q : CloseStep → Bool) → ((k : ℕ) → q (CloseStep.OutDone k) ≡ false) → (c : CloseStep) (cs : List CloseStep) → Has q
    cs → Has q (steps_left c cs)
steps-keep q none (CloseStep.Faulty e) cs h = h
steps-keep q none (CloseStep.EndWriting e) cs h = h
steps-keep q none (CloseStep.BothDone k) cs h = or_right (q (CloseStep.OutDone k)) (list_any q cs) h
steps-keep q none (CloseStep.OutDone k) cs h = h
steps-keep q none (CloseStep.PeerGone e) cs h = h
steps-keep q none (CloseStep.Shut e) cs h = h

-- a test that would tell what didn't happen fails
unless : (a b : Bool) → (a ≡ true → b ≡ true) → b ≡ false → a ≡ false
unless true b f h = absurd (let k = f refl in cc)
unless false b f h = refl

-- a side that was freed by the event, where it lived before and doesn't now
freed-now : (e : SideId) (y : Event) (after : Stage) (old new : Seen) → SideEffect e y after old new → is_freeing after e ≡ false →
    old.live ≡ true → new.live ≡ false → freed_by e y ≡ true
freed-now e y after old new k still was now_dead = go (freed_by e y) refl
  where
    go : (q : Bool) → freed_by e y ≡ q → freed_by e y ≡ true
    go true q = q
    go false q = absurd (let v : new.live ≡ true = k.live ∙ and_from old.live (not (freed_by e y || is_freeing after e)) was
        (ap not (or_from (freed_by e y) (is_freeing after e) q still)) in cc)

closed-left : (g : Settings) (t : Trace) (s : Plain) (c : CloseStep) (cs : List CloseStep) (y : Event) (e : SideId) →
    SideEffect e y (Closing (steps_left c cs)) (seen (side_at s e)) (seen (side_at (closed_by c s) e)) →
    SideEffect (peer e) y (Closing (steps_left c cs)) (seen (side_at s (peer e))) (seen (side_at (closed_by c s) (peer e))) →
    StepTells c y s cs → Left g t (c ∷ cs) s e → Left g (t ++ y ∷ []) (steps_left c cs) (closed_by c s) e
closed-left g t s c cs y e a b tells h = record {
  shut = λ dead unclosed.
      let parts = or_parts (side_at s e).closed (end_closed_by e y) (sym a.closed ∙ unclosed) in
      steps-keep (shuts e) (λ k. refl) c cs (shut dead parts.0 parts.1 (is_live s e) refl);
  gone = λ live dead none.
      let was = was-live e y after old new a live in
      let empty = sym (output-same g (past g t) (past g (t ++ y ∷ [])) s (closed_by c s) e reads (closed-flows c s)) ∙ none in
      steps-keep (leaves e) (λ k. refl) c cs (gone was.0 was.1 dead empty (is_live s (peer e)) refl);
  done = λ live peer_live we peer_we.
      let was = was-live e y after old new a live in
      let peer_was = was-live (peer e) y after peer_old peer_new b peer_live in
      steps-keep (joins e.link) (λ k. refl) c cs
      (done was.0 was.1 peer_was.0 peer_was.1 (or_cases (side_at s e).write_ended (write_closed_by e y) (sym a.write_ended ∙ we))
      (or_cases (side_at s (peer e)).write_ended (write_closed_by (peer e) y) (sym b.write_ended ∙ peer_we)));
  writing = λ live peer_live complete connected we.
      let was = was-live e y after old new a live in
      let peer_was = was-live (peer e) y after peer_old peer_new b peer_live in
      let parts = or_parts (side_at s e).write_ended (write_closed_by e y) (sym a.write_ended ∙ we) in
      let ended = b.ended ∙ sym (or_no (side_at s (peer e)).ended (ended_by (peer e) y) (tells.ends_no (peer e))) in
      let whole = sym (complete-same g (past g t) (past g (t ++ y ∷ [])) s (closed_by c s) (peer e) reads (closed-flows c s) ended)
      ∙ complete in
      let linked = sym (Keeps-side (λ x. x.connecting) s (closed_by c s) e (closed-connecting c s)) ∙ connected in
      steps-keep (ends e) (λ k. refl) c cs
      (rest (ends e c) _ (unless (ends e c) (write_closed_by e y) (tells.is_end e) parts.1)
      (h.writing was.0 peer_was.0 whole linked parts.0));
}
  where
    after : Stage
    after = Closing (steps_left c cs)

    old : Seen
    old = seen (side_at s e)

    new : Seen
    new = seen (side_at (closed_by c s) e)

    peer_old : Seen
    peer_old = seen (side_at s (peer e))

    peer_new : Seen
    peer_new = seen (side_at (closed_by c s) (peer e))

    reads : (past g (t ++ y ∷ [])).read ≡ (past g t).read
    reads = reads-same g t y tells.reads

    shut : is_live (closed_by c s) e ≡ false → (side_at s e).closed ≡ false → end_closed_by e y ≡ false → (q : Bool) → is_live s e
        ≡ q → Has (shuts e) cs
    shut dead unclosed no_close false q = rest (shuts e c) _ (unless (shuts e c) (end_closed_by e y) (tells.is_shut e) no_close)
        (h.shut q unclosed)
    shut dead unclosed no_close true q = (tells.frees e (freed-now e y after old new a refl q dead)).0

    gone : is_live s e ≡ true → freed_by e y ≡ false → is_live (closed_by c s) (peer e) ≡ false → output_length g (past g t) s e ≡
        0 → (q : Bool) → is_live s (peer e) ≡ q → Has (leaves e) cs
    gone live unfreed dead none false q = rest (leaves e c) _ (unless (leaves e c) (freed_by e y) (tells.is_gone e) unfreed)
        (h.gone live q none)
    gone live unfreed dead none true q =
        subst (λ v. Has (leaves v) cs) (peer-peer e)
        ((tells.frees (peer e) (freed-now (peer e) y after peer_old peer_new b refl q dead)).1 (ap (λ v. is_live s v) (peer-peer e) ∙ live))

    no_join : freed_by e y ≡ false → freed_by (peer e) y ≡ false → (e ≡ in_of e.link) ⊎ (e ≡ out_of e.link) → freed_by
        (in_of e.link) y ≡ false
    no_join m n (inl same) = ap (λ v. freed_by v y) (sym same) ∙ m
    no_join m n (inr same) = ap (λ v. freed_by v y) (sym (ap peer same)) ∙ n

    done : is_live s e ≡ true → freed_by e y ≡ false → is_live s (peer e) ≡ true → freed_by (peer e) y ≡ false →
        ((side_at s e).write_ended ≡ true) ⊎ (write_closed_by e y ≡ true) → ((side_at s (peer e)).write_ended ≡ true) ⊎
        (write_closed_by (peer e) y ≡ true) → Has (joins e.link) cs
    done live m peer_live n (inl we) (inl peer_we) =
        rest (joins e.link c) _ (unless (joins e.link c) (freed_by (in_of e.link) y) (tells.is_done e.link)
        (no_join m n (in-or-out e))) (h.done live peer_live we peer_we)
    done live m peer_live n (inr now_closed) o = tells.writes e now_closed
    done live m peer_live n (inl we) (inr now_closed) = tells.writes (peer e) now_closed

followed-left : (c : CloseStep) (cs : List CloseStep) → Followed (c ∷ cs) → Followed (steps_left c cs)
followed-left (CloseStep.Faulty e) cs h = h.1
followed-left (CloseStep.EndWriting e) cs h = h.1
followed-left (CloseStep.BothDone k) cs h = (h.0.2, h.1)
followed-left (CloseStep.OutDone k) cs h = h.1
followed-left (CloseStep.PeerGone e) cs h = h.1
followed-left (CloseStep.Shut e) cs h = h.1

put-left : (g : Settings) (t : Trace) (s : Plain) (x : Stage) (y : Event) (new : State) → DoneReady x s → Effect g x s y new.stage
    new.plain → Lefts g t x s → PutKind g t s x y new → Lefts g (t ++ y ∷ []) new.stage new.plain
put-left g t s x y new ready k h (PutKind.turned a b) = tt
put-left g t s x y new ready k h (PutKind.polled) = tt
put-left g t s x y new ready k h (PutKind.wanted a) = tt
put-left g t s x y new ready k h (PutKind.poll_failed) = tt
put-left g t s x y new ready k h (PutKind.readied a) = tt
put-left g t s x y new ready k h (PutKind.opened) = tt
put-left g t s x y new ready k h (PutKind.checked a) = tt
put-left g t s x y new ready k h (PutKind.was_read {side = side} {answer = answer} left a b) = open-left g _
    (after_reading side answer left) _ (reading-open side answer left)
put-left g t s x y new ready k h (PutKind.written a b c) = tt
put-left g t s x y new ready k h (PutKind.fired a) = tt
put-left g t s x y new ready k h (PutKind.frees a same) = tt
put-left g t s x y new ready k h (PutKind.asked same m l) = tt
put-left g t s x y new ready k h (PutKind.recorded) = tt
put-left g t s x y new ready k h (PutKind.closed {c = c} {cs = cs} {e = z} a) =
    let tells = step-tells g (past g t) s c cs z h.0.0 ready.0 (closed-kind g (past g t) s c z a) in (
      followed-left c cs h.0,
      λ e lt.
          let old : e.link < s.opened = subst (λ n. e.link < n) (closed-opened c s) lt in
          closed-left g t s c cs (z, []) e (k.each e old) (k.each (peer e) old) tells (h.1 e old),
    )

lefts : (g : Settings) (t : Trace) (s : State) → Reaches g t s → Lefts g t s.stage s.plain
lefts g t s (Reaches.begins) = λ e lt. absurd (omega arith)
lefts g t new (Reaches.goes {t = u} {s = old} r h) = quiet-left g u old.plain old.stage new (lefts g u old r)
    (quiet-kind g u old.stage old.plain new h)
lefts g t new (Reaches.puts {t = u} {s = old} e bytes r h) =
    let c = kept g u old r in
    put-left g u old.plain old.stage (e, bytes) new (held g u old r).ready (put-effect g u old.stage old.plain e bytes new
    c.counts.shape.sides c.placed h) (lefts g u old r)
    (put-kind g u old.stage old.plain e bytes new c.placed h)

pub nothing_is_left : NothingIsLeft
nothing_is_left g t s e r lt = record {
  writing = λ live peer_live complete connected. true-unless (side_at s e).write_ended (λ f. let k = left.writing live peer_live
      complete connected f in absurd (cc));
  done = λ live peer_live we. false-unless (side_at s (peer e)).write_ended (λ f. let k = left.done live peer_live we f in absurd (cc));
  peer_gone = λ live dead. above (output_length g (past g t) s e) (λ f. let k = left.gone live dead f in absurd (cc));
  shut = λ dead. true-unless (side_at s e).closed (λ f. let k = left.shut dead f in absurd (cc));
}
  where
    left : Left g t [] s e
    left = lefts g t (at Between s) r e lt

    true-unless : (b : Bool) → (b ≡ false → ⊥) → b ≡ true
    true-unless true h = refl
    true-unless false h = absurd (h refl)

    false-unless : (b : Bool) → (b ≡ true → ⊥) → b ≡ false
    false-unless true h = absurd (h refl)
    false-unless false h = refl

    above : (n : ℕ) → (n ≡ 0 → ⊥) → 1 ≤ n
    above zero h = absurd (h refl)
    above (suc n) h = omega arith
