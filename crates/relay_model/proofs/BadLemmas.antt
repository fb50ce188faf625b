-- The bad place that a side keeps is one of what was read from it or moved to it, by induction over the steps.
use Rattle.std.proofs.Common.{◌≡◌, ℕ, zero, suc, ◌+◌, Bool, true, false, ◌||◌, if◌then◌else◌, List, [], ◌∷◌, ◌++◌, refl, sym, ◌∙◌, ap}
use Rattle.std.proofs.Common.{subst, slice_index_or, slice_set}
use Rattle.std.proofs.lemmas.Bool.{or_left, not-true}
use Rattle.ev_types.specs.declared.side.SideId.{SideId}
use Rattle.ev_types.specs.declared.answer.ConnAnswer.{ConnAnswer}
use Rattle.ev_types.specs.declared.answer.ConnAnswer.TheVariants as conn
use Rattle.ev_types.specs.declared.answer.ReadAnswer.{ReadAnswer}
use Rattle.ev_types.specs.declared.answer.ReadAnswer.TheVariants as read
use Rattle.ev_types.specs.declared.answer.WriteAnswer.{WriteAnswer}
use Rattle.ev_types.specs.declared.answer.WriteAnswer.TheVariants as write
use Rattle.ev_types.specs.declared.why.Why.TheVariants as why
use Rattle.ev_types.specs.declared.entry.Entry.{Entry}
use Rattle.ev_types.specs.declared.entry.Entry.TheVariants as entry
use Rattle.ev_types.specs.Sides.{same_end, peer, number}
use Rattle.ev_types.specs.Trace.{Event, Trace}
use Rattle.relay_model.specs.Settings.{Settings}
use Rattle.relay_model.specs.Trace.{ended_by, read_by, bytes_read, has_ended}
use Rattle.relay_model.specs.Reasons.{happened, end_flag, error_flag}
use Rattle.token_bucket.specs.declared.limit.Dir.TheVariants as dir
use Rattle.relay_model.specs.Flow.{Flow, no_flow}
use Rattle.relay_model.specs.Plain.{Plain, side_at, flow_at, change_side, change_flow}
use Rattle.relay_model.specs.Past.{Past, past}
use Rattle.relay_model.specs.Rooms.{read_filter, may_read}
use Rattle.relay_model.specs.Serve.{after_conn, after_read, after_write}
use Rattle.relay_model.specs.Close.{CloseStep, closed_by}
use Rattle.relay_model.specs.Stages.{Stage, State}
use Rattle.relay_model.specs.Turn.{turned_to}
use Rattle.relay_model.proofs.EndLemmas.{same_end-eq}
use Rattle.relay_model.proofs.KeepsLemmas.{raised, raised_write}
use Rattle.relay_model.proofs.PlacedLemmas.{may_read-parts}
use Rattle.relay_model.proofs.TimeLemmas.{time-flows}
use Rattle.relay_model.proofs.TraceLemmas.{bytes_read-push, has_ended-push}
use Rattle.relay_model.proofs.GrownLemmas.{FlowOk, Grown, stations, grown-read}
use Rattle.std.proofs.Math.Seq.{map-set_same}
use Rattle.std.proofs.Math.ListN.{get_or-map}
use Rattle.relay_model.specs.Moments.{active_at}
use Rattle.relay_model.proofs.KindLemmas.{ClosedKind, closed-kind, PutKind}

-- The counts of each direction, step by step

-- the direction that begins at a side goes on from one trace and state to others
abbrev pub Goes : Settings → Trace → Plain → Trace → Plain → SideId → Type 0
Goes g t s u new e = Grown (read_filter g s e) (bytes_read e t) (has_ended e t) (flow_at s e) (bytes_read e u) (has_ended e u)
    (flow_at new e)

abbrev pub AllFit : Settings → Trace → Plain → Type 0
AllFit g t s = (e : SideId) → FlowOk (read_filter g s e) (bytes_read e t) (has_ended e t) (flow_at s e)

-- an element that f does not tell from the one before
pub set-seen : {A B : Type 0} (f : A → B) (l : List A) (i : ℕ) (y d : A) → f y ≡ f (slice_index_or l i d) → (j : ℕ) → f
    (slice_index_or (slice_set l i y) j d) ≡ f (slice_index_or l j d)
set-seen f l i y d h j = sym (get_or-map f (slice_set l i y) j d) ∙ ap (λ z. slice_index_or z j (f d)) (map-set_same f l i y d h) ∙
    get_or-map f l j d

pub default-same : (xs : List Flow) (n : ℕ) → slice_index_or (xs ++ no_flow ∷ no_flow ∷ []) n no_flow ≡ slice_index_or xs n no_flow
default-same [] zero = refl
default-same [] (suc zero) = refl
default-same [] (suc (suc n)) = refl
default-same (x ∷ xs) zero = refl
default-same (x ∷ xs) (suc n) = default-same xs n

flows-same : {xs ys : List Flow} → ys ≡ xs → (e : SideId) → stations (slice_index_or ys (number e) no_flow) ≡ stations
    (slice_index_or xs (number e) no_flow)
flows-same h e = ap (λ z. stations (slice_index_or z (number e) no_flow)) h

pub closed-flows : (c : CloseStep) (s : Plain) → (closed_by c s).flows ≡ s.flows
closed-flows (CloseStep.Faulty e) s = refl
closed-flows (CloseStep.EndWriting e) s = refl
closed-flows (CloseStep.BothDone k) s = refl
closed-flows (CloseStep.OutDone k) s = refl
closed-flows (CloseStep.PeerGone e) s = refl
closed-flows (CloseStep.Shut e) s = refl

pub conn-flows : (g : Settings) (e : SideId) (answer : ConnAnswer) (s : Plain) → (after_conn g e answer s).flows ≡ s.flows
conn-flows g e conn.Connected s = ap (λ z. z.flows) (raised g e why.Connected (change_side e (λ x. record x { connecting = false }) s)).1
conn-flows g e conn.Pending s = refl
conn-flows g e conn.Failed s = ap (λ z. z.flows) (raised g e (happened dir.Write error_flag)
    (change_side e (λ x. record x { failed = true; writes = false }) s)).1

pub read-flows : (g : Settings) (e : SideId) (answer : ReadAnswer) (s : Plain) → (after_read g e answer s).flows ≡ s.flows
read-flows g e (read.Got n) s = refl
read-flows g e read.Ended s = ap (λ z. z.flows)
    (raised g e (happened dir.Read end_flag) (change_side e (λ x. record x { ended = true; reads = false }) s)).1
read-flows g e read.NotYet s = refl
read-flows g e read.Failed s = ap (λ z. z.flows) (raised g e (happened dir.Read error_flag)
    (change_side e (λ x. record x { failed = true; reads = false }) s)).1

write-stations : (g : Settings) (p : Past) (side : SideId) (answer : WriteAnswer) (s : Plain) (e : SideId) → stations
    (flow_at (after_write g p side answer s) e) ≡ stations (flow_at s e)
write-stations g p side (write.Took n) s e =
    let x : Flow = record (flow_at s (peer side)) { given = (flow_at s (peer side)).given + n } in
    let before : Plain = change_side side (active_at s.time dir.Write) (change_flow (peer side)
    (λ f. record f { given = f.given + n }) s) in
    ap (λ z. stations (slice_index_or z (number e) no_flow)) (ap (λ z. z.flows) (raised_write g p side before).1)
    ∙ set-seen stations s.flows (number (peer side)) x no_flow refl (number e)
write-stations g p side write.NotYet s e = refl
write-stations g p side write.Failed s e =
    ap (λ z. stations (slice_index_or z (number e) no_flow))
    (ap (λ z. z.flows) (raised g side (happened dir.Write error_flag) (change_side side
    (λ x. record x { failed = true; writes = false }) s)).1)
write-stations g p side write.NoMemory s e = refl

pub put-stations : (g : Settings) (t : Trace) (s : Plain) (x : Stage) (y : Event) (new : State) → PutKind g t s x y new →
    (e : SideId) → stations (flow_at new.plain e) ≡ stations (flow_at s e)
put-stations g t s x y new (PutKind.turned {ms = ms} a b) e = flows-same (time-flows g (past g (t ++ (entry.Turn ms, []) ∷ []))
    (turned_to ms s)) e
put-stations g t s x y new (PutKind.polled) e = refl
put-stations g t s x y new (PutKind.wanted a) e = refl
put-stations g t s x y new (PutKind.poll_failed) e = refl
put-stations g t s x y new (PutKind.readied a) e = refl
put-stations g t s x y new (PutKind.opened) e = ap stations (default-same s.flows (number e))
put-stations g t s x y new (PutKind.checked {side = side} {answer = answer} a) e = flows-same (conn-flows g side answer s) e
put-stations g t s x y new (PutKind.was_read {side = side} {answer = answer} left a b) e = flows-same (read-flows g side answer s) e
put-stations g t s x y new (PutKind.written {side = side} {answer = answer} a b c) e = write-stations g (past g t) side answer s e
put-stations g t s x y new (PutKind.fired a) e = refl
put-stations g t s x y new (PutKind.frees a same) e = refl
put-stations g t s x y new (PutKind.asked {after = after} same m l) e = flows-same l e
put-stations g t s x y new (PutKind.recorded) e = refl
put-stations g t s x y new (PutKind.closed {c = c} a) e = flows-same (closed-flows c s) e

pub closed-reads : (g : Settings) (p : Past) (s : Plain) (c : CloseStep) (z : Entry) (e : SideId) → ClosedKind g p s c z → read_by
    e (z, []) ≡ []
closed-reads g p s c z e (ClosedKind.faulty a b) = refl
closed-reads g p s c z e (ClosedKind.write_ended a b) = refl
closed-reads g p s c z e (ClosedKind.in_done a b d f) = refl
closed-reads g p s c z e (ClosedKind.out_done) = refl
closed-reads g p s c z e (ClosedKind.peer_gone a b d) = refl
closed-reads g p s c z e (ClosedKind.shut a b) = refl

-- of an end that has ended nothing is read
got-late : (s : Plain) (t : Trace) (side e : SideId) (n room : ℕ) (bytes : List ℕ) → may_read s side ≡ true →
    ((z : SideId) → (side_at s z).ended ≡ has_ended z t) → has_ended e t ≡ true → read_by e (entry.Read side room (read.Got n), bytes) ≡ []
got-late s t side e n room bytes may ended h = go (same_end side e) refl
  where
    go : (q : Bool) → same_end side e ≡ q → (if q then bytes else []) ≡ []
    go false q = refl
    go true q = absurd (
        let was : (side_at s side).ended ≡ true = ended side ∙ ap (λ v. has_ended v t) (same_end-eq side e q) ∙ h in
        let not_ended = not-true (side_at s side).ended (may_read-parts s side may).ended in cc)

read-late : (s : Plain) (t : Trace) (side e : SideId) (room : ℕ) (answer : ReadAnswer) (bytes : List ℕ) → may_read s side ≡ true →
    ((z : SideId) → (side_at s z).ended ≡ has_ended z t) → has_ended e t ≡ true → read_by e (entry.Read side room answer, bytes) ≡ []
read-late s t side e room (read.Got n) bytes may ended h = got-late s t side e n room bytes may ended h
read-late s t side e room read.Ended bytes may ended h = refl
read-late s t side e room read.NotYet bytes may ended h = refl
read-late s t side e room read.Failed bytes may ended h = refl

put-reads : (g : Settings) (t : Trace) (s : Plain) (x : Stage) (y : Event) (new : State) →
    ((z : SideId) → (side_at s z).ended ≡ has_ended z t) → PutKind g t s x y new → (e : SideId) → has_ended e t ≡ true → read_by e y ≡ []
put-reads g t s x y new ended (PutKind.turned a b) e h = refl
put-reads g t s x y new ended (PutKind.polled) e h = refl
put-reads g t s x y new ended (PutKind.wanted a) e h = refl
put-reads g t s x y new ended (PutKind.poll_failed) e h = refl
put-reads g t s x y new ended (PutKind.readied a) e h = refl
put-reads g t s x y new ended (PutKind.opened) e h = refl
put-reads g t s x y new ended (PutKind.checked a) e h = refl
put-reads g t s x y new ended (PutKind.was_read {side = side} {room = room} {answer = answer} {bytes = bytes} left a b) e h =
    read-late s t side e room answer bytes a ended h
put-reads g t s x y new ended (PutKind.written a b c) e h = refl
put-reads g t s x y new ended (PutKind.fired a) e h = refl
put-reads g t s x y new ended (PutKind.frees a same) e h = refl
put-reads g t s x y new ended (PutKind.asked same m l) e h = refl
put-reads g t s x y new ended (PutKind.recorded) e h = refl
put-reads g t s x y new ended (PutKind.closed {c = c} {e = z} a) e h = closed-reads g (past g t) s c z e (closed-kind g (past g t) s c z a)

pub put-goes : (g : Settings) (t : Trace) (s : Plain) (x : Stage) (y : Event) (new : State) →
    ((z : SideId) → (side_at s z).ended ≡ has_ended z t) → AllFit g t s → PutKind g t s x y new → (e : SideId) → Goes g t s
    (t ++ y ∷ []) new.plain e
put-goes g t s x y new ended fit k e =
    subst (λ z. Grown (read_filter g s e) (bytes_read e t) (has_ended e t) (flow_at s e) z (has_ended e (t ++ y ∷ []))
    (flow_at new.plain e)) (sym (bytes_read-push e t y))
    (subst (λ z. Grown (read_filter g s e) (bytes_read e t) (has_ended e t) (flow_at s e) (bytes_read e t ++ read_by e y) z
    (flow_at new.plain e)) (sym (has_ended-push e t y))
    (grown-read (read_filter g s e) (bytes_read e t) (has_ended e t) (flow_at s e) (read_by e y) (has_ended e t || ended_by e y)
    (flow_at new.plain e) (put-stations g t s x y new k e) (fit e)
    (λ h. (or_left (has_ended e t) (ended_by e y) h, put-reads g t s x y new ended k e h))))
