-- What an entry does to the counts of a direction and to what was read where it begins.
use Rattle.std.proofs.Common.{◌≡◌, ℕ, ◌+◌, ◌-◌, ◌≤◌, Bool, true, false, if◌then◌else◌, List, [], ◌∷◌, ◌++◌, length, Option, Some, None, ◌⊎◌}
use Rattle.std.proofs.Common.{inl, inr, refl, sym, ◌∙◌, ap, subst, arith, slice_index_or, min}
use Rattle.token_bucket.specs.declared.limit.Dir.TheVariants as dir
use Rattle.ev_types.specs.declared.side.SideId.{SideId}
use Rattle.ev_types.specs.declared.answer.ReadAnswer.{ReadAnswer}
use Rattle.ev_types.specs.declared.answer.ReadAnswer.TheVariants as read
use Rattle.ev_types.specs.declared.answer.WriteAnswer.{WriteAnswer}
use Rattle.ev_types.specs.declared.answer.WriteAnswer.TheVariants as write
use Rattle.ev_types.specs.declared.entry.Entry.{Entry}
use Rattle.ev_types.specs.declared.entry.Entry.TheVariants as entry
use Rattle.ev_types.specs.Sides.{same_end, peer, number}
use Rattle.ev_types.specs.Trace.{Event, Trace}
use Rattle.relay_model.specs.Settings.{Settings}
use Rattle.relay_model.specs.Trace.{read_by, ended_by}
use Rattle.relay_model.specs.Flow.{Flow, no_flow}
use Rattle.relay_model.specs.Plain.{Plain, flow_at, change_side, change_flow}
use Rattle.relay_model.specs.Past.{Past, past}
use Rattle.relay_model.specs.Reasons.{happened, error_flag}
use Rattle.relay_model.specs.Rooms.{may_read, may_write, write_room, read_room, within_rates, at_most, share, allowance, raw_output_at}
use Rattle.relay_model.specs.Rooms.{read_mark, input_length, most_at_once}
use Rattle.relay_model.specs.Moments.{active_at}
use Rattle.relay_model.specs.Serve.{after_write, CarriesGot, CarriesTook}
use Rattle.relay_model.specs.Close.{CloseStep}
use Rattle.relay_model.specs.Stages.{Stage, State}
use Rattle.relay_model.specs.Turn.{turned_to}
use Rattle.relay_model.proofs.EndLemmas.{same_end-eq, number-eq, peer-peer}
use Rattle.relay_model.proofs.KeepsLemmas.{raised, raised_write}
use Rattle.relay_model.proofs.PlainLemmas.{flow_at-change}
use Rattle.relay_model.proofs.TimeLemmas.{time-flows}
use Rattle.relay_model.proofs.BadLemmas.{default-same, conn-flows, read-flows, closed-flows}
use Rattle.relay_model.proofs.KindLemmas.{ClosedKind, closed-kind, PutKind}

-- Rooms

min-left : (a b : ℕ) → min a b ≤ b
min-left a b = omega arith

at_most-below : (o : Option ℕ) (n : ℕ) → at_most o n ≤ n
at_most-below None n = omega arith
at_most-below (Some most) n = min-left most n

rates-below : (a b : Option ℕ) (n : ℕ) → at_most a (at_most b n) ≤ n
rates-below a b n = let p = at_most-below b n in let q = at_most-below a (at_most b n) in omega arith

pub write_room-below : (g : Settings) (p : Past) (s : Plain) (e : SideId) → write_room g p s e ≤ length (raw_output_at g p s e)
write_room-below g p s e = go (may_write s e)
  where
    out : ℕ
    out = length (raw_output_at g p s e)

    go : (b : Bool) → (if b then within_rates g p s e dir.Write (min most_at_once out) else 0) ≤ out
    go true =
        let a = rates-below (share g p s e dir.Write) (allowance p s e dir.Write) (min most_at_once out) in
        let b = min-left most_at_once out in omega arith
    go false = omega arith

pub read_room-below : (g : Settings) (p : Past) (s : Plain) (e : SideId) → 1 ≤ read_room g p s e →
    read_room g p s e + input_length g p s e ≤ read_mark s e
read_room-below g p s e = go (may_read s e)
  where
    mark : ℕ
    mark = read_mark s e

    full : ℕ
    full = input_length g p s e

    go : (b : Bool) → 1 ≤ (if b then within_rates g p s e dir.Read (min most_at_once (mark - full)) else 0) →
        (if b then within_rates g p s e dir.Read (min most_at_once (mark - full)) else 0) + full ≤ mark
    go true h =
        let a = rates-below (share g p s e dir.Read) (allowance p s e dir.Read) (min most_at_once (mark - full)) in
        let b = min-left most_at_once (mark - full) in omega arith
    go false h = absurd (omega arith)

-- Counts

-- an end took bytes of the direction that begins at its peer
pub record Takes (g : Settings) (t : Trace) (s : Plain) (y : Event) (new : Plain) (e : SideId) : Type 0 where
  pub offered : ℕ
  pub n : ℕ
  pub bytes : List ℕ
  pub event : y ≡ (entry.Write (peer e) offered (write.Took n), bytes)
  pub may : may_write s (peer e) ≡ true
  pub room : offered ≡ write_room g (past g t) s (peer e)
  pub size : length bytes ≡ n
  pub some : 1 ≤ n
  pub within : n ≤ offered
  pub flow : flow_at new e ≡ record (flow_at s e) { given = (flow_at s e).given + n }

flows-at : {xs ys : List Flow} → ys ≡ xs → (e : SideId) → slice_index_or ys (number e) no_flow ≡ slice_index_or xs (number e) no_flow
flows-at h e = ap (λ z. slice_index_or z (number e) no_flow) h

took-flow : (g : Settings) (t : Trace) (s : Plain) (side : SideId) (offered n : ℕ) (bytes : List ℕ) (e : SideId) →
    may_write s side ≡ true →
    offered ≡ write_room g (past g t) s side → length bytes ≡ n → 1 ≤ n → n ≤ offered →
    (let new = after_write g (past g t) side (write.Took n) s in
    (flow_at new e ≡ flow_at s e) ⊎ Takes g t s (entry.Write side offered (write.Took n), bytes) new e)
took-flow g t s side offered n bytes e may room size some within = elim (flow_at-change (peer side) e add s) [
  | inl same ↦ inl (raised_flow ∙ same)
  | inr changed ↦ inr (takes changed.0 changed.1)
]
  where
    add : Flow → Flow
    add f = record f { given = f.given + n }

    before : Plain
    before = change_side side (active_at s.time dir.Write) (change_flow (peer side) add s)

    new : Plain
    new = after_write g (past g t) side (write.Took n) s

    raised_flow : flow_at new e ≡ flow_at (change_flow (peer side) add s) e
    raised_flow = flows-at (ap (λ z. z.flows) (raised_write g (past g t) side before).1) e

    takes : number e ≡ number (peer side) → flow_at (change_flow (peer side) add s) e ≡ add (flow_at s e) →
        Takes g t s (entry.Write side offered (write.Took n), bytes) new e
    takes same now =
        let is : side ≡ peer e = sym (peer-peer side) ∙ ap peer (sym (number-eq e (peer side) same)) in
        record {
          offered = offered;
          n = n;
          bytes = bytes;
          event = ap (λ v. (entry.Write v offered (write.Took n), bytes)) is;
          may = ap (λ v. may_write s v) (sym is) ∙ may;
          room = room ∙ ap (λ v. write_room g (past g t) s v) is;
          size = size;
          some = some;
          within = within;
          flow = raised_flow ∙ now;
        }

written-flow : (g : Settings) (t : Trace) (s : Plain) (side : SideId) (offered : ℕ) (answer : WriteAnswer) (bytes : List ℕ) (e : SideId) →
    may_write s side ≡ true → offered ≡ write_room g (past g t) s side → CarriesTook answer offered bytes →
    (let new = after_write g (past g t) side answer s in
    (flow_at new e ≡ flow_at s e) ⊎ Takes g t s (entry.Write side offered answer, bytes) new e)
written-flow g t s side offered (write.Took n) bytes e may room c = took-flow g t s side offered n bytes e may room c.0 c.1 c.2
written-flow g t s side offered write.NotYet bytes e may room c = inl refl
written-flow g t s side offered write.Failed bytes e may room c =
    let x : Plain = change_side side (λ x. record x { failed = true; writes = false }) s in
    inl (flows-at (ap (λ z. z.flows) (raised g side (happened dir.Write error_flag) x).1) e)
written-flow g t s side offered write.NoMemory bytes e may room c = absurd c

-- An entry leaves the counts of a direction, or an end takes some of its bytes.
pub put-flow : (g : Settings) (t : Trace) (s : Plain) (x : Stage) (y : Event) (new : State) → PutKind g t s x y new → (e : SideId) →
    (flow_at new.plain e ≡ flow_at s e) ⊎ Takes g t s y new.plain e
put-flow g t s x y new (PutKind.turned {ms = ms} a b) e =
    inl (flows-at (time-flows g (past g (t ++ (entry.Turn ms, []) ∷ [])) (turned_to ms s)) e)
put-flow g t s x y new (PutKind.polled) e = inl refl
put-flow g t s x y new (PutKind.wanted a) e = inl refl
put-flow g t s x y new (PutKind.poll_failed) e = inl refl
put-flow g t s x y new (PutKind.readied a) e = inl refl
put-flow g t s x y new (PutKind.opened) e = inl (default-same s.flows (number e))
put-flow g t s x y new (PutKind.checked {side = side} {answer = answer} a) e = inl (flows-at (conn-flows g side answer s) e)
put-flow g t s x y new (PutKind.was_read {side = side} {answer = answer} left a b) e = inl (flows-at (read-flows g side answer s) e)
put-flow g t s x y new (PutKind.written {side = side} {offered = offered} {answer = answer} {bytes = bytes} a b c) e =
    written-flow g t s side offered answer bytes e a b c
put-flow g t s x y new (PutKind.fired a) e = inl refl
put-flow g t s x y new (PutKind.frees a same) e = inl refl
put-flow g t s x y new (PutKind.asked {after = after} same m l) e = inl (flows-at l e)
put-flow g t s x y new (PutKind.recorded) e = inl refl
put-flow g t s x y new (PutKind.closed {c = c} a) e = inl (flows-at (closed-flows c s) e)

-- What was read

pub data ReadCase (s : Plain) (e : SideId) : Event → Type 0 where
  none : {y : Event} → read_by e y ≡ [] → ended_by e y ≡ false → ReadCase s e y
  got : {room n : ℕ} {bytes : List ℕ} → may_read s e ≡ true → length bytes ≡ n → 1 ≤ n → n ≤ room →
      ReadCase s e (entry.Read e room (read.Got n), bytes)
  ends : {room : ℕ} {bytes : List ℕ} → may_read s e ≡ true → ReadCase s e (entry.Read e room read.Ended, bytes)

closed-read : (g : Settings) (p : Past) (s : Plain) (c : CloseStep) (z : Entry) (e : SideId) → ClosedKind g p s c z → ReadCase s e (z, [])
closed-read g p s c z e (ClosedKind.faulty a b) = ReadCase.none refl refl
closed-read g p s c z e (ClosedKind.write_ended a b) = ReadCase.none refl refl
closed-read g p s c z e (ClosedKind.in_done a b d f) = ReadCase.none refl refl
closed-read g p s c z e (ClosedKind.out_done) = ReadCase.none refl refl
closed-read g p s c z e (ClosedKind.peer_gone a b d) = ReadCase.none refl refl
closed-read g p s c z e (ClosedKind.shut a b) = ReadCase.none refl refl

was_read-case : (s : Plain) (side : SideId) (room : ℕ) (answer : ReadAnswer) (bytes : List ℕ) (e : SideId) → may_read s side ≡ true →
    CarriesGot answer room bytes → (q : Bool) → same_end side e ≡ q → ReadCase s e (entry.Read side room answer, bytes)
was_read-case s side room (read.Got n) bytes e may c true q =
    subst (λ v. ReadCase s e (entry.Read v room (read.Got n), bytes)) (sym (same_end-eq side e q))
    (ReadCase.got (ap (λ v. may_read s v) (sym (same_end-eq side e q)) ∙ may) c.0 c.1 c.2)
was_read-case s side room (read.Got n) bytes e may c false q = ReadCase.none (ap (λ b. if b then bytes else []) q) refl
was_read-case s side room read.Ended bytes e may c true q =
    subst (λ v. ReadCase s e (entry.Read v room read.Ended, bytes)) (sym (same_end-eq side e q))
    (ReadCase.ends (ap (λ v. may_read s v) (sym (same_end-eq side e q)) ∙ may))
was_read-case s side room read.Ended bytes e may c false q = ReadCase.none refl q
was_read-case s side room read.NotYet bytes e may c b q = ReadCase.none refl refl
was_read-case s side room read.Failed bytes e may c b q = ReadCase.none refl refl

pub put-read : (g : Settings) (t : Trace) (s : Plain) (x : Stage) (y : Event) (new : State) → PutKind g t s x y new → (e : SideId) →
    ReadCase s e y
put-read g t s x y new (PutKind.turned a b) e = ReadCase.none refl refl
put-read g t s x y new (PutKind.polled) e = ReadCase.none refl refl
put-read g t s x y new (PutKind.wanted a) e = ReadCase.none refl refl
put-read g t s x y new (PutKind.poll_failed) e = ReadCase.none refl refl
put-read g t s x y new (PutKind.readied a) e = ReadCase.none refl refl
put-read g t s x y new (PutKind.opened) e = ReadCase.none refl refl
put-read g t s x y new (PutKind.checked a) e = ReadCase.none refl refl
put-read g t s x y new (PutKind.was_read {side = side} {room = room} {answer = answer} {bytes = bytes} left a b) e =
    was_read-case s side room answer bytes e a b (same_end side e) refl
put-read g t s x y new (PutKind.written a b c) e = ReadCase.none refl refl
put-read g t s x y new (PutKind.fired a) e = ReadCase.none refl refl
put-read g t s x y new (PutKind.frees a same) e = ReadCase.none refl refl
put-read g t s x y new (PutKind.asked same m l) e = ReadCase.none refl refl
put-read g t s x y new (PutKind.recorded) e = ReadCase.none refl refl
put-read g t s x y new (PutKind.closed {c = c} {e = z} a) e = closed-read g (past g t) s c z e (closed-kind g (past g t) s c z a)
