-- Where filters hand bytes on as they are, the four counts of a direction stay in order over what was read: by induction over the steps
-- of a legal trace.
use Rattle.std.proofs.Common.{◌≡◌, ℕ, zero, suc, ◌+◌, ◌-◌, ◌≤◌, min, Bool, true, false, ◌&&◌, ◌||◌, ◌==◌, not, if◌then◌else◌, List, [], ◌∷◌}
use Rattle.std.proofs.Common.{◌++◌, length, Option, None, Some, refl, sym, ◌∙◌, ap, subst, arith, slice_index_or, length-append}
use Rattle.std.specs.Prelude.{slice_set, nat_lt}
use Rattle.std.proofs.lemmas.List.{get_or-set_other}
use Rattle.token_bucket.specs.declared.limit.Dir.TheVariants as dir
use Rattle.ev_types.specs.declared.side.SideId.{SideId}
use Rattle.ev_types.specs.declared.filter.FilterKind.{FilterKind}
use Rattle.ev_types.specs.declared.filter.FilterKind.TheVariants as kind
use Rattle.ev_types.specs.declared.answer.WriteAnswer.{WriteAnswer}
use Rattle.ev_types.specs.declared.answer.WriteAnswer.TheVariants as write
use Rattle.ev_types.specs.declared.entry.Entry.TheVariants as entry
use Rattle.ev_types.specs.Sides.{number, peer, same_end}
use Rattle.ev_types.specs.Trace.{Event, Trace}
use Rattle.relay_model.specs.Trace.{read_by, bytes_read}
use Rattle.filter_model.specs.Filter.{Filter, filter_of}
use Rattle.relay_model.specs.Flow.{Flow, no_flow, middle, output, raw_output}
use Rattle.relay_model.specs.Conserved.{all_moved}
use Rattle.relay_model.specs.Settings.{Settings}
use Rattle.relay_model.specs.Plain.{Plain, side_at, flow_at, put_flow, change_side, change_flow, with_link, freed}
use Rattle.relay_model.specs.Past.{Past, past}
use Rattle.relay_model.specs.Rooms.{read_kind, read_filter, write_filter, may_write, write_room, within_rates, at_most, share, allowance}
use Rattle.relay_model.specs.Rooms.{most_at_once, raw_output_at}
use Rattle.relay_model.specs.Reasons.{happened, error_flag}
use Rattle.relay_model.specs.Moments.{active_at}
use Rattle.relay_model.specs.Pass.{read_stops, with_used, with_moved, write_stops, with_turned, with_write_done}
use Rattle.filter_model.specs.Stopping.{first_from, is_over}
use Rattle.relay_model.specs.Round.{Part, read_run, write_run, do_part}
use Rattle.relay_model.specs.Serve.{CarriesTook, after_got, after_write}
use Rattle.relay_model.specs.Stages.{Stage, State}
use Rattle.relay_model.specs.Turn.{turned_to, Reaches}
use Rattle.relay_model.proofs.EndLemmas.{same_end-eq, number-apart}
use Rattle.relay_model.proofs.TraceLemmas.{bytes_read-push}
use Rattle.relay_model.proofs.KeepsLemmas.{raised, raised_read, raised_write}
use Rattle.relay_model.proofs.BadLemmas.{default-same, closed-flows, conn-flows, read-flows}
use Rattle.relay_model.proofs.PassKeeps.{first_from-above, first_from-below}
use Rattle.relay_model.proofs.TimeLemmas.{time-flows}
use Rattle.relay_model.proofs.FireLemmas.{QuietKind, quiet-kind}
use Rattle.relay_model.proofs.KindLemmas.{PutKind, put-kind}
use Rattle.relay_model.proofs.ToldLemmas.{kept}
use Rattle.relay_laws.specs.Plainly.{HasNoFilters}
use Rattle.relay_laws.proofs.PlainlyLemmas.{plainly, read_kind-none, write_kind-none, middle-length, raw_output-length}

pub record InOrder (read : List ℕ) (f : Flow) : Type 0 where
  pub used : f.used ≤ length read
  pub moved : f.moved ≤ f.used
  pub turned : f.turned ≤ f.moved
  pub given : f.given ≤ f.turned

abbrev pub AllInOrder : Trace → Plain → Type 0
AllInOrder t s = (a : SideId) → InOrder (bytes_read a t) (flow_at s a)

-- One direction

order-used : (r : Filter) (read : List ℕ) (mark : ℕ) (f : Flow) → InOrder read f → InOrder read (with_used r read mark f)
order-used r read mark f h =
    let stop = read_stops r read mark f in
    let left : ℕ = length read - f.used in
    let a = first_from-above stop f.used left in
    let b = first_from-below stop f.used left in
    let u = h.used in let m = h.moved in
    record { used = omega (arith, b, u); moved = omega (arith, a, m); turned = h.turned; given = h.given }

order-turned : (r w : Filter) (read : List ℕ) (hold : ℕ) (f : Flow) → InOrder read f → InOrder read (with_turned r w read hold f)
order-turned r w read hold f h = go f.held
  where
    n : ℕ
    n = first_from (write_stops r w read hold f) f.turned (f.moved - f.turned)

    go : (b : Bool) → InOrder read (if b then f else record f { turned = n })
    go true = h
    go false =
        let a = first_from-above (write_stops r w read hold f) f.turned (f.moved - f.turned) in
        let b = first_from-below (write_stops r w read hold f) f.turned (f.moved - f.turned) in
        let u = h.turned in let v = h.given in
        record { used = h.used; moved = h.moved; turned = omega (arith, b, u); given = omega (arith, a, v) }

order-done : (r w : Filter) (read : List ℕ) (hold : ℕ) (f : Flow) → InOrder read f → InOrder read (with_write_done r w read hold f)
order-done r w read hold f h = go f.held
  where
    is_done : Bool
    is_done =
        f.write_done
        || (all_moved r read f && f.turned == f.moved && is_over w (middle r read f) (nat_lt (length (raw_output r w read f)) hold))

    go : (b : Bool) → InOrder read (if b then f else record f { write_done = is_done })
    go true = h
    go false = record { used = h.used; moved = h.moved; turned = h.turned; given = h.given }

order-moved : (k : FilterKind) (read : List ℕ) (f : Flow) → k ≡ kind.None → InOrder read f → InOrder read (with_moved (filter_of k) read f)
order-moved k read f e h = go (not f.held && length (output (filter_of k) read f) == 0)
  where
    go : (b : Bool) → InOrder read (if b then record f { moved = length (middle (filter_of k) read f) } else f)
    go false = h
    go true =
        let m = h.moved in let n = h.turned in
        let all : length (middle (filter_of k) read f) ≡ f.used =
        ap (λ z. length (middle (filter_of z) read f)) e ∙ middle-length read f h.used m n in
        record { used = h.used; moved = omega (arith, all); turned = omega (arith, all, m, n); given = h.given }

-- All directions

set-cases : (Q : Flow → Type 0) (xs : List Flow) (n : ℕ) (v d : Flow) → Q v → Q (slice_index_or xs n d) →
    Q (slice_index_or (slice_set xs n v) n d)
set-cases Q [] n v d a b = b
set-cases Q (x ∷ xs) zero v d a b = a
set-cases Q (x ∷ xs) (suc n) v d a b = set-cases Q xs n v d a b

order-put : (t : Trace) (e : SideId) (f : Flow) (s : Plain) → AllInOrder t s → InOrder (bytes_read e t) f → AllInOrder t (put_flow e f s)
order-put t e f s h k a = go (same_end a e) refl
  where
    go : (b : Bool) → same_end a e ≡ b → InOrder (bytes_read a t) (flow_at (put_flow e f s) a)
    go true same =
        subst (λ z. InOrder (bytes_read z t) (flow_at (put_flow e f s) z)) (sym (same_end-eq a e same))
        (set-cases (InOrder (bytes_read e t)) s.flows (number e) f no_flow k (h e))
    go false apart =
        subst (InOrder (bytes_read a t)) (sym (get_or-set_other s.flows (number e) (number a) f no_flow (number-apart a e apart))) (h a)

order-longer : (read more : List ℕ) (f : Flow) → InOrder read f → InOrder (read ++ more) f
order-longer read more f h = record {
  used = let u = h.used in omega (arith, u, length-append read more);
  moved = h.moved;
  turned = h.turned;
  given = h.given;
}

-- an event more, by which the directions stay
order-event : (t : Trace) (y : Event) (s new : Plain) → new.flows ≡ s.flows → AllInOrder t s → AllInOrder (t ++ y ∷ []) new
order-event t y s new same h a =
    subst (λ z. InOrder z (flow_at new a)) (sym (bytes_read-push a t y))
    (order-longer (bytes_read a t) (read_by a y) (flow_at new a)
    (subst (λ z. InOrder (bytes_read a t) (slice_index_or z (number a) no_flow)) (sym same) (h a)))

order-flows : (t : Trace) (s new : Plain) → new.flows ≡ s.flows → AllInOrder t s → AllInOrder t new
order-flows t s new same h a = subst (λ z. InOrder (bytes_read a t) (slice_index_or z (number a) no_flow)) (sym same) (h a)

order-flags : (read : List ℕ) (f : Flow) (held done write_done : Bool) → InOrder read f →
    InOrder read (record f { held = held; read_done = done; write_done = write_done })
order-flags read f held done write_done h = record { used = h.used; moved = h.moved; turned = h.turned; given = h.given }

module _ (g : Settings) (unset : HasNoFilters g) (t : Trace) where
  abbrev p : Past
  p = past g t

  order-read_run : (e : SideId) (ended : Bool) (s : Plain) → AllInOrder t s → AllInOrder t (read_run g p e ended s)
  order-read_run e ended s h = order-put t e _ s h (order-used (read_filter g s e) (bytes_read e t) _ (flow_at s e) (h e))

  order-write_run : (e : SideId) (may_end : Bool) (s : Plain) → AllInOrder t s → AllInOrder t (write_run g p e may_end s)
  order-write_run e may_end s h =
      order-put t e _ s h (order-turned (read_filter g s e) (write_filter g s (peer e)) (bytes_read e t) _ (flow_at s e) (h e))

  order-part : (e : SideId) (x : Part) (s : Plain) → AllInOrder t s → AllInOrder t (do_part g p e x s)
  order-part e Part.Hold s h = order-put t e _ s h (order-flags (bytes_read e t) (flow_at s e) _ _ _ (h e))
  order-part e Part.Read s h =
      let ran = order-read_run e (side_at s e).ended s h in
      order-put t e _ (read_run g p e (side_at s e).ended s) ran (order-flags (bytes_read e t) _ _ _ _ (ran e))
  order-part e Part.Move s h =
      order-put t e _ s h (order-moved (read_kind g e.side) (bytes_read e t) (flow_at s e) (read_kind-none g unset e.side) (h e))
  order-part e Part.Write s h =
      let ran = order-write_run e true s h in
      let new : Plain = write_run g p e true s in
      order-put t e _ new ran (order-done (read_filter g s e) (write_filter g s (peer e)) (bytes_read e t) _ (flow_at new e) (ran e))
  order-part e Part.Drain s h = order-write_run e false s h

  order-got : (e : SideId) (s : Plain) → AllInOrder t s → AllInOrder t (after_got g p e s)
  order-got e s h =
      let ran : Plain = read_run g p e false s in
      order-flows t ran (after_got g p e s) (ap (λ z. z.flows) (raised_read g p e ran).1) (order-read_run e false s h)

  -- what may be written is no more than the raw output holds
  room-within : (e : SideId) (s : Plain) (n : ℕ) → n ≤ write_room g p s e → n ≤ length (raw_output_at g p s e)
  room-within e s n h = go (may_write s e) h
    where
      m : ℕ
      m = min most_at_once (length (raw_output_at g p s e))

      least : (o : Option ℕ) (m : ℕ) → at_most o m ≤ m
      least None m = omega arith
      least (Some k) m = omega arith

      go : (b : Bool) → n ≤ (if b then within_rates g p s e dir.Write m else 0) → n ≤ length (raw_output_at g p s e)
      go true k =
          let a = least (share g p s e dir.Write) (at_most (allowance p s e dir.Write) m) in
          let b = least (allowance p s e dir.Write) m in
          omega (arith, k, a, b)
      go false k = omega (arith, k)

  -- the raw output of a side holds what was turned and not given
  pub raw_output_at-length : (e : SideId) (s : Plain) → AllInOrder t s →
      length (raw_output_at g p s e) ≡ (flow_at s (peer e)).turned - (flow_at s (peer e)).given
  raw_output_at-length e s h =
      let f : Flow = flow_at s (peer e) in
      let read : List ℕ = bytes_read (peer e) t in
      let k = h (peer e) in
      ap (λ z. length (raw_output (filter_of z) (write_filter g s e) read f)) (read_kind-none g unset (peer e).side)
      ∙ ap (λ z. length (raw_output plainly (filter_of z) read f)) (write_kind-none g unset e.side)
      ∙ raw_output-length read f k.used k.moved k.turned

  order-given : (e : SideId) (n : ℕ) (s : Plain) → n ≤ write_room g p s e → AllInOrder t s →
      AllInOrder t (change_flow (peer e) (λ f. record f { given = f.given + n }) s)
  order-given e n s le h =
      let within = room-within e s n le in
      let all = raw_output_at-length e s h in
      let k = h (peer e) in
      let v = k.given in
      order-put t (peer e) _ s h (record { used = k.used; moved = k.moved; turned = k.turned; given = omega (arith, within, all, v) })

  order-write : (e : SideId) (answer : WriteAnswer) (s : Plain) → ((n : ℕ) → answer ≡ write.Took n → n ≤ write_room g p s e) →
      AllInOrder t s → AllInOrder t (after_write g p e answer s)
  order-write e (write.Took n) s le h =
      let moved : Plain = change_flow (peer e) (λ f. record f { given = f.given + n }) s in
      let same = raised_write g p e (change_side e (active_at s.time dir.Write) moved) in
      order-flows t moved (after_write g p e (write.Took n) s) (ap (λ z. z.flows) same.1) (order-given e n s (le n refl) h)
  order-write e write.NotYet s le h = h
  order-write e write.Failed s le h =
      let same = raised g e (happened dir.Write error_flag) (change_side e (λ x. record x { failed = true; writes = false }) s) in
      order-flows t s (after_write g p e write.Failed s) (ap (λ z. z.flows) same.1) h
  order-write e write.NoMemory s le h = h

  -- Steps

  order-link : (connected : Bool) (s : Plain) → AllInOrder t s → AllInOrder t (with_link g connected s)
  order-link connected s h a = subst (InOrder (bytes_read a t)) (sym (default-same s.flows (number a))) (h a)

  took-within : (answer : WriteAnswer) (offered : ℕ) (bytes : List ℕ) → CarriesTook answer offered bytes →
      (n : ℕ) → answer ≡ write.Took n → n ≤ offered
  took-within (write.Took m) offered bytes c n h = let same : m ≡ n = cc in subst (λ k. k ≤ offered) same c.2
  took-within write.NotYet offered bytes c n h = absurd (cc)
  took-within write.Failed offered bytes c n h = absurd (cc)
  took-within write.NoMemory offered bytes c n h = absurd c

  put-order : (s : Plain) (x : Stage) (y : Event) (new : State) → PutKind g t s x y new → AllInOrder t s →
      AllInOrder (t ++ y ∷ []) new.plain
  put-order s x y new (PutKind.turned {ms = ms} a b) h =
      order-event t y s new.plain (time-flows g (past g (t ++ (entry.Turn ms, []) ∷ [])) (turned_to ms s)) h
  put-order s x y new PutKind.polled h = order-event t y s s refl h
  put-order s x y new (PutKind.wanted a) h = order-event t y s s refl h
  put-order s x y new PutKind.poll_failed h = order-event t y s s refl h
  put-order s x y new (PutKind.readied a) h = order-event t y s s refl h
  put-order s x y new (PutKind.opened {connected = connected}) h =
      order-event t y (with_link g connected s) (with_link g connected s) refl (order-link connected s h)
  put-order s x y new (PutKind.checked {side = side} {answer = answer} a) h =
      order-event t y s new.plain (conn-flows g side answer s) h
  put-order s x y new (PutKind.was_read {side = side} {answer = answer} left a b) h =
      order-event t y s new.plain (read-flows g side answer s) h
  put-order s x y new (PutKind.written {side = side} {offered = offered} {answer = answer} {bytes = bytes} a b d) h =
      order-event t y new.plain new.plain refl
      (order-write side answer s (λ n k. subst (λ z. n ≤ z) b (took-within answer offered bytes d n k)) h)
  put-order s x y new (PutKind.fired a) h = order-event t y s s refl h
  put-order s x y new (PutKind.frees {gone = gone} a same) h = order-event t y s (freed gone s) refl h
  put-order s x y new (PutKind.asked {after = after} same k l) h = order-event t y s after l h
  put-order s x y new PutKind.recorded h = order-event t y s s refl h
  put-order s x y new (PutKind.closed {c = z} a) h = order-event t y s new.plain (closed-flows z s) h

  quiet-order : (s : Plain) (x : Stage) (new : State) → QuietKind g t s x new → AllInOrder t s → AllInOrder t new.plain
  quiet-order s x new (QuietKind.moved next k) h = h
  quiet-order s x new (QuietKind.filtered {e = e}) h = order-got e s h
  quiet-order s x new QuietKind.dispatched h = h
  quiet-order s x new (QuietKind.passed {x = part} {e = e}) h = order-part e part s h
  quiet-order s x new QuietKind.closes h = h
  quiet-order s x new (QuietKind.looked k) h = h
  quiet-order s x new QuietKind.over h = h

pub in_order : (g : Settings) → HasNoFilters g → (t : Trace) (s : State) → Reaches g t s → AllInOrder t s.plain
in_order g h t s Reaches.begins = λ a. record { used = omega arith; moved = omega arith; turned = omega arith; given = omega arith }
in_order g h t new (Reaches.goes {t = u} {s = old} r q) =
    quiet-order g h u old.plain old.stage new (quiet-kind g u old.stage old.plain new q) (in_order g h u old r)
in_order g h t new (Reaches.puts {t = u} {s = old} e bytes r q) =
    put-order g h u old.plain old.stage (e, bytes) new (put-kind g u old.stage old.plain e bytes new (kept g u old r).placed q)
    (in_order g h u old r)
