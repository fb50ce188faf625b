-- A marked side is given what waits for it: the write is the one that the model calls for, and what its answer changes is what it
-- changes there.
use Rattle.std.proofs.Common.{◌≡◌, ◌≢◌, ℕ, ◌+◌, ◌*◌, ◌<◌, ◌≤◌, Bool, true, false, ◌&&◌, nat_le, min, if◌then◌else◌, List, [], ◌∷◌, ◌++◌}
use Rattle.std.proofs.Common.{length, take, slice_set, refl, sym, ◌∙◌, ap, subst, arith, length-take-le, take-take}
use Rattle.std.specs.Prelude.{nat_lt, is_some, Option, Some, None}
use Rattle.std.proofs.lemmas.List.{length-set}
use Rattle.token_bucket.specs.declared.limit.Dir.TheVariants as dir
use Rattle.ev_types.specs.declared.side.SideId.{SideId}
use Rattle.ev_types.specs.declared.answer.WriteAnswer.{WriteAnswer}
use Rattle.ev_types.specs.declared.answer.WriteAnswer.TheVariants as write
use Rattle.ev_types.specs.declared.why.Why.TheVariants as why
use Rattle.ev_types.specs.declared.entry.Entry.TheVariants as entry
use Rattle.ev_types.specs.Sides.{number, peer, same_end}
use Rattle.relay_model.proofs.EndLemmas.{same_end-refl}
use Rattle.ev_types.specs.Trace.{Event, Trace}
use Rattle.ev_port.specs.Ends.{WriteWithin, took_bytes}
use Rattle.relay_model.specs.Trace.{bytes_read, has_ended}
use Rattle.relay_model.specs.Settings.{Settings}
use Rattle.relay_model.specs.Flow.{output, raw_output}
use Rattle.relay_model.specs.Plain.{Plain, side_at, flow_at, is_live, change_side, change_flow}
use Rattle.relay_model.specs.Past.{Past, past}
use Rattle.relay_model.specs.Moments.{active_at}
use Rattle.relay_model.specs.Rooms as rooms
use Rattle.relay_model.specs.Rooms.{Want, most_at_once, read_filter, write_filter, may_write, is_connecting, raw_output_at, at_most}
use Rattle.relay_model.specs.Reasons.{raise, happened, error_flag}
use Rattle.relay_model.specs.Reasons as reasons
use Rattle.relay_model.specs.Serve as model
use Rattle.relay_model.specs.Serve.{Call, call_for, CarriesTook}
use Rattle.relay_model.specs.Stages.{Stage, at}
use Rattle.relay_model.specs.StepLaws.{TookFirst}
use Rattle.relay_model.specs.Turn.{Puts, Reaches}
use Rattle.relay_model.proofs.Frames.{rates_of}
use Rattle.relay_model.proofs.KeepsLemmas.{raised_write}
use Rattle.relay_model.proofs.PlacedLemmas.{may_write-live}
use Rattle.relay_model.proofs.PlainLemmas.{seen-change}
use Rattle.relay_model.proofs.AccountedLemmas.{entries_keep_accounts}
use Rattle.relay_state.specs.State.{State, Lane, lane_at, with_plain, lane_taken, gauges_after}
use Rattle.relay_state.specs.Rooms.{waiting_for, output_length, write_room, offer, allowance}
use Rattle.relay_state.specs.Serving.{flow_given, with_taken, after_took, after_write}
use Rattle.rate_group.specs.Steps.{spent}
use Rattle.relay_model.specs.Groups.{same_group, group_after, beat_among}
use Rattle.relay_model.proofs.PastLemmas.{either_zero}
use Rattle.relay_model.proofs.RatesLaw.{rated}
use Rattle.relay_state.specs.Rooms.{share, within_rates}
use Rattle.relay_steps.specs.Grouped.{Grouped}
use Rattle.relay_steps.proofs.RateLemmas.{SameGauged, turns-same}
use Rattle.relay_steps.proofs.GroupedSteps.{MovesAmong, moved-grouped}
use Rattle.relay_steps.proofs.RoomLemmas.{shared-is}
use Rattle.relay_steps.proofs.StillSteps.{stands-shape, still-grouped}
use Rattle.relay_steps.proofs.TurnedLemmas.{served-turned}
use Rattle.relay_steps.specs.Meaning.{LaneFits, StandsFor}
use Rattle.relay_steps.proofs.EndLemmas.{same_end-apart, peer-peer, read-silent, ended-silent}
use Rattle.relay_steps.proofs.FitLemmas.{sight, FitsSight, seen-fits, fits-seen, fits-same, lane-set, lane-set_other, flow-put}
use Rattle.relay_steps.proofs.FitLemmas.{flow-put_other}
use Rattle.relay_steps.proofs.MovedSteps.{MovesAt, moved-gauged}
use Rattle.relay_steps.proofs.BeforeLemmas.{set-before}
use Rattle.relay_steps.specs.Gauges.{Gauged}
use Rattle.relay_model.specs.Rates.{beat_of}
use Rattle.token_bucket.specs.Spells.{Moves}
use Rattle.token_bucket.specs.declared.limit.Dir.{Dir}
use Rattle.relay_steps.proofs.RoomLemmas.{allowed-is, SideFits, waiting-is, output_length-fits}
use Rattle.relay_steps.proofs.LaneSteps.{fits-taken}
use Rattle.relay_steps.proofs.StillSteps.{IsStill, still-gauged, put-stands, still-same, still-sight, still-due, still-event, still-raised}
use Rattle.relay_steps.proofs.StillSteps.{sight-of, one-fits, lane_in, in_flows, in_lanes}
use Rattle.relay_steps.proofs.ServeSteps.{if_true, some-may, one_or_more, mark, call-is, marks-are}

-- a plain state that is another one where a test holds
with_where : (b : Bool) (q : Plain) (s : State) → (if b then with_plain q s else s) ≡ with_plain (if b then q else s.plain) s
with_where true q s = refl
with_where false q s = refl

other_end : (e a : SideId) → a ≢ e → same_end e a ≡ false
other_end e a h = same_end-apart e a (λ q. h (sym q))

at_most-le : (o : Option ℕ) (n : ℕ) → at_most o n ≤ n
at_most-le None n = omega arith
at_most-le (Some m) n = omega arith

within_rates-le : (s : State) (e : SideId) (n : ℕ) → within_rates s e dir.Write n ≤ n
within_rates-le s e n =
    let a = at_most-le (share s e dir.Write) (at_most (allowance s e dir.Write) n) in
    let b = at_most-le (allowance s e dir.Write) n in
    omega (arith, a, b)

module _ (t : Trace) (s : State) (e : SideId) (w : Bool) (ms : List Want) (k : StandsFor t (Stage.Serving (mark e false w ∷ ms)) s)
    (lt : e.link < s.plain.opened) (q : is_connecting s.plain e ≡ false) (l : w ≡ true) (some : nat_lt 0 (write_room s e) ≡ true) where
  abbrev g : Settings
  g = s.settings

  abbrev P : Past
  P = past s.settings t

  abbrev p : Plain
  p = s.plain

  abbrev room : ℕ
  room = write_room s e

  abbrev marked : Stage
  marked = Stage.Serving (mark e false w ∷ ms)

  write-called : call_for g P p (mark e false w) ≡ Call.AskWrite (write_room s e)
  write-called =
      call-is t s e false w ms k lt false false q refl
      ∙ ap (λ b. if b && nat_le 1 room then Call.AskWrite room else Call.Nothing) l
      ∙ if_true (nat_le 1 room) (Call.AskWrite room) Call.Nothing (one_or_more room ∙ some)

  write-puts : (answer : WriteAnswer) (bytes : List ℕ) → CarriesTook answer (write_room s e) bytes →
      Puts g t marked p (entry.Write e (write_room s e) answer) bytes (at (Stage.Serving ms) (model.after_write g P e answer p))
  write-puts answer bytes carries = (
    refl,
    write-called,
    carries,
    ap (λ z. at (Stage.Serving z) (model.after_write g P e answer p)) (sym (marks-are t s e false w ms k lt false false q refl)),
  )

  may : may_write p e ≡ true
  may = some-may (may_write p e) (within_rates s e dir.Write (min most_at_once (length (waiting_for s e)))) some

  live : is_live p e ≡ true
  live = may_write-live p e may

  room_le : write_room s e ≤ length (waiting_for s e)
  room_le =
      let a : write_room s e ≡ within_rates s e dir.Write (min most_at_once (length (waiting_for s e))) =
      ap (λ (b : Bool). if b then within_rates s e dir.Write (min most_at_once (length (waiting_for s e))) else 0) may in
      let b = within_rates-le s e (min most_at_once (length (waiting_for s e))) in
      omega (arith, a, b)

  -- its end took the first bytes of what was offered
  module _ (n : ℕ) (one : 1 ≤ n) (within : n ≤ write_room s e) where
    abbrev bytes : List ℕ
    bytes = take n (offer s e)

    abbrev event : Event
    event = (entry.Write e (write_room s e) (write.Took n), bytes)

    abbrev u : Trace
    u = t ++ event ∷ []

    abbrev given : Plain
    given = change_flow (peer e) (flow_given n) p

    -- the plain state before the low mark is looked at
    abbrev took : Plain
    took = change_side e (active_at p.time dir.Write) given

    abbrev new_lane : Lane
    new_lane = lane_taken n (lane_at s (peer e))

    abbrev lanes : List Lane
    lanes = slice_set s.lanes (number (peer e)) new_lane

    bytes-are : bytes ≡ take n (waiting_for s e)
    bytes-are = take-take n room (waiting_for s e) within

    carries : CarriesTook (write.Took n) (write_room s e) bytes
    carries = (ap length bytes-are ∙ length-take-le n (waiting_for s e) (let a = room_le in omega (arith, a, within)), one, within)

    first : TookFirst g t p event
    first = bytes-are ∙ ap (take n) (waiting-is t marked s e k lt live)

    live-same : (z : SideId) → is_live took z ≡ is_live p z
    live-same z = seen-change (λ x. x.live) e z (active_at p.time dir.Write) given (λ x. refl)

    marked-same : (z : SideId) → is_some (side_at took z).bad ≡ is_some (side_at p z).bad
    marked-same z = seen-change (λ x. is_some x.bad) e z (active_at p.time dir.Write) given (λ x. refl)

    sight-far : sight u took (peer e) ≡ record (sight t p (peer e)) { flow = flow_given n (flow_at p (peer e)) }
    sight-far =
        sight-of t u p took (peer e) (bytes_read (peer e) t) (has_ended (peer e) t) (flow_given n (flow_at p (peer e)))
        (read-silent t event (peer e) refl) (ended-silent t event (peer e) refl)
        (flow-put p (peer e) (flow_given n (flow_at p (peer e))) (in_flows t marked s (peer e) k lt)) live-same marked-same

    sight-rest : (a : SideId) → a ≢ peer e → sight u took a ≡ sight t p a
    sight-rest a h =
        sight-of t u p took a (bytes_read a t) (has_ended a t) (flow_at p a)
        (read-silent t event a refl) (ended-silent t event a refl)
        (flow-put_other p (peer e) a (flow_given n (flow_at p (peer e))) h) live-same marked-same

    lane-far : lane_in lanes (peer e) ≡ new_lane
    lane-far = lane-set s (peer e) new_lane (in_lanes t marked s (peer e) k lt)

    far-fits : LaneFits g u took (peer e) (lane_in lanes (peer e))
    far-fits =
        let z = sight t p (peer e) in
        let f = flow_given n (flow_at p (peer e)) in
        fits-seen g u took p (peer e) (lane_in lanes (peer e))
        (subst (λ y. FitsSight g p (peer e) y (lane_in lanes (peer e))) (sym sight-far)
        (subst (FitsSight g p (peer e) (record z { flow = f })) (sym lane-far)
        (fits-taken g p (peer e) z (lane_at s (peer e)) (seen-fits g t p (peer e) (lane_at s (peer e)) (k.each (peer e) lt)) n
        (ap (is_live p) (peer-peer e) ∙ live))))

    took-fits : (a : SideId) → a.link < s.plain.opened → LaneFits g u took a (lane_in lanes a)
    took-fits = one-fits t u marked s took lanes (peer e) k sight-rest (λ a h. lane-set_other s (peer e) a new_lane h) far-fits

    moves : MovesAt e dir.Write n event
    moves = record {
      own = ap (λ b. Moves (if b then n else 0)) (same_end-refl e);
      across = across;
      others = λ a h. others a h;
    }
      where
        across : (f : Dir) → f ≢ dir.Write → beat_of e f event ≡ Moves 0
        across dir.Read h = refl
        across dir.Write h = absurd (h refl)

        others : (a : SideId) → a ≢ e → (f : Dir) → beat_of a f event ≡ Moves 0
        others a h dir.Read = refl
        others a h dir.Write = ap (λ b. Moves (if b then n else 0)) (other_end e a h)

    same : SameGauged p took
    same = record {
      opened = refl;
      time = refl;
      rates = λ a. seen-change rates_of e a (active_at p.time dir.Write) given (λ x. refl);
      live = live-same;
    }

    took-gauged : Gauged u took (gauges_after e dir.Write n s)
    took-gauged =
        moved-gauged t event n e dir.Write s moves took
        same lt (λ y is. set-before g t p (mark e false w) ms k.reached y is dir.Write) k.gauged

    among : MovesAmong g t e dir.Write n event
    among = record { own = own; across = across }
      where
        own : (m : ℕ) → beat_among g m dir.Write t event ≡ Moves (if same_group (group_after g e t) m then n else 0)
        own m = ap (λ c. Moves (if same_group (group_after g e t) m then (if c then n else 0) else 0)) (same_end-refl e)

        across : (m : ℕ) (f : Dir) → f ≢ dir.Write → beat_among g m f t event ≡ Moves 0
        across m dir.Write h = absurd (h refl)
        across m dir.Read h = ap Moves (either_zero (same_group (group_after g e t) m))

    took-grouped : Grouped g u took (spent (number e) dir.Write n s.groups)
    took-grouped =
        moved-grouped g t p s.groups e dir.Write n event among
        (λ m. served-turned g t p (mark e false w) ms k.reached m dir.Write) k.grouped took same
        (sym ((rated g k.reached).told e).group)

    side-fits : SideFits u (with_taken s e n) e
    side-fits =
        record {
          own = (took-fits e lt).holds.buffers;
          toward = (took-fits (peer e) lt).holds.buffers;
          allowed = allowed-is u (with_taken s e n) e took-gauged;
          shared =
              shared-is u (with_taken s e n) e took-grouped
              (length-set p.sides (number e) (active_at p.time dir.Write (side_at given e)) ∙ (stands-shape t marked s k).sides);
        }

    -- the low mark is looked at with the model's length
    length-is : output_length (with_taken s e n) e ≡ rooms.output_length g P took e
    length-is =
        let a = read-silent t event (peer e) refl in
        output_length-fits u (with_taken s e n) e side-fits (live-same e ∙ live)
        ∙ (λ i. length (output (read_filter g took (peer e)) (a i) (flow_at took (peer e)))
        + length (raw_output (read_filter g took (peer e)) (write_filter g took e) (a i) (flow_at took (peer e))))

    after-is : with_plain (reasons.raise_write g P e took) (with_taken s e n) ≡ after_took s e n
    after-is =
        let low = (side_at took e).marks.write_low in
        sym (with_where (nat_le (rooms.output_length g P took e) low) (raise g e why.Write took) (with_taken s e n))
        ∙ ap (λ m. if nat_le m low then with_plain (raise g e why.Write took) (with_taken s e n) else with_taken s e n) (sym length-is)

    still : IsStill u u took (reasons.raise_write g P e took)
    still =
        let r = raised_write g P e took in
        still-due u u took took (reasons.raise_write g P e took) (still-same u u took (λ a. refl) (λ a. refl) (turns-same u)) r.0 r.1

    took-stands : StandsFor u (Stage.Serving ms) (after_took s e n)
    took-stands =
        subst (StandsFor u (Stage.Serving ms)) after-is (record {
          reached = Reaches.puts (entry.Write e room (write.Took n)) bytes k.reached (write-puts (write.Took n) bytes carries);
          accounts =
              entries_keep_accounts g t (at marked p) (at (Stage.Serving ms) (model.after_write g P e (write.Took n) p))
              (entry.Write e room (write.Took n)) bytes k.reached (write-puts (write.Took n) bytes carries) first k.accounts;
          many = length-set s.lanes (number (peer e)) new_lane ∙ k.many ∙ ap (λ m. 2 * m) (sym still.opened);
          each = λ a h.
              fits-same g u u took (reasons.raise_write g P e took) a (lane_in lanes a) (lane_in lanes a)
              (still-sight u u took (reasons.raise_write g P e took) a still) refl (took-fits a (subst (λ m. a.link < m) still.opened h));
          groups = k.groups;
          gauged = still-gauged u u took (reasons.raise_write g P e took) (gauges_after e dir.Write n s) still took-gauged;
          grouped = still-grouped g u u took (reasons.raise_write g P e took) (spent (number e) dir.Write n s.groups) still took-grouped;
        })

  -- a write of exactly what is offered to the side, whatever is answered but want of memory
  pub write-stands : (answer : WriteAnswer) → WriteWithin answer (write_room s e) → answer ≢ write.NoMemory →
      StandsFor (t ++ (entry.Write e (write_room s e) answer, took_bytes answer (offer s e)) ∷ []) (Stage.Serving ms)
      (after_write s e answer)
  write-stands (write.Took n) within done = took-stands n (let a = within.0 in omega arith) within.1
  write-stands write.NotYet within done =
      put-stands t marked (Stage.Serving ms) s p (entry.Write e room write.NotYet) [] k (write-puts write.NotYet [] refl) tt
      (still-event t (entry.Write e room write.NotYet, []) p p (still-same t t p (λ a. refl) (λ a. refl) (turns-same t)) (λ a. refl)
      (λ a. refl) (λ a. (refl, refl)))
  write-stands write.Failed within done =
      put-stands t marked (Stage.Serving ms) s (model.after_write g P e write.Failed p) (entry.Write e room write.Failed) [] k
      (write-puts write.Failed [] refl) tt
      (still-event t (entry.Write e room write.Failed, []) p (model.after_write g P e write.Failed p)
      (still-raised g t p e (λ x. record x { failed = true; writes = false }) (happened dir.Write error_flag) (λ z. refl) (λ z. refl)
      (λ z. refl))
      (λ a. refl) (λ a. refl) (λ a. (refl, refl)))
  write-stands write.NoMemory within done = absurd (done refl)

-- what is offered is as many bytes as may be written
pub offer-length : (s : State) (e : SideId) → length (offer s e) ≡ write_room s e
offer-length s e = length-take-le (write_room s e) (waiting_for s e) (by_test (may_write s.plain e))
  where
    by_test : (b : Bool) →
        (if b then within_rates s e dir.Write (min most_at_once (length (waiting_for s e))) else 0) ≤ length (waiting_for s e)
    by_test true = let b = within_rates-le s e (min most_at_once (length (waiting_for s e))) in omega (arith, b)
    by_test false = omega arith
