-- A marked side is read: the read is the one that the model calls for, and what its answer changes is what it changes there.
use Rattle.std.proofs.Common.{length, ◌≡◌, ◌≢◌, ℕ, ◌*◌, ◌-◌, ◌<◌, Bool, true, false, not, ◌||◌, nat_le, min, if◌then◌else◌, List, [], ◌∷◌}
use Rattle.std.proofs.Common.{◌++◌, slice_set, refl, sym, ◌∙◌, ap, subst}
use Rattle.std.specs.Prelude.{nat_lt, is_some}
use Rattle.std.proofs.lemmas.List.{length-set}
use Rattle.token_bucket.specs.declared.limit.Dir.TheVariants as dir
use Rattle.ev_types.specs.declared.side.SideId.{SideId}
use Rattle.ev_types.specs.declared.answer.ReadAnswer.{ReadAnswer}
use Rattle.ev_types.specs.declared.answer.ReadAnswer.TheVariants as read
use Rattle.ev_types.specs.declared.entry.Entry.TheVariants as entry
use Rattle.ev_types.specs.Sides.{number, peer, same_end}
use Rattle.ev_types.specs.Trace.{Event, Trace}
use Rattle.relay_model.specs.Trace.{bytes_read, has_ended}
use Rattle.relay_model.specs.Settings.{Settings}
use Rattle.relay_model.specs.Plain.{Plain, PlainSide, side_at, flow_at, is_live, change_side}
use Rattle.relay_model.specs.Past.{Past, past}
use Rattle.relay_model.specs.Moments.{active_at}
use Rattle.relay_model.specs.Rooms.{Want, most_at_once, read_mark, may_read, is_connecting}
use Rattle.relay_model.specs.Reasons.{happened, end_flag, error_flag}
use Rattle.relay_model.specs.Serve as model
use Rattle.relay_model.specs.Serve.{Call, call_for, CarriesGot}
use Rattle.relay_model.specs.Stages.{Stage, at}
use Rattle.relay_model.specs.Turn.{Puts, Reaches, after_reading}
use Rattle.relay_model.proofs.EndLemmas.{same_end-refl}
use Rattle.relay_model.proofs.PlacedLemmas.{MayRead, may_read-parts}
use Rattle.relay_model.proofs.PlainLemmas.{seen-change}
use Rattle.relay_model.proofs.ToldLemmas.{kept}
use Rattle.relay_model.proofs.TraceLemmas.{bytes_read-push, has_ended-push}
use Rattle.relay_model.proofs.AccountedLemmas.{entries_keep_accounts}
use Rattle.relay_state.specs.State.{State, Lane, lane_at, lane_got}
use Rattle.relay_state.specs.Rooms.{input_length, read_room}
use Rattle.relay_state.specs.Serving.{with_got, after_read}
use Rattle.relay_state.specs.Rooms.{within_rates}
use Rattle.relay_steps.proofs.StillSteps.{still-rates}
use Rattle.relay_steps.specs.Meaning.{LaneFits, StandsFor}
use Rattle.relay_steps.proofs.EndLemmas.{same_end-apart, read-silent, ended-silent}
use Rattle.relay_steps.proofs.FitLemmas.{sight, FitsSight, seen-fits, fits-seen, lane-set, lane-set_other}
use Rattle.relay_steps.proofs.PassSteps.{filtering-stands}
use Rattle.relay_steps.proofs.LaneSteps.{fits-got, fits-ended}
use Rattle.relay_model.proofs.Frames.{rates_of}
use Rattle.relay_model.specs.Groups.{same_group, group_after, beat_among}
use Rattle.relay_model.proofs.PastLemmas.{either_zero}
use Rattle.relay_model.proofs.RatesLaw.{rated}
use Rattle.relay_steps.proofs.RateLemmas.{SameGauged, turns-same, turns-none, gauged-same}
use Rattle.relay_steps.proofs.GroupedSteps.{MovesAmong, moved-grouped, grouped-same}
use Rattle.relay_steps.proofs.TurnedLemmas.{served-turned}
use Rattle.relay_steps.proofs.MovedSteps.{MovesAt, moved-gauged}
use Rattle.relay_steps.proofs.BeforeLemmas.{set-before}
use Rattle.relay_model.specs.Rates.{beat_of}
use Rattle.token_bucket.specs.Spells.{Moves}
use Rattle.token_bucket.specs.declared.limit.Dir.{Dir}
use Rattle.relay_steps.proofs.StillSteps.{IsStill, put-stands, still-same, still-event, still-raised, sight-of, one-fits, lane_in, in_lanes}
use Rattle.relay_steps.proofs.ServeSteps.{if_true, some-may, one_or_more, mark, call-is, marks-are}

not_true : (b : Bool) → not b ≡ true → b ≡ false
not_true true h = absurd (cc)
not_true false h = refl

or_true : (b : Bool) → (b || true) ≡ true
or_true true = refl
or_true false = refl

other_end : (e a : SideId) → a ≢ e → same_end e a ≡ false
other_end e a h = same_end-apart e a (λ q. h (sym q))

module _ (t : Trace) (s : State) (e : SideId) (r w : Bool) (ms : List Want) (k : StandsFor t (Stage.Serving (mark e r w ∷ ms)) s)
    (lt : e.link < s.plain.opened) (q : is_connecting s.plain e ≡ false) (l : r ≡ true) (some : nat_lt 0 (read_room s e) ≡ true) where
  abbrev g : Settings
  g = s.settings

  abbrev P : Past
  P = past s.settings t

  abbrev p : Plain
  p = s.plain

  abbrev room : ℕ
  room = read_room s e

  abbrev marked : Stage
  marked = Stage.Serving (mark e r w ∷ ms)

  abbrev marks : List Want
  marks = mark e false w ∷ ms

  read-called : call_for g P p (mark e r w) ≡ Call.AskRead (read_room s e)
  read-called =
      call-is t s e r w ms k lt false true q l
      ∙ if_true (nat_le 1 room) (Call.AskRead room) Call.Nothing (one_or_more room ∙ some)

  read-puts : (answer : ReadAnswer) (bytes : List ℕ) → CarriesGot answer (read_room s e) bytes →
      Puts g t marked p (entry.Read e (read_room s e) answer) bytes
      (at (after_reading e answer (mark e false w ∷ ms)) (model.after_read g e answer p))
  read-puts answer bytes carries = (
    refl,
    read-called,
    carries,
    ap (λ z. at (after_reading e answer z) (model.after_read g e answer p)) (sym (marks-are t s e r w ms k lt false true q l)),
  )

  parts : MayRead p e
  parts =
      may_read-parts p e
      (some-may (may_read p e) (within_rates s e dir.Read (min most_at_once (read_mark p e - input_length s e))) some)

  -- the trace tells what the plain state has
  not_ended : has_ended e t ≡ false
  not_ended =
      sym ((kept g t (at marked p) k.reached).each e lt).ended
      ∙ not_true (side_at p e).ended parts.ended

  -- bytes were got, over which the read filter is yet to run
  module _ (n : ℕ) (bytes : List ℕ) (carries : CarriesGot (read.Got n) (read_room s e) bytes) where
    abbrev event : Event
    event = (entry.Read e (read_room s e) (read.Got n), bytes)

    abbrev u : Trace
    u = t ++ event ∷ []

    abbrev active : Plain
    active = change_side e (active_at p.time dir.Read) p

    abbrev new_lane : Lane
    new_lane = lane_got bytes (lane_at s e)

    abbrev lanes : List Lane
    lanes = slice_set s.lanes (number e) new_lane

    live-same : (z : SideId) → is_live active z ≡ is_live p z
    live-same z = seen-change (λ x. x.live) e z (active_at p.time dir.Read) p (λ x. refl)

    marked-same : (z : SideId) → is_some (side_at active z).bad ≡ is_some (side_at p z).bad
    marked-same z = seen-change (λ x. is_some x.bad) e z (active_at p.time dir.Read) p (λ x. refl)

    sight-own : sight u active e ≡ record (sight t p e) { read = bytes_read e t ++ bytes }
    sight-own =
        sight-of t u p active e (bytes_read e t ++ bytes) (has_ended e t) (flow_at p e)
        (bytes_read-push e t event ∙ ap (λ b. bytes_read e t ++ (if b then bytes else [])) (same_end-refl e))
        (ended-silent t event e refl) refl live-same marked-same

    sight-rest : (a : SideId) → a ≢ e → sight u active a ≡ sight t p a
    sight-rest a h =
        sight-of t u p active a (bytes_read a t) (has_ended a t) (flow_at p a)
        (read-silent t event a (ap (λ b. if b then bytes else []) (other_end e a h)))
        (ended-silent t event a refl) refl live-same marked-same

    lane-own : lane_in lanes e ≡ new_lane
    lane-own = lane-set s e new_lane (in_lanes t marked s e k lt)

    moves : MovesAt e dir.Read (length bytes) event
    moves = record {
      own = ap (λ b. Moves (if b then n else 0)) (same_end-refl e) ∙ ap Moves (sym carries.0);
      across = across;
      others = λ a h. others a h;
    }
      where
        across : (f : Dir) → f ≢ dir.Read → beat_of e f event ≡ Moves 0
        across dir.Read h = absurd (h refl)
        across dir.Write h = refl

        others : (a : SideId) → a ≢ e → (f : Dir) → beat_of a f event ≡ Moves 0
        others a h dir.Read = ap (λ b. Moves (if b then n else 0)) (other_end e a h)
        others a h dir.Write = refl

    same : SameGauged p active
    same = record {
      opened = refl;
      time = refl;
      rates = λ a. seen-change rates_of e a (active_at p.time dir.Read) p (λ x. refl);
      live = live-same;
    }

    among : MovesAmong g t e dir.Read (length bytes) event
    among = record { own = own; across = across }
      where
        own : (m : ℕ) → beat_among g m dir.Read t event ≡ Moves (if same_group (group_after g e t) m then length bytes else 0)
        own m =
            let b : Bool = same_group (group_after g e t) m in
            ap (λ c. Moves (if b then (if c then n else 0) else 0)) (same_end-refl e)
            ∙ ap (λ c. Moves (if b then c else 0)) (sym carries.0)

        across : (m : ℕ) (f : Dir) → f ≢ dir.Read → beat_among g m f t event ≡ Moves 0
        across m dir.Read h = absurd (h refl)
        across m dir.Write h = ap Moves (either_zero (same_group (group_after g e t) m))

    got-fits : LaneFits g u active e (lane_in lanes e)
    got-fits =
        fits-seen g u active p e (lane_in lanes e)
        (subst (λ z. FitsSight g p e z (lane_in lanes e)) (sym sight-own)
        (subst (FitsSight g p e (record (sight t p e) { read = bytes_read e t ++ bytes })) (sym lane-own)
        (fits-got g p e (sight t p e) (lane_at s e) (seen-fits g t p e (lane_at s e) (k.each e lt)) bytes parts.live not_ended
        (k.accounts e).fits.used)))

    pub got-put-stands :
        StandsFor (t ++ (entry.Read e (read_room s e) (read.Got n), bytes) ∷ []) (Stage.Filtering e (mark e false w ∷ ms))
        (with_got s e bytes)
    got-put-stands = record {
      reached = Reaches.puts (entry.Read e room (read.Got n)) bytes k.reached (read-puts (read.Got n) bytes carries);
      accounts =
          entries_keep_accounts g t (at marked p) (at (Stage.Filtering e marks) active) (entry.Read e room (read.Got n)) bytes k.reached
          (read-puts (read.Got n) bytes carries) tt k.accounts;
      many = length-set s.lanes (number e) new_lane ∙ k.many;
      each = one-fits t u marked s active lanes e k sight-rest (λ a h. lane-set_other s e a new_lane h) got-fits;
      groups = k.groups;
      gauged =
          moved-gauged t event (length bytes) e dir.Read s moves active
          same lt (λ y is. set-before g t p (mark e r w) ms k.reached y is dir.Read) k.gauged;
      grouped =
          moved-grouped g t p s.groups e dir.Read (length bytes) event among
          (λ m. served-turned g t p (mark e r w) ms k.reached m dir.Read) k.grouped active same
          (sym ((rated g k.reached).told e).group);
    }

    got-stands :
        StandsFor (t ++ (entry.Read e (read_room s e) (read.Got n), bytes) ∷ []) (Stage.Serving (mark e false w ∷ ms))
        (after_read s e (read.Got n) bytes)
    got-stands =
        filtering-stands u e marks (with_got s e bytes) lt (live-same e ∙ parts.live) (live-same (peer e) ∙ parts.peer_live) got-put-stands

  -- the end has ended
  ended-stands :
      StandsFor (t ++ (entry.Read e (read_room s e) read.Ended, []) ∷ []) (Stage.Serving (mark e false w ∷ ms))
      (after_read s e read.Ended [])
  ended-stands =
      let x : Event = (entry.Read e room read.Ended, []) in
      let u : Trace = t ++ x ∷ [] in
      let new : Plain = model.after_read g e read.Ended p in
      let change : PlainSide → PlainSide = λ z. record z { ended = true; reads = false } in
      let still : IsStill t t p new = still-raised g t p e change (happened dir.Read end_flag) (λ z. refl) (λ z. refl) (λ z. refl) in
      let own : sight u new e ≡ record (sight t p e) { ended = true } =
      sight-of t u p new e (bytes_read e t) true (flow_at p e) (read-silent t x e refl)
      (has_ended-push e t x ∙ ap (λ b. has_ended e t || b) (same_end-refl e) ∙ or_true (has_ended e t)) (still.flow e)
      still.live still.marked in
      let rest : (a : SideId) → a ≢ e → sight u new a ≡ sight t p a =
      λ a h.
      sight-of t u p new a (bytes_read a t) (has_ended a t) (flow_at p a)
      (read-silent t x a refl) (ended-silent t x a (other_end e a h)) (still.flow a) still.live still.marked in
      let here : LaneFits g u new e (lane_at s e) =
      fits-seen g u new p e (lane_at s e)
      (subst (λ z. FitsSight g p e z (lane_at s e)) (sym own)
      (fits-ended g p e (sight t p e) (lane_at s e) (seen-fits g t p e (lane_at s e) (k.each e lt)))) in
      let each : (a : SideId) → a.link < s.plain.opened → LaneFits g u new a (lane_at s a) =
      one-fits t u marked s new s.lanes e k rest (λ a h. refl) here in
      record {
        reached = Reaches.puts (entry.Read e room read.Ended) [] k.reached (read-puts read.Ended [] refl);
        accounts =
            entries_keep_accounts g t (at marked p) (at (Stage.Serving marks) new) (entry.Read e room read.Ended) [] k.reached
            (read-puts read.Ended [] refl) tt k.accounts;
        many = k.many ∙ ap (λ n. 2 * n) (sym still.opened);
        each = λ a h. each a (subst (λ n. a.link < n) still.opened h);
        groups = k.groups;
        gauged =
            gauged-same t u p new s.gauges (still-rates t t p new still) (turns-none t x (λ a. (refl, refl))) k.gauged;
        grouped =
            grouped-same g t u p new s.groups (still-rates t t p new still) (turns-none t x (λ a. (refl, refl))) k.grouped;
      }

  -- a read with exactly the room of the side, whatever is answered
  pub read-stands : (answer : ReadAnswer) (bytes : List ℕ) → CarriesGot answer (read_room s e) bytes →
      StandsFor (t ++ (entry.Read e (read_room s e) answer, bytes) ∷ []) (Stage.Serving (mark e false w ∷ ms)) (after_read s e answer bytes)
  read-stands (read.Got n) bytes carries = got-stands n bytes carries
  read-stands read.Ended bytes carries =
      subst (λ z. StandsFor (t ++ (entry.Read e room read.Ended, z) ∷ []) (Stage.Serving marks) (after_read s e read.Ended []))
      (sym carries) ended-stands
  read-stands read.NotYet bytes carries =
      put-stands t marked (Stage.Serving marks) s p (entry.Read e room read.NotYet) bytes k (read-puts read.NotYet bytes carries) tt
      (still-event t (entry.Read e room read.NotYet, bytes) p p (still-same t t p (λ a. refl) (λ a. refl) (turns-same t)) (λ a. refl)
      (λ a. refl) (λ a. (refl, refl)))
  read-stands read.Failed bytes carries =
      put-stands t marked (Stage.Serving marks) s (model.after_read g e read.Failed p) (entry.Read e room read.Failed) bytes k
      (read-puts read.Failed bytes carries) tt
      (still-event t (entry.Read e room read.Failed, bytes) p (model.after_read g e read.Failed p)
      (still-raised g t p e (λ x. record x { failed = true; reads = false }) (happened dir.Read error_flag) (λ z. refl) (λ z. refl)
      (λ z. refl))
      (λ a. refl) (λ a. refl) (λ a. (refl, refl)))
