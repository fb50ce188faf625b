-- A side is freed: each lane goes on fitting. Of the two lanes of the side, what belongs to it is dropped.
use Rattle.std.proofs.Common.{◌≡◌, ◌≢◌, ◌*◌, ◌<◌, false, [], ◌∷◌, ◌++◌, length, None, inl, inr, refl, sym, ◌∙◌, ap, subst}
use Rattle.std.specs.Prelude.{is_some}
use Rattle.std.proofs.lemmas.List.{length-set}
use Rattle.std.proofs.lemmas.Bool.Decides.{eqb_tells}
use Rattle.ev_types.specs.declared.side.SideId.{SideId}
use Rattle.ev_types.specs.Sides.{number, peer}
use Rattle.ev_types.specs.Trace.{Event, Trace}
use Rattle.relay_model.specs.Settings.{Settings}
use Rattle.relay_model.specs.Conserved.{Buffers}
use Rattle.relay_model.specs.Due.{without_due}
use Rattle.relay_model.specs.Plain as plain
use Rattle.relay_model.specs.Plain.{Plain, PlainSide, side_at, is_live, without_timer}
use Rattle.relay_model.specs.Trace.{read_by, ended_by}
use Rattle.relay_model.specs.Stages.{Stage}
use Rattle.relay_state.specs.State.{State, Lane, lane_at, with_plain, with_lane, lane_left, lane_lost}
use Rattle.relay_state.specs.Closing.{freed, without_batch, without_group}
use Rattle.relay_model.proofs.RatesTold.{freed-limit}
use Rattle.relay_steps.specs.Gauges.{Gauged}
use Rattle.relay_steps.specs.Grouped.{Grouped}
use Rattle.relay_steps.proofs.MembershipSteps.{regrouped}
use Rattle.relay_steps.proofs.RateLemmas.{Moveless, SameGauged, turns-none, gauged-same}
use Rattle.relay_steps.specs.Meaning.{LaneFits, StandsFor}
use Rattle.relay_steps.proofs.EndLemmas.{peer-peer, peer-apart, peer-moves, by_side, number-same, read-silent, ended-silent}
use Rattle.relay_steps.proofs.FitLemmas.{Sight, sight, FitsSight, seen-fits, fits-seen, fits-same, lane-set, lane-set_other, side-put}
use Rattle.relay_steps.proofs.FitLemmas.{side-put_other}
use Rattle.relay_steps.proofs.StillSteps.{in_sides, in_lanes}

-- the side is freed that a lane begins at
pub fits-left : (g : Settings) (p : Plain) (e : SideId) (z : Sight) (l : Lane) → FitsSight g p e z l →
    FitsSight g p e (record z { from_live = false }) (lane_left l)
fits-left g p e z l k = record {
  holds = record {
    buffers = ap (λ (b : Buffers). record b { raw_input = []; input = [] }) k.holds.buffers;
    reads = λ h. absurd (cc);
    writes = k.holds.writes;
  };
  read = k.read;
  read_made = k.read_made;
  write_made = k.write_made;
  reader_marks = k.reader_marks;
  writer_marks = k.writer_marks;
}

-- the side is freed that it ends at
pub fits-lost : (g : Settings) (p : Plain) (e : SideId) (z : Sight) (l : Lane) → FitsSight g p e z l →
    FitsSight g p e (record z { to_live = false }) (lane_lost l)
fits-lost g p e z l k = record {
  holds = record {
    buffers = ap (λ (b : Buffers). record b { output = []; raw_output = [] }) k.holds.buffers;
    reads = k.holds.reads;
    writes = λ h. absurd (cc);
  };
  read = k.read;
  read_made = k.read_made;
  write_made = k.write_made;
  reader_marks = k.reader_marks;
  writer_marks = k.writer_marks;
}

module _ (t : Trace) (x : Stage) (s : State) (e : SideId) (k : StandsFor t x s) (lt : e.link < s.plain.opened) where
  abbrev g : Settings
  g = s.settings

  abbrev p : Plain
  p = s.plain

  abbrev q : Plain
  q = plain.freed e s.plain

  abbrev gone : PlainSide
  gone = record (side_at s.plain e) { live = false; group = None }

  abbrev cleared : Plain
  cleared = record s.plain { timers = without_timer e s.plain.timers; due = without_due e s.plain.due }

  -- the side that is freed, and each other
  freed-here : side_at (plain.freed e s.plain) e ≡ gone
  freed-here = side-put cleared e gone (in_sides t x s e k lt)

  freed-there : (a : SideId) → a ≢ e → side_at (plain.freed e s.plain) a ≡ side_at s.plain a
  freed-there a h = side-put_other cleared e a gone h

  abbrev base : State
  base = with_plain q (without_group e (without_batch e s))

  abbrev own : State
  own = with_lane e (lane_left (lane_at s e)) base

  lane-own : lane_at (freed e s) e ≡ lane_left (lane_at s e)
  lane-own =
      lane-set_other own (peer e) e (lane_lost (lane_at own (peer e))) (λ h. peer-apart e (sym h))
      ∙ lane-set base e (lane_left (lane_at s e)) (in_lanes t x s e k lt)

  lane-far : lane_at (freed e s) (peer e) ≡ lane_lost (lane_at s (peer e))
  lane-far =
      lane-set own (peer e) (lane_lost (lane_at own (peer e)))
      (subst (λ n. number (peer e) < n) (sym (length-set s.lanes (number e) (lane_left (lane_at s e)))) (in_lanes t x s (peer e) k lt))
      ∙ ap lane_lost (lane-set_other base e (peer e) (lane_left (lane_at s e)) (peer-apart e))

  lane-rest : (a : SideId) → a ≢ e → a ≢ peer e → lane_at (freed e s) a ≡ lane_at s a
  lane-rest a h j =
      lane-set_other own (peer e) a (lane_lost (lane_at own (peer e))) j
      ∙ lane-set_other base e a (lane_left (lane_at s e)) h

  -- behind any event that tells nothing of read bytes and ends
  module _ (event : Event) (read : (a : SideId) → read_by a event ≡ []) (ended : (a : SideId) → ended_by a event ≡ false) where
    abbrev u : Trace
    u = t ++ event ∷ []

    sight-own : sight u q e ≡ record (sight t p e) { from_live = false }
    sight-own =
        let a = read-silent t event e (read e) in
        let b = ended-silent t event e (ended e) in
        let c = freed-here in
        let d = freed-there (peer e) (peer-apart e) in
        λ i. record {
          read = a i;
          ended = b i;
          from_live = (c i).live;
          to_live = (d i).live;
          flow = plain.flow_at p e;
          from_marked = is_some (c i).bad;
          to_marked = is_some (d i).bad;
        }

    sight-far : sight u q (peer e) ≡ record (sight t p (peer e)) { to_live = false }
    sight-far =
        let a = read-silent t event (peer e) (read (peer e)) in
        let b = ended-silent t event (peer e) (ended (peer e)) in
        let c = freed-there (peer e) (peer-apart e) in
        let d : side_at q (peer (peer e)) ≡ record (side_at p (peer (peer e))) { live = false; group = None } =
        subst (λ z. side_at q z ≡ record (side_at p z) { live = false; group = None }) (sym (peer-peer e)) freed-here in
        λ i. record {
          read = a i;
          ended = b i;
          from_live = (c i).live;
          to_live = (d i).live;
          flow = plain.flow_at p (peer e);
          from_marked = is_some (c i).bad;
          to_marked = is_some (d i).bad;
        }

    sight-rest : (a : SideId) → a ≢ e → a ≢ peer e → sight u q a ≡ sight t p a
    sight-rest a h j =
        let r = read-silent t event a (read a) in
        let b = ended-silent t event a (ended a) in
        let c = freed-there a h in
        let d = freed-there (peer a) (peer-moves a e j) in
        λ i. record {
          read = r i;
          ended = b i;
          from_live = (c i).live;
          to_live = (d i).live;
          flow = plain.flow_at p a;
          from_marked = is_some (c i).bad;
          to_marked = is_some (d i).bad;
        }

    -- a lane that fits what is seen fits
    fitted : (a : SideId) (z : Sight) (l : Lane) → sight u q a ≡ z → lane_at (freed e s) a ≡ l → FitsSight g p a z l →
        LaneFits g u q a (lane_at (freed e s) a)
    fitted a z l see lane f =
        fits-seen g u q p a (lane_at (freed e s) a)
        (subst (λ y. FitsSight g p a y (lane_at (freed e s) a)) (sym see) (subst (FitsSight g p a z) (sym lane) f))

    pub freed-fits : (a : SideId) → a.link < s.plain.opened → LaneFits g u q a (lane_at (freed e s) a)
    freed-fits a there =
        by_side e a (λ z. z.link < s.plain.opened → LaneFits g u q z (lane_at (freed e s) z))
        (λ h. fitted e (record (sight t p e) { from_live = false }) (lane_left (lane_at s e)) sight-own lane-own
        (fits-left g p e (sight t p e) (lane_at s e) (seen-fits g t p e (lane_at s e) (k.each e h))))
        (λ h. fitted (peer e) (record (sight t p (peer e)) { to_live = false }) (lane_lost (lane_at s (peer e))) sight-far lane-far
        (fits-lost g p (peer e) (sight t p (peer e)) (lane_at s (peer e))
        (seen-fits g t p (peer e) (lane_at s (peer e)) (k.each (peer e) h))))
        (λ own far h.
        fits-same g t u p q a (lane_at s a) (lane_at (freed e s) a) (sight-rest a own far) (lane-rest a own far) (k.each a h)) there

  pub freed-gauged : (event : Event) → Moveless event → Gauged (t ++ event ∷ []) q s.gauges
  freed-gauged event moves =
      let same : SameGauged p (record q { sides = p.sides }) = record { opened = refl; time = refl; rates = λ a. refl; live = λ a. refl } in
      let past = gauged-same t (t ++ event ∷ []) p (record q { sides = p.sides }) s.gauges same (turns-none t event moves) k.gauged in
      record {
        many = past.many;
        each = λ a y is d. past.each a y (sym (freed-limit e a p) ∙ is) d;
      }

  pub freed-grouped : (event : Event) → Moveless event → Grouped s.settings (t ++ event ∷ []) q (freed e s).groups
  freed-grouped event moves =
      regrouped g t (t ++ event ∷ []) p q s.groups e None (turns-none t event moves) k.grouped lt refl refl
      (ap (λ (z : PlainSide). z.group) freed-here) (λ a away. ap (λ (z : PlainSide). z.group) (freed-there a away))
      (λ n bad. absurd (cc)) gone
    where
      gone : (a : SideId) → is_live q a ≡ false → (side_at q a).group ≡ None
      gone a dead = elim (eqb_tells (number a) (number e)) [
        | inl same ↦
            subst (λ z. (side_at q z).group ≡ None) (sym (number-same a e same.1)) (ap (λ (z : PlainSide). z.group) freed-here)
        | inr apart ↦
            let away : a ≢ e = λ h. apart.1 (ap number h) in
            ap (λ (z : PlainSide). z.group) (freed-there a away)
            ∙ k.grouped.freed a (sym (ap (λ (z : PlainSide). z.live) (freed-there a away)) ∙ dead)
      ]

  pub freed-many : length (freed e s).lanes ≡ 2 * s.plain.opened
  freed-many =
      length-set own.lanes (number (peer e)) (lane_lost (lane_at own (peer e)))
      ∙ length-set s.lanes (number e) (lane_left (lane_at s e))
      ∙ k.many
