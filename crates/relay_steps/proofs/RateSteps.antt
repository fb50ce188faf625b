-- A limit is set by a hook: the relay's standing is the model's, and all buckets fit.
use Rattle.std.proofs.Common.{◌≡◌, ◌≢◌, ◌<◌, min, Option, Some, None, List, [], ◌∷◌, ◌++◌, length, refl, sym, ◌∙◌, ap, subst, arith, inl}
use Rattle.std.proofs.Common.{inr}
use Rattle.std.specs.Prelude.{is_some, slice_set, false}
use Rattle.std.proofs.lemmas.Bool.Decides.{eqb_tells}
use Rattle.std.proofs.lemmas.List.{length-set, get_or-set_same, get_or-set_other}
use Rattle.token_bucket.specs.declared.limit.Dir.{Dir}
use Rattle.token_bucket.specs.declared.limit.Dir.TheVariants as dir
use Rattle.token_bucket.specs.declared.limit.LimitCfg.{LimitCfg}
use Rattle.ev_types.specs.declared.side.SideId.{SideId}
use Rattle.ev_types.specs.Sides.{number}
use Rattle.ev_types.specs.Trace.{Event, Trace}
use Rattle.relay_model.specs.Trace.{read_by, ended_by, bytes_read, has_ended}
use Rattle.relay_model.specs.Settings.{Settings}
use Rattle.relay_model.specs.Plain.{Plain, PlainSide, Standing, first_limit, side_at, flow_at, change_side}
use Rattle.relay_model.specs.Past.{Past, past}
use Rattle.relay_model.specs.Asks.{limit_set, next_limit}
use Rattle.relay_model.specs.Rates.{side_spells}
use Rattle.relay_model.specs.Stages.{Stage}
use Rattle.relay_model.proofs.PlainLemmas.{seen-change}
use Rattle.relay_model.proofs.SpellLemmas.{spells-count}
use Rattle.relay_state.specs.State.{State, lane_at, gauge_in, gauge_at}
use Rattle.relay_state.specs.Running.{Gauge, no_gauge, gauge_set}
use Rattle.relay_state.specs.Asking.{limit_now}
use Rattle.relay_steps.specs.Gauges.{BucketFits, Gauged}
use Rattle.relay_steps.specs.Meaning.{LaneFits, StandsFor}
use Rattle.relay_steps.proofs.EndLemmas.{number-same, number-apart, number-below, read-silent, ended-silent}
use Rattle.relay_steps.proofs.FitLemmas.{fits-same, side-put, side-put_other}
use Rattle.relay_steps.proofs.GaugeSteps.{held-is, bucket-silent, bucket-first, bucket-next}
use Rattle.relay_steps.specs.Grouped.{Grouped}
use Rattle.relay_steps.proofs.GroupedSteps.{grouped-still}
use Rattle.relay_steps.proofs.RateLemmas.{Moveless, beat-none, turns-none}
use Rattle.relay_steps.proofs.StillSteps.{stands-shape, in_sides, sight-of}

same_some : {A : Type 0} (a b : A) → Some a ≡ Some b → a ≡ b
same_some a b h = cc

module _ (t : Trace) (x : Stage) (s : State) (k : StandsFor t x s) (e : SideId) (lt : e.link < s.plain.opened) (cfg : Option LimitCfg) where
  abbrev g : Settings
  g = s.settings

  abbrev p : Plain
  p = s.plain

  abbrev P : Past
  P = past s.settings t

  -- the relay's standing is the model's
  standing-is : (o : Option Standing) (c : Option LimitCfg) → (side_at p e).limit ≡ o → limit_now s e o c ≡ limit_set P p e o c
  standing-is o None is = refl
  standing-is None (Some c) is = refl
  standing-is (Some was) (Some c) is =
      let a = held-is t p.time was e (gauge_at s e) dir.Read (k.gauged.each e was is dir.Read) in
      let b = held-is t p.time was e (gauge_at s e) dir.Write (k.gauged.each e was is dir.Write) in
      λ i. Some
      (record { cfg = c; turn = p.turn; time = p.time; read_level = min (a i) c.read_burst; write_level = min (b i) c.write_burst })

  pub change-is : change_side e (λ z. record z { limit = limit_now s e z.limit cfg }) p
      ≡ change_side e (λ z. record z { limit = limit_set P p e z.limit cfg }) p
  change-is =
      let a = standing-is (side_at p e).limit cfg refl in
      λ i. record p { sides = slice_set p.sides (number e) (record (side_at p e) { limit = a i }) }

  abbrev q : Plain
  q = change_side e (λ z. record z { limit = limit_set P p e z.limit cfg }) p

  abbrev after : Gauge
  after = gauge_set (side_at p e).limit cfg p.time (gauge_at s e)

  abbrev gauges : List Gauge
  gauges = slice_set s.gauges (number e) after

  module _ (v : Event) (moves : Moveless v) where
    abbrev u : Trace
    u = t ++ v ∷ []

    turns : (d : Dir) → p.turn ≡ length (side_spells e d t)
    turns d = (stands-shape t x s k).turn ∙ sym (spells-count e d t)

    own : (o : Option Standing) (c : Option LimitCfg) → (side_at p e).limit ≡ o → (y : Standing) → limit_set P p e o c ≡ Some y →
        (d : Dir) → BucketFits u p.time y e (gauge_set o c p.time (gauge_at s e)) d
    own o None is y set d = absurd (let bad : None ≡ Some y = set in cc)
    own None (Some c) is y set d =
        let one : first_limit p.time p.turn c ≡ y = same_some (first_limit p.time p.turn c) y set in
        subst (λ z. BucketFits u p.time z e (gauge_set None (Some c) p.time (gauge_at s e)) d) one
        (bucket-silent t v p.time (first_limit p.time p.turn c) e (gauge_set None (Some c) p.time (gauge_at s e)) d (beat-none v moves e d)
        (bucket-first t p.time p.turn c e d (turns d)))
    own (Some was) (Some c) is y set d =
        let one : next_limit P p e was c ≡ y = same_some (next_limit P p e was c) y set in
        subst (λ z. BucketFits u p.time z e (gauge_set (Some was) (Some c) p.time (gauge_at s e)) d) one
        (bucket-silent t v p.time (next_limit P p e was c) e (gauge_set (Some was) (Some c) p.time (gauge_at s e)) d (beat-none v moves e d)
        (bucket-next g t p was c e (gauge_at s e) turns (k.gauged.each e was is) d))

    here : (side_at q e).limit ≡ limit_set P p e (side_at p e).limit cfg
    here = ap (λ (z : PlainSide). z.limit)
        (side-put p e (record (side_at p e) { limit = limit_set P p e (side_at p e).limit cfg }) (in_sides t x s e k lt))

    gauge-here : gauge_in gauges e ≡ after
    gauge-here = get_or-set_same s.gauges (number e) after no_gauge (let m = k.gauged.many in omega (arith, m, number-below e p.opened lt))

    pub set-gauged : Gauged u q gauges
    set-gauged = record {
      many = length-set s.gauges (number e) after ∙ k.gauged.many;
      each = λ a y is d. elim (eqb_tells (number a) (number e)) [
        | inl same ↦
            let one : a ≡ e = number-same a e same.1 in
            subst (λ z. BucketFits u p.time y z (gauge_in gauges z) d) (sym one)
            (subst (λ z. BucketFits u p.time y e z d) (sym gauge-here)
            (own (side_at p e).limit cfg refl y (sym here ∙ ap (λ z. (side_at q z).limit) (sym one) ∙ is) d))
        | inr apart ↦
            let away : a ≢ e = λ h. apart.1 (ap number h) in
            subst (λ z. BucketFits u p.time y a z d)
            (sym (get_or-set_other s.gauges (number e) (number a) after no_gauge (number-apart a e away)))
            (bucket-silent t v p.time y a (gauge_at s a) d (beat-none v moves a d)
            (k.gauged.each a y
            (sym (ap (λ (z : PlainSide). z.limit)
            (side-put_other p e a (record (side_at p e) { limit = limit_set P p e (side_at p e).limit cfg }) away)) ∙ is) d))
      ];
    }

    -- groups look at no limit of a side
    pub set-grouped : Grouped g u q s.groups
    set-grouped =
        grouped-still g t u p q s.groups
        (record {
          opened = refl;
          time = refl;
          group = λ a. seen-change (λ z. z.group) e a (λ z. record z { limit = limit_set P p e z.limit cfg }) p (λ z. refl);
          live = λ a. seen-change (λ z. z.live) e a (λ z. record z { limit = limit_set P p e z.limit cfg }) p (λ z. refl);
        }) (turns-none t v moves) k.grouped

    -- lanes look at no limit
    pub set-fits : ((a : SideId) → read_by a v ≡ []) → ((a : SideId) → ended_by a v ≡ false) → (a : SideId) →
        a.link < p.opened → LaneFits g u q a (lane_at s a)
    set-fits read ended a there =
        fits-same g t u p q a (lane_at s a) (lane_at s a)
        (sight-of t u p q a (bytes_read a t) (has_ended a t) (flow_at p a) (read-silent t v a (read a)) (ended-silent t v a (ended a)) refl
        (λ z. seen-change (λ y. y.live) e z (λ y. record y { limit = limit_set P p e y.limit cfg }) p (λ y. refl))
        (λ z. seen-change (λ y. is_some y.bad) e z (λ y. record y { limit = limit_set P p e y.limit cfg }) p (λ y. refl)))
        refl (k.each a there)
