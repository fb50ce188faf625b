-- A side goes to a group, or out of its group: its lanes and all buckets go on fitting, and so do the groups.
use Rattle.std.proofs.Common.{◌≡◌, ◌≢◌, ◌<◌, inl, inr, ℕ, true, false, [], ◌∷◌, ◌++◌, length, Option, Some, None, refl, sym, ◌∙◌, ap}
use Rattle.std.specs.Prelude.{is_some}
use Rattle.std.proofs.lemmas.Bool.Decides.{eqb_tells}
use Rattle.ev_types.specs.declared.side.SideId.{SideId}
use Rattle.ev_types.specs.Sides.{number}
use Rattle.ev_types.specs.Trace.{Event, Trace}
use Rattle.relay_model.specs.Trace.{read_by, ended_by, bytes_read, has_ended}
use Rattle.relay_model.specs.Settings.{Settings}
use Rattle.relay_model.specs.Plain.{Plain, PlainSide, side_at, flow_at, is_live, change_side}
use Rattle.relay_model.specs.Stages.{Stage}
use Rattle.relay_model.proofs.PlainLemmas.{seen-change}
use Rattle.relay_state.specs.State.{State, lane_at}
use Rattle.relay_steps.specs.Gauges.{Gauged}
use Rattle.relay_steps.specs.Grouped.{Grouped}
use Rattle.relay_steps.specs.Meaning.{LaneFits, StandsFor}
use Rattle.relay_steps.proofs.EndLemmas.{number-same, read-silent, ended-silent}
use Rattle.relay_steps.proofs.FitLemmas.{fits-same, side-put, side-put_other}
use Rattle.relay_steps.proofs.RateLemmas.{Moveless, spells-none, turns-none}
use Rattle.relay_steps.proofs.GaugeSteps.{bucket-same}
use Rattle.relay_steps.proofs.MembershipSteps.{moved_to, regrouped}
use Rattle.relay_steps.proofs.StillSteps.{in_sides, sight-of}

module _ (t : Trace) (x : Stage) (s : State) (k : StandsFor t x s) (e : SideId) (lt : e.link < s.plain.opened) (o : Option ℕ) where
  abbrev g : Settings
  g = s.settings

  abbrev p : Plain
  p = s.plain

  abbrev q : Plain
  q = change_side e (λ z. record z { group = o }) p

  here : side_at q e ≡ record (side_at p e) { group = o }
  here = side-put p e (record (side_at p e) { group = o }) (in_sides t x s e k lt)

  there : (a : SideId) → a ≢ e → side_at q a ≡ side_at p a
  there a away = side-put_other p e a (record (side_at p e) { group = o }) away

  module _ (v : Event) (moves : Moveless v) where
    abbrev u : Trace
    u = t ++ v ∷ []

    -- buckets of sides look at no group
    pub joined-gauged : Gauged u q s.gauges
    joined-gauged = record {
      many = k.gauged.many;
      each = λ a y is d.
          bucket-same t u p.time y a _ d (spells-none t v moves a d)
          (k.gauged.each a y (sym (seen-change (λ z. z.limit) e a (λ z. record z { group = o }) p (λ z. refl)) ∙ is) d);
    }

    pub joined-grouped : is_live p e ≡ true → ((n : ℕ) → o ≡ Some n → n < length s.settings.groups) → Grouped g u q (moved_to o e s.groups)
    joined-grouped live within =
        regrouped g t u p q s.groups e o (turns-none t v moves) k.grouped lt refl refl (ap (λ (z : PlainSide). z.group) here)
        (λ a away. ap (λ (z : PlainSide). z.group) (there a away)) within gone
      where
        gone : (a : SideId) → is_live q a ≡ false → (side_at q a).group ≡ None
        gone a dead = elim (eqb_tells (number a) (number e)) [
          | inl same ↦
              let is : a ≡ e = number-same a e same.1 in
              let alive : is_live q a ≡ true = ap (is_live q) is ∙ ap (λ (z : PlainSide). z.live) here ∙ live in
              absurd (let bad : true ≡ false = sym alive ∙ dead in cc)
          | inr apart ↦
              let away : a ≢ e = λ h. apart.1 (ap number h) in
              ap (λ (z : PlainSide). z.group) (there a away)
              ∙ k.grouped.freed a (sym (ap (λ (z : PlainSide). z.live) (there a away)) ∙ dead)
        ]

    -- lanes look at no group
    pub joined-fits : ((a : SideId) → read_by a v ≡ []) → ((a : SideId) → ended_by a v ≡ false) → (a : SideId) →
        a.link < p.opened → LaneFits g u q a (lane_at s a)
    joined-fits read ended a inside =
        fits-same g t u p q a (lane_at s a) (lane_at s a)
        (sight-of t u p q a (bytes_read a t) (has_ended a t) (flow_at p a) (read-silent t v a (read a)) (ended-silent t v a (ended a)) refl
        (λ z. seen-change (λ y. y.live) e z (λ y. record y { group = o }) p (λ y. refl))
        (λ z. seen-change (λ y. is_some y.bad) e z (λ y. record y { group = o }) p (λ y. refl)))
        refl (k.each a inside)
