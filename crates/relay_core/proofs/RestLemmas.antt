-- The moments of the sides that rest are when their buckets gain again.
use Rattle.std.specs.Prelude.{option_to_list}
use Rattle.std.proofs.Common.{◌≡◌, ℕ, ◌-◌, ◌<◌, min, false, Option, Some, None, inl, inr, refl, sym, ◌∙◌, ap}
use Rattle.std.proofs.Common.{subst, arith}
use Rattle.std.proofs.lemmas.Bool.{cases_lt}
use Rattle.ev_types.specs.declared.side.SideId.{SideId}
use Rattle.ev_types.specs.Sides.{number}
use Rattle.relay_model.specs.Moments.{earliest}
use Rattle.relay_model.specs.Plain.{all_sides, sides_from, side_at}
use Rattle.relay_state.specs.State.{State, gauge_at}
use Rattle.resting_links.specs.RestingValue.{side_moment, IsFirstMoment}
use Rattle.relay_sides.specs.Links as links
use Rattle.relay_core.specs.RelayView.{state_with, relay_of, IsSound}
use Rattle.relay_core.specs.RelayValue.{RelayValue}
use Rattle.relay_core.specs.Timeless.{side_gains, IsResting, IsStillSide}
use Rattle.relay_core.specs.Waits.{earlier, gain_of, gains}
use Rattle.relay_core.specs.declared.ctl.Ctl.TheInside.{Inside}
use Rattle.relay_core.proofs.GainLemmas.{gain-side}
use Rattle.relay_core.proofs.WaitLemmas.{earlier-none, earliest-one, counted-in}

module _ (r : Inside) (h : IsSound r) where
  abbrev s : State
  s = state_with r r.sides.links

  -- what is told of a side that rests
  gain-resting : (e : SideId) → e.link < s.plain.opened → r.resting.watched.has e.link ≡ false →
      gain_of s e ≡ option_to_list (side_moment r.resting e)
  gain-resting e below out = gain-side s e ∙ sym (h.watching.beside e below out).gains

  -- it is not before the first moment
  late : (first : Option ℕ) → IsFirstMoment r.resting first → (e : SideId) → e.link < s.plain.opened →
      r.resting.watched.has e.link ≡ false → earlier first (earliest (gain_of s e)) ≡ first
  late first is e below out =
      ap (λ xs. earlier first (earliest xs)) (gain-resting e below out) ∙ ap (earlier first) (earliest-one (side_moment r.resting e))
      ∙ by first is (side_moment r.resting e) refl
    where
      by : (first : Option ℕ) → IsFirstMoment r.resting first → (m : Option ℕ) → side_moment r.resting e ≡ m → earlier first m ≡ first
      by first is None at = earlier-none first
      by None is (Some m) at = absurd (let wrong : None ≡ Some m = sym (is (number e)) ∙ at in cc)
      by (Some f) is (Some m) at =
          let low = is.none_earlier (number e) m at in let same : min f m ≡ f = omega (arith, low) in ap Some same

  -- and the first moment is one of those
  first_in : (first : Option ℕ) → IsFirstMoment r.resting first →
      earlier first (earliest (gains s (all_sides s.plain))) ≡ earliest (gains s (all_sides s.plain))
  first_in None is = refl
  first_in (Some m) is =
      let e = is.of in
      let below : e.link < s.plain.opened = elim (cases_lt e.link s.plain.opened) as (λ _. e.link < s.plain.opened) [
        | inl lt ↦ lt
        | inr past ↦ absurd
            (let wrong : None ≡ Some m = sym (h.watching.absent (number e) (omega (arith, past))) ∙ is.stands in cc)
      ] in
      let all : s.plain.opened - 0 ≡ s.plain.opened = omega arith in
      subst (λ n. earlier (Some m) (earliest (gains s (sides_from 0 n))) ≡ earliest (gains s (sides_from 0 n))) all
      (counted-in (gain_of s) m e s.plain.opened 0 (omega arith) below
      (gain-resting e below is.unwatched ∙ ap option_to_list is.stands))

  -- so the value of the relay tells
  module _ (v : RelayValue) (is : relay_of r ≡ v) (first : Option ℕ) (told : IsFirstMoment r.resting first) where
    pub resting-late : (e : SideId) → e.link < v.state.plain.opened → v.watched.has e.link ≡ false →
        earlier first (earliest (gain_of v.state e)) ≡ first
    resting-late =
        subst (λ (z : RelayValue). (e : SideId) → e.link < z.state.plain.opened → z.watched.has e.link ≡ false →
        earlier first (earliest (gain_of z.state e)) ≡ first) is (late first told)

    pub resting-first : earlier first (earliest (gains v.state (all_sides v.state.plain)))
        ≡ earliest (gains v.state (all_sides v.state.plain))
    resting-first =
        subst (λ (z : RelayValue). earlier first (earliest (gains z.state (all_sides z.state.plain)))
        ≡ earliest (gains z.state (all_sides z.state.plain))) is (first_in first told)

  -- a side may rest that has no timeout and has not expired, until this moment
  pub resting_by : (e : SideId) (m : Option ℕ) (v : RelayValue) → relay_of r ≡ v → IsStillSide v.state e →
      option_to_list m ≡ side_gains v.state.plain.time (side_at v.state.plain e) (gauge_at v.state e) →
      IsResting m r.time (links.side_at r.sides.links e) (links.gauge_at r.sides.links e)
  resting_by e m v is still gain =
      let p = subst (λ (z : RelayValue). IsStillSide z.state e) (sym is) still in
      record {
        reads = p.reads;
        writes = p.writes;
        unexpired = p.unexpired;
        gains = gain ∙ ap (λ (z : RelayValue). side_gains z.state.plain.time (side_at z.state.plain e) (gauge_at z.state e)) (sym is);
      }
