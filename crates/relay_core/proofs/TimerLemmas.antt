-- Timers that have come are taken one by one, each raising its reason, until none is left that has.
use Rattle.std.proofs.Common.{◌≡◌, ◌<◌, ℕ, Bool, true, false, ◌&&◌, if◌then◌else◌, List, [], length, fold, refl, sym, ◌∙◌, ap, arith}
use Rattle.ev_types.specs.declared.side.SideId.{SideId}
use Rattle.ev_types.specs.declared.why.Why.{Why}
use Rattle.ev_types.specs.declared.why.Why.TheVariants as why
use Rattle.relay_model.specs.Settings.{Settings}
use Rattle.relay_model.specs.Due.{with_reason}
use Rattle.relay_model.specs.Plain.{Plain, Timer, is_live}
use Rattle.relay_model.specs.Reasons.{has_hook, raise}
use Rattle.relay_model.specs.Moments.{timers_taken}
use Rattle.relay_state.specs.State.{State, with_plain}
use Rattle.relay_waits.specs.WaitsValue.{WaitsValue, due_by, due_after, IsFirstDue}
use Rattle.relay_core.specs.RelayValue.{RelayValue}
use Rattle.relay_core.specs.RelayView.{relay_of, state_over, state_with}
use Rattle.relay_core.specs.declared.ctl.Ctl.TheInside.{Inside}

-- the state once all timers that have come are taken
abbrev pub with_taken : State → State
with_taken s = with_plain (timers_taken s.settings s.plain) s

-- a plain state with other timers
abbrev pub with_timers : List Timer → Plain → Plain
with_timers timers p = record p { timers = timers }

-- a reason that becomes due leaves the timers
raise-timers : (g : Settings) (e : SideId) (y : Why) (timers : List Timer) (p : Plain) →
    raise g e y (with_timers timers p) ≡ with_timers timers (raise g e y p)
raise-timers g e y timers p = go (has_hook g e && is_live p e)
  where
    go : (b : Bool) → (if b then record (with_timers timers p) { due = with_reason e y p.due } else with_timers timers p)
        ≡ with_timers timers (if b then record p { due = with_reason e y p.due } else p)
    go true = refl
    go false = refl

-- and the time
raise-time : (g : Settings) (e : SideId) (y : Why) (p : Plain) → (raise g e y p).time ≡ p.time
raise-time g e y p = go (has_hook g e && is_live p e)
  where
    go : (b : Bool) → (if b then record p { due = with_reason e y p.due } else p).time ≡ p.time
    go true = refl
    go false = refl

-- how many timers have come
abbrev pub left_due : State → ℕ
left_due s = length (due_by s.plain.time s.plain.timers)

-- Where no timer has come, none is taken.
pub taken-none : (s : State) → due_by s.plain.time s.plain.timers ≡ [] → s.plain.timers ≡ due_after s.plain.time s.plain.timers →
    with_taken s ≡ s
taken-none s none all = λ i.
    with_plain (fold (λ p (x : Timer). raise s.settings x.side why.Timer p) (with_timers (sym all i) s.plain) (none i)) s

-- The first one that has come is taken and becomes due, and then the others.
pub taken-first : (s : State) (e : SideId) (timers : List Timer) → IsFirstDue s.plain.time e s.plain.timers timers →
    due_after s.plain.time timers ≡ due_after s.plain.time s.plain.timers →
    with_taken (with_plain (raise s.settings e why.Timer (with_timers timers s.plain)) (with_plain (with_timers timers s.plain) s)) ≡
    with_taken s
taken-first s e timers first later =
    let g : Settings = s.settings in
    let time : ℕ = s.plain.time in
    let R : Plain → Timer → Plain = λ p x. raise g x.side why.Timer p in
    let raised : Plain = raise g e why.Timer (with_timers timers s.plain) in
    let same_time : raised.time ≡ time = raise-time g e why.Timer (with_timers timers s.plain) in
    let own : raised.timers ≡ timers = ap (λ (p : Plain). p.timers) (raise-timers g e why.Timer timers s.plain) in
    let after : List Timer = due_after time s.plain.timers in
    let start : with_timers (due_after raised.time raised.timers) raised ≡ R (with_timers after s.plain)
    (record { side = e; deadline = first.0 }) =
    (λ i. with_timers (due_after (same_time i) (own i)) raised) ∙ ap (λ z. with_timers z raised) later
    ∙ sym (raise-timers g e why.Timer after (with_timers timers s.plain)) in
    ap (λ p. with_plain p s)
    ((λ i. fold R (start i) (due_by (same_time i) (own i)))
    ∙ ap (fold R (with_timers after s.plain)) (sym first.1))

-- One is taken of what waits in the relay.
module _ (v : RelayValue) (r : Inside) (w : WaitsValue) (e : SideId) (is : relay_of r ≡ v)
    (rest : w ≡ record (r.waits) { timers = w.timers })
    (first : IsFirstDue r.time e r.waits.timers w.timers) (new : State)
    (raised : new ≡ with_plain (raise (state_over r r.sides.links w).settings e why.Timer (state_over r r.sides.links w).plain)
    (state_over r r.sides.links w)) where
  abbrev s : State
  s = state_with r r.sides.links

  abbrev mid : State
  mid = with_plain (with_timers w.timers s.plain) s

  same_mid : state_over r r.sides.links w ≡ mid
  same_mid = ap (state_over r r.sides.links) rest

  new_is : new ≡ with_plain (raise mid.settings e why.Timer mid.plain) mid
  new_is = raised ∙ ap (λ (z : State). with_plain (raise z.settings e why.Timer z.plain) z) same_mid

  pub taken-step : due_after r.time w.timers ≡ due_after r.time r.waits.timers → with_taken new ≡ with_taken v.state
  taken-step later =
      ap with_taken new_is ∙ taken-first s e w.timers first later ∙ ap (λ (z : RelayValue). with_taken z.state) is

  pub taken-less : left_due new < left_due v.state
  taken-less =
      let g = s.settings in
      let p : Plain = with_timers w.timers s.plain in
      let a : left_due new ≡ length (due_by r.time w.timers) =
      ap left_due new_is
      ∙ (λ i. length (due_by (raise-time g e why.Timer p i)
      (ap (λ (q : Plain). q.timers) (raise-timers g e why.Timer w.timers s.plain) i))) in
      let b : left_due v.state ≡ length (due_by r.time r.waits.timers) = ap (λ (z : RelayValue). left_due z.state) (sym is) in
      let c = ap length first.1 in
      omega (arith, a, b, c)
