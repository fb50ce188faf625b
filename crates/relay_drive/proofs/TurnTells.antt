-- What hooks tell of a whole turn: its dispatch alone puts entries of theirs. And what a turn is, from what is done in front of
-- dispatch, in it and behind it.
use Rattle.std.proofs.Common.{inl, inr, ◌++◌, [], None, List, Option, refl, sym, ◌∙◌, ap, subst, append_assoc, append-nil}
use Rattle.ev_types.specs.Trace.{Trace}
use Rattle.relay_steps.specs.Meaning.{StandsFor}
use Rattle.relay_model.specs.Stages.{Stage}
use Rattle.relay_state.specs.State.{State}
use Rattle.relay_drive.specs.declared.fault.DriveFault.{DriveFault}
use Rattle.relay_drive.specs.declared.fault.DriveFault.TheVariants as fault
use Rattle.relay_drive.specs.Calls.{Ticks}
use Rattle.relay_drive.specs.Phases.{PollsAndAccepts, ServesSide, ServedThen, PassesAndCloses, CutStart, CutFinish, CutTurn, Turns}
use Rattle.relay_drive.specs.Phases.{DispatchesAll}
use Rattle.relay_drive.specs.Phases.{CutDispatch, CutPolling, ForAllLinks, CutForAllLinks, PassesLink, CutPassingLink, ClosesLink}
use Rattle.relay_drive.specs.Phases.{CutClosingLink}
use Rattle.relay_drive.specs.Phases.CutStart.{begin_before, begin_in_poll, begin_in_serving}
use Rattle.relay_drive.specs.Phases.CutTurn.{before, in_poll, in_serving, in_dispatch, in_passing, in_closing}
use Rattle.relay_drive.specs.Seats.{Telling, HooksTell, HooksTellBut}
use Rattle.relay_drive.specs.Steps.{Nothing, Then, Each, Told}
use Rattle.relay_drive.proofs.FreedStays.{StaysBy, then-stays, ticks-stay, polls_and_accepts-stay, serving-stays}
use Rattle.relay_drive.proofs.FreedStays.{nothing-stays, passing-stays, closing-stays}
use Rattle.relay_drive.proofs.HookEvents.{IsUnhooked, Unhooks, nothing-unhooks, then-unhooks, ticks-unhook, polls_and_accepts-unhook}
use Rattle.relay_drive.proofs.HookEvents.{serving-unhooks, serving_cut-unhooks, cut_polling-unhooks, passing-unhooks, passing_cut-unhooks}
use Rattle.relay_drive.proofs.HookEvents.{closing-unhooks, closing_cut-unhooks}
use Rattle.relay_drive.proofs.HookTells.{tells-none, tells-then, tells-then_but}
use Rattle.relay_drive.proofs.MeantTurn.{prefix-stands}

-- In front of dispatch

-- clock, poll with accepting, and serving
abbrev pub Started : State → Trace → State → Type 0
Started = ServedThen Nothing

started-unhooks : Unhooks Started
started-unhooks s new a h =
    then-unhooks (Ticks h.0) _ (ticks-unhook h.0)
    (then-unhooks (PollsAndAccepts h.1) _ (polls_and_accepts-unhook h.1)
    (then-unhooks (Each ServesSide h.1) Nothing (serving-unhooks h.1) nothing-unhooks)) s new a h.2

pub started-stays : StaysBy Started
started-stays s new a h =
    then-stays (Ticks h.0) _ (ticks-stay h.0)
    (then-stays (PollsAndAccepts h.1) _ (polls_and_accepts-stay h.1)
    (then-stays (Each ServesSide h.1) Nothing (serving-stays h.1) nothing-stays)) s new a h.2

-- behind them something else
started-then : (R : State → Trace → State → Type 0) (s new : State) (a : Trace) → Then Started R s a new → ServedThen R s a new
started-then R s new a h =
    let f = h.first.2 in
    let p = f.second in
    let v = p.second in (
      h.first.0,
      h.first.1,
      record {
        middle = f.middle;
        front = f.front;
        back = p.front ++ (v.front ++ h.back);
        first = f.first;
        second = record {
          middle = p.middle;
          front = p.front;
          back = v.front ++ h.back;
          first = p.first;
          second = record {
            middle = v.middle;
            front = v.front;
            back = h.back;
            first = v.first;
            second = subst (λ z. R z h.back new) v.second.1 h.second;
            joined = refl;
          };
          joined = refl;
        };
        joined =
            h.joined
            ∙ ap (λ z. z ++ h.back)
            (f.joined ∙ ap (λ z. f.front ++ z)
            (p.joined ∙ ap (λ z. p.front ++ z) (v.joined ∙ ap (λ z. v.front ++ z) v.second.0 ∙ append-nil v.front)))
            ∙ append_assoc f.front (p.front ++ v.front) h.back
            ∙ ap (λ z. f.front ++ z) (append_assoc p.front v.front h.back);
      },
    )

-- the relay stands there, and dispatch comes next
pub started-stands : (t : Trace) (s new : State) (a : Trace) → StandsFor t Stage.Between s → Started s a new →
    StandsFor (t ++ a) (Stage.Serving []) new
started-stands t s new a k h =
    let f = h.2 in
    let p = f.second in
    let v = p.second in
    prefix-stands h.0 h.1 t s new a k (record {
      middle = f.middle;
      front = f.front;
      back = f.back;
      first = f.first;
      second = record {
        middle = p.middle;
        front = p.front;
        back = p.back;
        first = p.first;
        second = subst (λ z. Each ServesSide h.1 p.middle z new) (sym (v.joined ∙ ap (λ z. v.front ++ z) v.second.0 ∙ append-nil v.front))
            (subst (λ z. Each ServesSide h.1 p.middle v.front z) (sym v.second.1) v.first);
        joined = p.joined;
      };
      joined = f.joined;
    })

-- What is told

-- what is told of some entries is told of them with others in front that are of no hook
abbrev GoesOn : (Trace → Type 0) → Type 0
GoesOn T = (u v : Trace) → IsUnhooked u → T v → T (u ++ v)

-- and with others behind
record IsOfHooks (T : Trace → Type 0) : Type 0 where
  before : GoesOn T
  behind : (u v : Trace) → T u → IsUnhooked v → T (u ++ v)

all-of : {H : Type 0} (tells : Telling H) (h g h' g' : List (Option H)) → IsOfHooks (HooksTell tells None h g h' g')
all-of tells h g h' g' = record {
  before = λ u v is k. tells-then tells None h g h g h' g' u v (tells-none tells None h g u is) k;
  behind = λ u v k is. tells-then tells None h g h' g' h' g' u v k (tells-none tells None h' g' v is);
}

but-of : {H : Type 0} (tells : Telling H) (h g h' g' : List (Option H)) → GoesOn (HooksTellBut tells h g h' g')
but-of tells h g h' g' = λ u v is k. tells-then_but tells h g h g h' g' u v (tells-none tells None h g u is) k

served-told : (R : State → Trace → State → Type 0) (T : Trace → Type 0) → GoesOn T → (s new : State) (a : Trace) →
    Then Started (Told R T) s a new → Told (ServedThen R) T s a new
served-told R T of s new a h = (
  started-then R s new a (record {
    middle = h.middle;
    front = h.front;
    back = h.back;
    first = h.first;
    second = h.second.0;
    joined = h.joined;
  }),
  subst T (sym h.joined) (of h.front h.back (started-unhooks s h.middle h.front h.first) h.second.1),
)

told-then : (R Q : State → Trace → State → Type 0) (T : Trace → Type 0) → IsOfHooks T → Unhooks Q → (s new : State) (a : Trace) →
    Then (Told R T) Q s a new → Told (Then R Q) T s a new
told-then R Q T of unhooks s new a h = (
  record { middle = h.middle; front = h.front; back = h.back; first = h.first.0; second = h.second; joined = h.joined },
  subst T (sym h.joined) (of.behind h.front h.back h.first.1 (unhooks h.middle new h.back h.second)),
)

second-as : {A B Q : State → Trace → State → Type 0} {s new : State} {a : Trace} (h : Then A B s a new) → Q h.middle h.back new →
    Then A Q s a new
second-as h k = record { middle = h.middle; front = h.front; back = h.back; first = h.first; second = k; joined = h.joined }

-- a turn's dispatch, and something behind it
all-told : (R Q : State → Trace → State → Type 0) (T : Trace → Type 0) → IsOfHooks T → Unhooks Q → (s new : State) (a : Trace) →
    Then Started (Then (Told R T) Q) s a new → Told (ServedThen (Then R Q)) T s a new
all-told R Q T of unhooks s new a h =
    served-told (Then R Q) T of.before s new a (second-as h (told-then R Q T of unhooks h.middle new h.back h.second))

finish-unhooks : Unhooks PassesAndCloses
finish-unhooks = then-unhooks (ForAllLinks PassesLink) (ForAllLinks ClosesLink) passing-unhooks closing-unhooks

pub finish-stays : StaysBy PassesAndCloses
finish-stays = then-stays (ForAllLinks PassesLink) (ForAllLinks ClosesLink) passing-stays closing-stays

-- Turns

module _ {H : Type 0} (tells : Telling H) (hooks gone : List (Option H)) where
  -- a turn that is cut off in front of dispatch
  pub start-cut : (f : DriveFault) (s new : State) (a : Trace) → CutStart f s a new →
      Told (CutTurn f) (HooksTellBut tells hooks gone hooks gone) s a new
  start-cut f s new a (begin_before h) = (before h, (None, tells-none tells None hooks gone a (nothing-unhooks s new a h), tt))
  start-cut f s new a (begin_in_poll reading h) = (
    in_poll reading h,
    (
      None,
      tells-none tells None hooks gone a
          (then-unhooks (Ticks reading) (CutPolling f) (ticks-unhook reading) (cut_polling-unhooks f) s new a h),
      tt,
    ),
  )
  start-cut f s new a (begin_in_serving reading marked h) = (
    in_serving reading marked h,
    (
      None,
      tells-none tells None hooks gone a
          (then-unhooks (Ticks reading) _ (ticks-unhook reading)
          (then-unhooks (PollsAndAccepts marked) _ (polls_and_accepts-unhook marked) (serving_cut-unhooks marked)) s new a h),
      tt,
    ),
  )

  -- in dispatch
  pub dispatch-cut : (hooks' gone' : List (Option H)) (s new : State) (a : Trace) →
      Then Started (Told CutDispatch (HooksTellBut tells hooks gone hooks' gone')) s a new →
      Told (CutTurn fault.Memory) (HooksTellBut tells hooks gone hooks' gone') s a new
  dispatch-cut hooks' gone' s new a h =
      let k = served-told CutDispatch _ (but-of tells hooks gone hooks' gone') s new a h in (in_dispatch k.0, k.1)

  -- a hook ends it
  pub turn-stopped : (R : State → Trace → State → Type 0) (hooks' gone' : List (Option H)) (s new : State) (a : Trace) →
      Then Started (Told R (HooksTell tells None hooks gone hooks' gone')) s a new →
      Told (ServedThen R) (HooksTell tells None hooks gone hooks' gone') s a new
  turn-stopped R hooks' gone' s new a h = served-told R _ (all-of tells hooks gone hooks' gone').before s new a h

  -- it is cut off behind dispatch
  pub finish-cut : (hooks' gone' : List (Option H)) (s new : State) (a : Trace) →
      Then Started (Then (Told DispatchesAll (HooksTell tells None hooks gone hooks' gone')) CutFinish) s a new →
      Told (CutTurn fault.Memory) (HooksTellBut tells hooks gone hooks' gone') s a new
  finish-cut hooks' gone' s new a h = go h.second.second
    where
      of : IsOfHooks (HooksTell tells None hooks gone hooks' gone')
      of = all-of tells hooks gone hooks' gone'

      go : CutFinish h.second.middle h.second.back new → Told (CutTurn fault.Memory) (HooksTellBut tells hooks gone hooks' gone') s a new
      go (inl k) =
          let told = all-told DispatchesAll (CutForAllLinks PassesLink CutPassingLink) _ of passing_cut-unhooks s new a
          (second-as h (second-as h.second k)) in
          (in_passing told.0, (None, told.1, tt))
      go (inr k) =
          let told = all-told DispatchesAll (Then (ForAllLinks PassesLink) (CutForAllLinks ClosesLink CutClosingLink)) _ of
          (then-unhooks (ForAllLinks PassesLink) _ passing-unhooks closing_cut-unhooks) s new a
          (second-as h (second-as h.second k)) in
          (in_closing told.0, (None, told.1, tt))

  -- it goes through all its phases
  pub turn-told : (hooks' gone' : List (Option H)) (s new : State) (a : Trace) →
      Then Started (Then (Told DispatchesAll (HooksTell tells None hooks gone hooks' gone')) PassesAndCloses) s a new →
      Told Turns (HooksTell tells None hooks gone hooks' gone') s a new
  turn-told hooks' gone' s new a h =
      all-told DispatchesAll PassesAndCloses _ (all-of tells hooks gone hooks' gone') finish-unhooks s new a h
