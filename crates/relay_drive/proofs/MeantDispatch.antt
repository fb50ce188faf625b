-- Dispatch, whole or cut off, keeps what the relay stands for.
use Rattle.std.proofs.Common.{ℕ, zero, suc, ◌+◌, ◌≤◌, false, List, [], ◌∷◌, ◌++◌, length, sym, ◌∙◌, ap, subst, arith}
use Rattle.std.proofs.Common.{append_assoc, append-nil}
use Rattle.ev_types.specs.declared.act.Act.{Act}
use Rattle.ev_types.specs.declared.answer.AskAnswer.{AskAnswer}
use Rattle.ev_types.specs.declared.entry.Entry.TheVariants as entry
use Rattle.ev_types.specs.Trace.{Trace}
use Rattle.relay_model.specs.Asks.{most_asks}
use Rattle.relay_model.specs.Answers.{TurnAnswer}
use Rattle.relay_model.specs.Plain.{sides_from}
use Rattle.relay_model.specs.Stages.{Fire, Stage, begun}
use Rattle.relay_state.specs.State.{State}
use Rattle.relay_state.specs.Asking.{dispatching, left_to_fire, AsksAll, FiresSome}
use Rattle.relay_drive.specs.DispatchPhase.{DispatchesAll, CutDispatch}
use Rattle.relay_drive.specs.DispatchPhase.CutFire.{no_room, in_fire}
use Rattle.relay_drive.specs.DispatchPhase.{CutFire}
use Rattle.relay_steps.specs.HookLaws.{fire_asked}
use Rattle.relay_steps.specs.Meaning.{StandsFor, LeftFor}
use Rattle.relay_steps.proofs.AskSteps.{batch-stands, fired-stands}
use Rattle.relay_steps.proofs.FireSteps.{asks_are_stood_for, fires_are_stood_for}
use Rattle.relay_steps.proofs.DispatchSteps.{dispatches_are_stood_for}
use Rattle.relay_steps.proofs.PollSteps.{served-stands}

-- where a fire stands behind asks
abbrev fire_behind : Fire → List (Act × AskAnswer) → Fire
fire_behind x [] = x
fire_behind x (y ∷ ys) = fire_behind (fire_asked x y) ys

-- asks in a row
asks-stand : (xs : List (Act × AskAnswer)) (t : Trace) (s new : State) (x : Fire) (a : Trace) →
    StandsFor t (Stage.Firing x s.batch) s → x.asks + length xs ≤ most_asks → AsksAll x.side xs s a new →
    StandsFor (t ++ a) (Stage.Firing (fire_behind x xs) new.batch) new
asks-stand [] t s new x a k few h =
    subst (λ z. StandsFor z (Stage.Firing x new.batch) new) (sym (ap (λ b. t ++ b) h.0 ∙ append-nil t))
    (subst (λ z. StandsFor t (Stage.Firing x z.batch) z) (sym h.1) k)
asks-stand (y ∷ ys) t s new x a k few h =
    let mid = h.0 in
    let front = h.1 in
    let back = h.2 in
    let one = asks_are_stood_for t s mid x y.0 y.1 front k (omega (arith, few)) h.3 in
    subst (λ z. StandsFor z (Stage.Firing (fire_behind x (y ∷ ys)) new.batch) new) (append_assoc t front back ∙ ap (λ z. t ++ z) (sym h.5))
    (asks-stand ys (t ++ front) mid new (fire_asked x y) back one (omega (arith, few)) h.4)

-- fires in a row
pub fires-stand : (n : ℕ) (t : Trace) (s new : State) (a : Trace) → StandsFor t (Stage.Dispatching s.batch) s → FiresSome n s a new →
    StandsFor (t ++ a) (Stage.Dispatching new.batch) new
fires-stand zero t s new a k h =
    subst (λ z. StandsFor z (Stage.Dispatching new.batch) new) (sym (ap (λ b. t ++ b) h.0 ∙ append-nil t))
    (subst (λ z. StandsFor t (Stage.Dispatching z.batch) z) (sym h.1) k)
fires-stand (suc n) t s new a k h =
    let mid = h.0 in
    let front = h.1 in
    let back = h.2 in
    let before = fires-stand n t s mid front k h.3 in
    subst (λ z. StandsFor z (Stage.Dispatching new.batch) new) (append_assoc t front back ∙ ap (λ z. t ++ z) (sym h.5))
    (fires_are_stood_for false (t ++ front) mid new back before h.4)

-- behind serving some reasons were fired: the next is to be fired
pub some-fired-stand : (n : ℕ) (t : Trace) (s new : State) (a : Trace) → StandsFor t (Stage.Serving []) s →
    FiresSome n (dispatching s) a new → StandsFor (t ++ a) (Stage.Dispatching new.batch) new
some-fired-stand n t s new a k h = fires-stand n t (dispatching s) new a (served-stands t s k) h

-- a fire that is cut off, or none, leaves the relay where memory may be wanting
fire-leaves : (t : Trace) (s new : State) (a : Trace) → StandsFor t (Stage.Dispatching s.batch) s → CutFire s a new →
    LeftFor TurnAnswer.Memory (t ++ a) new
fire-leaves t s new a k (no_room rs h) = record {
  stage = Stage.Dispatching s.batch;
  stands = subst (λ z. StandsFor z (Stage.Dispatching s.batch) new) (sym (ap (λ b. t ++ b) h.0 ∙ append-nil t))
      (subst (StandsFor t (Stage.Dispatching s.batch)) (sym h.1) (batch-stands t (Stage.Dispatching s.batch) s rs k));
  left = tt;
}
fire-leaves t s new a k (in_fire w) =
    let h = w.fires in
    let e = h.side in
    let u : Trace = t ++ (entry.Fired e h.reason, []) ∷ [] in
    let start = fired-stands t s e h.reason h.rest (subst (λ z. StandsFor t (Stage.Dispatching z) s) h.first k) h.live in
    let asks = asks-stand h.asks u (left_to_fire h.rest s) new (begun e) h.behind start (let a = h.few in omega (arith, a)) h.does in
    let stage : Stage = Stage.Firing (fire_behind (begun e) h.asks) new.batch in
    record {
      stage = stage;
      stands = subst (λ z. StandsFor z stage new)
          (append_assoc t ((entry.Fired e h.reason, []) ∷ []) h.behind ∙ ap (λ z. t ++ z) (sym h.entries)) asks;
      left = tt;
    }

-- dispatch that is cut off
pub dispatch-leaves : (t : Trace) (s new : State) (a : Trace) → StandsFor t (Stage.Serving []) s → CutDispatch s a new →
    LeftFor TurnAnswer.Memory (t ++ a) new
dispatch-leaves t s new a k h =
    let before = some-fired-stand h.many t s h.middle h.front k h.fires in
    subst (λ z. LeftFor TurnAnswer.Memory z new) (append_assoc t h.front h.back ∙ ap (λ z. t ++ z) (sym h.joined))
    (fire-leaves (t ++ h.front) h.middle new h.back before h.last)

-- the whole dispatch, behind which passing follows
pub dispatch-stands : (t : Trace) (s new : State) (a : Trace) → StandsFor t (Stage.Serving []) s → DispatchesAll s a new →
    StandsFor (t ++ a) (Stage.Passing [] (sides_from 0 new.plain.opened)) new
dispatch-stands t s new a k h = dispatches_are_stood_for t s new a k h.does
