-- The phase in which hooks run: all that was due is fired, or a hook stops the run.
use Rattle.std.proofs.Common.{ℕ, zero, suc, true, false, ◌++◌, sym, ◌∙◌, ap, subst, append_assoc, append-nil}
use Rattle.ev_types.specs.Trace.{Trace}
use Rattle.relay_model.specs.Stages.{Halt, Stage}
use Rattle.relay_state.specs.State.{State}
use Rattle.relay_state.specs.Asking.{dispatching, FiresSome}
use Rattle.relay_steps.specs.Meaning.{StandsFor}
use Rattle.relay_steps.specs.HookLaws.{DispatchesAreStoodFor, StopsAreLeft}
use Rattle.relay_steps.proofs.PollSteps.{served-stands, fired_all-stands}
use Rattle.relay_steps.proofs.FireSteps.{fires_are_stood_for}

some-stand : (n : ℕ) (t : Trace) (s new : State) (a : Trace) → StandsFor t (Stage.Dispatching s.batch) s → FiresSome n s a new →
    StandsFor (t ++ a) (Stage.Dispatching new.batch) new
some-stand zero t s new a k h =
    subst (λ z. StandsFor z (Stage.Dispatching new.batch) new) (sym (ap (λ b. t ++ b) h.0 ∙ append-nil t))
    (subst (λ z. StandsFor t (Stage.Dispatching z.batch) z) (sym h.1) k)
some-stand (suc n) t s new a k h =
    let mid = h.0 in
    let front = h.1 in
    let back = h.2 in
    let before = some-stand n t s mid front k h.3 in
    subst (λ z. StandsFor z (Stage.Dispatching new.batch) new) (append_assoc t front back ∙ ap (λ z. t ++ z) (sym h.5))
    (fires_are_stood_for false (t ++ front) mid new back before h.4)

-- behind serving, all that was due is fired, and passing follows
pub dispatches_are_stood_for : DispatchesAreStoodFor
dispatches_are_stood_for t s new a k h =
    let fired = some-stand h.many t (dispatching s) new a (served-stands t s k) h.fires in
    fired_all-stands (t ++ a) new (subst (λ z. StandsFor (t ++ a) (Stage.Dispatching z) new) h.over fired)

-- or the run ends with a hook of this link
pub stops_are_left : StopsAreLeft
stops_are_left link t s new a k h =
    let before = some-stand h.many t (dispatching s) h.middle h.front (served-stands t s k) h.fires in
    let last = fires_are_stood_for true (t ++ h.front) h.middle new h.back before h.last in
    record {
      stage = Stage.Over (Halt.StoppedBy h.last.side.link);
      stands = subst (λ z. StandsFor z (Stage.Over (Halt.StoppedBy h.last.side.link)) new)
          (append_assoc t h.front h.back ∙ ap (λ z. t ++ z) (sym h.joined)) last;
      left = ap (λ n. Stage.Over (Halt.StoppedBy n)) h.of_link;
    }
