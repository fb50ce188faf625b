-- Where a replay comes to rest, its trace is accepted.
use Rattle.std.specs.Prelude.{IsSome}
use Rattle.std.proofs.Common.{◌≡◌, ℕ, Option, Some, None, option_map, refl}
use Rattle.ev_types.specs.Trace.{Trace}
use Rattle.relay_model.specs.Settings.{Settings}
use Rattle.relay_model.specs.Stages.{Halt, Stage, State}
use Rattle.relay_rows.specs.Replay.{most_silent, replay, rest_within, stage_after}
use Rattle.relay_rows.specs.Laws.{Goes, IsStoppedBy, FailsToPoll}
use Rattle.relay_rows.proofs.ReplayLemmas.{stage_after-is}

is_replayed : (g : Settings) (t : Trace) (o : Option State) (x : Stage) →
    option_map (λ s. s.stage) (elim o [ Some y ↦ rest_within most_silent g t y | None ↦ None ]) ≡ Some x → IsSome o
is_replayed g t None x h = absurd (cc)
is_replayed g t (Some y) x h = refl

pub rests-went : (g : Settings) (t : Trace) → stage_after g t ≡ Some Stage.Between → Goes g t
rests-went g t h =
    let w = stage_after-is g t Stage.Between h in
    record { replayed = is_replayed g t (replay g t) Stage.Between h; legal = (Stage.Between, w.0, w.1, refl) }

pub rests-stopped : (link : ℕ) (g : Settings) (t : Trace) → stage_after g t ≡ Some (Stage.Over (Halt.StoppedBy link)) → IsStoppedBy link g t
rests-stopped link g t h =
    let w = stage_after-is g t (Stage.Over (Halt.StoppedBy link)) h in
    record {
      replayed = is_replayed g t (replay g t) (Stage.Over (Halt.StoppedBy link)) h;
      legal =
          (Stage.Over (Halt.StoppedBy link), w.0, w.1, refl);
    }

pub rests-failed : (g : Settings) (t : Trace) → stage_after g t ≡ Some (Stage.Over Halt.PollFailed) → FailsToPoll g t
rests-failed g t h =
    let w = stage_after-is g t (Stage.Over Halt.PollFailed) h in
    record { replayed = is_replayed g t (replay g t) (Stage.Over Halt.PollFailed) h; legal = (Stage.Over Halt.PollFailed, w.0, w.1, refl) }
