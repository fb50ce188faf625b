-- What the answer of a turn says of the trace: which stage it reached.
use Rattle.std.specs.Prelude.{◌≡◌, ℕ, ◌<◌, ◌∷◌, ⊤}
use Rattle.ev_types.specs.Trace.{Trace}
use Rattle.relay_model.specs.Settings.{Settings}
use Rattle.relay_model.specs.Plain.{Plain}
use Rattle.relay_model.specs.Close.{CloseStep}
use Rattle.relay_model.specs.Stages.{Halt, Stage, at}
use Rattle.relay_model.specs.Turn.{Reaches, most_opened}

pub data TurnAnswer : Type 0 where
  Went : TurnAnswer
  Stopped : ℕ → TurnAnswer  -- by a hook of this link
  PollFault : TurnAnswer
  OpenFault : TurnAnswer
  Spent : TurnAnswer
  Memory : TurnAnswer

-- A step that was begun is always recorded whole: memory isn't wanting while a free is to be recorded. Nor is it once
-- the run is over.
abbrev pub MayLack : Stage → Type 0
MayLack (Stage.Freeing gone x rs) = ⊥
MayLack (Stage.Closing (CloseStep.OutDone k ∷ cs)) = ⊥
MayLack (Stage.Over why) = ⊥
MayLack _ = ⊤

-- Accepting fails only where one link more might have been opened.
abbrev pub MayOpen : Settings → Stage → Plain → Type 0
MayOpen g (Stage.Accepting n marks) s = (n < most_opened) × (s.opened < g.links)
MayOpen g _ s = ⊥

-- A turn that went ended with its last phase. One that stopped or whose poll failed is over, and tells why. A turn is
-- refused as spent before it begins.
abbrev pub LeftAt : Settings → TurnAnswer → Stage → Plain → Type 0
LeftAt g TurnAnswer.Went x s = x ≡ Stage.Between
LeftAt g (TurnAnswer.Stopped link) x s = x ≡ Stage.Over (Halt.StoppedBy link)
LeftAt g TurnAnswer.PollFault x s = x ≡ Stage.Over Halt.PollFailed
LeftAt g TurnAnswer.OpenFault x s = MayOpen g x s
LeftAt g TurnAnswer.Spent x s = x ≡ Stage.Between
LeftAt g TurnAnswer.Memory x s = MayLack x

-- the trace can lead to a state in which a turn answers so
abbrev pub EndsWith : Settings → TurnAnswer → Trace → Type 0
EndsWith g answer t = (x : Stage) × (s : Plain) × Reaches g t (at x s) × LeftAt g answer x s
