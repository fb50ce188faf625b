-- What may stand of a side behind its free: nothing but its one close, and what its hook still asks in the fire in which
-- the side was freed.
use Rattle.std.specs.Prelude.{◌≡◌, ℕ, ◌≤◌, Bool, true, false, if◌then◌else◌, List, [], ◌∷◌, ◌++◌, count_by}
use Rattle.std.specs.List.{list_any}
use Rattle.ev_types.specs.declared.side.SideId.{SideId}
use Rattle.ev_types.specs.declared.why.Cause.{Cause}
use Rattle.ev_types.specs.declared.entry.Entry.TheVariants as entry
use Rattle.ev_types.specs.Sides.{same_end}
use Rattle.ev_types.specs.Trace.{Event, Trace}
use Rattle.relay_model.specs.Settings.{Settings}
use Rattle.relay_model.specs.Turn.{IsLegal}
use Rattle.relay_model.specs.Told.{end_closed_by}

-- an event by which something is begun at a side, or done to it but its close
abbrev pub starts_at : SideId → Event → Bool
starts_at e (entry.Want side r w, bytes) = same_end side e
starts_at e (entry.Ready side r w, bytes) = same_end side e
starts_at e (entry.Conn side answer, bytes) = same_end side e
starts_at e (entry.Read side room answer, bytes) = same_end side e
starts_at e (entry.Write side offered answer, bytes) = same_end side e
starts_at e (entry.Fired side y, bytes) = same_end side e
starts_at e (entry.CloseWrite side, bytes) = same_end side e
starts_at e (entry.Freed side cause moved given, bytes) = same_end side e
starts_at e _ = false

-- an ask of the hook of a side
abbrev pub asked_by : SideId → Event → Bool
asked_by e (entry.Asked side a answer, bytes) = same_end side e
asked_by e _ = false

-- what stands within a fire: asks, and frees
abbrev pub is_within_fire : Event → Bool
is_within_fire (entry.Asked side a answer, bytes) = true
is_within_fire (entry.Freed side cause moved given, bytes) = true
is_within_fire _ = false

-- what stands behind the rest of a fire
abbrev pub behind_fire : Trace → Trace
behind_fire [] = []
behind_fire (x ∷ t) = if is_within_fire x then behind_fire t else x ∷ t

-- Behind the free of a side nothing is begun at it, it isn't freed again, its end is closed once at most, and its hook asks
-- nothing but in the rest of the fire.
pub record IsQuietBehind (e : SideId) (after : Trace) : Type 0 where
  pub starts : list_any (starts_at e) after ≡ false
  pub closes : count_by (end_closed_by e) after ≤ 1
  pub asks : list_any (asked_by e) (behind_fire after) ≡ false

-- so it is behind each free
abbrev pub IsQuiet : Trace → Type 0
IsQuiet t = (before after : Trace) (e : SideId) (why : Cause) (moved given : ℕ) (bytes : List ℕ) →
    t ≡ before ++ (entry.Freed e why moved given, bytes) ∷ after → IsQuietBehind e after

abbrev pub LegalIsQuiet : Type 0
LegalIsQuiet = (g : Settings) (t : Trace) → IsLegal g t → IsQuiet t
