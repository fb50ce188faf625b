-- What stands still behind the free of a side.
use Rattle.std.specs.Prelude.{◌≡◌, ℕ, true, List, [], ◌∷◌, ◌++◌}
use Rattle.ev_types.specs.declared.side.SideId.{SideId}
use Rattle.ev_types.specs.declared.why.Cause.{Cause}
use Rattle.ev_types.specs.declared.entry.Entry.TheVariants as entry
use Rattle.ev_types.specs.Trace.{Trace}
use Rattle.relay_model.specs.Conserved.{StandsStill}
use Rattle.relay_model.specs.Settings.{Settings}
use Rattle.relay_model.specs.Plain.{flow_at}
use Rattle.relay_model.specs.Stages.{State}
use Rattle.relay_model.specs.Turn.{Reaches}
use Rattle.relay_model.specs.Onward.{Leads}
use Rattle.relay_model.specs.Told.{is_freed}

-- From a state behind the free of a side on, the bytes that were moved from it are as many as they were, and whether the two
-- filters of its direction are finished stays as it was.
abbrev pub FreedStandStill : Type 0
FreedStandStill = (g : Settings) (t u : Trace) (s new : State) (e : SideId) → Reaches g t s → is_freed e t ≡ true → Leads g t s u new →
    StandsStill (flow_at s.plain e) (flow_at new.plain e)

-- Wherever a free stands in a trace, they are so in any state that the trace led to there and any state that the whole leads to.
-- As many bytes were moved as the free told.
abbrev pub FreedAreStill : Type 0
FreedAreStill = (g : Settings) (t before after : Trace) (s new : State) (e : SideId) (why : Cause) (moved given : ℕ) (bytes : List ℕ) →
    Reaches g (before ++ (entry.Freed e why moved given, bytes) ∷ []) s → Reaches g t new →
    t ≡ before ++ (entry.Freed e why moved given, bytes) ∷ after →
    StandsStill (flow_at s.plain e) (flow_at new.plain e) × ((flow_at new.plain e).moved ≡ moved)
