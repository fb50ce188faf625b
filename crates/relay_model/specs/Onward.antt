-- From a state to a later one of the same run.
use Rattle.std.specs.Prelude.{◌⊎◌, ℕ, List, [], ◌∷◌, ◌++◌}
use Rattle.ev_types.specs.declared.entry.Entry.{Entry}
use Rattle.ev_types.specs.Trace.{Trace}
use Rattle.relay_model.specs.Settings.{Settings}
use Rattle.relay_model.specs.Stages.{State}
use Rattle.relay_model.specs.Turn.{Quietly, Puts, Reaches}

-- From a state behind a trace steps lead to a state behind that trace or a longer one.
pub data Leads (g : Settings) (t : Trace) (s : State) : Trace → State → Type 0 where
  stays : Leads g t s t s
  goes : {u : Trace} {mid new : State} → Leads g t s u mid → Quietly g u mid.stage mid.plain new → Leads g t s u new
  puts : {u : Trace} {mid new : State} → (e : Entry) (bytes : List ℕ) → Leads g t s u mid → Puts g u mid.stage mid.plain e bytes new →
      Leads g t s (u ++ (e, bytes) ∷ []) new

-- A trace tells the way that a run took: of any two states to which it leads, one leads to the other with no entry.
abbrev pub AllOnOneWay : Type 0
AllOnOneWay = (g : Settings) (t : Trace) (a b : State) → Reaches g t a → Reaches g t b → Leads g t a t b ⊎ Leads g t b t a
