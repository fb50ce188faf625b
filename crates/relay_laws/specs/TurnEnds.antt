-- Where turns end within a trace.
use Rattle.std.specs.Prelude.{◌≡◌, Bool, true, false, [], ◌∷◌, ◌++◌}
use Rattle.ev_types.specs.Trace.{Trace}
use Rattle.relay_model.specs.RatesKept.{is_turn}

-- does a trace begin with a turn
abbrev pub begins_turn : Trace → Bool
begins_turn [] = false
begins_turn (x ∷ t) = is_turn x

-- at each place of a trace where a turn ends and the next one begins
abbrev pub AtTurnEnds : (Trace → Type 0) → Trace → Type 0
AtTurnEnds P t = (before after : Trace) → t ≡ before ++ after → begins_turn after ≡ true → P before
