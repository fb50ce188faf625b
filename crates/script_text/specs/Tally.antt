-- How a reader keeps what the lines so far say of the ends.
use Rattle.std.specs.Prelude.{◌≡◌, ℕ, ◌*◌, List, [], ◌∷◌, ◌++◌, length, Bool, true, false, slice_index_or, slice_set}
use Rattle.ev_types.specs.Sides.{number}
use Rattle.ev_types.specs.declared.turn_line.TurnLine.{TurnLine}
use Rattle.ev_types.specs.declared.turn_line.TurnLine.TheVariants.{NewLink, Eof, ReadFail}
use Rattle.script_text.specs.Order.{opened, is_ended}

-- what is kept of the end with this number: whether its bytes were ended or failed
abbrev pub kept_of : List Bool → ℕ → Bool
kept_of ended end = slice_index_or ended end false

-- The list has both ends of each link that was opened, and says of each end by its number what the lines say of it. They
-- don't end an end that it lacks.
pub record IsTally (ended : List Bool) (before : List TurnLine) : Type 0 where
  pub count : length ended ≡ 2 * opened before
  pub said : (end : ℕ) → kept_of ended end ≡ is_ended end before

-- what is kept once the bytes of the end with this number are ended or failed
abbrev pub closed : List Bool → ℕ → List Bool
closed ended end = slice_set ended end true

-- what is kept with a line more: both ends of a new link, and that an end's bytes were ended or failed
abbrev pub counted : List Bool → TurnLine → List Bool
counted ended (NewLink wait) = ended ++ false ∷ false ∷ []
counted ended (Eof side) = closed ended (number side)
counted ended (ReadFail side) = closed ended (number side)
counted ended _ = ended
