-- What contracts see of a tape.
use Rattle.std.specs.Prelude.{ℕ}
use Rattle.ev_types.specs.Trace.{Trace}

-- a kept trace, and the room that is left for entries and for bytes
pub record Taped : Type 0 where
  pub trace : Trace
  pub spare_entries : ℕ
  pub spare_bytes : ℕ
