-- What contracts of this crate see of a buffer, and what its calls leave.
use Rattle.std.specs.Prelude.{ℕ, Bool, List}
use Rattle.bev_core.specs.BevValue.{Held}
use Rattle.bev_core.specs.Steps as steps

-- what it holds, and whether it may lie in several chunks
pub record BufferValue : Type 0 where
  pub held : Held
  pub chunked : Bool

-- bytes come in behind; the last argument is what is spare afterwards
abbrev pub more : BufferValue → List ℕ → ℕ → BufferValue
more buf bytes left = record buf { held = steps.more buf.held bytes left }

-- the first n bytes go, or all where there are fewer
abbrev pub less : BufferValue → ℕ → ℕ → BufferValue
less buf n left = record buf { held = steps.less buf.held n left }

-- the room of a buffer without a byte is freed
abbrev pub without_room : BufferValue → BufferValue
without_room buf = record buf { held = steps.without_room buf.held }
