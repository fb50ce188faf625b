-- How a buffer keeps what it shows.
use Rattle.std.specs.Prelude.{true, false}
use Rattle.bev_core.specs.BufferValue.{BufferValue}
use Rattle.bev_core.specs.declared.own_buffer.Kept.{Kept}
use Rattle.bev_core.specs.declared.own_buffer.Kept.TheVariants.{Piece, Chunks}

-- one block, or chunks
abbrev pub buffer_value : Kept → BufferValue
buffer_value (Piece q) = record { held = record { bytes = q.items; spare = q.spare }; chunked = false }
buffer_value (Chunks c) = record { held = c; chunked = true }
