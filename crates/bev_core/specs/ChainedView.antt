-- How a buffer in chunks keeps what it shows.
use Rattle.std.specs.Prelude.{Option, Some, None, Box}
use Rattle.std.specs.declared.alloc.Global.{Global}
use Rattle.evbuf_chain.specs.Buffered.{Buffered}
use Rattle.bev_core.specs.BevValue.{Held, nothing}

-- a chain, or none, where no byte came yet
abbrev pub chained : Option (Box Buffered Global) → Held
chained None = nothing
chained (Some b) = record { bytes = b.value.bytes; spare = b.value.spare }
