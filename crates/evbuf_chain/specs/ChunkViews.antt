-- How the chunks of a chain keep what they show.
use Rattle.std.specs.Prelude.{◌-◌, [], ◌∷◌, length, drop}
use Rattle.std.specs.Rc.{rc_slice_items}
use Rattle.evbuf_chain.specs.Mark.{unmarked, reference_marks}
use Rattle.evbuf_chain.specs.ChunkValue.{ChunkValue}
use Rattle.evbuf_chain.specs.declared.chunk.Held.{Held}
use Rattle.evbuf_chain.specs.declared.chunk.Held.TheVariants.{Own, Shared, Ended}

-- own bytes have no mark, and the marks of a reference run down to 0
abbrev pub chunk_value : Held → ChunkValue
chunk_value (Own own) = record { bytes = own.items; marks = unmarked (length own.items); ended = [] }
chunk_value (Shared r) = record {
  bytes = drop r.from (rc_slice_items r.bytes);
  marks = reference_marks r.ticket (length (rc_slice_items r.bytes) - r.from);
  ended = [];
}
chunk_value (Ended ticket) = record { bytes = []; marks = []; ended = ticket ∷ [] }
