-- How a stack of chunks keeps what it shows.
use Rattle.std.specs.Prelude.{List, [], ◌∷◌, Option, Some, None, Box}
use Rattle.std.specs.Box.{box_value}
use Rattle.evbuf_chain.specs.ChunkValue.{ChunkValue}
use Rattle.evbuf_chain.specs.declared.stack.Node.{Node}

module _ {Z : Type 0} where
  -- the chunks, the top first
  abbrev pub stacked : Option (Box Node Z) → List ChunkValue
  stacked None = []
  stacked (Some node) = (box_value node).chunk ∷ (box_value node).below
