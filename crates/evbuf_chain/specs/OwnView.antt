-- How the bytes behind all chunks keep what they show.
use Rattle.std.specs.Prelude.{◌≡◌, ◌≤◌, ◌+◌, length, is_some, false}
use Rattle.evbuf_chain.specs.ChunkValue.{Owned}
use Rattle.evbuf_chain.specs.declared.own.Own.TheInside.{Inside}

abbrev pub owned : Inside → Owned
owned own = record { items = own.bytes.items; spare = own.spare }

-- So many bytes fit behind them, and only where there is none and no room is there no node.
pub record IsOwn (own : Inside) : Type 0 where
  pub room : own.spare ≤ own.bytes.spare
  pub noded : is_some own.node ≡ false → length own.bytes.items + own.spare ≡ 0
