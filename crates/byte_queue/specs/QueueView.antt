-- How a queue of bytes keeps what it shows.
use Rattle.std.specs.Prelude.{◌≡◌, ◌-◌, ◌*◌, ◌≤◌, drop, take, vec_len, vec_capacity}
use Rattle.byte_queue.specs.QueuedBytes.{Queued}
use Rattle.byte_queue.specs.declared.byte_queue.ByteQueue.TheInside.{Inside}

-- the bytes from the start to the end, the room before them, and all the room behind them
abbrev pub queued : Inside → Queued
queued q = record { items = drop q.start (take q.end q.kept.items); front = q.start; spare = vec_len q.kept - q.end }

-- The bytes end within the block, at most three quarters of what lies before their end lie before their start, and no memory is kept
-- but the block.
pub record IsQueue (q : Inside) : Type 0 where
  pub within : q.end ≤ vec_len q.kept
  pub front : 4 * q.start ≤ 3 * q.end
  pub whole : vec_capacity q.kept ≡ vec_len q.kept
