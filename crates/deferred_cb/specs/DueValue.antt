-- What a contract sees of the callbacks that are due.
use Rattle.std.specs.Prelude.{ℕ, List}
use Rattle.deferred_cb.specs.DueCalls.{Entry, Call}

-- the pending entries in order, what is left of the batch that is being called, and how many owners more can have an entry with
-- no memory
pub record DueValue : Type 0 where
  pub pending : List Entry
  pub batch : List Call
  pub spare : ℕ
