-- What contracts see of an evbuffer.
use Rattle.std.specs.Prelude.{ℕ, Bool, List}
use Rattle.evbuf_chain.specs.Mark.{Marks}
use Rattle.evbuf.specs.Callbacks.{Callbacks}

-- the bytes, the mark of each, how many more bytes fit without taking memory, the tickets that wait to be taken, the
-- first first, which ends are frozen, the size callbacks, and the number that the next one gets
pub record Evbuffered : Type 0 where
  pub bytes : List ℕ
  pub marks : Marks
  pub spare : ℕ
  pub released : List ℕ
  pub front_frozen : Bool
  pub end_frozen : Bool
  pub callbacks : Callbacks
  pub next : ℕ

-- the size callbacks alone, and the number that the next one gets
pub record Called : Type 0 where
  pub callbacks : Callbacks
  pub next : ℕ
