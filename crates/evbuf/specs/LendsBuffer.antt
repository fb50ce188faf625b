-- A buffer that is lent out of several.
use Rattle.std.specs.Prelude.{ℕ, List, slice_set}
use Rattle.std.specs.Borrow.{Lends, MutBor, Fml}
use Rattle.evbuf.specs.Evbuffered.{Evbuffered}
use Rattle.evbuf.specs.contracts.buffers.Buffers as buffers
use Rattle.evbuf.specs.contracts.evbuffer.Evbuffer as buffer

-- the buffers end with the one of the number as it was left
abbrev pub LendsBuffer : MutBor (List Evbuffered) → ℕ → MutBor Evbuffered → Fml
LendsBuffer s i r = Lends buffers.the_row buffer.the_row s r (slice_set s.now i)
