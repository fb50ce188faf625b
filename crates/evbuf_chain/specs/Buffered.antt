-- What contracts see of a chain.
use Rattle.std.specs.Prelude.{◌≡◌, ℕ, ◌^◌, ◌≤◌, ◌<◌, ◌==◌, nat_lt, if◌then◌else◌, Option, Some, None, Result, Ok, Err}
use Rattle.std.specs.Prelude.{List, ◌++◌, length, take, drop, flat_map}
use Rattle.std.specs.Borrow.{Bor}
use Rattle.evbuf_chain.specs.Mark.{Marks, unmarked, ended_tickets}
use Rattle.evbuf_chain.specs.declared.fault.ChainFault.{ChainFault}
use Rattle.evbuf_chain.specs.declared.fault.ChainFault.TheVariants.{Spent}

-- the bytes, the mark of each, how many more bytes fit without taking memory, and the tickets that wait to be
-- taken, the first first
pub record Buffered : Type 0 where
  pub bytes : List ℕ
  pub marks : Marks
  pub spare : ℕ
  pub released : List ℕ

-- Why a length can be no length, or none: it is above the greatest number of a usize.
abbrev pub length_refusal : ℕ → Option ChainFault
length_refusal n = if nat_lt n (2 ^ 64) then None else Some Spent

-- the room of a chain that has no byte was freed
abbrev pub given_up : Buffered → Buffered
given_up chain = if length chain.bytes == 0 then record chain { spare = 0 } else chain

-- the bytes of slices, one after another
abbrev pub joined : List (Bor (List ℕ)) → List ℕ
joined slices = flat_map (λ slice. slice.now) slices

-- The first n bytes are contiguous and in the chain's own memory: their marks are gone, and with them the references
-- that end among them.
pub record IsPulledUp (old : Buffered) (n : ℕ) (new : Buffered) : Type 0 where
  pub bytes : new.bytes ≡ old.bytes
  pub marks : new.marks ≡ unmarked n ++ drop n old.marks
  pub spare : old.spare ≤ new.spare
  pub released : new.released ≡ old.released ++ ended_tickets (take n old.marks)

-- What a pullup of n bytes leaves, by its answer: where it answers none, or want of memory, all is as it was.
abbrev pub AfterPullup : {E : Type 0} → Buffered → ℕ → Result (Option (Bor (List ℕ))) E → Buffered → Type 0
AfterPullup old n (Ok (Some front)) new = IsPulledUp old n new
AfterPullup old n (Ok None) new = new ≡ old
AfterPullup old n (Err fault) new = new ≡ old

-- What a pullup of n bytes of these answers: none exactly where n is above the length, and else the first n bytes.
abbrev pub PullupAnswer : {E : Type 0} → List ℕ → ℕ → Result (Option (Bor (List ℕ))) E → Type 0
PullupAnswer bytes n (Ok (Some front)) = (n ≤ length bytes) × (front.now ≡ take n bytes)
PullupAnswer bytes n (Ok None) = length bytes < n
PullupAnswer bytes n (Err fault) = Unit {0}
