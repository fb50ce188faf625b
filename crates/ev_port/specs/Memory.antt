-- What a source and a sink over memory keep, and what each of their calls answers and leaves.
use Rattle.std.specs.Prelude.{ℕ, ◌==◌, min, length, drop, List, Bool, if◌then◌else◌}
use Rattle.std.specs.List.{list_any}
use Rattle.ev_port.specs.Counting.{counted}
use Rattle.ev_port.specs.declared.stream.Taken.{Taken}
use Rattle.ev_port.specs.declared.stream.Taken.TheVariants as taken

-- what contracts see of a source over memory
pub record MemSourceState : Type 0 where
  pub left : List ℕ  -- the bytes that are left to give
  pub failing : List ℕ  -- the numbers of the calls that fail, counted from 1
  pub calls : ℕ  -- how many calls there were
  pub faults : ℕ  -- how many of them failed

-- what contracts see of a sink over memory
pub record MemSinkState : Type 0 where
  pub bytes : List ℕ  -- the bytes that it took
  pub most : ℕ  -- how many bytes one call takes at most
  pub spare : ℕ  -- for how many bytes there is room already
  pub failing : List ℕ  -- the numbers of the calls that fail, counted from 1
  pub calls : ℕ  -- how many calls there were
  pub faults : ℕ  -- how many of them failed

-- the call after so many calls is one of those that fail
abbrev pub is_failing : List ℕ → ℕ → Bool
is_failing failing calls = list_any (λ k. k == counted calls 1) failing

-- a read fails where the list says so, ends where nothing is left, and else gives the least of the room and what is left
abbrev pub source_answer : MemSourceState → ℕ → Taken
source_answer s room =
    if is_failing s.failing s.calls then taken.Failed else (if length s.left == 0 then taken.Ended else taken.Got (min (length s.left) room))

-- a read that fails gives nothing and is counted as a fault
abbrev pub source_after : MemSourceState → ℕ → MemSourceState
source_after s room =
    if is_failing s.failing s.calls then record s { calls = counted s.calls 1; faults = counted s.faults 1 } else record s { calls = counted s.calls 1; left = drop room s.left }
