-- What the answers of a source and of a sink say.
use Rattle.std.specs.Prelude.{ℕ, ◌<◌, ◌≤◌, ⊤, List, [], take, Bool, true, false}
use Rattle.ev_port.specs.declared.stream.Taken.{Taken}
use Rattle.ev_port.specs.declared.stream.Taken.TheVariants as taken
use Rattle.ev_port.specs.declared.stream.Given.{Given}
use Rattle.ev_port.specs.declared.stream.Given.TheVariants as given

-- the bytes that a read put in front of the slice
abbrev pub bytes_got : Taken → List ℕ → List ℕ
bytes_got (taken.Got n) into = take n into
bytes_got taken.Ended into = []
bytes_got taken.Failed into = []

-- a count of at least 1 and at most the slice's length
abbrev pub GotWithin : Taken → ℕ → Type 0
GotWithin (taken.Got n) most = (0 < n) × (n ≤ most)
GotWithin taken.Ended most = ⊤
GotWithin taken.Failed most = ⊤

abbrev pub is_read_fault : Taken → Bool
is_read_fault (taken.Got n) = false
is_read_fault taken.Ended = false
is_read_fault taken.Failed = true

-- the bytes that a write took from the front of the slice
abbrev pub bytes_taken : Given → List ℕ → List ℕ
bytes_taken (given.Took n) from = take n from
bytes_taken given.Failed from = []

-- a count of at least 1 and at most the slice's length
abbrev pub TookWithin : Given → ℕ → Type 0
TookWithin (given.Took n) most = (0 < n) × (n ≤ most)
TookWithin given.Failed most = ⊤

abbrev pub is_write_fault : Given → Bool
is_write_fault (given.Took n) = false
is_write_fault given.Failed = true
