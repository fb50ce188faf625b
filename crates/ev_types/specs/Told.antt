-- What may be told of a port and of its ends, each meaning by itself, and how one such meaning goes on. A number that came to
-- 2^64 - 1 need not be told on.
use Rattle.std.specs.Prelude.{◌≡◌, ℕ, ◌+◌, ◌-◌, ◌^◌, ◌<◌, ⊤, Bool, ◌||◌, List, ◌++◌, Option, Some, MatchOption}
use Rattle.ev_types.specs.declared.addr.Addr.{Addr}

-- what may be told of one end
pub record EndTold : Type 0 where
  pub handed_out : Option (List ℕ)  -- the bytes that its reads gave
  pub taken : Option (List ℕ)  -- the bytes that it took
  pub made_connected : Option Bool  -- the accept of its link made it connected
  pub ended : Option Bool  -- a read was answered with its end
  pub connected : Option Bool  -- a check was answered with connected
  pub write_ended : Option Bool  -- its writing was ended
  pub closed : Option Bool  -- it was closed
  pub reads : Option ℕ  -- how often it was read
  pub writes : Option ℕ  -- how many writes weren't answered with want of memory
  pub checks : Option ℕ  -- how many connect checks there were
  pub rooms : Option ℕ  -- the sum of the lengths offered to its reads
  pub offers : Option ℕ  -- the sum of the lengths offered to those writes
  pub read_wants : Option ℕ  -- in how many polls reading was wanted
  pub write_wants : Option ℕ  -- in how many polls writing was wanted
  pub read_marks : Option ℕ  -- how often reading was marked
  pub write_marks : Option ℕ  -- how often writing was marked

-- what may be told of the whole port
pub record PortTold : Type 0 where
  pub accept_polls : Option ℕ  -- how many polls asked to accept
  pub timeout : Option (Option ℕ)  -- the timeout of the last poll
  pub links : Option ℕ  -- how many links were made
  pub accepting : Option Bool  -- accepting stands open
  pub readings : Option ℕ  -- how often the clock was read
  pub reading : Option ℕ  -- its last reading
  pub started : Option (Option (Addr × Addr))  -- the addresses of the last start

-- bytes were added to a list that is told
abbrev pub Adds : Option (List ℕ) → Option (List ℕ) → List ℕ → Type 0
Adds old new bytes = MatchOption old ⊤ (λ before. new ≡ Some (before ++ bytes))

-- a flag that is told was raised, or stays
abbrev pub Raises : Option Bool → Option Bool → Bool → Type 0
Raises old new raised = MatchOption old ⊤ (λ before. new ≡ Some (before || raised))

-- a number that is told was counted up, unless it reached the end of its type
abbrev pub Counts : Option ℕ → Option ℕ → ℕ → Type 0
Counts old new more = MatchOption old ⊤ (λ before. before + more < 2 ^ 64 - 1 → new ≡ Some (before + more))

-- a value that is told was replaced by this one
abbrev pub Becomes : {T : Type 0} → Option T → Option T → T → Type 0
Becomes old new value = MatchOption old ⊤ (λ _. new ≡ Some value)

-- a value that is told stays
abbrev pub Stays : {T : Type 0} → Option T → Option T → Type 0
Stays old new = MatchOption old ⊤ (λ before. new ≡ Some before)
