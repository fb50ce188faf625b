-- How the first bytes leave chunks.
use Rattle.std.specs.Prelude.{◌≡◌, ℕ, ◌+◌, ◌-◌, ◌≤◌, List, ◌++◌, length, take, drop}
use Rattle.evbuf_chain.specs.Mark.{unmarked, ended_tickets, uncut_marks}
use Rattle.evbuf_chain.specs.ChunkValue.{Gathered, Owned, all_bytes, all_marks}

-- The first n bytes left, or all where there are fewer, and the references that end among them were released. So many of the n there
-- were not.
pub record FrontGone (old : Gathered) (released : List ℕ) (n : ℕ) (missing : ℕ) (new : Gathered) (now : List ℕ) : Type 0 where
  pub left : missing ≡ n - length old.bytes
  pub bytes : new.bytes ≡ drop n old.bytes
  pub marks : new.marks ≡ drop n old.marks
  pub ended : now ≡ released ++ ended_tickets (take n old.marks)

-- Of the first n bytes all but so many went behind others, with their marks.
pub record MovesWhole (old others : Gathered) (n : ℕ) (left : ℕ) (new moved : Gathered) : Type 0 where
  pub within : left ≤ n
  pub beyond : left - length new.bytes ≡ n - length old.bytes
  pub taken : moved.bytes ++ take left new.bytes ≡ others.bytes ++ take n old.bytes
  pub taken_marks : moved.marks ++ uncut_marks (take left new.marks) ≡ others.marks ++ uncut_marks (take n old.marks)
  pub bytes : drop left new.bytes ≡ drop n old.bytes
  pub marks : drop left new.marks ≡ drop n old.marks
  pub all : moved.bytes ++ new.bytes ≡ others.bytes ++ old.bytes
  pub all_marks : moved.marks ++ new.marks ≡ others.marks ++ old.marks

-- The first n bytes of chunks and of the own bytes behind them were copied behind others, and the references that end among them were
-- released.
pub record Takes (old : Gathered) (own : Owned) (released : List ℕ) (into : Owned) (n : ℕ) (new : Gathered) (left : Owned) (now : List ℕ)
    (taken : Owned) : Type 0 where
  pub bytes : all_bytes new left ≡ drop n (all_bytes old own)
  pub marks : all_marks new left ≡ drop n (all_marks old own)
  pub ended : now ≡ released ++ ended_tickets (take n (all_marks old own))
  pub items : taken.items ≡ into.items ++ take n (all_bytes old own)
  pub room : taken.spare + n ≡ into.spare
  pub spare : left.spare ≡ own.spare

-- The first n bytes lie in the first chunk, in memory of its own: their marks are gone, and with them the references that end among them.
pub record PullsUp (old : Gathered) (own : Owned) (released : List ℕ) (n : ℕ) (new : Gathered) (left : Owned) (now : List ℕ) : Type 0 where
  pub bytes : all_bytes new left ≡ all_bytes old own
  pub marks : all_marks new left ≡ unmarked n ++ drop n (all_marks old own)
  pub ended : now ≡ released ++ ended_tickets (take n (all_marks old own))
  pub run : n ≤ new.run
  pub spare : left.spare ≡ own.spare
