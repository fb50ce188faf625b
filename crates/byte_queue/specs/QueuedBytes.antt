-- What contracts see of a queue of bytes.
use Rattle.std.specs.Prelude.{ℕ, ◌+◌, ◌*◌, ◌==◌, max, if◌then◌else◌, List, [], length}

-- bytes in order, and how many more fit in front and behind without taking memory
pub record Queued : Type 0 where
  pub items : List ℕ
  pub front : ℕ
  pub spare : ℕ

-- the memory that is kept for them, in bytes
abbrev pub room_in_all : Queued → ℕ
room_in_all q = q.front + length q.items + q.spare

-- bytes whose room, where there is none of them, was freed
abbrev pub given_up_room : Queued → Queued
given_up_room q = if length q.items == 0 then record { items = []; front = 0; spare = 0 } else q

-- What is spare at most once room was made for n more behind so many bytes: what was spare, or n and seven times the bytes.
abbrev pub most_spare : ℕ → ℕ → ℕ → ℕ
most_spare before n bytes = max before (n + 7 * bytes)
