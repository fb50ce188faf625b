-- Texts that grow in room that was made before, and how much room a line asks for.
use Rattle.std.specs.Prelude.{◌≡◌, ℕ, ◌+◌, ◌*◌, ◌≤◌, List, [], ◌∷◌, ◌++◌, vec_len, vec_capacity}
use Rattle.std.specs.declared.alloc.Global.{Global}
use Rattle.std.specs.declared.vec.Vec.{Vec}

-- a word with the space behind it
abbrev pub spaced : List ℕ → List ℕ
spaced word = word ++ 32 ∷ []

-- a text has room for so many bytes more
abbrev pub HasRoom : Vec ℕ Global → ℕ → Type 0
HasRoom text bytes = vec_len text + bytes ≤ vec_capacity text

-- A text grew by these bytes, at most so many, and its capacity is no smaller.
abbrev pub GrewBy : List ℕ → ℕ → Vec ℕ Global → Vec ℕ Global → Type 0
GrewBy added most old new = (new.items ≡ old.items ++ added) × (vec_len new ≤ vec_len old + most) × (vec_capacity old ≤ vec_capacity new)

-- how many bytes the longest line of an entry has, the digits of its bytes left out, or a few more
abbrev pub line_room : ℕ
line_room = 192

-- the room of the lines of so many entries with so many bytes in all
abbrev pub room_of : ℕ → ℕ → ℕ
room_of entries bytes = entries * line_room + 2 * bytes
