-- A trace: entries in their order, each with the bytes that stand beside it. Which traces can be stands elsewhere.
use Rattle.std.specs.Prelude.{ℕ, List, [], ◌∷◌, take, drop}
use Rattle.ev_types.specs.declared.entry.Entry.{Entry}
use Rattle.ev_types.specs.declared.entry.Entry.TheVariants.{Read, Write}
use Rattle.ev_types.specs.declared.answer.ReadAnswer.TheVariants.{Got}
use Rattle.ev_types.specs.declared.answer.WriteAnswer.TheVariants.{Took}

-- an entry with its bytes
abbrev pub Event : Type 0
Event = Entry × List ℕ

abbrev pub Trace : Type 0
Trace = List Event

-- how many bytes stand beside an entry: those that were read or taken, and none beside every other
abbrev pub bytes_beside : Entry → ℕ
bytes_beside (Read side room (Got n)) = n
bytes_beside (Write side offered (Took n)) = n
bytes_beside _ = 0

-- the trace of entries whose bytes lie one after another in one list
abbrev pub paired : List Entry → List ℕ → Trace
paired [] bytes = []
paired (e ∷ es) bytes = (e, take (bytes_beside e) bytes) ∷ paired es (drop (bytes_beside e) bytes)
