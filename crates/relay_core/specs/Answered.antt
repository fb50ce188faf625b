-- What an answer of a side's end comes with.
use Rattle.std.specs.Prelude.{ℕ, ◌<◌, ◌≤◌, ⊤}
use Rattle.ev_types.specs.declared.answer.ReadAnswer.{ReadAnswer}
use Rattle.ev_types.specs.declared.answer.ReadAnswer.TheVariants as read
use Rattle.ev_types.specs.declared.answer.WriteAnswer.{WriteAnswer}
use Rattle.ev_types.specs.declared.answer.WriteAnswer.TheVariants as write

-- how many bytes a read brought
abbrev pub arrived_count : ReadAnswer → ℕ
arrived_count (read.Got n) = n
arrived_count _ = 0

-- a read that brought bytes brought some, and no more than so many
abbrev pub BringsWithin : ℕ → ReadAnswer → Type 0
BringsWithin most (read.Got n) = (0 < n) × (n ≤ most)
BringsWithin most _ = ⊤

-- no more bytes are taken than so many
abbrev pub TakesAtMost : ℕ → WriteAnswer → Type 0
TakesAtMost most (write.Took n) = n ≤ most
TakesAtMost most _ = ⊤
