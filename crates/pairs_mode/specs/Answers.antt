-- How the line of an answer is spelled.
use Rattle.std.specs.Prelude.{ℕ, List, [], ◌∷◌, ◌++◌, if◌then◌else◌, Option, Some, None, codes, length}
use Rattle.std.specs.Fmt.{decimal}
use Rattle.pairs_mode.specs.Pair.{HalfValue}
use Rattle.pairs_mode.specs.declared.half.Half.{Half}
use Rattle.pairs_mode.specs.declared.half.Half.TheVariants.{A, B}
use Rattle.pairs_mode.specs.declared.answer.Refusal.{Refusal}
use Rattle.pairs_mode.specs.declared.answer.Refusal.TheVariants.{NotLive, NoPartner}

-- what a line is answered, by why it is refused, if it is
abbrev pub answer_text : Option Refusal → List ℕ
answer_text None = codes "ok"
answer_text (Some NotLive) = codes "refused NotLive"
answer_text (Some NoPartner) = codes "refused NoPartner"

-- the half at which end of file was raised, if it was
abbrev pub end_text : Option Half → List ℕ
end_text None = []
end_text (Some A) = codes " eof a"
end_text (Some B) = codes " eof b"

-- the lengths of a half's input and output; a dash for both of a freed one
abbrev pub lengths_text : HalfValue → List ℕ
lengths_text half =
    if half.live then 32 ∷ decimal (length half.input) ++ 32 ∷ decimal (length half.output) else codes " -"
