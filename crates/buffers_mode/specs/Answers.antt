-- How answers, reports and tickets are spelled.
use Rattle.std.specs.Prelude.{ℕ, List, [], ◌∷◌, codes}
use Rattle.std.specs.Fmt.{decimal}
use Rattle.hex.specs.Hex.{encode_lower}
use Rattle.evbuf.specs.declared.callback.Report.{Report}
use Rattle.buffers_mode.specs.declared.answer.Refusal.{Refusal}
use Rattle.buffers_mode.specs.declared.answer.Refusal.TheVariants.{FrozenFront, FrozenEnd, SameBuffer, NoSuchCallback}
use Rattle.buffers_mode.specs.declared.answer.Answer.{Answer}
use Rattle.buffers_mode.specs.declared.answer.Answer.TheVariants.{Done, Bytes, Count, LineEnd, Nothing, Refused}

abbrev pub refusal_word : Refusal → List ℕ
refusal_word FrozenFront = codes "FrozenFront"
refusal_word FrozenEnd = codes "FrozenEnd"
refusal_word SameBuffer = codes "SameBuffer"
refusal_word NoSuchCallback = codes "NoSuchCallback"

-- bytes as lower-case hex digits; no bytes are a dash
abbrev pub bytes_word : List ℕ → List ℕ
bytes_word [] = codes "-"
bytes_word (b ∷ bs) = encode_lower (b ∷ bs)

-- the words of an answer
abbrev pub answer_words : Answer → List (List ℕ)
answer_words Done = codes "ok" ∷ []
answer_words (Bytes bytes) = codes "bytes" ∷ bytes_word bytes ∷ []
answer_words (Count n) = codes "n" ∷ decimal n ∷ []
answer_words (LineEnd place its_length) = codes "n" ∷ decimal place ∷ decimal its_length ∷ []
answer_words Nothing = codes "none" ∷ []
answer_words (Refused refusal) = codes "refused" ∷ refusal_word refusal ∷ []

-- the words of a report of the buffer with this number
abbrev pub report_words : ℕ → Report → List (List ℕ)
report_words buffer report =
    codes "cb" ∷ decimal buffer ∷ decimal report.cb ∷ decimal report.old ∷ decimal report.added ∷ decimal report.deleted ∷ []

-- the words of a ticket that was handed out
abbrev pub released_words : ℕ → List (List ℕ)
released_words ticket = codes "released" ∷ decimal ticket ∷ []
