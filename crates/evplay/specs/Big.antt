-- The generated run, and what is told of it.
use Rattle.std.specs.Prelude.{◌≡◌, ◌-◌, ◌^◌, ℕ, min, true, List, [], ◌∷◌, ◌++◌, codes}
use Rattle.std.specs.Fmt.{decimal}
use Rattle.ev_types.specs.Trace.{Trace}
use Rattle.ev_types.specs.declared.status.LinkCount.{LinkCount}
use Rattle.script_text.specs.Lines.{line_of}
use Rattle.script_text.specs.ReportText.{total_words}
use Rattle.command_words.specs.declared.mode.Ending.TheVariants as ending
use Rattle.relay_model.specs.Answers.{TurnAnswer}
use Rattle.big_script.specs.BigScript.{big_script_of}
use Rattle.sum_scribe.specs.Sums.{turns_in, read_in, written_in, sum_of}
use Rattle.evplay.specs.HandedIn.{HandedIn}
use Rattle.evplay.specs.Headline.{IsRun}

-- a word and a number on a line
abbrev pub number_line : List ℕ → ℕ → List ℕ
number_line word n = line_of (word ∷ decimal n ∷ [])

-- a number as it is told; one above 2^64 - 1 is told as that number
abbrev pub told_number : ℕ → ℕ
told_number n = min n (2 ^ 64 - 1)

-- How many links the script has; how many turns were made, how many bytes read and written, and the sum of these; and what the links came
-- to.
abbrev pub summary_text : ℕ → Trace → List LinkCount → List ℕ
summary_text n t links =
    number_line (codes "links") n ++ (number_line (codes "turns") (told_number (turns_in t))
    ++ (number_line (codes "read") (told_number (read_in t)) ++ (number_line (codes "written") (told_number (written_in t))
    ++ (number_line (codes "sum") (sum_of t) ++ line_of (total_words links)))))

abbrev pub no_hooks : HandedIn
no_hooks = record { many = 0; tell = true }

-- It tells of a run of the generated script of so many links, which went to its end and drains its links.
abbrev pub IsBigText : ℕ → List ℕ → Type 0
IsBigText n text =
    (t : Trace) × (links : List LinkCount) × IsRun (big_script_of n) ending.Drained no_hooks TurnAnswer.Went t links
    × (text ≡ summary_text n t links)
