-- The text of a report: a line for each link, and one that counts them by what they came to.
use Rattle.std.specs.Prelude.{ℕ, ◌+◌, List, [], ◌∷◌, ◌++◌, codes, Bool, true, false, count_by}
use Rattle.std.specs.Fmt.{decimal}
use Rattle.ev_types.specs.declared.status.LinkState.{LinkState}
use Rattle.ev_types.specs.declared.status.LinkState.TheVariants.{Done, Live, Gone}
use Rattle.ev_types.specs.declared.status.LinkCount.{LinkCount}
use Rattle.script_text.specs.Lines.{line_of}

-- what a link came to; one with a live side is open
abbrev pub state_word : LinkState → List ℕ
state_word Done = codes "done"
state_word Live = codes "open"
state_word Gone = codes "gone"

abbrev pub same_state : LinkState → LinkState → Bool
same_state Done Done = true
same_state Live Live = true
same_state Gone Gone = true
same_state _ _ = false

-- how many links came to this
abbrev pub count_of : LinkState → List LinkCount → ℕ
count_of state links = count_by (λ link. same_state link.state state) links

-- what the ends of a link gave and took
abbrev pub count_words : LinkCount → List (List ℕ)
count_words link =
    codes "in" ∷ decimal link.in_read ∷ decimal link.in_given ∷ codes "out" ∷ decimal link.out_read ∷ decimal link.out_given ∷ []

abbrev pub link_words : ℕ → LinkCount → List (List ℕ)
link_words number link = codes "link" ∷ decimal number ∷ state_word link.state ∷ count_words link

-- the lines of some links, the first of which has this number
abbrev pub link_lines : ℕ → List LinkCount → List ℕ
link_lines number [] = []
link_lines number (link ∷ more) = line_of (link_words number link) ++ link_lines (number + 1) more

abbrev pub total_words : List LinkCount → List (List ℕ)
total_words links =
    codes "done" ∷ decimal (count_of Done links) ∷ codes "open" ∷ decimal (count_of Live links) ∷ codes "gone" ∷ decimal (count_of Gone links) ∷ []

abbrev pub report_text : List LinkCount → List ℕ
report_text links = link_lines 0 links ++ line_of (total_words links)
