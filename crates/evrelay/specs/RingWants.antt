-- What the ring keeps of a trace.
use Rattle.std.specs.Prelude.{ℕ, ◌-◌, ◌^◌, ◌<◌, List, [], ◌∷◌, ◌++◌, All, drop, length, map}
use Rattle.ev_types.specs.Trace.{Trace}
use Rattle.ev_types.specs.declared.entry.Entry.{Entry}
use Rattle.ev_types.specs.declared.entry.Entry.TheVariants as entry
use Rattle.ev_port.specs.declared.port.Want.{Want}
use Rattle.ev_port.specs.declared.want_word.WantWord.{WantWord}
use Rattle.ev_port.specs.WantWords.{word_rows}

-- the last n of some items, or all, where they are no more
abbrev pub keep_last : {X : Type 0} → ℕ → List X → List X
keep_last n xs = drop (length xs - n) xs

-- the entries of a trace, without their bytes, and the last 64 of them
abbrev pub entries_of : Trace → List Entry
entries_of t = map (λ x. x.0) t

abbrev pub last_entries : Trace → List Entry
last_entries t = keep_last 64 (entries_of t)

abbrev pub want_entry : Want → Entry
want_entry w = entry.Want w.side w.read w.write

-- the wants of some words, of which each stands behind those that follow it
abbrev pub word_wants : List WantWord → List Want
word_wants [] = []
word_wants (w ∷ ws) = word_wants ws ++ word_rows w

abbrev pub word_entries : List WantWord → List Entry
word_entries words = map want_entry (word_wants words)

-- the sides of the words have numbers below 2 ^ 33
abbrev pub AreOfSides : List WantWord → Type 0
AreOfSides words = All (λ w. w.at < 2 ^ 27) words

-- the last 64 of the entries of words and of those in two halves behind them
abbrev pub kept_last : List WantWord → List Entry → List Entry → List Entry
kept_last words older newer = keep_last 64 ((word_entries words ++ older) ++ newer)
