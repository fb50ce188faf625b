-- What a line asks, by cases on its words.
use Rattle.std.specs.Prelude.{ℕ, ◌^◌, ◌≤◌, List, [], ◌∷◌, codes, if◌then◌else◌, Option, Some, None, option_map, option_and_then}
use Rattle.std.specs.Str.{bytes_eq}
use Rattle.ev_types.specs.declared.filter.Mode.{Mode}
use Rattle.ev_types.specs.declared.filter.Mode.TheVariants as mode
use Rattle.script_text.specs.Numbers.{number_within, bytes_of}
use Rattle.script_text.specs.ValueGrammar.{dir_of}
use Rattle.pairs_mode.specs.declared.half.Half.{Half}
use Rattle.pairs_mode.specs.declared.half.Half.TheVariants.{A, B}
use Rattle.pairs_mode.specs.declared.line.PairAsk.{PairAsk}
use Rattle.pairs_mode.specs.declared.line.PairAsk.TheVariants as ask
use Rattle.pairs_mode.specs.declared.line.Line.{Line}

abbrev pub half_of : List ℕ → Option Half
half_of word = if bytes_eq word (codes "a") then Some A else (if bytes_eq word (codes "b") then Some B else None)

abbrev pub mode_of : List ℕ → Option Mode
mode_of word =
    if bytes_eq word (codes "normal") then Some mode.Normal
    else (if bytes_eq word (codes "flush") then Some mode.Flush
    else (if bytes_eq word (codes "finished") then Some mode.Finished
    else None))

-- a number of bytes: at most 2^24
abbrev pub count_of : List ℕ → Option ℕ
count_of word = number_within (2 ^ 24) word

-- a mark: at most 2^24
abbrev pub mark_of : List ℕ → Option ℕ
mark_of word = number_within (2 ^ 24) word

-- what a line asks that has one word behind the half
abbrev pub one_ask : List ℕ → List ℕ → Option PairAsk
one_ask first word =
    if bytes_eq first (codes "write") then option_map (λ bytes. ask.Write bytes) (bytes_of word)
    else (if bytes_eq first (codes "drain") then option_map (λ n. ask.Drain n) (count_of word)
    else (if bytes_eq first (codes "enable") then option_map (λ d. ask.Enable d) (dir_of word)
    else (if bytes_eq first (codes "disable") then option_map (λ d. ask.Disable d) (dir_of word)
    else (if bytes_eq first (codes "high") then option_map (λ n. ask.High n) (mark_of word)
    else (if bytes_eq first (codes "flush") then option_map (λ m. ask.Flush m) (mode_of word)
    else None)))))

-- what a line asks by its first word and those behind the half
abbrev pub ask_by : List ℕ → List (List ℕ) → Option PairAsk
ask_by first [] = if bytes_eq first (codes "free") then Some ask.Free else None
ask_by first (word ∷ []) = one_ask first word
ask_by first (word ∷ another ∷ more) = None

-- what a line says by all its words: the half is the second
abbrev pub said : List (List ℕ) → Option Line
said [] = None
said (first ∷ []) = None
said (first ∷ word ∷ more) =
    option_and_then (λ of_half. option_map (λ asked. record { half = of_half; ask = asked }) (ask_by first more)) (half_of word)

-- a mark that is set is at most 2^24
abbrev pub IsAskWithin : PairAsk → Type 0
IsAskWithin (ask.Write bytes) = Unit {0}
IsAskWithin (ask.Drain n) = Unit {0}
IsAskWithin (ask.Enable d) = Unit {0}
IsAskWithin (ask.Disable d) = Unit {0}
IsAskWithin (ask.High n) = n ≤ 2 ^ 24
IsAskWithin (ask.Flush m) = Unit {0}
IsAskWithin ask.Free = Unit {0}

abbrev pub IsWithin : Line → Type 0
IsWithin line = IsAskWithin line.ask
