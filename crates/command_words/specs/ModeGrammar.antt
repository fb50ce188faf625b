-- The words of the program that plays scripts.
use Rattle.std.specs.Prelude.{ℕ, List, [], ◌∷◌, codes, if◌then◌else◌, Option, Some, None, option_map}
use Rattle.std.specs.Str.{bytes_eq}
use Rattle.command_words.specs.Values.{positive_within}
use Rattle.command_words.specs.declared.mode.ScriptKind.{ScriptKind}
use Rattle.command_words.specs.declared.mode.ScriptKind.TheVariants.{Relay, Buffers, Base, Pairs, Big}
use Rattle.command_words.specs.declared.mode.Ending.TheVariants.{LastTurn, Drained}

-- the mode of a word that stands alone
abbrev pub mode_named : List ℕ → Option ScriptKind
mode_named word =
    if bytes_eq word (codes "relay") then Some (Relay LastTurn)
    else (if bytes_eq word (codes "buffers") then Some Buffers
    else (if bytes_eq word (codes "base") then Some Base
    else (if bytes_eq word (codes "pairs") then Some Pairs
    else None)))

-- the mode of a word with the flag beside it: links that are brought to their end
abbrev pub drained_named : List ℕ → Option ScriptKind
drained_named word = if bytes_eq word (codes "relay") then Some (Relay Drained) else None

-- the mode of a word with a number behind it: a script of so many links, from 1 to 64
abbrev pub counted_named : List ℕ → List ℕ → Option ScriptKind
counted_named word number =
    if bytes_eq word (codes "big") then option_map (λ links. Big links) (positive_within 64 number) else None

-- the mode that words ask for: they are one mode word, or one and the flag `--drain` in any order, or one and a number behind it
abbrev pub mode_of : List (List ℕ) → Option ScriptKind
mode_of (word ∷ []) = mode_named word
mode_of (first ∷ second ∷ []) =
    if bytes_eq first (codes "--drain") then drained_named second
    else (if bytes_eq second (codes "--drain") then drained_named first
    else counted_named first second)
mode_of _ = None
