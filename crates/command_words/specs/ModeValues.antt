-- What the values that clap has for words of the program that plays scripts come to.
use Rattle.std.specs.Prelude.{◌≡◌, ℕ, List, codes, Bool, true, false, Option, Some, None}
use Rattle.clap.specs.Matches.{first_value, found_of, one_text}
use Rattle.clap.specs.Values.{bool_text}
use Rattle.clap.specs.declared.parser.matches.ArgMatches.{ArgMatches}
use Rattle.command_words.specs.ModeGrammar.{counted_named, drained_named, mode_named, mode_of}
use Rattle.command_words.specs.declared.mode.ScriptKind.{ScriptKind}

-- the mode of a mode word, of a number where there is one, and of whether the flag was given
abbrev pub mode_by : Option (List ℕ) → Option (List ℕ) → Bool → Option ScriptKind
mode_by (Some word) None false = mode_named word
mode_by (Some word) None true = drained_named word
mode_by (Some word) (Some number) false = counted_named word number
mode_by _ _ _ = None

-- the words ask for the mode of the values that m has
pub record HasMode (words : List (List ℕ)) (m : ArgMatches) : Type 0 where
  pub drained : Bool
  pub flag : one_text (found_of m) (codes "drain") ≡ Some (bool_text drained)
  pub mode : mode_of words ≡ mode_by (first_value (found_of m) (codes "mode")) (first_value (found_of m) (codes "count")) drained
