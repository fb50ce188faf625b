-- What clap's answer says of words, for a command that is simple by its own account.
use Rattle.std.specs.Prelude.{◌≡◌, ◌≢◌, ◌⊎◌, ℕ, List, [], true, false}
use Rattle.std.specs.List.{list_any}
use Rattle.clap.specs.Simple.{App, HasMatchesOf}
use Rattle.clap.specs.Faults.{fault_of, is_simple_and_free}
use Rattle.clap.specs.declared.parser.matches.ArgMatches.{ArgMatches}
use Rattle.command_words.specs.Options.{is_bare}

-- no word is bare, clap finds no fault in the words, and m has their matches
pub record ClapTakes (a : App) (words : List (List ℕ)) (m : ArgMatches) : Type 0 where
  pub full : list_any is_bare words ≡ false
  pub fine : is_simple_and_free a ≡ true → fault_of a words ≡ []
  pub matches : HasMatchesOf a words m

-- a word is bare, or clap finds a fault in the words
abbrev pub ClapRefuses : App → List (List ℕ) → Type 0
ClapRefuses a words =
    is_simple_and_free a ≡ true → (list_any is_bare words ≡ true) ⊎ ((list_any is_bare words ≡ false) × (fault_of a words ≢ []))
