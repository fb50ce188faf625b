-- What 64 sides at a time want, as the bits of two words: bit k of the word at a place is the side numbered 64 * place + k.
use Rattle.std.specs.Prelude.{◌≡◌, ℕ, zero, suc, ◌+◌, ◌*◌, ◌^◌, ◌<◌, length, Bool, false}
use Rattle.std.specs.Prelude.{List, [], ◌∷◌, ◌++◌, filter, Option, Some, None}
use Rattle.number_set.specs.Words.{is_set}
use Rattle.ev_port.specs.declared.port.Want.{Want}
use Rattle.ev_port.specs.declared.want_word.WantWord.{WantWord}
use Rattle.ev_port.specs.Table.{WantsValue, side_of, wants_some, rows_before, named_before}

-- what one of the sides of a word wants
abbrev pub word_row : WantWord → ℕ → Want
word_row w k = record {
  side = side_of (64 * w.at + k);
  read = is_set w.read k;
  write = is_set w.write k;
  can_read = false;
  can_write = false;
}

-- the wants among the first sides of a word, in their order
abbrev pub word_rows_before : WantWord → ℕ → List Want
word_rows_before w zero = []
word_rows_before w (suc k) = word_rows_before w k ++ filter wants_some (word_row w k ∷ [])

-- the wants among the sides of a word, in their order
unfoldable pub word_rows : WantWord → List Want
word_rows w = word_rows_before w 64

-- the word is the last before a place of whose sides one wants something, by who wants to read and who to write
pub record LastWord (reads writes : ℕ → Bool) (before : ℕ) (w : WantWord) : Type 0 where
  pub below : w.at < before
  pub some : 0 < length (word_rows w)
  pub named : rows_before reads writes (64 * before) ≡ rows_before reads writes (64 * w.at) ++ word_rows w

abbrev pub IsLastWord : (ℕ → Bool) → (ℕ → Bool) → ℕ → Option WantWord → Type 0
IsLastWord reads writes before (Some w) = LastWord reads writes before w
IsLastWord reads writes before None = rows_before reads writes (64 * before) ≡ []

-- the word is the last of a table before a place of whose sides one wants something
pub record PreviousWantWord (t : WantsValue) (before : ℕ) (w : WantWord) : Type 0 where
  pub below : w.at < before
  pub small : w.at < 2 ^ 27
  pub some : 0 < length (word_rows w)
  pub named : named_before t (64 * before) ≡ named_before t (64 * w.at) ++ word_rows w

abbrev pub IsPreviousWordWanted : WantsValue → ℕ → Option WantWord → Type 0
IsPreviousWordWanted t before (Some w) = PreviousWantWord t before w
IsPreviousWordWanted t before None = named_before t (64 * before) ≡ []
