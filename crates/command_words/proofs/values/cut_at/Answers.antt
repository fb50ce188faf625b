use Rattle.std.proofs.Common.{◌≡◌, ◌<◌, ℕ, ◌==◌, List, Option, Some, None, option_map, length, refl}
use Rattle.std.specs.List.{position_or_len, before_first, after_first}
use Rattle.std.specs.Option.{MatchOption}
use Rattle.std.specs.Borrow.{Bor}
use Rattle.std.proofs.lemmas.Str.Pattern.{split_once_first}
use Rattle.command_words.specs.Values.{cut}
use Rattle.command_words.proofs.CutLemmas.{list_any-found, list_any-none}
use Rattle.command_words.proofs.values.cut_at.Goals as goal

parts_are : (stop : ℕ) (text : List ℕ) (r : Option (Bor (List ℕ) × Bor (List ℕ)))
    → MatchOption r (position_or_len (λ b. b == stop) text ≡ length text) (λ x. (position_or_len (λ b. b == stop) text < length text)
    × (x.0.now ≡ before_first (λ b. b == stop) text) × (x.1.now ≡ after_first (λ b. b == stop) text))
    → option_map (λ c. (c.0.now, c.1.now)) r ≡ cut stop text
parts_are stop text None none = rw (list_any-none _ text none) refl
parts_are stop text (Some x) found = rw (list_any-found _ text found.0, found.1, found.2) refl

pub returns : goal.returns
returns c = parts_are c.args.stop c.args.text.now c.split_once.result
    (split_once_first c.args.stop c.args.text.now c.split_once.result c.split_once.ensures.cases c.requires)
