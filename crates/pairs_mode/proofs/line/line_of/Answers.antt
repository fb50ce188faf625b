use Rattle.std.proofs.Common.{◌≡◌, ℕ, ◌<◌, List, [], ◌∷◌, length, map, Bor, None, refl, sym, arith}
use Rattle.pairs_mode.specs.Grammar.{said}
use Rattle.pairs_mode.proofs.line.line_of.Goals as goal

-- a line of fewer than two words says nothing
said-short : (words : List (Bor (List ℕ))) → length words < 2 → said (map (λ w. w.now) words) ≡ None
said-short [] short = refl
said-short (first ∷ []) short = refl
said-short (first ∷ second ∷ more) short = absurd (omega arith)

pub returns-in_default-clause-value : goal.returns-in_default-clause-value
returns-in_default-clause-value c = sym (said-short c.args.words.now c.in_default.len_below)
