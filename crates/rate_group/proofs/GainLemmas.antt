-- When the groups gain again, by how many members each counts.
use Rattle.std.proofs.Common.{◌≡◌, ◌∙◌, ℕ, suc, ◌+◌, ◌++◌, List, [], ◌∷◌, get_or, refl, ap, arith}
use Rattle.rate_group.specs.declared.group.Group.{Group}
use Rattle.rate_group.specs.GroupList.{group_value, group_values, counts_of, gains_counted, Counted}
use Rattle.rate_group.specs.Steps.{count_in}
use Rattle.rate_group.specs.Gains.{waiting_gain, waiting_gains}

from : (time n : ℕ) (gs : List Group) (members : List (ℕ × ℕ)) → ((k : ℕ) → get_or (counts_of gs) k 0 ≡ count_in (n + k) members) →
    gains_counted time gs ≡ waiting_gains time n members (group_values gs)
from time n [] members h = refl
from time n (g ∷ gs) members h =
    let same : n + 0 ≡ n = omega arith in
    ap (λ k. waiting_gain time k (group_value g) ++ gains_counted time gs) (h 0 ∙ ap (λ k. count_in k members) same)
    ∙ ap (λ ms. waiting_gain time (count_in n members) (group_value g) ++ ms) (from time (n + 1) gs members later)
  where
    later : (k : ℕ) → get_or (counts_of gs) k 0 ≡ count_in ((n + 1) + k) members
    later k = let same : n + suc k ≡ (n + 1) + k = omega arith in h (suc k) ∙ ap (λ j. count_in j members) same

-- each group counts its members
pub gains-counted : (time : ℕ) (gs : List Group) (members : List (ℕ × ℕ)) → Counted gs members →
    gains_counted time gs ≡ waiting_gains time 0 members (group_values gs)
gains-counted time gs members h = from time 0 gs members by
  where
    by : (k : ℕ) → get_or (counts_of gs) k 0 ≡ count_in (0 + k) members
    by k = let same : k ≡ 0 + k = omega arith in h.counts k ∙ ap (λ j. count_in j members) same
