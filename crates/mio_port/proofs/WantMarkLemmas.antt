-- One step of a loop that marks wants in their order.
use Rattle.std.proofs.Common.{◌≡◌, ◌∙◌, ℕ, ◌+◌, ◌<◌, ◌++◌, List, take, drop, map, ap, length, get_or, set}
use Rattle.std.proofs.lemmas.List.{get_or_default}
use Rattle.std.proofs.lemmas.List.Edits.{map_over_more}
use Rattle.ev_port.specs.declared.port.Want.{Want}

-- one more want is marked
pub marks-more : (mark : Want → Want) (xs ys : List Want) (i : ℕ) (d r : Want) → i < length xs → i < length ys
    → ys ≡ map mark (take i xs) ++ drop i xs → r ≡ mark (get_or ys i d) → set ys i r ≡ map mark (take (i + 1) xs) ++ drop (i + 1) xs
marks-more mark xs ys i d r within also so_far e =
    ap (set ys i) e ∙ map_over_more mark xs ys i (get_or ys i d) within so_far (get_or_default ys i d (get_or ys i d) also)
