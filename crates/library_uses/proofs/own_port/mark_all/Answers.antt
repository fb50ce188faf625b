use Rattle.std.proofs.Common.{◌≡◌, ◌∙◌, ℕ, ◌+◌, ◌<◌, ◌++◌, List, take, drop, map, ap, length, get_or, set, arith}
use Rattle.std.proofs.lemmas.List.{get_or_default}
use Rattle.std.proofs.lemmas.List.Edits.{map_over_more}
use Rattle.ev_port.specs.declared.port.Want.{Want}
use Rattle.library_uses.specs.OwnPort.{marked}
use Rattle.library_uses.proofs.own_port.mark_all.Goals as goal

-- one more want is marked
one_more : (xs ys : List Want) (i : ℕ) (d r : Want) → i < length xs → i < length ys → ys ≡ map marked (take i xs) ++ drop i xs
    → r ≡ marked (get_or ys i d) → set ys i r ≡ map marked (take (i + 1) xs) ++ drop (i + 1) xs
one_more xs ys i d r within also so_far e =
    ap (set ys i) e ∙ map_over_more marked xs ys i (get_or ys i d) within so_far (get_or_default ys i d (get_or ys i d) also)

pub loop-want-preserved : goal.loop-want-preserved
loop-want-preserved c =
    let within : c.loop-want.want-index < length c.args.wants.now = omega arith in
    let also : c.loop-want.want-index < length c.loop-want.wants = omega arith in
    one_more c.args.wants.now c.loop-want.wants c.loop-want.want-index _ c.marked.result within also c.loop-want.invariant c.marked.ensures
