use Rattle.std.proofs.Common.{◌≡◌, ◌∙◌, ◌++◌, ◌+◌, [], ◌∷◌, drop, List, Option, Some, None, ℕ, refl, sym, ap, drop-cons, add-one}
use Rattle.std.specs.Option.{option_to_list}
use Rattle.std.proofs.lemmas.List.{drop_all}
use Rattle.rate_group.specs.declared.group.Group.{Group}
use Rattle.rate_group.specs.GroupList.{gains_counted}
use Rattle.rate_group.specs.Gains.{first_moment}
use Rattle.rate_group.proofs.group_list.first_gain.Goals as goal

-- the earlier of two moments stands for both
earlier-first : (first other : Option ℕ) (rest : List ℕ) →
    first_moment (option_to_list (first_moment (option_to_list first ++ option_to_list other)) ++ rest)
    ≡ first_moment (option_to_list first ++ (option_to_list other ++ rest))
earlier-first None None rest = refl
earlier-first None (Some b) rest = refl
earlier-first (Some a) None rest = refl
earlier-first (Some a) (Some b) rest = refl

alone : (first : Option ℕ) → first_moment (option_to_list first ++ []) ≡ first
alone None = refl
alone (Some a) = refl

pub loop-group-init : goal.loop-group-init
loop-group-init c = refl

pub loop-group-preserved : goal.loop-group-preserved
loop-group-preserved c =
    let gs : List Group = c.args.groups.now in
    let i = c.loop-group.group-index in
    let first = c.loop-group.first in
    let rest = drop-cons gs i c.group-item.result c.loop-group-test.true in
    let here : drop i gs ≡ c.group-item.result ∷ drop (i + 1) gs =
    rest ∙ (λ k. sym c.group-item.is k ∷ drop (sym (add-one i) k) gs) in
    ap (λ o. first_moment (option_to_list o ++ gains_counted c.args.time (drop (i + 1) gs))) c.earlier-first.ensures
    ∙ earlier-first first c.gains_at.result (gains_counted c.args.time (drop (i + 1) gs))
    ∙ ap (λ xs. first_moment (option_to_list first ++ (xs ++ gains_counted c.args.time (drop (i + 1) gs)))) c.gains_at.ensures
    ∙ ap (λ (xs : List Group). first_moment (option_to_list first ++ gains_counted c.args.time xs)) (sym here)
    ∙ c.loop-group.invariant

pub returns : goal.returns
returns c =
    let gs : List Group = c.args.groups.now in
    let i = c.loop-group.group-index in
    sym (alone c.loop-group.first)
    ∙ ap (λ (xs : List Group). first_moment (option_to_list c.loop-group.first ++ gains_counted c.args.time xs))
    (sym (drop_all i gs c.loop-group-test.false))
    ∙ c.loop-group.invariant
