-- Lists of groups of which one is changed.
use Rattle.std.proofs.Common.{◌≡◌, ◌∙◌, inl, inr, ℕ, zero, suc, ◌+◌, ◌-◌, ◌<◌, cond, List, [], ◌∷◌, length}
use Rattle.std.proofs.Common.{set, get_or, refl, sym, ap, arith}
use Rattle.std.proofs.lemmas.List.{map-set, get_or-map, get_or-set_same, get_or-set_other}
use Rattle.std.proofs.lemmas.Bool.Decides.{eqb_tells}
use Rattle.rate_group.specs.declared.group.Group.{Group}
use Rattle.rate_group.specs.GroupValue.{GroupValue}
use Rattle.rate_group.specs.GroupList.{group_value, group_values, counts_of, one_at}
use Rattle.rate_group.specs.Steps.{changed_at}

-- a write of a changed group is the change
pub set-changed : (xs : List GroupValue) (i : ℕ) (f : GroupValue → GroupValue) (d : GroupValue) → i < length xs →
    set xs i (f (get_or xs i d)) ≡ changed_at i f xs
set-changed [] i f d h = absurd (omega (arith, h))
set-changed (x ∷ xs) zero f d h = refl
set-changed (x ∷ xs) (suc i) f d h = ap (λ z. x ∷ z) (set-changed xs i f d (omega (arith, h)))

pub values-changed : (gs : List Group) (i : ℕ) (f : GroupValue → GroupValue) (new d : Group) → i < length gs →
    group_value new ≡ f (group_value (get_or gs i d)) → group_values (set gs i new) ≡ changed_at i f (group_values gs)
values-changed gs i f new d h is =
    map-set group_value gs i new
    ∙ ap (set (group_values gs) i) (is ∙ ap f (sym (get_or-map group_value gs i d (group_value d) h)))
    ∙ set-changed (group_values gs) i f (group_value d) (let k = length-values gs in omega (arith, k, h))
  where
    length-values : (gs : List Group) → length (group_values gs) ≡ length gs
    length-values [] = refl
    length-values (g ∷ gs) = let k = length-values gs in omega (arith, k)

-- a group that counts otherwise
pub counts-changed : (gs : List Group) (i n : ℕ) (new d : Group) → i < length gs → new.count ≡ n →
    counts_of (set gs i new) ≡ set (counts_of gs) i n
counts-changed gs i n new d h is = map-set (λ (g : Group). g.count) gs i new ∙ ap (set (counts_of gs) i) is

pub count_at : (gs : List Group) (i : ℕ) (d : Group) → i < length gs → get_or (counts_of gs) i 0 ≡ (get_or gs i d).count
count_at gs i d h = get_or-map (λ (g : Group). g.count) gs i d 0 h

pub one_more : (cs : List ℕ) (n k : ℕ) → n < length cs → get_or (set cs n (get_or cs n 0 + 1)) k 0 ≡ get_or cs k 0 + one_at k n
one_more cs n k h = elim (eqb_tells k n) [
  | inl e ↦ (λ i. get_or (set cs n (get_or cs n 0 + 1)) (e.1 i) 0) ∙ get_or-set_same cs n (get_or cs n 0 + 1) 0 h
      ∙ (λ i. get_or cs (sym e.1 i) 0 + cond (sym e.0 i) 1 0)
  | inr e ↦ get_or-set_other cs n k (get_or cs n 0 + 1) 0 e.1 ∙ omega arith ∙ (λ i. get_or cs k 0 + cond (sym e.0 i) 1 0)
]

pub one_less : (cs : List ℕ) (n k : ℕ) → n < length cs → 0 < get_or cs n 0 →
    get_or (set cs n (get_or cs n 0 - 1)) k 0 + one_at k n ≡ get_or cs k 0
one_less cs n k h some = elim (eqb_tells k n) [
  | inl e ↦ (λ i. get_or (set cs n (get_or cs n 0 - 1)) (e.1 i) 0 + cond (e.0 i) 1 0)
      ∙ ap (λ m. m + 1) (get_or-set_same cs n (get_or cs n 0 - 1) 0 h) ∙ omega (arith, some) ∙ (λ i. get_or cs (sym e.1 i) 0)
  | inr e ↦ (λ i. get_or (set cs n (get_or cs n 0 - 1)) k 0 + cond (e.0 i) 1 0) ∙ omega arith
      ∙ get_or-set_other cs n k (get_or cs n 0 - 1) 0 e.1
]
