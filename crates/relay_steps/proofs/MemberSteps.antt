-- How many sides are in each group, by their numbers, as sides join, leave and are opened.
use Rattle.std.proofs.Common.{◌≡◌, ◌≢◌, inl, inr, ℕ, zero, suc, ◌+◌, ◌-◌, ◌*◌, ◌<◌, ◌≤◌, Bool, true, false, cond, ◌&&◌, List, [], ◌∷◌}
use Rattle.std.proofs.Common.{length, Option, Some, None, refl, sym, ◌∙◌, ap, arith, slice_index_or, nat_eq}
use Rattle.std.specs.Prelude.{count_by}
use Rattle.std.proofs.lemmas.Bool.Decides.{eqb_tells}
use Rattle.std.proofs.lemmas.List.Sums.{sum_by-cons}
use Rattle.ev_types.specs.declared.side.Side.{Side}
use Rattle.ev_types.specs.declared.side.Side.TheVariants.{In, Out}
use Rattle.ev_types.specs.declared.side.SideId.{SideId}
use Rattle.ev_types.specs.Sides.{half, number}
use Rattle.rate_group.specs.GroupList.{one_of}
use Rattle.relay_model.specs.Plain.{Plain, PlainSide, no_side, side_at, is_live, sides_from, all_sides}
use Rattle.relay_model.specs.Groups.{same_group, members}
use Rattle.relay_steps.specs.Grouped.{sides_in}

-- one, where it holds
abbrev one_where : Bool → ℕ
one_where b = cond b 1 0

count-cons : {A : Type 0} (f : A → Bool) (a : A) (xs : List A) → count_by f (a ∷ xs) ≡ one_where (f a) + count_by f xs
count-cons f a xs = sum_by-cons (λ z. one_where (f z)) a xs

flip : (a b : ℕ) → nat_eq a b ≡ nat_eq b a
flip a b = elim (eqb_tells a b) [
  | inl p ↦ (λ i. nat_eq (p.1 i) b) ∙ (λ i. nat_eq b (sym p.1 i))
  | inr p ↦ elim (eqb_tells b a) [ inl q ↦ absurd (p.1 (sym q.1)) | inr q ↦ p.0 ∙ sym q.0 ]
]

one-is : (n : ℕ) (o : Option ℕ) → one_where (same_group o n) ≡ one_of n o
one-is n None = refl
one-is n (Some m) = ap one_where (flip m n)

-- Sides of links from one on

abbrev in_of : ℕ → SideId
in_of k = record { link = k; side = In }

abbrev out_of : ℕ → SideId
out_of k = record { link = k; side = Out }

module _ (f h : SideId → Bool) where
  pub count-same : (k n : ℕ) → ((a : SideId) → k ≤ a.link → a.link < k + n → h a ≡ f a) →
      count_by h (sides_from k n) ≡ count_by f (sides_from k n)
  count-same k zero same = refl
  count-same k (suc n) same =
      let a = same (in_of k) (omega arith) (omega arith) in
      let b = same (out_of k) (omega arith) (omega arith) in
      let rest = count-same (k + 1) n (λ z from to. same z (omega (arith, from)) (omega (arith, to))) in
      count-cons h (in_of k) (out_of k ∷ sides_from (k + 1) n)
      ∙ ap (λ m. one_where (h (in_of k)) + m) (count-cons h (out_of k) (sides_from (k + 1) n))
      ∙ (λ i. one_where (a i) + (one_where (b i) + rest i))
      ∙ sym (ap (λ m. one_where (f (in_of k)) + m) (count-cons f (out_of k) (sides_from (k + 1) n)))
      ∙ sym (count-cons f (in_of k) (out_of k ∷ sides_from (k + 1) n))

  both : (k n : ℕ) (z : SideId → Bool) → count_by z (sides_from k (suc n))
      ≡ one_where (z (in_of k)) + (one_where (z (out_of k)) + count_by z (sides_from (k + 1) n))
  both k n z =
      count-cons z (in_of k) (out_of k ∷ sides_from (k + 1) n)
      ∙ ap (λ m. one_where (z (in_of k)) + m) (count-cons z (out_of k) (sides_from (k + 1) n))

  abbrev Changed : SideId → ℕ → ℕ → Type 0
  Changed e k n = count_by h (sides_from k n) + one_where (f e) ≡ count_by f (sides_from k n) + one_where (h e)

  -- only for one of them something else holds
  pub count-changed : (e : SideId) (k n : ℕ) → k ≤ e.link → e.link < k + n → ((a : SideId) → a ≢ e → h a ≡ f a) →
      count_by h (sides_from k n) + one_where (f e) ≡ count_by f (sides_from k n) + one_where (h e)
  count-changed e k zero from to same = absurd (omega (arith, from, to))
  count-changed e k (suc n) from to same = elim (eqb_tells e.link k) [
    | inl here ↦ by_side e.side refl here.1
    | inr later ↦
        let far = later.1 in
        let a = ap one_where (same (in_of k) (λ p. far (sym (ap (λ z. z.link) p)))) in
        let b = ap one_where (same (out_of k) (λ p. far (sym (ap (λ z. z.link) p)))) in
        let rest = count-changed e (k + 1) n (omega (arith, from, far)) (omega (arith, to)) same in
        let whole_f = both k n f in
        let whole_h = both k n h in
        omega (arith, a, b, rest, whole_f, whole_h)
  ]
    where
      rest-same : e.link ≡ k → count_by h (sides_from (k + 1) n) ≡ count_by f (sides_from (k + 1) n)
      rest-same here =
          count-same (k + 1) n (λ a after before.
          same a (λ p. let q = ap (λ (z : SideId). z.link) p in absurd (omega (arith, q, here, after))))

      by_side : (z : Side) → e.side ≡ z → e.link ≡ k → Changed e k (suc n)
      by_side In is here =
          let one : e ≡ in_of k = λ i. record { link = here i; side = is i } in
          let own = ap (λ z. one_where (h z)) one in
          let was = ap (λ z. one_where (f z)) one in
          let b = ap one_where (same (out_of k) (λ p. let q = ap (λ (z : SideId). half z.side) (p ∙ one) in absurd (omega (arith, q)))) in
          let rest = rest-same here in
          let whole_f = both k n f in
          let whole_h = both k n h in
          omega (arith, own, was, b, rest, whole_f, whole_h)
      by_side Out is here =
          let one : e ≡ out_of k = λ i. record { link = here i; side = is i } in
          let own = ap (λ z. one_where (h z)) one in
          let was = ap (λ z. one_where (f z)) one in
          let b = ap one_where (same (in_of k) (λ p. let q = ap (λ (z : SideId). half z.side) (p ∙ one) in absurd (omega (arith, q)))) in
          let rest = rest-same here in
          let whole_f = both k n f in
          let whole_h = both k n h in
          omega (arith, own, was, b, rest, whole_f, whole_h)

-- one link more
pub count-end : (f : SideId → Bool) (k n : ℕ) → count_by f (sides_from k (suc n))
    ≡ count_by f (sides_from k n) + (one_where (f (in_of (k + n))) + one_where (f (out_of (k + n))))
count-end f k zero =
    let same : k + 0 ≡ k = omega arith in
    let whole = both f f k zero f in
    let a = ap (λ z. one_where (f (in_of z))) same in
    let b = ap (λ z. one_where (f (out_of z))) same in
    omega (arith, whole, a, b)
count-end f k (suc n) =
    let same : (k + 1) + n ≡ k + suc n = omega arith in
    let whole = both f f k (suc n) f in
    let front = both f f k n f in
    let rest = count-end f (k + 1) n in
    let a = ap (λ z. one_where (f (in_of z))) same in
    let b = ap (λ z. one_where (f (out_of z))) same in
    omega (arith, whole, front, rest, a, b)

-- The sides of a list, two for each link

count-places : (f : PlainSide → Bool) (m k : ℕ) (xs : List PlainSide) → length xs ≡ 2 * m →
    count_by f xs ≡ count_by (λ e. f (slice_index_or xs (number e - 2 * k) no_side)) (sides_from k m)
count-places f zero k [] many = refl
count-places f zero k (x ∷ xs) many = absurd (omega (arith, many))
count-places f (suc m) k [] many = absurd (omega (arith, many))
count-places f (suc m) k (x ∷ []) many = absurd (omega (arith, many))
count-places f (suc m) k (x ∷ y ∷ xs) many =
    let here : SideId → Bool = λ e. f (slice_index_or (x ∷ y ∷ xs) (number e - 2 * k) no_side) in
    let there : SideId → Bool = λ e. f (slice_index_or xs (number e - 2 * (k + 1)) no_side) in
    let rest = count-places f m (k + 1) xs (omega (arith, many)) in
    let moved : count_by here (sides_from (k + 1) m) ≡ count_by there (sides_from (k + 1) m) =
    count-same there here (k + 1) m (λ a from to.
    let next : number a - 2 * k ≡ suc (suc (number a - 2 * (k + 1))) = omega (arith, from) in
    ap (λ j. f (slice_index_or (x ∷ y ∷ xs) j no_side)) next) in
    let zeroth : number (in_of k) - 2 * k ≡ zero = omega arith in
    let first : number (out_of k) - 2 * k ≡ suc zero = omega arith in
    let a : one_where (here (in_of k)) ≡ one_where (f x) = ap (λ j. one_where (f (slice_index_or (x ∷ y ∷ xs) j no_side))) zeroth in
    let b : one_where (here (out_of k)) ≡ one_where (f y) = ap (λ j. one_where (f (slice_index_or (x ∷ y ∷ xs) j no_side))) first in
    let whole = both here here k m here in
    let c = count-cons f x (y ∷ xs) in
    let d = count-cons f y xs in
    omega (arith, rest, moved, a, b, whole, c, d)

-- the model's members by the sides' numbers
members-by : (p : Plain) → length p.sides ≡ 2 * p.opened → (n : ℕ) →
    members p n ≡ count_by (λ e. is_live p e && same_group (side_at p e).group n) (all_sides p)
members-by p many n =
    let in_it : PlainSide → Bool = λ x. x.live && same_group x.group n in
    count-places in_it p.opened 0 p.sides many
    ∙ count-same (λ e. is_live p e && same_group (side_at p e).group n)
    (λ e. in_it (slice_index_or p.sides (number e - 2 * 0) no_side)) 0 p.opened
    (λ a from to.
    let same : number a - 2 * 0 ≡ number a = omega arith in
    ap (λ j. in_it (slice_index_or p.sides j no_side)) same)

-- where sides are live and have groups as before
pub members-same : (p q : Plain) → length p.sides ≡ 2 * p.opened → length q.sides ≡ 2 * q.opened → q.opened ≡ p.opened →
    ((e : SideId) → is_live q e ≡ is_live p e) → ((e : SideId) → (side_at q e).group ≡ (side_at p e).group) → (n : ℕ) →
    members q n ≡ members p n
members-same p q many many' opened live group n =
    members-by q many' n
    ∙ (λ i. count_by (λ e. live e i && same_group (group e i) n) (sides_from 0 (opened i)))
    ∙ sym (members-by p many n)

-- The model's members are the sides in the group, where a side that isn't live has none.
pub members-are : (p : Plain) → length p.sides ≡ 2 * p.opened → ((e : SideId) → is_live p e ≡ false → (side_at p e).group ≡ None) →
    (n : ℕ) → members p n ≡ sides_in p n
members-are p many gone n =
    members-by p many n
    ∙ count-same (λ e. same_group (side_at p e).group n) (λ e. is_live p e && same_group (side_at p e).group n) 0 p.opened
    (λ a from to. alive (side_at p a).live (side_at p a).group (gone a))
  where
    alive : (b : Bool) (o : Option ℕ) → (b ≡ false → o ≡ None) → (b && same_group o n) ≡ same_group o n
    alive true o h = refl
    alive false o h = sym (ap (λ z. same_group z n) (h refl))

-- one side has another group
pub sides-changed : (p q : Plain) (e : SideId) (n : ℕ) → q.opened ≡ p.opened → e.link < p.opened →
    ((a : SideId) → a ≢ e → (side_at q a).group ≡ (side_at p a).group) →
    sides_in q n + one_of n (side_at p e).group ≡ sides_in p n + one_of n (side_at q e).group
sides-changed p q e n opened lt same =
    let f : SideId → Bool = λ a. same_group (side_at p a).group n in
    let h : SideId → Bool = λ a. same_group (side_at q a).group n in
    let c = count-changed f h e 0 p.opened (omega arith) (omega (arith, lt)) (λ a apart. ap (λ z. same_group z n) (same a apart)) in
    let all : sides_in q n ≡ count_by h (sides_from 0 p.opened) = ap (λ m. count_by h (sides_from 0 m)) opened in
    let was = one-is n (side_at p e).group in
    let is = one-is n (side_at q e).group in
    omega (arith, c, all, was, is)

-- a link more, whose sides may have groups
pub sides-opened : (p q : Plain) (n : ℕ) → q.opened ≡ p.opened + 1 →
    ((a : SideId) → a.link < p.opened → (side_at q a).group ≡ (side_at p a).group) →
    sides_in q n ≡ sides_in p n + (one_of n (side_at q (in_of p.opened)).group + one_of n (side_at q (out_of p.opened)).group)
sides-opened p q n opened same =
    let f : SideId → Bool = λ a. same_group (side_at p a).group n in
    let h : SideId → Bool = λ a. same_group (side_at q a).group n in
    let one_more : q.opened ≡ suc p.opened = opened ∙ omega arith in
    let all : sides_in q n ≡ count_by h (sides_from 0 (suc p.opened)) = ap (λ m. count_by h (sides_from 0 m)) one_more in
    let end = count-end h 0 p.opened in
    let old : count_by h (sides_from 0 p.opened) ≡ sides_in p n =
    count-same f h 0 p.opened (λ a from to. ap (λ z. same_group z n) (same a (omega (arith, to)))) in
    let place : 0 + p.opened ≡ p.opened = omega arith in
    let a : one_where (h (in_of (0 + p.opened))) ≡ one_of n (side_at q (in_of p.opened)).group =
    ap (λ z. one_where (h (in_of z))) place ∙ one-is n (side_at q (in_of p.opened)).group in
    let b : one_where (h (out_of (0 + p.opened))) ≡ one_of n (side_at q (out_of p.opened)).group =
    ap (λ z. one_where (h (out_of z))) place ∙ one-is n (side_at q (out_of p.opened)).group in
    omega (arith, all, end, old, a, b)
