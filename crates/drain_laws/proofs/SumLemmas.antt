-- Sums over lists of sides, and over all sides of some links.
use Rattle.std.proofs.Common.{◌≡◌, ℕ, zero, suc, ◌+◌, ◌*◌, ◌<◌, ◌≤◌, true, false, if◌then◌else◌, List, [], ◌∷◌, ◌++◌, length}
use Rattle.std.proofs.Common.{◌⊎◌, inl, inr, refl, ◌∙◌, ap, arith, length-append}
use Rattle.std.specs.Prelude.{sum_by}
use Rattle.std.specs.List.{flat_map}
use Rattle.std.proofs.lemmas.Bool.{cases_lt, and_right}
use Rattle.std.proofs.lemmas.List.Sums.{sum_by-cons}
use Rattle.ev_types.specs.declared.side.Side.TheVariants.{In, Out}
use Rattle.ev_types.specs.declared.side.SideId.{SideId}
use Rattle.ev_types.specs.Sides.{peer, same_side, same_end}
use Rattle.relay_model.specs.Plain.{sides_from}
use Rattle.relay_model.proofs.EndLemmas.{same_end-refl, same_end-apart, same_end-flip}
use Rattle.relay_model.proofs.LeftLemmas.{in_of, out_of, in-or-out}

-- Over any list

-- a sum of nothing
pub zeros : {X : Type 0} (xs : List X) → sum_by (λ x. 0) xs ≡ 0
zeros [] = refl
zeros (x ∷ xs) = let a = sum_by-cons (λ z. 0) x xs in let b = zeros xs in omega (arith, a, b)

module _ {X : Type 0} (f g : X → ℕ) where
  pub sum-same : ((x : X) → f x ≡ g x) → (xs : List X) → sum_by f xs ≡ sum_by g xs
  sum-same h [] = refl
  sum-same h (x ∷ xs) =
      let a = sum_by-cons f x xs in
      let b = sum_by-cons g x xs in
      let c = h x in
      let d = sum-same h xs in
      omega (arith, a, b, c, d)

  pub sum-both : (xs : List X) → sum_by (λ x. f x + g x) xs ≡ sum_by f xs + sum_by g xs
  sum-both [] = refl
  sum-both (x ∷ xs) =
      let a = sum_by-cons (λ z. f z + g z) x xs in
      let b = sum_by-cons f x xs in
      let c = sum_by-cons g x xs in
      let d = sum-both xs in
      omega (arith, a, b, c, d)

-- a sum of three and four times something
pub sum-scaled : {X : Type 0} (f : X → ℕ) (xs : List X) → sum_by (λ x. 3 + 4 * f x) xs ≡ 3 * length xs + 4 * sum_by f xs
sum-scaled f [] = refl
sum-scaled f (x ∷ xs) =
    let a = sum_by-cons (λ z. 3 + 4 * f z) x xs in
    let b = sum_by-cons f x xs in
    let c = sum-scaled f xs in
    omega (arith, a, b, c)

-- Over all sides of the bytes that a list makes for each is the sum over the list of those that it makes for all sides.
pub exchange : {X : Type 0} (of : SideId → X → List ℕ) (es : List SideId) (xs : List X) →
    sum_by (λ e. length (flat_map (of e) xs)) es ≡ sum_by (λ x. sum_by (λ e. length (of e x)) es) xs
exchange of es [] = zeros es
exchange of es (x ∷ xs) =
    let a = sum-same (λ e. length (of e x ++ flat_map (of e) xs)) (λ e. length (of e x) + length (flat_map (of e) xs))
    (λ e. length-append (of e x) (flat_map (of e) xs)) es in
    let b = sum-both (λ e. length (of e x)) (λ e. length (flat_map (of e) xs)) es in
    let c = exchange of es xs in
    let d = sum_by-cons (λ z. sum_by (λ e. length (of e z)) es) x xs in
    omega (arith, a, b, c, d)

-- Over all sides of some links

pub length-sides : (k n : ℕ) → length (sides_from k n) ≡ 2 * n
length-sides k zero = refl
length-sides k (suc n) = let a = length-sides (k + 1) n in omega (arith, a)

module _ (f : SideId → ℕ) where
  pub sides-first : (k n : ℕ) → sum_by f (sides_from k (suc n)) ≡ f (in_of k) + f (out_of k) + sum_by f (sides_from (k + 1) n)
  sides-first k n =
      let a = sum_by-cons f (in_of k) (out_of k ∷ sides_from (k + 1) n) in
      let b = sum_by-cons f (out_of k) (sides_from (k + 1) n) in
      omega (arith, a, b)

  pub sides-add : (k m n : ℕ) → sum_by f (sides_from k (m + n)) ≡ sum_by f (sides_from k m) + sum_by f (sides_from (k + m) n)
  sides-add k zero n =
      let a : zero + n ≡ n = omega arith in
      let b : k + zero ≡ k = omega arith in
      let c = ap (λ v. sum_by f (sides_from k v)) a in
      let d = ap (λ v. sum_by f (sides_from v n)) b in
      omega (arith, c, d)
  sides-add k (suc m) n =
      let a : suc m + n ≡ suc (m + n) = omega arith in
      let b : k + suc m ≡ (k + 1) + m = omega arith in
      let c = ap (λ v. sum_by f (sides_from k v)) a in
      let d = ap (λ v. sum_by f (sides_from v n)) b in
      let first = sides-first k (m + n) in
      let again = sides-first k m in
      let rest = sides-add (k + 1) m n in
      omega (arith, c, d, first, again, rest)

  -- one link more at the end
  pub sides-last : (n : ℕ) → sum_by f (sides_from 0 (suc n)) ≡ sum_by f (sides_from 0 n) + sum_by f (sides_from n 1)
  sides-last n =
      let a : suc n ≡ n + 1 = omega arith in
      let b : 0 + n ≡ n = omega arith in
      let c = ap (λ v. sum_by f (sides_from 0 v)) a in
      let d = ap (λ v. sum_by f (sides_from v 1)) b in
      let e = sides-add 0 n 1 in
      omega (arith, c, d, e)

  pub sides-one : (k : ℕ) → sum_by f (sides_from k 1) ≡ f (in_of k) + f (out_of k)
  sides-one k = let a = sides-first k 0 in omega (arith, a)

  -- of the peers it is the same
  pub sides-peer : (k n : ℕ) → sum_by (λ e. f (peer e)) (sides_from k n) ≡ sum_by f (sides_from k n)
  sides-peer k zero = refl
  sides-peer k (suc n) =
      let a = sum_by-cons (λ e. f (peer e)) (in_of k) (out_of k ∷ sides_from (k + 1) n) in
      let b = sum_by-cons (λ e. f (peer e)) (out_of k) (sides_from (k + 1) n) in
      let c = sides-first k n in
      let d = sides-peer (k + 1) n in
      let e : f (peer (in_of k)) ≡ f (out_of k) = refl in
      let h : f (peer (out_of k)) ≡ f (in_of k) = refl in
      omega (arith, a, b, c, d, e, h)

module _ (f g : SideId → ℕ) where
  pub sides-same : (k n : ℕ) → ((e : SideId) → k ≤ e.link → f e ≡ g e) → sum_by f (sides_from k n) ≡ sum_by g (sides_from k n)
  sides-same k zero h = refl
  sides-same k (suc n) h =
      let a = sides-first f k n in
      let b = sides-first g k n in
      let c = h (in_of k) (omega arith) in
      let d = h (out_of k) (omega arith) in
      let e = sides-same (k + 1) n (λ z le. h z (omega arith)) in
      omega (arith, a, b, c, d, e)

-- what is counted at one side alone

abbrev pub at_side : SideId → ℕ → SideId → ℕ
at_side a c e = if same_end a e then c else 0

none-there : (a : SideId) (c : ℕ) (e : SideId) → same_end a e ≡ false → at_side a c e ≡ 0
none-there a c e h = ap (λ b. if b then c else 0) h

some-there : (a : SideId) (c : ℕ) (e : SideId) → same_end a e ≡ true → at_side a c e ≡ c
some-there a c e h = ap (λ b. if b then c else 0) h

no-side : (a : SideId) (c k n : ℕ) → a.link < k → sum_by (at_side a c) (sides_from k n) ≡ 0
no-side a c k n lt =
    sides-same (at_side a c) (λ e. 0) k n (λ e le. none-there a c e (same_end-apart a e k lt le)) ∙ zeros (sides_from k n)

in-first : (c k n : ℕ) → sum_by (at_side (in_of k) c) (sides_from k (suc n)) ≡ c
in-first c k n =
    let a = sides-first (at_side (in_of k) c) k n in
    let b = some-there (in_of k) c (in_of k) (same_end-refl (in_of k)) in
    let d = none-there (in_of k) c (out_of k) (and_right _ (same_side In Out) refl) in
    let e = no-side (in_of k) c (k + 1) n (omega arith) in
    omega (arith, a, b, d, e)

out-first : (c k n : ℕ) → sum_by (at_side (out_of k) c) (sides_from k (suc n)) ≡ c
out-first c k n =
    let a = sides-first (at_side (out_of k) c) k n in
    let b = some-there (out_of k) c (out_of k) (same_end-refl (out_of k)) in
    let d = none-there (out_of k) c (in_of k) (and_right _ (same_side Out In) refl) in
    let e = no-side (out_of k) c (k + 1) n (omega arith) in
    omega (arith, a, b, d, e)

side-here : (a : SideId) (c k n : ℕ) → a.link ≡ k → (a ≡ in_of a.link) ⊎ (a ≡ out_of a.link) →
    sum_by (at_side a c) (sides_from k (suc n)) ≡ c
side-here a c k n same (inl is) = ap (λ z. sum_by (at_side z c) (sides_from k (suc n))) (is ∙ ap in_of same) ∙ in-first c k n
side-here a c k n same (inr is) = ap (λ z. sum_by (at_side z c) (sides_from k (suc n))) (is ∙ ap out_of same) ∙ out-first c k n

side-later : (a : SideId) (c k n : ℕ) → k < a.link → sum_by (at_side a c) (sides_from (k + 1) n) ≡ c →
    sum_by (at_side a c) (sides_from k (suc n)) ≡ c
side-later a c k n lt rest =
    let first = sides-first (at_side a c) k n in
    let i = none-there a c (in_of k) (same_end-flip (in_of k) a false (same_end-apart (in_of k) a (k + 1) (omega arith) (omega arith))) in
    let o = none-there a c (out_of k)
    (same_end-flip (out_of k) a false (same_end-apart (out_of k) a (k + 1) (omega arith) (omega arith))) in
    omega (arith, first, i, o, rest)

-- it is the whole sum, where the side is among them
pub one-side : (a : SideId) (c k n : ℕ) → k ≤ a.link → a.link < k + n → sum_by (at_side a c) (sides_from k n) ≡ c
one-side a c k zero low high = absurd (omega (arith, low, high))
one-side a c k (suc n) low high = elim (cases_lt k a.link) [
  | inl lt ↦ side-later a c k n lt (one-side a c (k + 1) n (omega arith) (omega arith))
  | inr le ↦ side-here a c k n (omega arith) (in-or-out a)
]
