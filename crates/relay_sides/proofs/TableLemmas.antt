-- Lists that are told by a function of the place.
use Rattle.std.proofs.Common.{◌≡◌, ◌≢◌, ℕ, zero, suc, ◌<◌, Bool, true, false, ◌==◌, if◌then◌else◌, [], ◌∷◌, ◌++◌, length, slice_index_or}
use Rattle.std.proofs.Common.{slice_set, refl, ◌∙◌, ap, arith, eqb-true}
use Rattle.std.proofs.lemmas.Bool.{eqb-false}
use Rattle.relay_sides.specs.Table.{tabulate}

module _ {A : Type 0} where
  pub length-tabulate : (f : ℕ → A) (n : ℕ) → length (tabulate f n) ≡ n
  length-tabulate f zero = refl
  length-tabulate f (suc n) = ap suc (length-tabulate (λ k. f (suc k)) n)

  pub get-tabulate : (f : ℕ → A) (n k : ℕ) (none : A) → k < n → slice_index_or (tabulate f n) k none ≡ f k
  get-tabulate f zero k none h = absurd (omega (arith, h))
  get-tabulate f (suc n) zero none h = refl
  get-tabulate f (suc n) (suc k) none h = get-tabulate (λ j. f (suc j)) n k none (omega (arith, h))

  pub tabulate-same : (f g : ℕ → A) (n : ℕ) → ((k : ℕ) → g k ≡ f k) → tabulate g n ≡ tabulate f n
  tabulate-same f g zero h = refl
  tabulate-same f g (suc n) h =
      let rest = tabulate-same (λ k. f (suc k)) (λ k. g (suc k)) n (λ k. h (suc k)) in λ i. h 0 i ∷ rest i

  -- two functions that differ at one place alone
  pub tabulate-set : (f g : ℕ → A) (n m : ℕ) → ((k : ℕ) → k ≢ m → g k ≡ f k) → tabulate g n ≡ slice_set (tabulate f n) m (g m)
  tabulate-set f g zero zero h = refl
  tabulate-set f g zero (suc m) h = refl
  tabulate-set f g (suc n) zero h =
      let rest = tabulate-same (λ k. f (suc k)) (λ k. g (suc k)) n (λ k. h (suc k) (λ e. absurd (omega (arith, e)))) in
      λ i. g 0 ∷ rest i
  tabulate-set f g (suc n) (suc m) h =
      let first = h 0 (λ e. absurd (omega (arith, e))) in
      let rest = tabulate-set (λ k. f (suc k)) (λ k. g (suc k)) n m (λ k d. h (suc k) (λ e. d (omega (arith, e)))) in
      λ i. first i ∷ rest i

  -- and at two places
  pub tabulate-two : (f g : ℕ → A) (n a b : ℕ) → a ≢ b → ((k : ℕ) → k ≢ a → k ≢ b → g k ≡ f k) →
      tabulate g n ≡ slice_set (slice_set (tabulate f n) a (g a)) b (g b)
  tabulate-two f g n a b apart h =
      tabulate-set mid g n b (λ k d. off k d (k == a) refl)
      ∙ ap (λ xs. slice_set xs b (g b)) (tabulate-set f mid n a (λ k d. on k d (k == a) refl) ∙ ap (slice_set (tabulate f n) a) at)
    where
      mid : ℕ → A
      mid k = if k == a then g a else f k

      off : (k : ℕ) → k ≢ b → (c : Bool) → (k == a) ≡ c → g k ≡ (if c then g a else f k)
      off k d true e = ap g (eqb-true k a e)
      off k d false e = h k (eqb-false k a e) d

      on : (k : ℕ) → k ≢ a → (c : Bool) → (k == a) ≡ c → (if c then g a else f k) ≡ f k
      on k d true e = absurd (d (eqb-true k a e))
      on k d false e = refl

      same : (c : Bool) → (if c then g a else f a) ≡ g a → (if c then g a else f a) ≡ g a
      same c e = e

      at : mid a ≡ g a
      at = go (a == a) refl
        where
          go : (c : Bool) → (a == a) ≡ c → (if c then g a else f a) ≡ g a
          go true e = refl
          go false e = absurd (eqb-false a a e refl)

  -- two values more
  pub tabulate-more : (f g : ℕ → A) (n : ℕ) → ((k : ℕ) → k < n → g k ≡ f k) →
      tabulate g (suc (suc n)) ≡ tabulate f n ++ g n ∷ g (suc n) ∷ []
  tabulate-more f g zero h = refl
  tabulate-more f g (suc n) h =
      let first = h 0 (omega arith) in
      let rest = tabulate-more (λ k. f (suc k)) (λ k. g (suc k)) n (λ k b. h (suc k) (omega (arith, b))) in
      λ i. first i ∷ rest i
