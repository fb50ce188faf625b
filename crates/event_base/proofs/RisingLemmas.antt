-- Numbers in a row in the order of their values: what becomes of the row as a number gets a value or loses it.
use Rattle.std.proofs.Common.{◌≡◌, ◌≢◌, ℕ, ◌==◌, nat_eq, Bool, true, false, not, if◌then◌else◌, cond, List, [], ◌∷◌, ◌++◌, Option, Some}
use Rattle.std.proofs.Common.{None, refl, sym, ◌∙◌, ap, subst, ⊎_elim, filter, arith, rules}
use Rattle.std.specs.List.{list_any}
use Rattle.std.proofs.lemmas.Bool.{cases_eq, eq-eqb, ne_eqb}
use Rattle.std.proofs.lemmas.Grind.{common_steps}
use Rattle.event_base.specs.Rising.{but, with, IsLeading, Rises}

pub but-same : {V : Type 0} (k : ℕ) (f : ℕ → Option V) → but k f k ≡ None
but-same k f = grind (arith, common_steps)

pub but-other : {V : Type 0} (k j : ℕ) (f : ℕ → Option V) → j ≢ k → but k f j ≡ f j
but-other k j f n = grind (arith, common_steps)

pub with-same : {V : Type 0} (k : ℕ) (v : V) (f : ℕ → Option V) → with k v f k ≡ Some v
with-same k v f = grind (arith, common_steps)

pub with-other : {V : Type 0} (k j : ℕ) (v : V) (f : ℕ → Option V) → j ≢ k → with k v f j ≡ f j
with-other k j v f n = grind (arith, common_steps)

-- a number without a value has none either where another lost its own
pub but-none : {V : Type 0} (k j : ℕ) (f : ℕ → Option V) → f j ≡ None → but k f j ≡ None
but-none k j f h = grind (arith, common_steps)

-- a value that is left was there before
pub but-some : {V : Type 0} (k j : ℕ) (w : V) (f : ℕ → Option V) → but k f j ≡ Some w → f j ≡ Some w
but-some k j w f h = grind (arith, common_steps)

pub but-but : {V : Type 0} (k i j : ℕ) (f : ℕ → Option V) → but k (but i f) j ≡ but i (but k f) j
but-but k i j f = grind (arith, common_steps)

pub but_but-same : {V : Type 0} (k j : ℕ) (f : ℕ → Option V) → but k (but k f) j ≡ but k f j
but_but-same k j f = grind (arith, common_steps)

pub but-with : {V : Type 0} (k i j : ℕ) (v : V) (f : ℕ → Option V) → i ≢ k → but i (with k v f) j ≡ with k v (but i f) j
but-with k i j v f n = grind (arith, common_steps)

pub but_with-same : {V : Type 0} (k j : ℕ) (v : V) (f : ℕ → Option V) → f k ≡ None → but k (with k v f) j ≡ f j
but_with-same k j v f h = grind (arith, common_steps)

-- a row is one of equal values too
pub Rises-same : {V : Type 0} (before : V → V → Type 0) (ks : List ℕ) (f g : ℕ → Option V) → ((j : ℕ) → g j ≡ f j) → Rises before
    ks f → Rises before ks g
Rises-same before [] f g e r = λ k. e k ∙ r k
Rises-same before (k ∷ ks) f g e r = (
  record { value = r.0.value; has = e k ∙ r.0.has; leads = λ j w n h. r.0.leads j w n (sym (e j) ∙ h) },
  Rises-same before ks (but k f) (but k g) (λ j. ap (λ o. cond (nat_eq j k) None o) (e j)) r.1,
)

-- a number without a value is not in the row
pub Rises-absent : {V : Type 0} (before : V → V → Type 0) (ks : List ℕ) (f : ℕ → Option V) (k : ℕ) → Rises before ks f → f k ≡ None
    → list_any (λ o. o == k) ks ≡ false
Rises-absent before [] f k r h = refl
Rises-absent before (j ∷ ks) f k r h =
    let rest = Rises-absent before ks (but j f) k r.1 (but-none j k f h) in
    let apart : j ≢ k = λ e. (let none : f j ≡ None = ap f e ∙ h in cc (r.0.has, none)) in
    grind (arith, common_steps)

-- a row without one number is the row of the values without its own
pub Rises-without : {V : Type 0} (before : V → V → Type 0) (ks : List ℕ) (f : ℕ → Option V) (k : ℕ) → Rises before ks f → Rises
    before (filter (λ o. not (o == k)) ks) (but k f)
Rises-without before [] f k r = λ j. but-none k j f (r j)
Rises-without before (j ∷ ks) f k r =
    let rest = Rises-without before ks (but j f) k r.1 in
    ⊎_elim
    (λ e. (let test : nat_eq j k ≡ true = eq-eqb j k e in
    rw test (Rises-same before _ (but k (but j f)) (but k f)
    (λ i. sym (subst (λ m. but k (but m f) i ≡ but k f i) (sym e) (but_but-same k i f))) rest)))
    (λ n. (let test : nat_eq j k ≡ false = ne_eqb j k n in
    rw test (
      record { value = r.0.value; has = but-other k j f n ∙ r.0.has; leads = λ i w m h. r.0.leads i w m (but-some k i w f h) },
      Rises-same before _ (but k (but j f)) (but j (but k f)) (λ i. but-but j k i f) rest,
    )))
    (cases_eq j k)

-- a number that had no value is the last of the row, where its value comes after all others
pub Rises-push : {V : Type 0} (before : V → V → Type 0) (ks : List ℕ) (f : ℕ → Option V) (k : ℕ) (v : V) → Rises before ks f → f k
    ≡ None → ((j : ℕ) (w : V) → f j ≡ Some w → before w v) → Rises before (ks ++ k ∷ []) (with k v f)
Rises-push before [] f k v r h last = (
  record { value = v; has = with-same k v f; leads = λ j w n e. (let none = with-other k j v f n in cc (none, e, r j)) },
  λ j. but_with-same k j v f h ∙ r j,
)
Rises-push before (j ∷ ks) f k v r h last =
    let apart : j ≢ k = λ e. (let none : f j ≡ None = ap f e ∙ h in cc (r.0.has, none)) in
    let rest = Rises-push before ks (but j f) k v r.1 (but-none j k f h) (λ i w e. last i w (but-some j i w f e)) in (
      record {
        value = r.0.value;
        has = with-other k j v f apart ∙ r.0.has;
        leads = λ i w n e. ⊎_elim
            (λ q. (let p : with k v f i ≡ Some v = subst (λ m. with k v f m ≡ Some v) (sym q) (with-same k v f) in
            let same : v ≡ w = cc (p, e) in subst (λ x. before r.0.value x) same (last j r.0.value r.0.has)))
            (λ m. r.0.leads i w n (sym (with-other k i v f m) ∙ e))
            (cases_eq i k);
      },
      Rises-same before (ks ++ k ∷ []) (with k v (but j f)) (but j (with k v f)) (λ i. but-with k j i v f apart) rest,
    )
