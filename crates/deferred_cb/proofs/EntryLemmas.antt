-- Entries and their calls.
use Rattle.std.proofs.Common.{◌≡◌, ℕ, zero, suc, ◌+◌, ◌≤◌, take, subst, Bool, true, false, not, ◌||◌, if◌then◌else◌, List, [], ◌∷◌, ◌++◌}
use Rattle.std.proofs.Common.{length, Option, Some, None, is_some, refl, sym, ◌∙◌, ap, arith}
use Rattle.std.specs.Prelude.{nat_eq, ◌≢◌, Result, Ok, Err, OnOk, is_ok}
use Rattle.std.specs.Map.{lookup, set_value, keys_of}
use Rattle.std.specs.List.{slice_get, AllByRecursion, IsDistinct}
use Rattle.std.proofs.lemmas.Map.Keys.{IsDistinct-head, IsDistinct-tail}
use Rattle.std.proofs.lemmas.Bool.Decides.{nat_tests}
use Rattle.ev_types.specs.declared.why.Why.{Why}
use Rattle.indexmap.specs.IndexMap.{insert_entry}
use Rattle.deferred_cb.specs.declared.reasons.Reasons.{Reasons}
use Rattle.deferred_cb.specs.DueCalls.{Entry, no_reasons, joined, with_reason, has_entry, without}

pub has_entry-lookup : (owner : ℕ) (es : List Entry) → has_entry owner es ≡ is_some (lookup (nat_eq owner) es)
has_entry-lookup owner [] = refl
has_entry-lookup owner (e ∷ es) = go (has_entry-lookup owner es) (nat_eq owner e.0)
  where
    go : (has_entry owner es ≡ is_some (lookup (nat_eq owner) es)) → (b : Bool) →
        (b || has_entry owner es) ≡ is_some (if b then Some e.1 else lookup (nat_eq owner) es)
    go ih true = refl
    go ih false = ih

-- where the owner has none, the new entry goes last
pub insert-absent : (owner : ℕ) (y : Why) (es : List Entry) → lookup (nat_eq owner) es ≡ None →
    insert_entry nat_eq es owner (joined no_reasons y) ≡ with_reason owner y es
insert-absent owner y [] h = refl
insert-absent owner y (e ∷ es) h = go (λ k. insert-absent owner y es k) (nat_eq owner e.0) h
  where
    go : (lookup (nat_eq owner) es ≡ None → insert_entry nat_eq es owner (joined no_reasons y) ≡ with_reason owner y es) → (b : Bool) →
        (if b then Some e.1 else lookup (nat_eq owner) es) ≡ None →
        (if b then (e.0, joined no_reasons y) ∷ es else e ∷ insert_entry nat_eq es owner (joined no_reasons y)) ≡
        (if b then (e.0, joined e.1 y) ∷ es else e ∷ with_reason owner y es)
    go ih true k = absurd (cc)
    go ih false k = ap (λ z. e ∷ z) (ih k)

-- where it has one, that one has the reason more
pub set-present : (owner : ℕ) (y : Why) (es : List Entry) (r : Reasons) → lookup (nat_eq owner) es ≡ Some r →
    set_value (nat_eq owner) es (joined r y) ≡ with_reason owner y es
set-present owner y [] r h = absurd (cc)
set-present owner y (e ∷ es) r h = go (λ k. set-present owner y es r k) (nat_eq owner e.0) h
  where
    same : Some e.1 ≡ Some r → e.1 ≡ r
    same k = cc

    go : (lookup (nat_eq owner) es ≡ Some r → set_value (nat_eq owner) es (joined r y) ≡ with_reason owner y es) → (b : Bool) →
        (if b then Some e.1 else lookup (nat_eq owner) es) ≡ Some r →
        (if b then (e.0, joined r y) ∷ es else e ∷ set_value (nat_eq owner) es (joined r y)) ≡
        (if b then (e.0, joined e.1 y) ∷ es else e ∷ with_reason owner y es)
    go ih true k = (let s = same k in λ i. (e.0, joined (sym s i) y) ∷ es)
    go ih false k = ap (λ z. e ∷ z) (ih k)

-- a new owner makes one entry more
pub length-with_new : (owner : ℕ) (y : Why) (es : List Entry) → lookup (nat_eq owner) es ≡ None →
    length (with_reason owner y es) ≡ length es + 1
length-with_new owner y [] h = refl
length-with_new owner y (e ∷ es) h = go (λ k. length-with_new owner y es k) (nat_eq owner e.0) h
  where
    go : (lookup (nat_eq owner) es ≡ None → length (with_reason owner y es) ≡ length es + 1) → (b : Bool) →
        (if b then Some e.1 else lookup (nat_eq owner) es) ≡ None →
        length (if b then (e.0, joined e.1 y) ∷ es else e ∷ with_reason owner y es) ≡ length (e ∷ es) + 1
    go ih true k = absurd (cc)
    go ih false k = (let i = ih k in omega (arith, i))

-- what holds of a call that was Ok
pub on_ok : {T E P : Type 0} (r : Result T E) (x : T) → r ≡ Ok x → OnOk r P → P
on_ok (Ok y) x e p = p
on_ok (Err f) x e p = absurd (cc)

some_same : (x e : Entry) → Some x ≡ Some e → x ≡ e
some_same x e k = cc

-- one entry more without those of an owner
pub without-more : (owner : ℕ) (es : List Entry) (at : ℕ) (e : Entry) → slice_get es at ≡ Some e →
    without owner (take (at + 1) es) ≡ without owner (take at es) ++ (if not (nat_eq owner e.0) then e ∷ [] else [])
without-more owner es at e h = ap (λ n. without owner (take n es)) (let s : at + 1 ≡ suc at = omega arith in s) ∙ go es at h
  where
    same : (x : Entry) → Some x ≡ Some e → x ≡ e
    same x k = cc

    push : (b : Bool) (x : Entry) (a z : List Entry) → (if b then x ∷ (a ++ z) else a ++ z) ≡ (if b then x ∷ a else a) ++ z
    push true x a z = refl
    push false x a z = refl

    go : (es : List Entry) (at : ℕ) → slice_get es at ≡ Some e →
        without owner (take (suc at) es) ≡ without owner (take at es) ++ (if not (nat_eq owner e.0) then e ∷ [] else [])
    go [] at k = absurd (cc)
    go (x ∷ xs) zero k = ap (λ (z : Entry). if not (nat_eq owner z.0) then z ∷ [] else []) (same x k)
    go (x ∷ xs) (suc n) k =
        ap (λ z. if not (nat_eq owner x.0) then x ∷ z else z) (go xs n k)
        ∙ push (not (nat_eq owner x.0)) x (without owner (take n xs)) (if not (nat_eq owner e.0) then e ∷ [] else [])

-- no entry before the place has the owner of the entry there
pub absent-before : (owner : ℕ) (es : List Entry) (at : ℕ) (e : Entry) → IsDistinct nat_eq (keys_of es) → slice_get es at ≡ Some e →
    lookup (nat_eq e.0) (without owner (take at es)) ≡ None
absent-before owner [] at e d h = absurd (cc)
absent-before owner (x ∷ xs) zero e d h = refl
absent-before owner (x ∷ xs) (suc n) e d h =
    go (absent-before owner xs n e (IsDistinct-tail nat_eq x.0 (keys_of xs) d) h) (not (nat_eq owner x.0))
  where
    at : (P : ℕ → Type 0) (ys : List Entry) (m : ℕ) → AllByRecursion P (keys_of ys) → slice_get ys m ≡ Some e → P e.0
    at P [] m a k = absurd (cc)
    at P (y ∷ ys) zero a k = (let s : y ≡ e = some_same y e k in subst (λ (z : Entry). P z.0) s a.0)
    at P (y ∷ ys) (suc m) a k = at P ys m a.1 k

    apart : nat_eq e.0 x.0 ≡ false
    apart = let a = at (λ y. nat_eq x.0 y ≡ false) xs n (IsDistinct-head nat_eq x.0 (keys_of xs) d) h in grind (arith, nat_tests, a)

    go : lookup (nat_eq e.0) (without owner (take n xs)) ≡ None → (b : Bool) →
        lookup (nat_eq e.0) (if b then x ∷ without owner (take n xs) else without owner (take n xs)) ≡ None
    go ih true = ap (λ b. if b then Some x.1 else lookup (nat_eq e.0) (without owner (take n xs))) apart ∙ ih
    go ih false = ih

-- a new key goes last
pub insert-last : (q : ℕ) (r : Reasons) (es : List Entry) → lookup (nat_eq q) es ≡ None → insert_entry nat_eq es q r ≡ es ++ (q, r) ∷ []
insert-last q r [] h = refl
insert-last q r (e ∷ es) h = go (λ k. insert-last q r es k) (nat_eq q e.0) h
  where
    go : (lookup (nat_eq q) es ≡ None → insert_entry nat_eq es q r ≡ es ++ (q, r) ∷ []) → (b : Bool) →
        (if b then Some e.1 else lookup (nat_eq q) es) ≡ None →
        (if b then (e.0, r) ∷ es else e ∷ insert_entry nat_eq es q r) ≡ (e ∷ es) ++ (q, r) ∷ []
    go ih true k = absurd (cc)
    go ih false k = ap (λ z. e ∷ z) (ih k)

pub length-without : (owner : ℕ) (es : List Entry) → length (without owner es) ≤ length es
length-without owner [] = omega arith
length-without owner (e ∷ es) = go (length-without owner es) (not (nat_eq owner e.0))
  where
    go : length (without owner es) ≤ length es → (b : Bool) →
        length (if b then e ∷ without owner es else without owner es) ≤ length (e ∷ es)
    go h true = omega arith
    go h false = omega arith

pub without-absent : (owner : ℕ) (es : List Entry) → lookup (nat_eq owner) es ≡ None → without owner es ≡ es
without-absent owner [] h = refl
without-absent owner (e ∷ es) h = go (λ k. without-absent owner es k) (nat_eq owner e.0) h
  where
    go : (lookup (nat_eq owner) es ≡ None → without owner es ≡ es) → (b : Bool) →
        (if b then Some e.1 else lookup (nat_eq owner) es) ≡ None →
        (if not b then e ∷ without owner es else without owner es) ≡ e ∷ es
    go ih true k = absurd (cc)
    go ih false k = ap (λ z. e ∷ z) (ih k)

pub differs : (x y : ℕ) → x ≢ y → nat_eq y x ≡ false
differs x y apart = grind (arith, nat_tests, apart)

pub eq-flips : (x y : ℕ) → nat_eq x y ≡ nat_eq y x
eq-flips x y = grind (arith, nat_tests)

pub none-of : {T : Type 0} (o : Option T) → false ≡ is_some o → o ≡ None
none-of None h = refl
none-of (Some x) h = absurd (cc)

-- the next entry of a list comes behind those before it
pub take-more : (es : List Entry) (at : ℕ) (e : Entry) → slice_get es at ≡ Some e → take (at + 1) es ≡ take at es ++ e ∷ []
take-more es at e h = ap (λ n. take n es) (let s : at + 1 ≡ suc at = omega arith in s) ∙ go es at h
  where
    go : (es : List Entry) (at : ℕ) → slice_get es at ≡ Some e → take (suc at) es ≡ take at es ++ e ∷ []
    go [] at k = absurd (cc)
    go (x ∷ xs) zero k = ap (λ (z : Entry). z ∷ []) (some_same x e k)
    go (x ∷ xs) (suc n) k = ap (λ z. x ∷ z) (go xs n k)

-- what a call that was Ok put behind the others is there
pub pushed : {T E : Type 0} (old new : List Entry) (e : Entry) (r : Result T E) (x : T) →
    new ≡ (if is_ok r then old ++ e ∷ [] else old) → r ≡ Ok x → new ≡ old ++ e ∷ []
pushed old new e (Ok y) x h k = h
pushed old new e (Err f) x h k = absurd (cc)
