-- Streams over no call and over several calls.
use Rattle.std.proofs.Common.{◌≡◌, ◌≤◌, ℕ, List, [], ◌++◌, length, Option, Some, None, refl, sym, ap, ◌∙◌, arith, append_assoc, append-nil}
use Rattle.std.proofs.Common.{length-append, IfSome}
use Rattle.ev_port.specs.StreamBytes.{Gave, TookOn, GaveAll, GaveCount, GaveAtMost}

-- with no call nothing was given
pub Gave-none : (a : Option (List ℕ)) → Gave a a []
Gave-none None = tt
Gave-none (Some xs) = refl

pub Gave-join : (a b c : Option (List ℕ)) (xs ys : List ℕ) → Gave a b xs → Gave b c ys → Gave a c (xs ++ ys)
Gave-join None b c xs ys p q = tt
Gave-join (Some u) None c xs ys p q = absurd p
Gave-join (Some u) (Some v) None xs ys p q = absurd q
Gave-join (Some u) (Some v) (Some w) xs ys p q = p ∙ ap (λ t. xs ++ t) q ∙ sym (append_assoc xs ys w)

-- a source that gave bytes and then had nothing left
pub Gave-end : (a b c : Option (List ℕ)) (xs : List ℕ) → Gave a b xs → Gave b c [] → IfSome b (λ left. left ≡ []) → GaveAll a c xs
Gave-end None b c xs p q e = tt
Gave-end (Some u) None c xs p q e = absurd p
Gave-end (Some u) (Some v) None xs p q e = absurd q
Gave-end (Some u) (Some v) (Some w) xs p q e = (p ∙ ap (λ t. xs ++ t) e ∙ append-nil xs, ap Some (sym q ∙ e))

-- with no call nothing was taken
pub TookOn-none : (a : Option (List ℕ)) → TookOn a a []
TookOn-none None = tt
TookOn-none (Some xs) = sym (append-nil xs)

pub TookOn-join : (a b c : Option (List ℕ)) (xs ys : List ℕ) → TookOn a b xs → TookOn b c ys → TookOn a c (xs ++ ys)
TookOn-join None b c xs ys p q = tt
TookOn-join (Some u) None c xs ys p q = absurd p
TookOn-join (Some u) (Some v) None xs ys p q = absurd q
TookOn-join (Some u) (Some v) (Some w) xs ys p q = q ∙ ap (λ t. t ++ ys) p ∙ append_assoc u xs ys

-- bytes that were given, counted
pub Gave-count : (a b : Option (List ℕ)) (xs : List ℕ) (n : ℕ) → Gave a b xs → length xs ≡ n → GaveCount a b n
Gave-count None b xs n p k = tt
Gave-count (Some u) None xs n p k = absurd p
Gave-count (Some u) (Some v) xs n p k = rw p (omega (arith, length-append xs v))

pub Gave-at_most : (a b : Option (List ℕ)) (xs : List ℕ) (n : ℕ) → Gave a b xs → length xs ≤ n → GaveAtMost a b n
Gave-at_most None b xs n p k = tt
Gave-at_most (Some u) None xs n p k = absurd p
Gave-at_most (Some u) (Some v) xs n p k = rw p (omega (arith, length-append xs v))

pub Gave-all_at_most : (a b : Option (List ℕ)) (xs : List ℕ) (n : ℕ) → GaveAll a b xs → length xs ≤ n → GaveAtMost a b n
Gave-all_at_most None b xs n p k = tt
Gave-all_at_most (Some u) b xs n p k = rw (p.1, p.0) (omega arith)
