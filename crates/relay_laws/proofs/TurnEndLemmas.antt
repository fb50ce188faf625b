-- What holds wherever a turn ends in a trace, and at its end, holds wherever one ends in the trace with one turn more.
use Rattle.std.proofs.Common.{◌≡◌, ℕ, ◌+◌, ◌⊎◌, inl, inr, true, [], ◌∷◌, ◌++◌, refl, sym, ◌∙◌, ap, subst, arith, count_by, if◌then◌else◌}
use Rattle.std.proofs.Common.{append-nil}
use Rattle.ev_types.specs.Trace.{Event, Trace}
use Rattle.relay_model.specs.RatesKept.{is_turn}
use Rattle.std.proofs.lemmas.List.Sums.{sum_by-append, sum_by-cons}
use Rattle.relay_laws.specs.TurnEnds.{begins_turn, AtTurnEnds}

head-is : (x y : Event) (t u : Trace) → x ∷ t ≡ y ∷ u → x ≡ y
head-is x y t u h = cc h

tail-is : (x y : Event) (t u : Trace) → x ∷ t ≡ y ∷ u → t ≡ u
tail-is x y t u h = cc h

-- no turn ends in the trace of no entries
pub ends-none : (P : Trace → Type 0) → AtTurnEnds P []
ends-none P [] [] cut next = absurd (cc)
ends-none P [] (x ∷ after) cut next = absurd (cc)
ends-none P (y ∷ before) after cut next = absurd (cc)

-- two ways to cut one list: one place stands before the other or at it
abbrev Behind : Trace → Trace → Trace → Trace → Type 0
Behind t added before after = (m : Trace) × (before ≡ t ++ m) × (added ≡ m ++ after)

abbrev Within : Trace → Trace → Trace → Trace → Type 0
Within t added before after = (y : Event) × (m : Trace) × (t ≡ before ++ y ∷ m) × (after ≡ (y ∷ m) ++ added)

two-cuts : (t added before after : Trace) → t ++ added ≡ before ++ after → Behind t added before after ⊎ Within t added before after
two-cuts [] added before after h = inl (before, refl, h)
two-cuts (x ∷ t) added [] after h = inr (x, t, refl, sym h)
two-cuts (x ∷ t) added (y ∷ before) after h = on (two-cuts t added before after (tail-is x y (t ++ added) (before ++ after) h))
  where
    same : x ≡ y
    same = head-is x y (t ++ added) (before ++ after) h

    on : Behind t added before after ⊎ Within t added before after →
        Behind (x ∷ t) added (y ∷ before) after ⊎ Within (x ∷ t) added (y ∷ before) after
    on (inl b) = inl (b.0, (λ i. sym same i ∷ b.1 i), b.2)
    on (inr w) = inr (w.0, w.1, (λ i. same i ∷ w.2 i), w.3)

-- a trace that begins with a turn has one
begins-has : (t : Trace) → begins_turn t ≡ true → (n : ℕ) × (count_by is_turn t ≡ 1 + n)
begins-has [] h = absurd (cc)
begins-has (x ∷ t) h =
    (count_by is_turn t, sum_by-cons (λ y. if is_turn y then 1 else 0) x t ∙ ap (λ b. (if b then 1 else 0) + count_by is_turn t) h)

pub ends-grow : (P : Trace → Type 0) (t added : Trace) → AtTurnEnds P t → P t → begins_turn added ≡ true → count_by is_turn added ≡ 1 →
    AtTurnEnds P (t ++ added)
ends-grow P t added ends here begins once before after cut next = by_place (two-cuts t added before after cut)
  where
    by_place : ((m : Trace) × (before ≡ t ++ m) × (added ≡ m ++ after)) ⊎
        ((y : Event) × (m : Trace) × (t ≡ before ++ y ∷ m) × (after ≡ (y ∷ m) ++ added)) → P before
    by_place (inl ([], e, f)) = subst P (sym (e ∙ append-nil t)) here
    by_place (inl (z ∷ m, e, f)) = absurd
        (let first : is_turn z ≡ true = ap begins_turn (sym f) ∙ begins in
        let one = begins-has (z ∷ m) first in
        let other = begins-has after next in
        let sum : count_by is_turn added ≡ count_by is_turn (z ∷ m) + count_by is_turn after =
        ap (count_by is_turn) f ∙ sum_by-append (λ x. if is_turn x then 1 else 0) (z ∷ m) after in
        omega (arith, sum, one.1, other.1, once))
    by_place (inr (y, m, e, f)) = ends before (y ∷ m) e (ap begins_turn (sym f) ∙ next)
