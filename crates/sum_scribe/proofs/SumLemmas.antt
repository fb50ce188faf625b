-- The four numbers of a trace that grows by an event.
use Rattle.std.proofs.Common.{◌≡◌, ℕ, ◌+◌, ◌-◌, ◌^◌, [], ◌∷◌, ◌++◌, ap, sym, ◌∙◌, min, arith}
use Rattle.std.specs.Prelude.{fold, sum_by}
use Rattle.std.proofs.lemmas.List.Sums.{fold-append, sum_by-append}
use Rattle.std.proofs.lemmas.Grind.{flat_map-append}
use Rattle.ev_types.specs.Trace.{Event, Trace}
use Rattle.ev_port.specs.Counting.{counted}
use Rattle.sum_scribe.specs.Sums.{turns_in, read_in, written_in, all_taken, taken_by, next_sum, sum_of}

-- a count that stays at its end goes on as the whole sum does
counted-sum : (f : Event → ℕ) (n : ℕ) (t : Trace) (x : Event) → n ≡ min (sum_by f t) (2 ^ 64 - 1) →
    counted n (sum_by f (x ∷ [])) ≡ min (sum_by f (t ++ x ∷ [])) (2 ^ 64 - 1)
counted-sum f n t x h =
    let both : sum_by f (t ++ x ∷ []) ≡ sum_by f t + sum_by f (x ∷ []) = sum_by-append f t (x ∷ []) in
    omega (arith, h, both)

pub turns_in-push : (n : ℕ) (t : Trace) (x : Event) → n ≡ min (turns_in t) (2 ^ 64 - 1) →
    counted n (turns_in (x ∷ [])) ≡ min (turns_in (t ++ x ∷ [])) (2 ^ 64 - 1)
turns_in-push n t x h = counted-sum _ n t x h

pub read_in-push : (n : ℕ) (t : Trace) (x : Event) → n ≡ min (read_in t) (2 ^ 64 - 1) →
    counted n (read_in (x ∷ [])) ≡ min (read_in (t ++ x ∷ [])) (2 ^ 64 - 1)
read_in-push n t x h = counted-sum _ n t x h

pub written_in-push : (n : ℕ) (t : Trace) (x : Event) → n ≡ min (written_in t) (2 ^ 64 - 1) →
    counted n (written_in (x ∷ [])) ≡ min (written_in (t ++ x ∷ [])) (2 ^ 64 - 1)
written_in-push n t x h = counted-sum _ n t x h

-- the sum goes on with the bytes of the event behind all others
pub sum_of-push : (n : ℕ) (t : Trace) (x : Event) → n ≡ sum_of t → fold next_sum n (all_taken (x ∷ [])) ≡ sum_of (t ++ x ∷ [])
sum_of-push n t x h =
    ap (λ s. fold next_sum s (all_taken (x ∷ []))) h
    ∙ sym (fold-append next_sum 0 (all_taken t) (all_taken (x ∷ [])))
    ∙ ap (fold next_sum 0) (sym (flat_map-append taken_by t (x ∷ [])))
