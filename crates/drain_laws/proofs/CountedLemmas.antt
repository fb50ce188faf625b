-- What a relay counts is what the words of the closing turns say: sums over links from the last one down, and over sides from the first up.
use Rattle.std.proofs.Common.{◌≡◌, ℕ, zero, suc, ◌+◌, refl, sym, ap, ◌∙◌, arith, ◌∷◌, [], if◌then◌else◌}
use Rattle.std.specs.Prelude.{sum_by}
use Rattle.std.proofs.lemmas.List.Sums.{sum_by-cons}
use Rattle.ev_types.specs.declared.side.SideId.{SideId}
use Rattle.ev_types.specs.Trace.{Trace}
use Rattle.relay_model.specs.Plain.{sides_from}
use Rattle.relay_model.specs.OpenLinks.{open_links_below}
use Rattle.relay_model.specs.ClosingTurns.{buffered_at}
use Rattle.relay_state.specs.State.{State}
use Rattle.relay_state.specs.Closing.{in_side, out_side}
use Rattle.relay_state.specs.Counting.{is_open, open_below}
use Rattle.relay_laws.specs.Underway.{underway_at, underway_below}
use Rattle.relay_laws.proofs.UnderwayLemmas.{buffered_is_underway}
use Rattle.relay_laws.proofs.LinkLemmas.{links-told}
use Rattle.drain_laws.specs.DrainBound.{CountsAreAsTold}

-- the sides of one link more, at the end of the list
sum-last : (f : SideId → ℕ) (k n : ℕ) →
    sum_by f (sides_from k (suc n)) ≡ sum_by f (sides_from k n) + f (in_side (k + n)) + f (out_side (k + n))
sum-last f k zero = go (k + 0) (omega arith)
  where
    go : (m : ℕ) → m ≡ k → sum_by f (sides_from k 1) ≡ 0 + f (in_side m) + f (out_side m)
    go m e =
        let one = sum_by-cons f (in_side k) (out_side k ∷ []) in
        let two = sum_by-cons f (out_side k) [] in
        let same : f (in_side m) + f (out_side m) ≡ f (in_side k) + f (out_side k) = ap (λ z. f (in_side z) + f (out_side z)) e in
        omega (arith, one, two, same)
sum-last f k (suc n) =
    let one = sum_by-cons f (in_side k) (out_side k ∷ sides_from (k + 1) (suc n)) in
    let two = sum_by-cons f (out_side k) (sides_from (k + 1) (suc n)) in
    let three = sum_by-cons f (in_side k) (out_side k ∷ sides_from (k + 1) n) in
    let four = sum_by-cons f (out_side k) (sides_from (k + 1) n) in
    let more = sum-last f (k + 1) n in
    let place : k + 1 + n ≡ k + suc n = omega arith in
    let same : f (in_side (k + 1 + n)) + f (out_side (k + 1 + n)) ≡ f (in_side (k + suc n)) + f (out_side (k + suc n)) =
    ap (λ z. f (in_side z) + f (out_side z)) place in
    omega (arith, one, two, three, four, more, same)

-- what the sides of the first links hold, as one sum
below-sum : (t : Trace) (s : State) (n : ℕ) → underway_below t s n ≡ sum_by (λ e. buffered_at s.settings t s.plain e) (sides_from 0 n)
below-sum t s zero = refl
below-sum t s (suc n) =
    let last = sum-last (λ e. buffered_at s.settings t s.plain e) 0 n in
    let less = below-sum t s n in
    let place : 0 + n ≡ n = omega arith in
    let same : buffered_at s.settings t s.plain (in_side (0 + n)) + buffered_at s.settings t s.plain (out_side (0 + n))
    ≡ underway_at t s (in_side n) + underway_at t s (out_side n) =
    ap (λ z. underway_at t s (in_side z) + underway_at t s (out_side z)) place in
    omega (arith, last, less, same)

open-same : (s : State) (n : ℕ) → open_below s n ≡ open_links_below s.plain n
open-same s zero = refl
open-same s (suc n) = let less = open-same s n in λ i. less i + (if is_open s n then 1 else 0)

pub counts_are_as_told : CountsAreAsTold
counts_are_as_told t x s k =
    let same = links-told t x s k in (
      (buffered_is_underway t x s k).all ∙ ap (λ n. underway_below t s n) (sym same) ∙ below-sum t s s.plain.opened,
      open-same s s.plain.opened,
    )
