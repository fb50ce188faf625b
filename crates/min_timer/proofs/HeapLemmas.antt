-- A heap of timers: a step of a timer up or down, when it has come to its place, and what an edit of the list leaves of the heap.
use Rattle.std.proofs.Common.{◌≡◌, ◌≢◌, ◌∙◌, ap, ℕ, zero, suc, ◌+◌, ◌<◌, ◌≤◌, Bool, true, false, List, length, get_or}
use Rattle.std.proofs.Common.{arith, inl, inr}
use Rattle.std.specs.List.{swap}
use Rattle.std.proofs.lemmas.Bool.{cases_eq, false_from_ne_true}
use Rattle.std.proofs.lemmas.List.{get_or_default}
use Rattle.std.proofs.lemmas.List.Edits.{swapped_from_swap, length-swap}
use Rattle.min_timer.specs.Order.{is_earlier, above, IsHeap, MayRise, MaySink, IsHeapBut}
use Rattle.min_timer.specs.declared.timer.Timer.{Timer}
use Rattle.min_timer.proofs.EarlierLemmas.{earlier-irreflexive, earlier-asym, not_earlier-trans}

-- the timer at the first place comes due before the one at the second
abbrev pub IsEarlierAt : List Timer → ℕ → ℕ → Type 0
IsEarlierAt xs i j = (d : Timer) → is_earlier (get_or xs i d) (get_or xs j d) ≡ true

-- the timer at the first place does not come due before the one at the second
abbrev pub IsNotEarlierAt : List Timer → ℕ → ℕ → Type 0
IsNotEarlierAt xs i j = (d : Timer) → is_earlier (get_or xs i d) (get_or xs j d) ≡ false

-- the timer that code reads where a place is past the end
abbrev pub no_timer : Timer
no_timer = record { deadline = 0; key = 0; handle = record { slot = 0; stamp = 0 } }

-- what a test of the timers at two places gave, at any default
pub tested_at : (xs : List Timer) (i j : ℕ) (b : Bool) → i < length xs → j < length xs
    → is_earlier (get_or xs i no_timer) (get_or xs j no_timer) ≡ b → (d : Timer) → is_earlier (get_or xs i d) (get_or xs j d) ≡ b
tested_at xs i j b il jl h d = rw (get_or_default xs i d no_timer il, get_or_default xs j d no_timer jl) h

-- two places have each other's timer, and all others their own
abbrev pub AreExchanged : List Timer → List Timer → ℕ → ℕ → Type 0
AreExchanged xs ys a b = ((d : Timer) → get_or ys a d ≡ get_or xs b d) × ((d : Timer) → get_or ys b d ≡ get_or xs a d)
    × ((k : ℕ) (d : Timer) → k ≢ a → k ≢ b → get_or ys k d ≡ get_or xs k d) × (length ys ≡ length xs)

-- what `swap` leaves at each place
pub exchanged_from_swap : (xs ys : List Timer) (a b : ℕ) → a < length xs → b < length xs → ys ≡ swap xs a b → AreExchanged xs ys a b
exchanged_from_swap xs ys a b p q e = (
  λ d. (swapped_from_swap xs ys a b d p q e).0,
  λ d. (swapped_from_swap xs ys a b d p q e).1,
  λ k d. (swapped_from_swap xs ys a b d p q e).2 k,
  ap length e ∙ length-swap xs a b,
)

-- no timer comes due before itself
not_earlier-refl : (a : Timer) → is_earlier a a ≡ false
not_earlier-refl a = false_from_ne_true (is_earlier a a) (earlier-irreflexive a)

-- where the first place's timer comes due before the second's, the second's does not before the first's
turn : (xs : List Timer) (i j : ℕ) → IsEarlierAt xs i j → IsNotEarlierAt xs j i
turn xs i j h d = earlier-asym (get_or xs i d) (get_or xs j d) (h d)

-- what does not come due before the second place's timer, which does not before the third's, does not before the third's
chain : (xs : List Timer) (i j k : ℕ) → IsNotEarlierAt xs i j → IsNotEarlierAt xs j k → IsNotEarlierAt xs i k
chain xs i j k h g d = not_earlier-trans (get_or xs i d) (get_or xs j d) (get_or xs k d) (h d) (g d)

-- the timer came before the one above it and took its place: it may still rise
pub rise-step : (xs ys : List Timer) (at : ℕ) → MayRise xs at → 0 < at → at < length xs → IsEarlierAt xs at (above at)
    → ys ≡ swap xs at (above at) → MayRise ys (above at)
rise-step xs ys at may pos within first e =
    let p = above at in
    let p-less : p < at = omega arith in
    let sw : AreExchanged xs ys at p = exchanged_from_swap xs ys at p within (omega arith) e in
    let long : length ys ≡ length xs = sw.3 in
    record {
      under = λ k kp d k0 kl.
          elim (cases_eq k at) [
            | inl ka ↦ rw (ka, sw.0 d, sw.1 d) (turn xs at p first d)
            | inr kna ↦
                let low : IsNotEarlierAt xs k (above k) = λ e. may.under k kna e k0 (omega arith) in
                elim (cases_eq (above k) at) [
                  | inl ua ↦ rw (sw.2 k d kna kp, ua, sw.0 d) (may.over k d pos k0 (omega arith) ua)
                  | inr una ↦ elim (cases_eq (above k) p) [
                    | inl up ↦ rw (sw.2 k d kna kp, up, sw.1 d) (chain xs k p at (rw up at low) (turn xs at p first) d)
                    | inr unp ↦ rw (sw.2 k d kna kp, sw.2 (above k) d una unp) (low d)
                  ]
                ]
          ];
      over = λ k d p0 k0 kl up.
          let top = sw.2 (above p) d (λ z. omega arith) (λ z. omega arith) in
          let high : IsNotEarlierAt xs p (above p) = λ e. may.under p (λ z. omega arith) e p0 (omega arith) in
          elim (cases_eq k at) [
            | inl ka ↦ rw (ka, sw.0 d, top) (high d)
            | inr kna ↦
                let low : IsNotEarlierAt xs k (above k) = λ e. may.under k kna e k0 (omega arith) in
                rw (sw.2 k d kna (λ z. omega arith), top) (chain xs k p (above p) (rw up at low) high d)
          ];
    }

-- the timer does not come before the one above it: it has risen
pub rise-done : (xs : List Timer) (at : ℕ) → MayRise xs at → (0 < at → IsNotEarlierAt xs at (above at)) → IsHeap xs
rise-done xs at may up k d k0 kl = elim (cases_eq k at) [ inl ka ↦ rw ka (up (omega arith) d) | inr kna ↦ may.under k kna d k0 kl ]

-- the first of the timers below came before the timer and took its place: it may still sink
pub sink-step : (xs ys : List Timer) (at c : ℕ) → MaySink xs at → at < c → c < length xs → above c ≡ at → IsEarlierAt xs c at
    → ((k : ℕ) (d : Timer) → 0 < k → k < length xs → above k ≡ at → is_earlier (get_or xs k d) (get_or xs c d) ≡ false)
    → ys ≡ swap xs at c → MaySink ys c
sink-step xs ys at c may less within up first others e =
    let sw : AreExchanged xs ys at c = exchanged_from_swap xs ys at c (omega arith) within e in
    let long : length ys ≡ length xs = sw.3 in
    record {
      under = λ k uc d k0 kl.
          elim (cases_eq k c) [
            | inl kc ↦ rw (kc, up, sw.1 d, sw.0 d) (turn xs c at first d)
            | inr knc ↦ elim (cases_eq k at) [
              | inl ka ↦
                  let top = sw.2 (above at) d (λ z. omega arith) (λ z. omega arith) in
                  rw (ka, sw.0 d, top) (may.over c d (omega arith) (omega arith) within up)
              | inr kna ↦ elim (cases_eq (above k) at) [
                | inl ua ↦ rw (sw.2 k d kna knc, ua, sw.0 d) (others k d k0 (omega arith) ua)
                | inr una ↦ rw (sw.2 k d kna knc, sw.2 (above k) d una uc) (may.under k una d k0 (omega arith))
              ]
            ]
          ];
      over = λ k d c0 k0 kl uc.
          let low : IsNotEarlierAt xs k (above k) = λ e. may.under k (λ z. omega arith) e k0 (omega arith) in
          rw (sw.2 k d (λ z. omega arith) (λ z. omega arith), up, sw.0 d) (rw uc at low d);
    }

-- no timer below comes before the timer: it has sunk
pub sink-done : (xs : List Timer) (at : ℕ) → MaySink xs at
    → ((k : ℕ) (d : Timer) → 0 < k → k < length xs → above k ≡ at → is_earlier (get_or xs k d) (get_or xs at d) ≡ false) → IsHeap xs
sink-done xs at may below k d k0 kl =
    elim (cases_eq (above k) at) [ inl ua ↦ rw ua (below k d k0 kl ua) | inr una ↦ may.under k una d k0 kl ]

-- the first of the timers below does not come before the timer: it has sunk
pub sink-done-first : (xs : List Timer) (at c : ℕ) → MaySink xs at
    → ((k : ℕ) (d : Timer) → 0 < k → k < length xs → above k ≡ at → is_earlier (get_or xs k d) (get_or xs c d) ≡ false)
    → IsNotEarlierAt xs c at → IsHeap xs
sink-done-first xs at c may others last =
    sink-done xs at may (λ k d k0 kl ua.
    not_earlier-trans (get_or xs k d) (get_or xs c d) (get_or xs at d) (others k d k0 kl ua) (last d))

-- the timer at the place comes before the one above it: it may rise
pub but-rises : (xs : List Timer) (at : ℕ) → IsHeapBut xs at → 0 < at → IsEarlierAt xs at (above at) → MayRise xs at
but-rises xs at but pos first = record {
  under = λ k kna d k0 kl.
      elim (cases_eq (above k) at) [
        | inl ua ↦
            rw ua (not_earlier-trans (get_or xs k d) (get_or xs (above at) d) (get_or xs at d) (but.over k d pos k0 kl ua)
            (turn xs at (above at) first d))
        | inr una ↦ but.under k kna una d k0 kl
      ];
  over = but.over;
}

-- the timer at the place does not come before the one above it: it may sink
pub but-sinks : (xs : List Timer) (at : ℕ) → IsHeapBut xs at → (0 < at → IsNotEarlierAt xs at (above at)) → MaySink xs at
but-sinks xs at but up = record {
  under = λ k una d k0 kl. elim (cases_eq k at) [ inl ka ↦ rw ka (up (omega arith) d) | inr kna ↦ but.under k kna una d k0 kl ];
  over = but.over;
}

-- a heap without its last timers, but for one place, is a heap but for that place
pub but-removed : (xs ys : List Timer) (at : ℕ) → IsHeap xs → at < length ys → length ys < length xs
    → ((k : ℕ) (d : Timer) → k ≢ at → k < length ys → get_or ys k d ≡ get_or xs k d) → IsHeapBut ys at
but-removed xs ys at heap within shorter same = record {
  under = λ k kna una d k0 kl. rw (same k d kna kl, same (above k) d una (omega arith)) (heap k d k0 (omega arith));
  over = λ k d a0 k0 kl ua.
      let low : IsNotEarlierAt xs k (above k) = λ e. heap k e k0 (omega arith) in
      let high : IsNotEarlierAt xs at (above at) = λ e. heap at e a0 (omega arith) in
      rw (same k d (λ z. omega arith) kl, same (above at) d (λ z. omega arith) (omega arith))
      (chain xs k at (above at) (rw ua at low) high d);
}

-- a heap without its last timers is a heap
pub heap-shorter : (xs ys : List Timer) → IsHeap xs → length ys ≤ length xs
    → ((k : ℕ) (d : Timer) → k < length ys → get_or ys k d ≡ get_or xs k d) → IsHeap ys
heap-shorter xs ys heap shorter same k d k0 kl = rw (same k d kl, same (above k) d (omega arith)) (heap k d k0 (omega arith))

-- no timer of a heap at a place up to n comes before the top
top-first-to : (xs : List Timer) → IsHeap xs → (n k : ℕ) (d : Timer) → k ≤ n → k < length xs
    → is_earlier (get_or xs k d) (get_or xs 0 d) ≡ false
top-first-to xs heap zero k d kn kl = let z : k ≡ 0 = omega arith in rw z (not_earlier-refl (get_or xs 0 d))
top-first-to xs heap (suc n) k d kn kl =
    elim (cases_eq k 0) [
      | inl z ↦ rw z (not_earlier-refl (get_or xs 0 d))
      | inr nz ↦
          not_earlier-trans (get_or xs k d) (get_or xs (above k) d) (get_or xs 0 d) (heap k d (omega arith) kl)
          (top-first-to xs heap n (above k) d (omega arith) (omega arith))
    ]

-- no timer of a heap comes before the top
pub top-first : (xs : List Timer) → IsHeap xs → (k : ℕ) (d : Timer) → k < length xs → is_earlier (get_or xs k d) (get_or xs 0 d) ≡ false
top-first xs heap k d kl = top-first-to xs heap k k d (omega arith) kl

-- of the places from one on, up to an end, this one has a timer that none of the others comes before
pub record IsFirstOf (xs : List Timer) (from end k : ℕ) : Type 0 where
  pub low : from ≤ k
  pub high : k < end
  pub first : (other : ℕ) → from ≤ other → other < end → IsNotEarlierAt xs other k

-- a place alone
pub first-alone : (xs : List Timer) (from : ℕ) → IsFirstOf xs from (from + 1) from
first-alone xs from = record {
  low = omega arith;
  high = omega arith;
  first = λ other low high d. let same : other ≡ from = omega arith in rw same (not_earlier-refl (get_or xs from d));
}

-- the next one comes before
pub first-replaced : (xs : List Timer) (from end k : ℕ) → IsFirstOf xs from end k → IsEarlierAt xs end k → IsFirstOf xs from (end + 1) end
first-replaced xs from end k is earlier = record {
  low = omega (arith, is.low, is.high);
  high = omega arith;
  first = λ other low high d.
      elim (cases_eq other end) [
        | inl same ↦ rw same (not_earlier-refl (get_or xs end d))
        | inr differs ↦ chain xs other k end (is.first other low (omega arith)) (turn xs end k earlier) d
      ];
}

-- the next one does not
pub first-kept : (xs : List Timer) (from end k : ℕ) → IsFirstOf xs from end k → IsNotEarlierAt xs end k → IsFirstOf xs from (end + 1) k
first-kept xs from end k is later = record {
  low = is.low;
  high = omega (arith, is.high);
  first = λ other low high d.
      elim (cases_eq other end) [
        | inl same ↦ rw same (later d)
        | inr differs ↦ is.first other low (omega arith) d
      ];
}
