-- Bytes that are written in parts.
use Rattle.std.proofs.Common.{◌≡◌, ℕ, zero, suc, ◌+◌, ◌-◌, ◌<◌, ◌≤◌, List, [], ◌∷◌, ◌++◌, length, take, drop, min, refl, ap, sym, ◌∙◌}
use Rattle.std.proofs.Common.{arith}
use Rattle.std.proofs.Common.{length-drop, inl, inr}
use Rattle.std.proofs.lemmas.List.{drop-append-le, drop_all, take-append-drop, length-append}
use Rattle.std.proofs.lemmas.Bool.Decides.{leb_tells}
use Rattle.evbuf_chain.specs.Covered.{overlaid, covered}
use Rattle.evbuf_chain.proofs.DrainLemmas.{drop-past}

pub overlaid-none : (under : List ℕ) → overlaid [] under ≡ under
overlaid-none under = refl

pub overlaid-on_none : (bytes : List ℕ) → overlaid bytes [] ≡ []
overlaid-on_none [] = refl
overlaid-on_none (b ∷ bytes) = refl

-- what stands there afterwards
pub overlaid-parts : (n : ℕ) (bytes under : List ℕ) → n ≡ min (length bytes) (length under)
    → overlaid bytes under ≡ take n bytes ++ drop n under
overlaid-parts zero [] under least = refl
overlaid-parts (suc n) [] under least = absurd (omega (arith, least))
overlaid-parts zero (b ∷ bytes) [] least = refl
overlaid-parts (suc n) (b ∷ bytes) [] least = absurd (omega (arith, least))
overlaid-parts zero (b ∷ bytes) (u ∷ under) least = absurd (omega (arith, least))
overlaid-parts (suc n) (b ∷ bytes) (u ∷ under) least = ap (λ bs. b ∷ bs) (overlaid-parts n bytes under (omega (arith, least)))

-- the first part, and then the part behind it
pub overlaid-then : (first more under : List ℕ)
    → take (length first) (overlaid first under) ++ overlaid more (drop (length first) (overlaid first under))
    ≡ overlaid (first ++ more) under
overlaid-then [] more under = refl
overlaid-then (b ∷ first) more [] = overlaid-on_none more
overlaid-then (b ∷ first) more (u ∷ under) = ap (λ bs. b ∷ bs) (overlaid-then first more under)

-- the part behind, and then the first
pub overlaid-before : (first more under : List ℕ)
    → overlaid first (take (length first) under ++ overlaid more (drop (length first) under)) ≡ overlaid (first ++ more) under
overlaid-before [] more under = refl
overlaid-before (b ∷ first) more [] = ap (overlaid (b ∷ first)) (overlaid-on_none more)
overlaid-before (b ∷ first) more (u ∷ under) = ap (λ bs. b ∷ bs) (overlaid-before first more under)

-- The window with a gap before the bytes, or with some of them skipped.
abbrev laid : ℕ → List ℕ → List ℕ → List ℕ
laid gap bytes window = take gap window ++ overlaid bytes (drop gap window)

laid-then : (gap end : ℕ) (first more window : List ℕ) → end ≡ gap + length first
    → laid end more (laid gap first window) ≡ laid gap (first ++ more) window
laid-then zero end first more window is =
    let at : end ≡ length first = omega (arith, is) in
    ap (λ k. laid k more (overlaid first window)) at ∙ overlaid-then first more window
laid-then (suc gap) zero first more window is = absurd (omega (arith, is))
laid-then (suc gap) (suc end) first more [] is =
    ap (λ ws. laid (suc end) more ws) (overlaid-on_none first) ∙ overlaid-on_none more ∙ sym (overlaid-on_none (first ++ more))
laid-then (suc gap) (suc end) first more (w ∷ window) is = ap (λ bs. w ∷ bs) (laid-then gap end first more window (omega (arith, is)))

laid-before : (gap end : ℕ) (first more window : List ℕ) → end ≡ gap + length first
    → laid gap first (laid end more window) ≡ laid gap (first ++ more) window
laid-before zero end first more window is =
    let at : end ≡ length first = omega (arith, is) in
    ap (λ k. overlaid first (laid k more window)) at ∙ overlaid-before first more window
laid-before (suc gap) zero first more window is = absurd (omega (arith, is))
laid-before (suc gap) (suc end) first more [] is =
    ap (λ ws. laid (suc gap) first ws) (overlaid-on_none more) ∙ overlaid-on_none first ∙ sym (overlaid-on_none (first ++ more))
laid-before (suc gap) (suc end) first more (w ∷ window) is = ap (λ bs. w ∷ bs) (laid-before gap end first more window (omega (arith, is)))

-- what a part of a chain covers, as a gap or as bytes that are skipped
covered-skipped : (place : ℕ) (bytes : List ℕ) (from : ℕ) (window : List ℕ) → length bytes < from - place
    → covered place bytes from window ≡ window
covered-skipped place bytes from window past =
    let none : drop (from - place) bytes ≡ [] = drop_all (from - place) bytes (omega (arith, past)) in
    let at_front : place - from ≡ 0 = omega (arith, past) in
    ap (λ bs. take (place - from) window ++ overlaid bs (drop (place - from) window)) none
    ∙ ap (λ k. take k window ++ drop k window) at_front

pub covered-past : (place : ℕ) (bytes : List ℕ) (from : ℕ) (window : List ℕ) → from + length window ≤ place
    → covered place bytes from window ≡ window
covered-past place bytes from window past =
    let none : drop (place - from) window ≡ [] = drop_all (place - from) window (omega (arith, past)) in
    ap (λ ws. take (place - from) window ++ overlaid (drop (from - place) bytes) ws) none
    ∙ ap (λ bs. take (place - from) window ++ bs) (overlaid-on_none (drop (from - place) bytes) ∙ sym none)
    ∙ take-append-drop (place - from) window

pub covered-then : (place : ℕ) (first more : List ℕ) (from : ℕ) (window : List ℕ)
    → covered (place + length first) more from (covered place first from window) ≡ covered place (first ++ more) from window
covered-then place first more from window = elim (leb_tells (from - place) (length first)) [
  | inl within ↦
      let short : length (drop (from - place) first) ≡ length first - (from - place) = length-drop (from - place) first in
      let gap : place + length first - from ≡ (place - from) + length (drop (from - place) first) = omega (arith, within.1, short) in
      let none : from - (place + length first) ≡ 0 = omega (arith, within.1) in
      ap (λ k. laid k (drop (from - (place + length first)) more) (covered place first from window)) gap
      ∙ ap (λ k. laid ((place - from) + length (drop (from - place) first)) (drop k more) (covered place first from window)) none
      ∙ laid-then (place - from) ((place - from) + length (drop (from - place) first)) (drop (from - place) first) more window refl
      ∙ ap (λ bs. laid (place - from) bs window) (sym (drop-append-le (from - place) first more within.1))
  | inr past ↦
      let skip : from - (place + length first) ≡ (from - place) - length first = omega (arith, past.1) in
      let at_front : place + length first - from ≡ place - from = omega (arith, past.1) in
      ap (λ ws. covered (place + length first) more from ws) (covered-skipped place first from window (omega (arith, past.1)))
      ∙ ap (λ k. laid k (drop (from - (place + length first)) more) window) at_front
      ∙ ap (λ k. laid (place - from) (drop k more) window) skip
      ∙ ap (λ bs. laid (place - from) bs window) (sym (drop-past (from - place) first more (omega (arith, past.1))))
]

pub covered-before : (place : ℕ) (first more : List ℕ) (from : ℕ) (window : List ℕ)
    → covered place first from (covered (place + length first) more from window) ≡ covered place (first ++ more) from window
covered-before place first more from window = elim (leb_tells (from - place) (length first)) [
  | inl within ↦
      let short : length (drop (from - place) first) ≡ length first - (from - place) = length-drop (from - place) first in
      let gap : place + length first - from ≡ (place - from) + length (drop (from - place) first) = omega (arith, within.1, short) in
      let none : from - (place + length first) ≡ 0 = omega (arith, within.1) in
      ap (covered place first from)
      (ap (λ k. laid k (drop (from - (place + length first)) more) window) gap
      ∙ ap (λ k. laid ((place - from) + length (drop (from - place) first)) (drop k more) window) none)
      ∙ laid-before (place - from) ((place - from) + length (drop (from - place) first)) (drop (from - place) first) more window refl
      ∙ ap (λ bs. laid (place - from) bs window) (sym (drop-append-le (from - place) first more within.1))
  | inr past ↦
      let skip : from - (place + length first) ≡ (from - place) - length first = omega (arith, past.1) in
      let at_front : place + length first - from ≡ place - from = omega (arith, past.1) in
      covered-skipped place first from (covered (place + length first) more from window) (omega (arith, past.1))
      ∙ ap (λ k. laid k (drop (from - (place + length first)) more) window) at_front
      ∙ ap (λ k. laid (place - from) (drop k more) window) skip
      ∙ ap (λ bs. laid (place - from) bs window) (sym (drop-past (from - place) first more (omega (arith, past.1))))
]

-- Copying what is left of some bytes, which begins at a place, comes to copying all.
pub record Forward (all : List ℕ) (place : ℕ) (rest : List ℕ) (from : ℕ) (old now : List ℕ) : Type 0 where
  pub parts : covered place rest from now ≡ covered 0 all from old
  pub size : place + length rest ≡ length all

-- Copying those that are left, which end at a place, comes to copying all.
pub record Backward (all : List ℕ) (end place : ℕ) (rest : List ℕ) (from : ℕ) (old now : List ℕ) : Type 0 where
  pub parts : covered (place - length rest) rest from now ≡ covered (end - length all) all from old
  pub within : length rest ≤ place

-- no byte covers none
pub covered-nothing : (place : ℕ) (bytes : List ℕ) (from : ℕ) (window : List ℕ) → bytes ≡ [] → covered place bytes from window ≡ window
covered-nothing place bytes from window none =
    ap (λ bs. take (place - from) window ++ overlaid bs (drop (place - from) window))
    (drop_all (from - place) bytes (omega (arith, ap length none)))
    ∙ take-append-drop (place - from) window

-- all is still to be copied, and the next chunk was
pub Forward-start : (all : List ℕ) (from : ℕ) (old : List ℕ) → Forward all 0 all from old old
Forward-start all from old = record { parts = refl; size = omega arith }

pub Forward-next : (all : List ℕ) (place : ℕ) (rest : List ℕ) (from : ℕ) (old now then first more : List ℕ) (k : ℕ)
    → Forward all place rest from old now → rest ≡ first ++ more → k ≡ length first → then ≡ covered place first from now
    → Forward all (place + k) more from old then
Forward-next all place rest from old now then first more k so rest_is k_is then_is = record {
  parts =
      ap (λ j. covered (place + j) more from then) k_is
      ∙ ap (λ ws. covered (place + length first) more from ws) then_is
      ∙ covered-then place first more from now
      ∙ ap (λ bs. covered place bs from now) (sym rest_is)
      ∙ so.parts;
  size = omega (arith, so.size, ap length rest_is, length-append first more, k_is);
}

pub Forward-end : (all : List ℕ) (place : ℕ) (rest : List ℕ) (from : ℕ) (old now : List ℕ)
    → Forward all place rest from old now → rest ≡ [] → now ≡ covered 0 all from old
Forward-end all place rest from old now so none =
    sym (covered-nothing place rest from now none) ∙ so.parts

-- what is left lies behind the window
pub Forward-past : (all : List ℕ) (place : ℕ) (rest : List ℕ) (from : ℕ) (old now : List ℕ)
    → Forward all place rest from old now → from + length now ≤ place → now ≡ covered 0 all from old
Forward-past all place rest from old now so past =
    sym (covered-past place rest from now past) ∙ so.parts

pub Backward-next : (all : List ℕ) (end place : ℕ) (rest : List ℕ) (from : ℕ) (old now then more last : List ℕ) (k : ℕ)
    → Backward all end place rest from old now → rest ≡ more ++ last → k ≡ length last → then ≡ covered (place - k) last from now
    → Backward all end (place - k) more from old then
Backward-next all end place rest from old now then more last k so rest_is k_is then_is =
    let size : length rest ≡ length more + length last = ap length rest_is ∙ length-append more last in
    let start : place - k - length more ≡ place - length rest = omega (arith, size, k_is) in
    let behind : place - k ≡ (place - length rest) + length more = omega (arith, size, k_is, so.within) in
    record {
      parts =
          ap (λ j. covered j more from then) start
          ∙ ap (covered (place - length rest) more from) (then_is ∙ ap (λ j. covered j last from now) behind)
          ∙ covered-before (place - length rest) more last from now
          ∙ ap (λ bs. covered (place - length rest) bs from now) (sym rest_is)
          ∙ so.parts;
      within = omega (arith, size, k_is, so.within);
    }

pub Backward-end : (all : List ℕ) (end place : ℕ) (rest : List ℕ) (from : ℕ) (old now : List ℕ)
    → Backward all end place rest from old now → rest ≡ [] → now ≡ covered (end - length all) all from old
Backward-end all end place rest from old now so none =
    sym (covered-nothing (place - length rest) rest from now none) ∙ so.parts
