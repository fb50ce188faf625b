-- Getting and putting sides and directions of the plain state, and what a change of one leaves.
use Rattle.std.proofs.Common.{◌≡◌, ◌≢◌, ◌⊎◌, inl, inr, ℕ, ◌+◌, ◌*◌, ◌<◌, Bool, true, false, List, [], ◌∷◌, ◌++◌, length, refl, sym, ◌∙◌, ap}
use Rattle.std.proofs.Common.{arith}
use Rattle.std.specs.Prelude.{slice_index_or, slice_set, nat_lt, nat_eq, ◌&&◌}
use Rattle.std.proofs.lemmas.Bool.{ltb-true, ltb-false, eqb-true, eq-eqb}
use Rattle.std.proofs.lemmas.Bool.Decides.{eqb_tells}
use Rattle.std.proofs.lemmas.List.{get_or-set_same, get_or-set_other, get_or_past, get_or_append_left, get_or-append-add, set_past}
use Rattle.std.proofs.lemmas.List.{length-append}
use Rattle.ev_types.specs.declared.side.Side.{Side}
use Rattle.ev_types.specs.declared.side.Side.TheVariants.{In, Out}
use Rattle.ev_types.specs.declared.side.SideId.{SideId}
use Rattle.ev_types.specs.Sides.{half, number, same_side, same_end}
use Rattle.relay_model.specs.Flow.{Flow, no_flow}
use Rattle.relay_model.specs.Settings.{Settings}
use Rattle.relay_model.specs.Plain.{Plain, PlainSide, no_side, new_side, with_link, is_live, side_at, flow_at, change_side, change_flow}

-- an element of a list in which one was set is as it was, or the new one
pub set-either : {A : Type 0} (xs : List A) (i j : ℕ) (y d : A) →
    (slice_index_or (slice_set xs i y) j d ≡ slice_index_or xs j d) ⊎ ((j ≡ i) × (slice_index_or (slice_set xs i y) j d ≡ y))
set-either {A} xs i j y d = elim (eqb_tells j i) [
  | inl same ↦ within same.1 (nat_lt i (length xs)) refl
  | inr other ↦ inl
      (get_or-set_other xs i j y d other.1)
]
  where
    within : j ≡ i → (b : Bool) → nat_lt i (length xs) ≡ b →
        (slice_index_or (slice_set xs i y) j d ≡ slice_index_or xs j d) ⊎ ((j ≡ i) × (slice_index_or (slice_set xs i y) j d ≡ y))
    within same true lt = inr (
      same,
      ap (λ k. slice_index_or (slice_set xs i y) k d) same ∙ get_or-set_same xs i y d
          (ltb-true i (length xs) lt),
    )
    within same false lt = inl (ap (λ z. slice_index_or z j d) (set_past xs i y (ltb-false i (length xs) lt)))

-- a side is as it was, or the changed one
pub side_at-change : (e a : SideId) (f : PlainSide → PlainSide) (s : Plain) →
    (side_at (change_side e f s) a ≡ side_at s a) ⊎ ((number a ≡ number e) × (side_at (change_side e f s) a ≡ f (side_at s a)))
side_at-change e a f s = elim (set-either s.sides (number e) (number a) (f (side_at s e)) no_side) [
  | inl same ↦ inl same
  | inr changed ↦ inr (changed.0, changed.1 ∙ ap (λ k. f (slice_index_or s.sides k no_side)) (sym changed.0))
]

-- a direction is as it was, or the changed one
pub flow_at-change : (e a : SideId) (f : Flow → Flow) (s : Plain) →
    (flow_at (change_flow e f s) a ≡ flow_at s a) ⊎ ((number a ≡ number e) × (flow_at (change_flow e f s) a ≡ f (flow_at s a)))
flow_at-change e a f s = elim (set-either s.flows (number e) (number a) (f (flow_at s e)) no_flow) [
  | inl same ↦ inl same
  | inr changed ↦ inr (changed.0, changed.1 ∙ ap (λ k. f (slice_index_or s.flows k no_flow)) (sym changed.0))
]

-- what a change does to each side, it does to what is seen of a side
pub seen-change : {B : Type 0} (see : PlainSide → B) (e a : SideId) (f : PlainSide → PlainSide) (s : Plain) →
    ((x : PlainSide) → see (f x) ≡ see x) → see (side_at (change_side e f s) a) ≡ see (side_at s a)
seen-change see e a f s same = elim (side_at-change e a f s) [ inl h ↦ ap see h | inr h ↦ ap see h.1 ∙ same (side_at s a) ]

-- Sides by name

pub and-first : (a b : Bool) → (a && b) ≡ true → a ≡ true
and-first true b h = refl
and-first false b h = h

pub and-second : (a b : Bool) → (a && b) ≡ true → b ≡ true
and-second true b h = h
and-second false b h = cc

pub link_and_side : (j k : ℕ) (x y : Side) → 2 * j + half x ≡ 2 * k + half y → (nat_eq j k && same_side x y) ≡ true
link_and_side j k In In h = let same : j ≡ k = omega arith in ap (λ b. b && true) (eq-eqb j k same)
link_and_side j k Out Out h = let same : j ≡ k = omega arith in ap (λ b. b && true) (eq-eqb j k same)
link_and_side j k In Out h = let no : ⊥ = omega arith in absurd no
link_and_side j k Out In h = let no : ⊥ = omega arith in absurd no

-- two sides with one number are one
pub number-tells : (a b : SideId) → number a ≡ number b → same_end a b ≡ true
number-tells a b h = link_and_side a.link b.link a.side b.side h

pub one_number : (j k : ℕ) (x y : Side) → (nat_eq j k && same_side x y) ≡ true → 2 * j + half x ≡ 2 * k + half y
one_number j k In In h = let same : j ≡ k = eqb-true j k (and-first (nat_eq j k) true h) in omega arith
one_number j k Out Out h = let same : j ≡ k = eqb-true j k (and-first (nat_eq j k) true h) in omega arith
one_number j k In Out h = let no : false ≡ true = and-second (nat_eq j k) false h in cc
one_number j k Out In h = let no : false ≡ true = and-second (nat_eq j k) false h in cc

pub same_end-number : (a b : SideId) → same_end a b ≡ true → number a ≡ number b
same_end-number a b h = one_number a.link b.link a.side b.side h

-- A change of one side leaves the others.
pub side_at-other : (e a : SideId) (f : PlainSide → PlainSide) (s : Plain) → same_end e a ≡ false → side_at (change_side e f s) a ≡
    side_at s a
side_at-other e a f s other =
    get_or-set_other s.sides (number e) (number a) (f (side_at s e)) no_side (λ h. let same : same_end e a ≡ true = number-tells e
    a (sym h) in cc)

-- It changes the side that it names, where that was opened.
pub side_at-same : (e a : SideId) (f : PlainSide → PlainSide) (s : Plain) → number e < length s.sides → same_end e a ≡ true →
    side_at (change_side e f s) a ≡ f (side_at s a)
side_at-same e a f s within same =
    let n : number e ≡ number a = same_end-number e a same in
    ap (λ k. slice_index_or (slice_set s.sides (number e) (f (side_at s e))) k no_side) (sym n)
    ∙ get_or-set_same s.sides (number e) (f (side_at s e)) no_side within
    ∙ ap (λ k. f (slice_index_or s.sides k no_side)) n

-- what was never opened isn't live
pub live-within : (s : Plain) (e : SideId) → is_live s e ≡ true → number e < length s.sides
live-within s e live = by_case (nat_lt (number e) (length s.sides)) refl
  where
    by_case : (b : Bool) → nat_lt (number e) (length s.sides) ≡ b → number e < length s.sides
    by_case true h = ltb-true (number e) (length s.sides) h
    by_case false h =
        let none : side_at s e ≡ no_side = get_or_past s.sides (number e) no_side (ltb-false (number e) (length s.sides) h) in
        let dead : is_live s e ≡ false = ap (λ x. x.live) none in
        absurd (let no : true ≡ false = sym live ∙ dead in cc)

-- Sides after a link opened: the two new ones, and the others as they were.

pub half-below : (x : Side) → half x < 2
half-below In = omega arith
half-below Out = omega arith

abbrev pub new_sides : Settings → Bool → Plain → List PlainSide
new_sides g connected s = new_side g s.time s.turn In true ∷ new_side g s.time s.turn Out connected ∷ []

abbrev pub is_connected : Side → Bool → Bool
is_connected In connected = true
is_connected Out connected = connected

pub new_sides-at : (g : Settings) (connected : Bool) (s : Plain) (x : Side) → slice_index_or (new_sides g connected s) (half x)
    no_side ≡ new_side g s.time s.turn x (is_connected x connected)
new_sides-at g connected s In = refl
new_sides-at g connected s Out = refl

pub side_at-new : (g : Settings) (connected : Bool) (s : Plain) (e : SideId) → length s.sides ≡ 2 * s.opened → s.opened ≡ e.link →
    side_at (with_link g connected s) e ≡ new_side g s.time s.turn e.side (is_connected e.side connected)
side_at-new g connected s e paired here =
    let n : number e ≡ length s.sides + half e.side = omega (arith, paired, here) in
    ap (λ k. slice_index_or (s.sides ++ new_sides g connected s) k no_side) n
    ∙ get_or-append-add s.sides (new_sides g connected s) (half e.side) no_side
    ∙ new_sides-at g connected s e.side

pub side_at-old : (g : Settings) (connected : Bool) (s : Plain) (e : SideId) → length s.sides ≡ 2 * s.opened → s.opened ≢ e.link →
    side_at (with_link g connected s) e ≡ side_at s e
side_at-old g connected s e paired other = by_case (nat_lt (number e) (length s.sides)) refl
  where
    by_case : (b : Bool) → nat_lt (number e) (length s.sides) ≡ b → side_at (with_link g connected s) e ≡ side_at s e
    by_case true h = get_or_append_left s.sides (new_sides g connected s) no_side (number e) (ltb-true (number e) (length s.sides) h)
    by_case false h =
        let beyond = ltb-false (number e) (length s.sides) h in
        let above : s.opened < e.link = omega (arith, paired, half-below e.side, other) in
        get_or_past (s.sides ++ new_sides g connected s) (number e) no_side
        (omega (arith, length-append s.sides (new_sides g connected s), paired))
        ∙ sym (get_or_past s.sides (number e) no_side beyond)
