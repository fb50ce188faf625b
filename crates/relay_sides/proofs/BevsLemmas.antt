-- The two bufferevents of each side, as one slot of the world changes.
use Rattle.std.proofs.Common.{◌≡◌, ◌≢◌, ℕ, ◌-◌, ◌*◌, ◌<◌, ◌≤◌, List, length, slice_set, refl, sym, ◌∙◌, arith}
use Rattle.std.proofs.lemmas.List.{get_or-set_same, get_or-set_other}
use Rattle.ev_types.specs.declared.side.Side.{Side}
use Rattle.ev_types.specs.declared.side.Side.TheVariants.{In, Out}
use Rattle.ev_types.specs.declared.side.SideId.{SideId}
use Rattle.ev_types.specs.Sides.{half, number, other, peer}
use Rattle.bev_world.specs.WorldValue.{no_slot}
use Rattle.bev_world.specs.declared.slot.Slot.{Slot}
use Rattle.relay_sides.specs.Bevs.{bevs_at, lower_of, upper_of, twin}

half-le : (s : Side) → half s ≤ 1
half-le In = omega arith
half-le Out = omega arith

half-other : (s : Side) → half (other s) ≡ 1 - half s
half-other In = refl
half-other Out = refl

-- the number of a side is below twice the number of links
pub number-lt : (e : SideId) (n : ℕ) → e.link < n → number e < 2 * n
number-lt e n h = omega (arith, half-le e.side)

pub twin-number : (e : SideId) → number (peer e) ≡ twin (number e)
twin-number e = omega (arith, half-le e.side, half-other e.side)

pub twin-twin : (n : ℕ) → twin (twin n) ≡ n
twin-twin n = omega arith

pub twin-apart : (n : ℕ) → twin n ≢ n
twin-apart n h = absurd (omega (arith, h))

pub peer-apart : (e : SideId) → number (peer e) ≢ number e
peer-apart e h = twin-apart (number e) (sym (twin-number e) ∙ h)

module _ (slots : List Slot) (n : ℕ) (s : Slot) where
  -- the lower one of a side changes
  pub set_lower-other : (m : ℕ) → m ≢ n → bevs_at (slice_set slots (lower_of n) s) m ≡ bevs_at slots m
  set_lower-other m d =
      let a = get_or-set_other slots (lower_of n) (lower_of m) s no_slot (λ e. d (omega (arith, e))) in
      let b = get_or-set_other slots (lower_of n) (upper_of m) s no_slot (λ e. absurd (omega (arith, e))) in
      λ i. record { lower = a i; upper = b i }

  pub set_lower-same : lower_of n < length slots →
      bevs_at (slice_set slots (lower_of n) s) n ≡ (let b = bevs_at slots n in record b { lower = s })
  set_lower-same h =
      let a = get_or-set_same slots (lower_of n) s no_slot h in
      let b = get_or-set_other slots (lower_of n) (upper_of n) s no_slot (λ e. absurd (omega (arith, e))) in
      λ i. record { lower = a i; upper = b i }

  -- the upper one does
  pub set_upper-other : (m : ℕ) → m ≢ n → bevs_at (slice_set slots (upper_of n) s) m ≡ bevs_at slots m
  set_upper-other m d =
      let a = get_or-set_other slots (upper_of n) (lower_of m) s no_slot (λ e. absurd (omega (arith, e))) in
      let b = get_or-set_other slots (upper_of n) (upper_of m) s no_slot (λ e. d (omega (arith, e))) in
      λ i. record { lower = a i; upper = b i }

  pub set_upper-same : upper_of n < length slots →
      bevs_at (slice_set slots (upper_of n) s) n ≡ (let b = bevs_at slots n in record b { upper = s })
  set_upper-same h =
      let a = get_or-set_other slots (upper_of n) (lower_of n) s no_slot (λ e. absurd (omega (arith, e))) in
      let b = get_or-set_same slots (upper_of n) s no_slot h in
      λ i. record { lower = a i; upper = b i }
