-- Where a relay stands for a trace, no count passes four times what was read at one end, and three.
use Rattle.std.proofs.Common.{◌≡◌, ℕ, zero, suc, ◌+◌, ◌*◌, ◌^◌, ◌<◌, ◌≤◌, Bool, false, ◌||◌, nat_le, List, [], ◌∷◌, length, get_or, refl}
use Rattle.std.proofs.Common.{subst, arith}
use Rattle.std.specs.List.{list_any}
use Rattle.std.proofs.lemmas.Bool.{lt-leb}
use Rattle.ev_types.specs.declared.side.Side.TheVariants.{In, Out}
use Rattle.ev_types.specs.declared.side.SideId.{SideId}
use Rattle.ev_types.specs.Sides.{number, peer}
use Rattle.ev_types.specs.Trace.{Trace}
use Rattle.relay_model.specs.Trace.{bytes_read}
use Rattle.relay_model.specs.Flow.{Flow, no_flow, middle, outcome}
use Rattle.relay_model.specs.Plain.{flow_at}
use Rattle.relay_model.specs.Rooms.{read_kind, write_kind, read_filter, write_filter}
use Rattle.relay_model.specs.Stages.{Stage}
use Rattle.relay_model.specs.Told.{CountsTold}
use Rattle.relay_model.proofs.QuietLemmas.{state_is_told}
use Rattle.relay_state.specs.State.{State, no_lane, lane_at}
use Rattle.relay_state.specs.Counting.{has_flown_far, has_read_far, is_spent}
use Rattle.relay_steps.specs.Meaning.{LaneFits, StandsFor}
use Rattle.relay_steps.proofs.SizeLemmas.{middle-most, outcome-most}

neither : (a b : Bool) → a ≡ false → b ≡ false → (a || b) ≡ false
neither a b p q = cc

-- each number below twice so many is that of a side of one of so many links
side_of : (i n : ℕ) → i < 2 * n → (e : SideId) × (e.link < n) × (number e ≡ i)
side_of zero zero h = absurd (omega (arith, h))
side_of zero (suc n) h = (record { link = 0; side = In }, omega arith, refl)
side_of (suc zero) zero h = absurd (omega (arith, h))
side_of (suc zero) (suc n) h = (record { link = 0; side = Out }, omega arith, refl)
side_of (suc (suc i)) zero h = absurd (omega (arith, h))
side_of (suc (suc i)) (suc n) h =
    let r = side_of i n (omega (arith, h)) in
    let e = r.0 in
    let lt = r.1 in
    let is = r.2 in
    (record { link = suc e.link; side = e.side }, omega (arith, lt), omega (arith, is))

-- a test that fails at each place of a list
none_at : {X : Type 0} (p : X → Bool) (xs : List X) (d : X) → ((i : ℕ) → i < length xs → p (get_or xs i d) ≡ false) → list_any p xs ≡ false
none_at p [] d h = refl
none_at p (x ∷ xs) d h = neither (p x) (list_any p xs) (h 0 (omega arith)) (none_at p xs d (λ i lt. h (suc i) (omega (arith, lt))))

module _ (t : Trace) (x : Stage) (s : State) (k : StandsFor t x s) (n : ℕ) (few : 4 * n + 3 < 2 ^ 62)
    (reads : (i : ℕ) → (get_or s.lanes i no_lane).read ≤ n) where
  told : CountsTold s.settings t s.plain
  told = (state_is_told s.settings t x s.plain k.reached).0

  near : (m : ℕ) → m ≤ 4 * n + 3 → nat_le (2 ^ 62) m ≡ false
  near m h = lt-leb (2 ^ 62) m (omega (arith, h, few))

  module _ (e : SideId) (lt : e.link < s.plain.opened) where
    fits : LaneFits s.settings t s.plain e (lane_at s e)
    fits = k.each e lt

    abbrev f : Flow
    f = flow_at s.plain e

    some : length (bytes_read e t) ≤ n
    some = let a = reads (number e) in let b = fits.read in omega (arith, a, b)

    made : (lane_at s e).read_made ≤ 2 * n + 1
    made =
        let a : length (middle (read_filter s.settings s.plain e) (bytes_read e t) f) ≤ 2 * length (bytes_read e t) + 1 =
        middle-most (read_kind s.settings e.side) (bytes_read e t) f in
        let b = fits.read_made in
        omega (arith, a, b, some)

    moved : f.moved ≤ 2 * n + 1
    moved = let a : f.moved ≤ length (middle (read_filter s.settings s.plain e) (bytes_read e t) f) = (k.accounts e).fits.moved in
        let b = fits.read_made in omega (arith, a, b, made)

    written : (lane_at s e).write_made ≤ 4 * n + 3
    written =
        let a : length (outcome (read_filter s.settings s.plain e) (write_filter s.settings s.plain (peer e)) (bytes_read e t) f) ≤
        2 * f.turned + 1 =
        outcome-most (read_kind s.settings e.side) (write_kind s.settings (peer e).side) (bytes_read e t) f in
        let b = fits.write_made in
        let c : f.turned ≤ f.moved = (k.accounts e).fits.turned in
        omega (arith, a, b, c, moved)

    flow-near : has_flown_far f ≡ false
    flow-near =
        let a : f.used ≤ length (bytes_read e t) = (k.accounts e).fits.used in
        let b : f.turned ≤ f.moved = (k.accounts e).fits.turned in
        let c : f.given ≤ length (outcome (read_filter s.settings s.plain e) (write_filter s.settings s.plain (peer e))
        (bytes_read e t) f) =
        (k.accounts e).fits.given in
        let d = fits.write_made in
        neither _ _ (neither _ _ (neither _ _ (near f.used (omega (arith, a, some))) (near f.moved (omega (arith, moved))))
        (near f.turned (omega (arith, b, moved)))) (near f.given (omega (arith, c, d, written)))

    lane-near : has_read_far (lane_at s e) ≡ false
    lane-near =
        let a = reads (number e) in
        neither _ _ (neither _ _ (near (lane_at s e).read (omega (arith, a))) (near (lane_at s e).read_made (omega (arith, made))))
        (near (lane_at s e).write_made (omega (arith, written)))

  flows-near : (i : ℕ) → i < length s.plain.flows → has_flown_far (get_or s.plain.flows i no_flow) ≡ false
  flows-near i lt =
      let a = told.shape.flows in
      let r = side_of i s.plain.opened (omega (arith, lt, a)) in
      subst (λ m. has_flown_far (get_or s.plain.flows m no_flow) ≡ false) r.2 (flow-near r.0 r.1)

  lanes-near : (i : ℕ) → i < length s.lanes → has_read_far (get_or s.lanes i no_lane) ≡ false
  lanes-near i lt =
      let a = k.many in
      let r = side_of i s.plain.opened (omega (arith, lt, a)) in
      subst (λ m. has_read_far (get_or s.lanes m no_lane) ≡ false) r.2 (lane-near r.0 r.1)

  -- no count is spent
  pub not_spent : s.plain.turn ≤ n → is_spent s ≡ false
  not_spent turns =
      neither _ _ (neither _ _ (near s.plain.turn (omega (arith, turns))) (none_at has_flown_far s.plain.flows no_flow flows-near))
      (none_at has_read_far s.lanes no_lane lanes-near)
