-- Changes of one side that leave both its directions as they were: of the bufferevent of its end, of what is kept beside it, or of both.
use Rattle.std.proofs.Common.{◌≡◌, ◌≢◌, ℕ, ◌*◌, ◌<◌, List, length, slice_set, get_or, refl, sym, ◌∙◌, ap, arith}
use Rattle.std.proofs.lemmas.List.{length-set}
use Rattle.ev_types.specs.declared.side.SideId.{SideId}
use Rattle.ev_types.specs.Sides.{number}
use Rattle.relay_model.specs.Plain.{PlainSide}
use Rattle.bev_core.specs.BevValue.{BevValue}
use Rattle.bev_world.specs.WorldValue.{WorldValue, slot_at, bev_at, with_bev}
use Rattle.bev_world.specs.declared.slot.Slot.{Slot}
use Rattle.relay_sides.specs.Bevs.{Bevs, bevs_at, lower_of, upper_of}
use Rattle.relay_sides.specs.Links.{change_side}
use Rattle.relay_sides.specs.SidesValue.{SidesValue}
use Rattle.relay_sides.specs.SideView.{state_at, plain_side, flow_at, lane_at}
use Rattle.relay_sides.specs.SidesView.{links_of, sides_of, AreSides, IsCounted}
use Rattle.relay_sides.specs.declared.sides.Sides.TheInside.{Inside}
use Rattle.relay_sides.specs.declared.side.SideState.{SideState}
use Rattle.relay_sides.proofs.BevsLemmas.{number-lt, set_lower-other, set_lower-same}
use Rattle.relay_sides.proofs.ChangeLemmas.{left_of, right_of, counted_of, everywhere, set_state-other, set_state-same, Alike, Lasting}
use Rattle.relay_sides.proofs.ChangeLemmas.{counted-alike, filters-last}
use Rattle.relay_sides.proofs.SidesLemmas.{here, state_found, side_changed}

-- What is so of the sides stays so with these bufferevents and this beside them, where there is no room for a read.
pub are_sound : (r s : Inside) → AreSides r → s.opened ≡ r.opened → s.readable ≡ 0 → s.world.chunked ≡ r.world.chunked →
    Lasting r.world.slots s.world.slots r.sides.items s.sides.items →
    ((m : ℕ) → m < 2 * r.opened → IsCounted (flow_at s.world.slots s.sides.items m) (lane_at s.world.slots s.sides.items m)) → AreSides s
are_sound r s h opened unready chunked l counted = record {
  slots = l.slots ∙ h.slots ∙ ap (λ n. 4 * n) (sym opened);
  sides = l.sides ∙ h.sides ∙ ap (λ n. 2 * n) (sym opened);
  filters = λ n lt. filters-last r.world.slots s.world.slots r.sides.items s.sides.items (2 * r.opened) l h.filters n
      (omega (arith, lt, opened));
  counted = λ n lt. counted n (omega (arith, lt, opened));
  one_piece = chunked ∙ h.one_piece;
  read_room = λ some. absurd (omega (arith, some, unready));
}

module _ (v : SidesValue) (r : Inside) (is : sides_of r ≡ v) (sound : AreSides r) (e : SideId) (opened : e.link < v.links.opened) where
  abbrev S : List Slot
  S = r.world.slots

  abbrev K : List SideState
  K = r.sides.items

  abbrev n : ℕ
  n = number e

  pub slot_there : lower_of (number e) < length r.world.slots
  slot_there = let lt = number-lt e r.opened (here v r is e opened) in omega (arith, lt, sound.slots)

  pub upper_there : upper_of (number e) < length r.world.slots
  upper_there = let lt = number-lt e r.opened (here v r is e opened) in omega (arith, lt, sound.slots)

  pub state_there : number e < length r.sides.items
  state_there = let lt = number-lt e r.opened (here v r is e opened) in omega (arith, lt, sound.sides)

  -- the bufferevent of its end changes, but for its bytes
  module _ (i : ℕ) (i_is : i ≡ lower_of (number e)) (b : BevValue → BevValue) (w : WorldValue)
      (w_is : w ≡ with_bev r.world i (b (bev_at r.world i)))
      (input : (x : BevValue) → (b x).input.bytes ≡ x.input.bytes) (output : (x : BevValue) → (b x).output.bytes ≡ x.output.bytes) where
    abbrev lower : Slot
    lower = (bevs_at r.world.slots (number e)).lower

    abbrev new : Slot
    new = let s = (bevs_at r.world.slots (number e)).lower in record s { bev = b s.bev }

    slots_are : w.slots ≡ slice_set r.world.slots (lower_of (number e)) new
    slots_are =
        ap (λ (z : WorldValue). z.slots) w_is
        ∙ ap (λ j. slice_set S j (let s = slot_at r.world j in record s { bev = b s.bev })) i_is

    off : (m : ℕ) → m ≢ n → bevs_at w.slots m ≡ bevs_at S m
    off m d = ap (λ z. bevs_at z m) slots_are ∙ set_lower-other S n new m d

    at : bevs_at w.slots n ≡ (let z = bevs_at S n in record z { lower = new })
    at = ap (λ z. bevs_at z n) slots_are ∙ set_lower-same S n new slot_there

    pub bev_alike : (K' : List SideState) → ((m : ℕ) → counted_of (state_at K' m) ≡ counted_of (state_at r.sides.items m)) →
        Alike r.world.slots w.slots r.sides.items K'
    bev_alike K' counted =
        let l = input lower.bev in
        let o = output lower.bev in
        let z = bevs_at S n in
        record {
          left = everywhere (λ m. left_of (bevs_at S m)) (λ m. left_of (bevs_at w.slots m)) n (λ m d. ap left_of (off m d))
              (ap left_of at ∙ (λ j. record { reader = z.upper.read_filter; raw_input = l j; input = z.upper.bev.input.bytes }));
          right = everywhere (λ m. right_of (bevs_at S m)) (λ m. right_of (bevs_at w.slots m)) n (λ m d. ap right_of (off m d))
              (ap right_of at ∙ (λ j. record { writer = z.upper.write_filter; output = z.upper.bev.output.bytes; raw_output = o j }));
          counted = counted;
        }

    pub bev_lasting : (K' : List SideState) → length K' ≡ length r.sides.items → Lasting r.world.slots w.slots r.sides.items K'
    bev_lasting K' many = record {
      slots = ap length slots_are ∙ length-set S (lower_of n) new;
      sides = many;
      kinds = everywhere (λ m. (bevs_at S m).upper.kind) (λ m. (bevs_at w.slots m).upper.kind) n
          (λ m d. ap (λ (z : Bevs). z.upper.kind) (off m d)) (ap (λ (z : Bevs). z.upper.kind) at);
    }

    -- alone
    pub bev_links : (g : PlainSide → PlainSide) → ((x : BevValue) (s : SideState) → plain_side (b x) s ≡ g (plain_side x s)) →
        links_of r.opened w.slots r.sides.items ≡ change_side e g v.links
    bev_links g same =
        side_changed v r is e opened w.slots K g (bev_alike K (λ m. refl))
        (λ m d. ap (λ (z : Bevs). plain_side z.lower.bev (state_at K m)) (off m d))
        (ap (λ (z : Bevs). plain_side z.lower.bev (state_at K n)) at ∙ same lower.bev (state_at K n))

    pub bev_sound : AreSides (record r { world = w; readable = 0 })
    bev_sound = are_sound r (record r { world = w; readable = 0 })
        sound refl refl (ap (λ (z : WorldValue). z.chunked) w_is) (bev_lasting K refl)
        (counted-alike S w.slots K K (bev_alike K (λ m. refl)) (2 * r.opened) sound.counted)

    -- together with what is kept beside it
    module _ (j : ℕ) (j_is : j ≡ number e) (x y : SideState) (x_is : x ≡ get_or r.sides.items j x)
        (counted_is : counted_of y ≡ counted_of x) where
      state_is : x ≡ state_at K n
      state_is = state_found K n j x j_is x_is state_there

      sides_are : slice_set r.sides.items j y ≡ slice_set r.sides.items (number e) y
      sides_are = ap (λ k. slice_set K k y) j_is

      states : (m : ℕ) → m ≢ n → state_at (slice_set K j y) m ≡ state_at K m
      states m d = ap (λ z. state_at z m) sides_are ∙ set_state-other K n y m d

      state_now : state_at (slice_set K j y) n ≡ y
      state_now = ap (λ z. state_at z n) sides_are ∙ set_state-same K n y state_there

      counted_kept : (m : ℕ) → counted_of (state_at (slice_set K j y) m) ≡ counted_of (state_at K m)
      counted_kept = everywhere (λ m. counted_of (state_at K m)) (λ m. counted_of (state_at (slice_set K j y) m)) n
          (λ m d. ap counted_of (states m d)) (ap counted_of state_now ∙ counted_is ∙ ap counted_of state_is)

      pub both_links : (g : PlainSide → PlainSide) →
          ((z : BevValue) → plain_side (b z) y ≡ g (plain_side z x)) →
          links_of r.opened w.slots (slice_set r.sides.items j y) ≡ change_side e g v.links
      both_links g same =
          side_changed v r is e opened w.slots (slice_set K j y) g (bev_alike (slice_set K j y) counted_kept)
          (λ m d. (λ k. plain_side (off m d k).lower.bev (states m d k)))
          ((λ k. plain_side (at k).lower.bev (state_now k)) ∙ same lower.bev ∙ ap (λ z. g (plain_side lower.bev z)) state_is)

      pub both_counted : (m : ℕ) → m < 2 * r.opened →
          IsCounted (flow_at w.slots (slice_set r.sides.items j y) m) (lane_at w.slots (slice_set r.sides.items j y) m)
      both_counted = counted-alike S w.slots K (slice_set K j y) (bev_alike (slice_set K j y) counted_kept) (2 * r.opened) sound.counted

      pub both_lasting : Lasting r.world.slots w.slots r.sides.items (slice_set r.sides.items j y)
      both_lasting = bev_lasting (slice_set K j y) (length-set K j y)

  -- what is kept beside it changes alone
  module _ (j : ℕ) (j_is : j ≡ number e) (x y : SideState) (x_is : x ≡ get_or r.sides.items j x)
      (counted_is : counted_of y ≡ counted_of x) where
    kept_is : x ≡ state_at K n
    kept_is = state_found K n j x j_is x_is state_there

    kept_are : slice_set r.sides.items j y ≡ slice_set r.sides.items (number e) y
    kept_are = ap (λ k. slice_set K k y) j_is

    kept_off : (m : ℕ) → m ≢ n → state_at (slice_set K j y) m ≡ state_at K m
    kept_off m d = ap (λ z. state_at z m) kept_are ∙ set_state-other K n y m d

    kept_now : state_at (slice_set K j y) n ≡ y
    kept_now = ap (λ z. state_at z n) kept_are ∙ set_state-same K n y state_there

    kept_alike : Alike S S K (slice_set K j y)
    kept_alike = record {
      left = λ m. refl;
      right = λ m. refl;
      counted = everywhere (λ m. counted_of (state_at K m)) (λ m. counted_of (state_at (slice_set K j y) m)) n
          (λ m d. ap counted_of (kept_off m d)) (ap counted_of kept_now ∙ counted_is ∙ ap counted_of kept_is);
    }

    pub state_links_here : (g : PlainSide → PlainSide) →
        (let z = (bevs_at r.world.slots (number e)).lower.bev in plain_side z y ≡ g (plain_side z x)) →
        links_of r.opened r.world.slots (slice_set r.sides.items j y) ≡ change_side e g v.links
    state_links_here g same =
        let z : BevValue = (bevs_at S n).lower.bev in
        side_changed v r is e opened S (slice_set K j y) g kept_alike
        (λ m d. ap (plain_side (bevs_at S m).lower.bev) (kept_off m d))
        (ap (plain_side z) kept_now ∙ same ∙ ap (λ k. g (plain_side z k)) kept_is)

    pub state_links : (g : PlainSide → PlainSide) → ((z : BevValue) → plain_side z y ≡ g (plain_side z x)) →
        links_of r.opened r.world.slots (slice_set r.sides.items j y) ≡ change_side e g v.links
    state_links g same = state_links_here g (same (bevs_at S n).lower.bev)

    pub state_counted : (m : ℕ) → m < 2 * r.opened →
        IsCounted (flow_at r.world.slots (slice_set r.sides.items j y) m) (lane_at r.world.slots (slice_set r.sides.items j y) m)
    state_counted = counted-alike S S K (slice_set K j y) kept_alike (2 * r.opened) sound.counted

    pub state_lasting : Lasting r.world.slots r.world.slots r.sides.items (slice_set r.sides.items j y)
    state_lasting = record { slots = refl; sides = length-set K j y; kinds = λ m. refl }
