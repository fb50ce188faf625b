-- What the code reads of a side and of a direction.
use Rattle.std.proofs.Common.{◌≡◌, ◌≢◌, ℕ, zero, suc, ◌+◌, ◌*◌, ◌<◌, Bool, true, false, ◌||◌, ◌==◌, List, [], ◌∷◌, length, get_or}
use Rattle.std.proofs.Common.{slice_index_or, refl, sym, ◌∙◌, ap, arith, eqb-true}
use Rattle.std.proofs.lemmas.Bool.{eqb-false}
use Rattle.std.specs.List.{list_any}
use Rattle.token_bucket.specs.declared.limit.Dir.{Dir}
use Rattle.token_bucket.specs.declared.limit.Dir.TheVariants as dir
use Rattle.ev_types.specs.declared.side.SideId.{SideId}
use Rattle.ev_types.specs.Sides.{number, peer}
use Rattle.filter_model.specs.Running.{Running}
use Rattle.relay_model.specs.Flow.{no_flow}
use Rattle.relay_model.specs.Moments.{timeout_of, last_activity}
use Rattle.relay_state.specs.State.{no_lane}
use Rattle.relay_state.specs.Closing.{in_side, out_side}
use Rattle.relay_state.specs.Counting.{has_flown_far, has_read_far}
use Rattle.bev_core.specs.BevValue.{BevValue, timeout}
use Rattle.bev_core.specs.BevValue as bev
use Rattle.bev_world.specs.WorldValue.{WorldValue, slot_at}
use Rattle.bev_world.specs.ByNumber.{filter_of}
use Rattle.relay_sides.specs.Bevs.{bevs_at, upper_of, twin}
use Rattle.relay_sides.specs.Links.{Links, has_spent_count_from, any_count_is_spent}
use Rattle.relay_sides.specs.Pairs.{HasPairs}
use Rattle.relay_sides.specs.SidesValue.{SidesValue}
use Rattle.relay_sides.specs.SideView.{plain_side, state_at}
use Rattle.relay_sides.specs.SidesView.{sides_of, AreSides}
use Rattle.relay_sides.specs.declared.sides.Sides.TheInside.{Inside}
use Rattle.relay_sides.specs.declared.side.SideState.{SideState}
use Rattle.relay_sides.proofs.BevsLemmas.{number-lt, twin-number}
use Rattle.relay_sides.proofs.SidesLemmas.{here, state_found}

-- the filters over a side's end
pub filter_found : (w : WorldValue) (n i : ℕ) (f : Running) (d : Dir) → i ≡ upper_of n → f ≡ filter_of (slot_at w i) d →
    f ≡ filter_of (bevs_at w.slots n).upper d
filter_found w n i f d h g = g ∙ ap (λ j. filter_of (slot_at w j) d) h

module _ (v : SidesValue) (r : Inside) (is : sides_of r ≡ v) (sound : AreSides r) (e : SideId) (opened : e.link < v.links.opened) where
  -- what is kept of a side
  pub own_state : (i : ℕ) (x : SideState) → i ≡ number e → x ≡ get_or r.sides.items i x → x ≡ state_at r.sides.items (number e)
  own_state i x h g =
      let lt : number e < 2 * r.opened = number-lt e r.opened (here v r is e opened) in
      state_found r.sides.items (number e) i x h g (omega (arith, lt, sound.sides))

  -- and of the other side of its link
  pub peer_state : (p : SideId) (i : ℕ) (x : SideState) → p ≡ peer e → i ≡ number p → x ≡ get_or r.sides.items i x →
      x ≡ state_at r.sides.items (twin (number e))
  peer_state p i x q h g =
      let lt : number (peer e) < 2 * r.opened = number-lt (peer e) r.opened (here v r is e opened) in
      let at : i ≡ number (peer e) = h ∙ ap number q in
      state_found r.sides.items (number (peer e)) i x at g (omega (arith, lt, sound.sides))
      ∙ ap (state_at r.sides.items) (twin-number e)

-- a side's timeouts and moments are those of the bufferevent of its end

pub timeout_kept : (b : BevValue) (s : SideState) (d : Dir) → timeout b d ≡ timeout_of (plain_side b s) d
timeout_kept b s dir.Read = refl
timeout_kept b s dir.Write = refl

pub activity_kept : (b : BevValue) (s : SideState) (d : Dir) → bev.last_activity b d ≡ last_activity (plain_side b s) d
activity_kept b s dir.Read = refl
activity_kept b s dir.Write = refl

-- far counts

or_true : (a : Bool) → (a || true) ≡ true
or_true true = refl
or_true false = refl

both_not : (a b : Bool) → (a || b) ≡ false → (a ≡ false) × (b ≡ false)
both_not true b e = absurd (let wrong : true ≡ false = e in cc)
both_not false true e = absurd (let wrong : true ≡ false = e in cc)
both_not false false e = (refl, refl)

module _ {A : Type 0} (p : A → Bool) (none : A) where
  any-one : (xs : List A) (n : ℕ) → n < length xs → p (slice_index_or xs n none) ≡ true → list_any p xs ≡ true
  any-one [] n h is = absurd (omega (arith, h))
  any-one (x ∷ xs) zero h is = ap (λ b. b || list_any p xs) is
  any-one (x ∷ xs) (suc n) h is = ap (λ b. p x || b) (any-one xs n (omega (arith, h)) is) ∙ or_true (p x)

  any-none : (xs : List A) → ((n : ℕ) → n < length xs → p (slice_index_or xs n none) ≡ false) → list_any p xs ≡ false
  any-none [] h = refl
  any-none (x ∷ xs) h =
      let rest = any-none xs (λ n b. h (suc n) (omega (arith, b))) in let first = h 0 (omega arith) in λ i. first i || rest i

-- a count of the direction of a number has come far
abbrev pub far_of : Links → ℕ → Bool
far_of k n = has_flown_far (slice_index_or k.flows n no_flow) || has_read_far (slice_index_or k.lanes n no_lane)

-- none of the first directions has
abbrev pub NoneFar : Links → ℕ → Type 0
NoneFar k count = (n : ℕ) → n < count → far_of k n ≡ false

module _ (k : Links) (pairs : HasPairs k) where
  -- one direction has
  pub far_one : (n : ℕ) → n < 2 * k.opened → far_of k n ≡ true → any_count_is_spent k ≡ true
  far_one n h is = go (has_flown_far (slice_index_or k.flows n no_flow)) refl
    where
      go : (b : Bool) → has_flown_far (slice_index_or k.flows n no_flow) ≡ b → any_count_is_spent k ≡ true
      go true e =
          ap (λ b. b || list_any has_read_far k.lanes)
          (any-one has_flown_far no_flow k.flows n (omega (arith, h, pairs.flows)) e)
      go false e =
          ap (λ b. list_any has_flown_far k.flows || b)
          (any-one has_read_far no_lane k.lanes n (omega (arith, h, pairs.lanes))
          (ap (λ b. b || has_read_far (slice_index_or k.lanes n no_lane)) (sym e) ∙ is))
          ∙ or_true (list_any has_flown_far k.flows)

  -- none has
  pub far_none : NoneFar k (2 * k.opened) → any_count_is_spent k ≡ false
  far_none h =
      let flows = any-none has_flown_far no_flow k.flows (λ n b.
      (both_not (has_flown_far (slice_index_or k.flows n no_flow)) (has_read_far (slice_index_or k.lanes n no_lane))
      (h n (omega (arith, b, pairs.flows)))).0) in
      let lanes = any-none has_read_far no_lane k.lanes (λ n b.
      (both_not (has_flown_far (slice_index_or k.flows n no_flow)) (has_read_far (slice_index_or k.lanes n no_lane))
      (h n (omega (arith, b, pairs.lanes)))).1) in
      λ i. flows i || lanes i

-- two more, both of which have not
pub none_more : (k : Links) (link : ℕ) → NoneFar k (2 * link) →
    (has_spent_count_from k (in_side link) || has_spent_count_from k (out_side link)) ≡ false → NoneFar k (2 * (link + 1))
none_more k link before none n h = go (n == 2 * link) refl
  where
    two : (has_spent_count_from k (in_side link) ≡ false) × (has_spent_count_from k (out_side link) ≡ false)
    two = both_not (has_spent_count_from k (in_side link)) (has_spent_count_from k (out_side link)) none

    at_in : 2 * link + 0 ≡ 2 * link
    at_in = omega arith

    rest : n ≢ 2 * link → (b : Bool) → (n == 2 * link + 1) ≡ b → far_of k n ≡ false
    rest d true e = ap (far_of k) (eqb-true n (2 * link + 1) e) ∙ two.1
    rest d false e = before n (omega (arith, h, d, eqb-false n (2 * link + 1) e))

    go : (b : Bool) → (n == 2 * link) ≡ b → far_of k n ≡ false
    go true e = ap (far_of k) (eqb-true n (2 * link) e ∙ sym at_in) ∙ two.0
    go false e = rest (eqb-false n (2 * link) e) (n == 2 * link + 1) refl

-- one of the two of a link has
pub far_here : (k : Links) (pairs : HasPairs k) (link : ℕ) → link < k.opened →
    (has_spent_count_from k (in_side link) || has_spent_count_from k (out_side link)) ≡ true → any_count_is_spent k ≡ true
far_here k pairs link h is = go (has_spent_count_from k (in_side link)) refl
  where
    go : (b : Bool) → has_spent_count_from k (in_side link) ≡ b → any_count_is_spent k ≡ true
    go true e = far_one k pairs (number (in_side link)) (number-lt (in_side link) k.opened h) e
    go false e =
        far_one k pairs (number (out_side link)) (number-lt (out_side link) k.opened h)
        (ap (λ b. b || has_spent_count_from k (out_side link)) (sym e) ∙ is)
