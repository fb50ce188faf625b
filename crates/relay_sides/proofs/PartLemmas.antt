-- What the parts of a round make of the links: they change the direction from a side, and bad places of its two sides.
use Rattle.std.proofs.Common.{◌≡◌, ◌≢◌, ℕ, ◌*◌, ◌<◌, Bool, true, false, ◌==◌, List, None, refl, sym, ◌∙◌, ap, subst, eqb-true}
use Rattle.std.proofs.lemmas.Bool.{eqb-false}
use Rattle.ev_types.specs.declared.side.SideId.{SideId}
use Rattle.ev_types.specs.Sides.{number, peer}
use Rattle.relay_model.specs.Plain.{PlainSide}
use Rattle.relay_state.specs.Passage.{Passage}
use Rattle.relay_state.specs.Passing.{with_bad}
use Rattle.bev_world.specs.declared.slot.Slot.{Slot}
use Rattle.relay_sides.specs.Bevs.{Bevs, bevs_at, twin}
use Rattle.relay_sides.specs.Links.{passage_at, with_passage}
use Rattle.relay_sides.specs.SidesValue.{SidesValue}
use Rattle.relay_sides.specs.SideView.{state_at, plain_side, flow_at, lane_at, flow_of, lane_of, limit_kept}
use Rattle.relay_sides.specs.SidesView.{links_of, sides_of, AreSides, IsCounted}
use Rattle.relay_sides.specs.declared.sides.Sides.TheInside.{Inside}
use Rattle.relay_sides.specs.declared.side.SideState.{SideState}
use Rattle.relay_sides.proofs.BevsLemmas.{twin-number}
use Rattle.relay_sides.proofs.ChangeLemmas.{left_of, right_of, counted_of, Counted, everywhere, Apart, counted-apart}
use Rattle.relay_sides.proofs.SidesLemmas.{side_seen, flow_seen, lane_seen, passage_changed}

-- the direction by what is kept of it
abbrev pub passage_by : Bevs → Bevs → SideState → SideState → Passage
passage_by from to own other = record { flow = flow_of from to own; lane = lane_of from to own; from_bad = own.bad; to_bad = other.bad }

-- a side but for its bad place
abbrev pub unflawed : Bevs → SideState → PlainSide
unflawed b s = with_bad None (plain_side b.lower.bev s)

-- the direction from a side, as the code reaches it
pub passage_seen : (v : SidesValue) (r : Inside) → sides_of r ≡ v → (e : SideId) → e.link < v.links.opened →
    passage_at v.links e ≡ passage_by (bevs_at r.world.slots (number e)) (bevs_at r.world.slots (twin (number e)))
    (state_at r.sides.items (number e)) (state_at r.sides.items (twin (number e)))
passage_seen v r is e opened =
    let f = flow_seen v r is e opened in
    let l = lane_seen v r is e opened in
    let a = ap (λ (x : PlainSide). x.bad) (side_seen v r is e opened) in
    let b = ap (λ (x : PlainSide). x.bad) (side_seen v r is (peer e) opened) ∙ ap (λ m. (state_at r.sides.items m).bad) (twin-number e) in
    λ i. record { flow = f i; lane = l i; from_bad = a i; to_bad = b i }

-- two functions that agree but at two places, and at the second
but-one : {A : Type 0} (f g : ℕ → A) (n t : ℕ) → ((m : ℕ) → m ≢ n → m ≢ t → g m ≡ f m) → g t ≡ f t → (m : ℕ) → m ≢ n → g m ≡ f m
but-one f g n t off at m d = go (m == t) refl
  where
    go : (b : Bool) → (m == t) ≡ b → g m ≡ f m
    go true e = let h = eqb-true m t e in ap g h ∙ at ∙ ap f (sym h)
    go false e = off m d (eqb-false m t e)

-- the bufferevents of both sides of a link, and what is kept beside them, may change so
pub record Link (S S' : List Slot) (K K' : List SideState) (n : ℕ) (from to : Bevs) (own other : SideState) : Type 0 where
  pub bevs : (m : ℕ) → m ≢ n → m ≢ twin n → bevs_at S' m ≡ bevs_at S m
  pub states : (m : ℕ) → m ≢ n → m ≢ twin n → state_at K' m ≡ state_at K m
  pub from_is : bevs_at S' n ≡ from
  pub to_is : bevs_at S' (twin n) ≡ to
  pub own_is : state_at K' n ≡ own
  pub other_is : state_at K' (twin n) ≡ other

module _ (v : SidesValue) (r : Inside) (is : sides_of r ≡ v) (e : SideId) (opened : e.link < v.links.opened)
    (S' : List Slot) (K' : List SideState) (from to : Bevs) (own other : SideState)
    (l : Link r.world.slots S' r.sides.items K' (number e) from to own other)
    (right : right_of from ≡ right_of (bevs_at r.world.slots (number e)))
    (left : left_of to ≡ left_of (bevs_at r.world.slots (twin (number e))))
    (counted : counted_of other ≡ counted_of (state_at r.sides.items (twin (number e))))
    (limit : limit_kept own ≡ limit_kept (state_at r.sides.items (number e))) where
  abbrev S : List Slot
  S = r.world.slots

  abbrev K : List SideState
  K = r.sides.items

  abbrev n : ℕ
  n = number e

  abbrev t : ℕ
  t = twin (number e)

  but-other : {A : Type 0} (f g : ℕ → A) → ((m : ℕ) → m ≢ n → m ≢ t → g m ≡ f m) → g n ≡ f n → (m : ℕ) → m ≢ t → g m ≡ f m
  but-other f g off at = but-one f g t n (λ m a b. off m b a) at

  pub link_apart : Apart (number e) r.world.slots S' r.sides.items K'
  link_apart = record {
    left = but-one (λ m. left_of (bevs_at S m)) (λ m. left_of (bevs_at S' m)) n t (λ m a b. ap left_of (l.bevs m a b))
        (ap left_of l.to_is ∙ left);
    right = but-other (λ m. right_of (bevs_at S m)) (λ m. right_of (bevs_at S' m)) (λ m a b. ap right_of (l.bevs m a b))
        (ap right_of l.from_is ∙ right);
    counted = but-one (λ m. counted_of (state_at K m)) (λ m. counted_of (state_at K' m)) n t (λ m a b. ap counted_of (l.states m a b))
        (ap counted_of l.other_is ∙ counted);
    limits = everywhere (λ m. limit_kept (state_at K m)) (λ m. limit_kept (state_at K' m)) n
        (but-one (λ m. limit_kept (state_at K m)) (λ m. limit_kept (state_at K' m)) n t (λ m a b. ap limit_kept (l.states m a b))
        (ap limit_kept l.other_is ∙ ap (λ (z : Counted). z.limit) counted))
        (ap limit_kept l.own_is ∙ limit);
  }

  -- a part of a round was made
  pub part_links : (f : Passage → Passage)
      → unflawed from own ≡ unflawed (bevs_at r.world.slots (number e)) (state_at r.sides.items (number e)) →
      unflawed to other ≡ unflawed (bevs_at r.world.slots (twin (number e))) (state_at r.sides.items (twin (number e))) →
      passage_by from to own other ≡ f (passage_by (bevs_at r.world.slots (number e)) (bevs_at r.world.slots (twin (number e)))
      (state_at r.sides.items (number e)) (state_at r.sides.items (twin (number e)))) →
      links_of r.opened S' K' ≡ with_passage e (f (passage_at v.links e)) v.links
  part_links f own_kept other_kept made =
      passage_changed v r is e opened S' K' (passage_by from to own other) link_apart
      (λ m a b. (λ i. plain_side (l.bevs m a b i).lower.bev (l.states m a b i)))
      ((λ i. plain_side (l.from_is i).lower.bev (l.own_is i)) ∙ ap (with_bad own.bad) own_kept)
      ((λ i. plain_side (l.to_is i).lower.bev (l.other_is i)) ∙ ap (with_bad other.bad) other_kept)
      (λ i. flow_of (l.from_is i) (l.to_is i) (l.own_is i))
      (λ i. lane_of (l.from_is i) (l.to_is i) (l.own_is i))
      ∙ ap (λ x. with_passage e x v.links) (made ∙ ap f (sym (passage_seen v r is e opened)))

  pub part_counted : AreSides r → IsCounted (flow_of from to own) (lane_of from to own) → (m : ℕ) → m < 2 * r.opened →
      IsCounted (flow_at S' K' m) (lane_at S' K' m)
  part_counted sound fits =
      counted-apart S S' K K' n link_apart (2 * r.opened) sound.counted
      (subst (λ (x : Passage). IsCounted x.flow x.lane)
      (λ i. passage_by (sym l.from_is i) (sym l.to_is i) (sym l.own_is i) (sym l.other_is i)) fits)
