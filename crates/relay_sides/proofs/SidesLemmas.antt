-- The sides as the code reaches them, and the links as it changes them.
use Rattle.std.proofs.Common.{◌≡◌, ◌≢◌, ℕ, ◌*◌, ◌<◌, true, List, None, length, slice_set, get_or, sym, ◌∙◌, ap, subst}
use Rattle.std.proofs.lemmas.List.{get_or-set_other, get_or_default}
use Rattle.ev_types.specs.declared.side.SideId.{SideId}
use Rattle.ev_types.specs.Sides.{number, peer}
use Rattle.relay_model.specs.Plain.{PlainSide, no_side}
use Rattle.relay_model.specs.Flow.{no_flow}
use Rattle.relay_state.specs.Running.{no_gauge}
use Rattle.relay_state.specs.State.{no_lane}
use Rattle.relay_state.specs.Passage.{Passage}
use Rattle.relay_state.specs.Passing.{with_bad}
use Rattle.bev_core.specs.BevValue.{BevValue}
use Rattle.bev_world.specs.WorldValue.{WorldValue, bev_at}
use Rattle.bev_world.specs.declared.slot.Slot.{Slot}
use Rattle.relay_sides.specs.Bevs.{bevs_at, lower_of, upper_of, twin}
use Rattle.relay_sides.specs.Links as links
use Rattle.relay_sides.specs.Links.{Links, put_side, put_flow, put_lane, change_side, passage_at, with_passage}
use Rattle.relay_sides.specs.Pairs.{HasPairs}
use Rattle.relay_sides.specs.SidesValue.{SidesValue}
use Rattle.relay_sides.specs.SideView.{state_at, new_state, plain_at, flow_at, lane_at, gauge_at}
use Rattle.relay_sides.specs.SidesView.{links_of, sides_of, AreSides, IsCounted}
use Rattle.relay_sides.specs.declared.sides.Sides.TheInside.{Inside}
use Rattle.relay_sides.specs.declared.side.SideState.{SideState}
use Rattle.relay_sides.proofs.TableLemmas.{length-tabulate, get-tabulate, tabulate-set, tabulate-two}
use Rattle.relay_sides.proofs.BevsLemmas.{number-lt, twin-number, twin-apart, peer-apart}
use Rattle.relay_sides.proofs.ChangeLemmas.{Apart, Alike, SidesApart, Lasting, flow-apart, lane-apart, links-alike, links-side}
use Rattle.relay_sides.proofs.ChangeLemmas.{gauges-same}

-- there are two sides and two directions for each link
pub pairs_seen : (v : SidesValue) (r : Inside) → sides_of r ≡ v → HasPairs v.links
pairs_seen v r is = subst (λ (z : SidesValue). HasPairs z.links) is (record {
  sides = length-tabulate (plain_at r.world.slots r.sides.items) (2 * r.opened);
  flows = length-tabulate (flow_at r.world.slots r.sides.items) (2 * r.opened);
  lanes = length-tabulate (lane_at r.world.slots r.sides.items) (2 * r.opened);
  gauges = length-tabulate (gauge_at r.sides.items) (2 * r.opened);
})

-- a side by its name

module _ (v : SidesValue) (r : Inside) (is : sides_of r ≡ v) (e : SideId) (opened : e.link < v.links.opened) where
  abbrev S : List Slot
  S = r.world.slots

  abbrev K : List SideState
  K = r.sides.items

  pub here : e.link < r.opened
  here = subst (λ (z : SidesValue). e.link < z.links.opened) (sym is) opened

  pub side_seen : links.side_at v.links e ≡ plain_at r.world.slots r.sides.items (number e)
  side_seen =
      ap (λ (z : SidesValue). links.side_at z.links e) (sym is)
      ∙ get-tabulate (plain_at S K) (2 * r.opened) (number e) no_side (number-lt e r.opened here)

  pub flow_seen : links.flow_at v.links e ≡ flow_at r.world.slots r.sides.items (number e)
  flow_seen =
      ap (λ (z : SidesValue). links.flow_at z.links e) (sym is)
      ∙ get-tabulate (flow_at S K) (2 * r.opened) (number e) no_flow (number-lt e r.opened here)

  pub lane_seen : links.lane_at v.links e ≡ lane_at r.world.slots r.sides.items (number e)
  lane_seen =
      ap (λ (z : SidesValue). links.lane_at z.links e) (sym is)
      ∙ get-tabulate (lane_at S K) (2 * r.opened) (number e) no_lane (number-lt e r.opened here)

-- its buckets
module _ (v : SidesValue) (r : Inside) (is : sides_of r ≡ v) (e : SideId) (opened : e.link < v.links.opened) where
  pub gauge_seen : links.gauge_at v.links e ≡ gauge_at r.sides.items (number e)
  gauge_seen =
      ap (λ (z : SidesValue). links.gauge_at z.links e) (sym is)
      ∙ get-tabulate (gauge_at r.sides.items) (2 * r.opened) (number e) no_gauge (number-lt e r.opened (here v r is e opened))

-- what the code reaches by a number

pub lower_found : (w : WorldValue) (n i : ℕ) (b : BevValue) → i ≡ lower_of n → b ≡ bev_at w i → b ≡ (bevs_at w.slots n).lower.bev
lower_found w n i b h g = g ∙ ap (bev_at w) h

pub upper_found : (w : WorldValue) (n i : ℕ) (b : BevValue) → i ≡ upper_of n → b ≡ bev_at w i → b ≡ (bevs_at w.slots n).upper.bev
upper_found w n i b h g = g ∙ ap (bev_at w) h

pub state_found : (K : List SideState) (n i : ℕ) (x : SideState) → i ≡ n → x ≡ get_or K i x → n < length K → x ≡ state_at K n
state_found K n i x h g within = g ∙ ap (λ j. get_or K j x) h ∙ get_or_default K n x (new_state true None None) within

-- the number of the other side
pub peer_number : (e p : SideId) → p ≡ peer e → number p ≡ twin (number e)
peer_number e p h = ap number h ∙ twin-number e

-- changes

-- what the code keeps may change so
pub are_sides : (r : Inside) (sound : AreSides r) (S' : List Slot) (K' : List SideState) → Lasting r.world.slots S' r.sides.items K' →
    ((m : ℕ) → m < 2 * r.opened → IsCounted (flow_at S' K' m) (lane_at S' K' m)) →
    (length S' ≡ 4 * r.opened) × (length K' ≡ 2 * r.opened)
are_sides r sound S' K' l counted = (l.slots ∙ sound.slots, l.sides ∙ sound.sides)

module _ (v : SidesValue) (r : Inside) (is : sides_of r ≡ v) (e : SideId) (opened : e.link < v.links.opened)
    (S' : List Slot) (K' : List SideState) where
  abbrev S2 : List Slot
  S2 = r.world.slots

  abbrev K2 : List SideState
  K2 = r.sides.items

  -- nothing is seen of the change
  pub unchanged : Alike r.world.slots S' r.sides.items K' → ((m : ℕ) → plain_at S' K' m ≡ plain_at r.world.slots r.sides.items m) →
      links_of r.opened S' K' ≡ v.links
  unchanged a p = links-alike S2 S' K2 K' r.opened a p ∙ ap (λ (z : SidesValue). z.links) is

  -- one side changes alone
  pub side_changed : (g : PlainSide → PlainSide) → Alike r.world.slots S' r.sides.items K' →
      SidesApart (number e) r.world.slots S' r.sides.items K' →
      plain_at S' K' (number e) ≡ g (plain_at r.world.slots r.sides.items (number e)) → links_of r.opened S' K' ≡ change_side e g v.links
  side_changed g a p q =
      links-side S2 S' K2 K' r.opened (number e) a p
      ∙ ap (λ x. put_side e x (links_of r.opened S2 K2)) (q ∙ ap g (sym (side_seen v r is e opened)))
      ∙ ap (λ (z : SidesValue). put_side e (g (links.side_at v.links e)) z.links) is

  -- the direction from a side changes, and bad places of its two sides
  pub passage_changed : (x : Passage) → Apart (number e) r.world.slots S' r.sides.items K' →
      ((m : ℕ) → m ≢ number e → m ≢ twin (number e) → plain_at S' K' m ≡ plain_at r.world.slots r.sides.items m) →
      plain_at S' K' (number e) ≡ with_bad x.from_bad (plain_at r.world.slots r.sides.items (number e)) →
      plain_at S' K' (twin (number e)) ≡ with_bad x.to_bad (plain_at r.world.slots r.sides.items (twin (number e))) →
      flow_at S' K' (number e) ≡ x.flow → lane_at S' K' (number e) ≡ x.lane →
      links_of r.opened S' K' ≡ with_passage e x v.links
  passage_changed x a off from to f l =
      let n : ℕ = number e in
      let t : ℕ = number (peer e) in
      let k : Links = links_of r.opened S2 K2 in
      let h : e.link < r.opened = here v r is e opened in
      let own : links.side_at k e ≡ plain_at S2 K2 n = get-tabulate (plain_at S2 K2) (2 * r.opened) n no_side (number-lt e r.opened h) in
      let other : links.side_at k (peer e) ≡ plain_at S2 K2 (twin n) =
      get-tabulate (plain_at S2 K2) (2 * r.opened) t no_side (number-lt (peer e) r.opened h) ∙ ap (plain_at S2 K2) (twin-number e) in
      let sides = tabulate-two (plain_at S2 K2) (plain_at S' K') (2 * r.opened) n (twin n) (λ q. twin-apart n (sym q)) off in
      let flows = tabulate-set (flow_at S2 K2) (flow_at S' K') (2 * r.opened) n (flow-apart S2 S' K2 K' n a) in
      let lanes = tabulate-set (lane_at S2 K2) (lane_at S' K') (2 * r.opened) n (lane-apart S2 S' K2 K' n a) in
      let gauges = gauges-same S2 S' K2 K' r.opened a.limits in
      let p = from ∙ ap (with_bad x.from_bad) (sym own) in
      let apart = get_or-set_other k.sides n t (with_bad x.from_bad (links.side_at k e)) no_side (peer-apart e) in
      let q = to ∙ ap (with_bad x.to_bad) (sym other ∙ sym apart) in
      (λ i. record { opened = r.opened; sides = sides i; flows = flows i; lanes = lanes i; gauges = gauges i })
      ∙ (λ i. record {
        opened = r.opened;
        sides = slice_set (slice_set k.sides n (p i)) (sym (twin-number e) i) (plain_at S' K' (twin n));
        flows = slice_set k.flows n (f i);
        lanes = slice_set k.lanes n (l i);
        gauges = k.gauges;
      })
      ∙ (λ i. record {
        opened = r.opened;
        sides = slice_set (slice_set k.sides n (with_bad x.from_bad (links.side_at k e))) t (q i);
        flows = slice_set k.flows n x.flow;
        lanes = slice_set k.lanes n x.lane;
        gauges = k.gauges;
      })
      ∙ ap (λ (z : SidesValue). with_passage e x z.links) is
