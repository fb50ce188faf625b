-- The link of a side, as what is kept beside the bufferevents of that side changes.
use Rattle.std.proofs.Common.{◌≡◌, ◌≢◌, ℕ, ◌<◌, List, slice_set, get_or, refl, ◌∙◌, ap}
use Rattle.std.proofs.lemmas.List.{length-set}
use Rattle.ev_types.specs.declared.side.SideId.{SideId}
use Rattle.ev_types.specs.Sides.{number}
use Rattle.bev_world.specs.declared.slot.Slot.{Slot}
use Rattle.relay_sides.specs.Bevs.{Bevs, bevs_at, twin}
use Rattle.relay_sides.specs.SidesValue.{SidesValue}
use Rattle.relay_sides.specs.SideView.{state_at}
use Rattle.relay_sides.specs.SidesView.{sides_of, AreSides}
use Rattle.relay_sides.specs.declared.sides.Sides.TheInside.{Inside}
use Rattle.relay_sides.specs.declared.side.SideState.{SideState}
use Rattle.relay_sides.proofs.BevsLemmas.{twin-apart}
use Rattle.relay_sides.proofs.ChangeLemmas.{set_state-other, set_state-same, Lasting}
use Rattle.relay_sides.proofs.SidesLemmas.{state_found}
use Rattle.relay_sides.proofs.FlagLemmas.{state_there}
use Rattle.relay_sides.proofs.PartLemmas.{Link}

module _ (v : SidesValue) (r : Inside) (is : sides_of r ≡ v) (sound : AreSides r) (e : SideId) (opened : e.link < v.links.opened)
    (j : ℕ) (j_is : j ≡ number e) where
  abbrev K : List SideState
  K = r.sides.items

  abbrev n : ℕ
  n = number e

  pub own_found : (x : SideState) → x ≡ get_or r.sides.items j x → x ≡ state_at r.sides.items (number e)
  own_found x x_is = state_found K n j x j_is x_is (state_there v r is sound e opened)

  module _ (y : SideState) where
    are : slice_set K j y ≡ slice_set K n y
    are = ap (λ k. slice_set K k y) j_is

    pub own_states : (m : ℕ) → m ≢ number e → state_at (slice_set r.sides.items j y) m ≡ state_at r.sides.items m
    own_states m d = ap (λ z. state_at z m) are ∙ set_state-other K n y m d

    pub own_state : state_at (slice_set r.sides.items j y) (number e) ≡ y
    own_state = ap (λ z. state_at z n) are ∙ set_state-same K n y (state_there v r is sound e opened)

    -- the bufferevents of both sides change too
    pub link_with : (S' : List Slot) (from to : Bevs) →
        ((m : ℕ) → m ≢ number e → m ≢ twin (number e) → bevs_at S' m ≡ bevs_at r.world.slots m) →
        bevs_at S' (number e) ≡ from → bevs_at S' (twin (number e)) ≡ to →
        Link r.world.slots S' r.sides.items (slice_set r.sides.items j y) (number e) from to y (state_at r.sides.items (twin (number e)))
    link_with S' from to bevs from_is to_is = record {
      bevs = bevs;
      states = λ m a b. own_states m a;
      from_is = from_is;
      to_is = to_is;
      own_is = own_state;
      other_is = own_states (twin n) (twin-apart n);
    }

    -- or they don't
    pub own_link : Link r.world.slots r.world.slots r.sides.items (slice_set r.sides.items j y) (number e)
        (bevs_at r.world.slots (number e)) (bevs_at r.world.slots (twin (number e))) y (state_at r.sides.items (twin (number e)))
    own_link = link_with r.world.slots (bevs_at r.world.slots n) (bevs_at r.world.slots (twin n)) (λ m a b. refl) refl refl

    pub own_lasting : Lasting r.world.slots r.world.slots r.sides.items (slice_set r.sides.items j y)
    own_lasting = record { slots = refl; sides = length-set K j y; kinds = λ m. refl }
