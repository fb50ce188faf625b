-- Changes of links that touch the sides and the directions of one link alone, and keep two of each for every link.
use Rattle.std.proofs.Common.{◌≡◌, ◌≢◌, ℕ, ◌≤◌, ◌/◌, List, slice_index_or, slice_set, refl, ◌∙◌, ap, arith}
use Rattle.std.proofs.lemmas.List.{get_or-set_other, length-set}
use Rattle.ev_types.specs.declared.side.Side.{Side}
use Rattle.ev_types.specs.declared.side.Side.TheVariants.{In, Out}
use Rattle.ev_types.specs.declared.side.SideId.{SideId}
use Rattle.ev_types.specs.Sides.{half, number, other}
use Rattle.relay_model.specs.Plain.{PlainSide, no_side}
use Rattle.relay_model.specs.Flow.{Flow, no_flow}
use Rattle.relay_state.specs.Running.{Gauge, no_gauge}
use Rattle.relay_state.specs.State.{Lane, no_lane}
use Rattle.relay_sides.specs.Links.{Links, put_side, put_flow, put_lane, put_gauge}
use Rattle.relay_sides.specs.Pairs.{HasPairs}

-- two lists have the same but at the numbers of a link's sides
abbrev pub AlikeBeside : {A : Type 0} → A → ℕ → List A → List A → Type 0
AlikeBeside none link xs ys = (n : ℕ) → n / 2 ≢ link → slice_index_or ys n none ≡ slice_index_or xs n none

pub record Touches (link : ℕ) (old new : Links) : Type 0 where
  pub opened : new.opened ≡ old.opened
  pub sides : AlikeBeside no_side link old.sides new.sides
  pub flows : AlikeBeside no_flow link old.flows new.flows
  pub lanes : AlikeBeside no_lane link old.lanes new.lanes
  pub gauges : AlikeBeside no_gauge link old.gauges new.gauges
  pub pairs : HasPairs old → HasPairs new

-- for each of the two sides: one, and the other
pub both : (P : Side → Type 0) (s : Side) → P s → P (other s) → (t : Side) → P t
both P In own rest In = own
both P In own rest Out = rest
both P Out own rest In = rest
both P Out own rest Out = own

half-below : (s : Side) → half s ≤ 1
half-below In = omega arith
half-below Out = omega arith

-- the link of a number
pub link-number : (e : SideId) → number e / 2 ≡ e.link
link-number e = omega (arith, half-below e.side)

set-beside : {A : Type 0} (none : A) (e : SideId) (xs : List A) (x : A) → AlikeBeside none e.link xs (slice_set xs (number e) x)
set-beside none e xs x n d = get_or-set_other xs (number e) n x none (λ h. d (ap (λ m. m / 2) h ∙ link-number e))

pub touches_none : (link : ℕ) (k : Links) → Touches link k k
touches_none link k = record {
  opened = refl;
  sides = λ n d. refl;
  flows = λ n d. refl;
  lanes = λ n d. refl;
  gauges = λ n d. refl;
  pairs = λ p. p;
}

pub touches_then : (link : ℕ) (a b c : Links) → Touches link a b → Touches link b c → Touches link a c
touches_then link a b c p q = record {
  opened = q.opened ∙ p.opened;
  sides = λ n d. q.sides n d ∙ p.sides n d;
  flows = λ n d. q.flows n d ∙ p.flows n d;
  lanes = λ n d. q.lanes n d ∙ p.lanes n d;
  gauges = λ n d. q.gauges n d ∙ p.gauges n d;
  pairs = λ h. q.pairs (p.pairs h);
}

module _ (e : SideId) (k : Links) where
  pub touches_side : (x : PlainSide) → Touches e.link k (put_side e x k)
  touches_side x =
      let t = touches_none e.link k in
      record {
        opened = refl;
        sides = set-beside no_side e k.sides x;
        flows = t.flows;
        lanes = t.lanes;
        gauges = t.gauges;
        pairs = λ (p : HasPairs k). record {
          sides = length-set k.sides (number e) x ∙ p.sides;
          flows = p.flows;
          lanes = p.lanes;
          gauges = p.gauges;
        };
      }

  pub touches_flow : (x : Flow) → Touches e.link k (put_flow e x k)
  touches_flow x =
      let t = touches_none e.link k in
      record {
        opened = refl;
        sides = t.sides;
        flows = set-beside no_flow e k.flows x;
        lanes = t.lanes;
        gauges = t.gauges;
        pairs = λ (p : HasPairs k). record {
          sides = p.sides;
          flows = length-set k.flows (number e) x ∙ p.flows;
          lanes = p.lanes;
          gauges = p.gauges;
        };
      }

  pub touches_lane : (x : Lane) → Touches e.link k (put_lane e x k)
  touches_lane x =
      let t = touches_none e.link k in
      record {
        opened = refl;
        sides = t.sides;
        flows = t.flows;
        lanes = set-beside no_lane e k.lanes x;
        gauges = t.gauges;
        pairs = λ (p : HasPairs k). record {
          sides = p.sides;
          flows = p.flows;
          lanes = length-set k.lanes (number e) x ∙ p.lanes;
          gauges = p.gauges;
        };
      }

  pub touches_gauge : (x : Gauge) → Touches e.link k (put_gauge e x k)
  touches_gauge x =
      let t = touches_none e.link k in
      record {
        opened = refl;
        sides = t.sides;
        flows = t.flows;
        lanes = t.lanes;
        gauges = set-beside no_gauge e k.gauges x;
        pairs = λ (p : HasPairs k). record {
          sides = p.sides;
          flows = p.flows;
          lanes = p.lanes;
          gauges = length-set k.gauges (number e) x ∙ p.gauges;
        };
      }
