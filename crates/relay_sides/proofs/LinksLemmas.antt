-- A direction that is put into the links is the one that is there then, and the last one that is put stays.
use Rattle.std.proofs.Common.{◌≡◌, ◌≢◌, ℕ, ◌<◌, List, length, slice_index_or, slice_set, sym, ◌∙◌, ap, arith}
use Rattle.std.proofs.lemmas.List.{get_or-set_same, get_or-set_other, set-get_or, set-set, set_comm, length-set}
use Rattle.ev_types.specs.declared.side.SideId.{SideId}
use Rattle.ev_types.specs.Sides.{number, peer}
use Rattle.relay_model.specs.Plain.{PlainSide, no_side}
use Rattle.relay_model.specs.Flow.{no_flow}
use Rattle.relay_state.specs.State.{no_lane}
use Rattle.relay_state.specs.Passage.{Passage}
use Rattle.relay_state.specs.Passing.{with_bad}
use Rattle.relay_sides.specs.Links.{Links, side_at, flow_at, lane_at, passage_at, with_passage}
use Rattle.relay_sides.specs.Pairs.{HasPairs}
use Rattle.relay_sides.proofs.BevsLemmas.{number-lt, peer-apart}

module _ (k : Links) (e : SideId) where
  abbrev n : ℕ
  n = number e

  abbrev t : ℕ
  t = number (peer e)

  apart : number e ≢ number (peer e)
  apart h = peer-apart e (sym h)

  -- nothing changes where the direction that is put was there
  pub with_same : with_passage e (passage_at k e) k ≡ k
  with_same =
      let S : List PlainSide = k.sides in
      let a = set-get_or S n no_side in
      let b = set-get_or S t no_side in
      let f = set-get_or k.flows n no_flow in
      let l = set-get_or k.lanes n no_lane in
      (λ i. record k {
        sides = slice_set (a i) t (with_bad (side_at k (peer e)).bad (slice_index_or (a i) t no_side));
        flows = f i;
        lanes = l i;
      })
      ∙ (λ i. record k { sides = b i })

  module _ (pairs : HasPairs k) (opened : e.link < k.opened) where
    here : number e < length k.sides
    here = let h = number-lt e k.opened opened in omega (arith, h, pairs.sides)

    there : number (peer e) < length k.sides
    there = let h = number-lt (peer e) k.opened opened in omega (arith, h, pairs.sides)

    module _ (x : Passage) where
      abbrev a : PlainSide
      a = with_bad x.from_bad (side_at k e)

      abbrev c : PlainSide
      c = with_bad x.to_bad (slice_index_or (slice_set k.sides n a) t no_side)

      flow_put : flow_at (with_passage e x k) e ≡ x.flow
      flow_put = let h = number-lt e k.opened opened in get_or-set_same k.flows n x.flow no_flow (omega (arith, h, pairs.flows))

      pub lane_put : lane_at (with_passage e x k) e ≡ x.lane
      lane_put = let h = number-lt e k.opened opened in get_or-set_same k.lanes n x.lane no_lane (omega (arith, h, pairs.lanes))

      from_put : side_at (with_passage e x k) e ≡ a
      from_put = get_or-set_other (slice_set k.sides n a) t n c no_side apart ∙ get_or-set_same k.sides n a no_side here

      to_put : side_at (with_passage e x k) (peer e) ≡ c
      to_put = get_or-set_same (slice_set k.sides n a) t c no_side (let h = length-set k.sides n a in omega (arith, h, there))

      pub passage_put : passage_at (with_passage e x k) e ≡ x
      passage_put =
          let p = ap (λ (z : PlainSide). z.bad) from_put in
          let q = ap (λ (z : PlainSide). z.bad) to_put in
          λ i. record { flow = flow_put i; lane = lane_put i; from_bad = p i; to_bad = q i }

      pub pairs_put : HasPairs (with_passage e x k)
      pairs_put = record {
        sides = length-set (slice_set k.sides n a) t c ∙ length-set k.sides n a ∙ pairs.sides;
        flows = length-set k.flows n x.flow ∙ pairs.flows;
        lanes = length-set k.lanes n x.lane ∙ pairs.lanes;
        gauges = pairs.gauges;
      }

      -- and then another one
      pub with_twice : (y : Passage) → with_passage e y (with_passage e x k) ≡ with_passage e y k
      with_twice y =
          let S : List PlainSide = k.sides in
          let b : PlainSide = with_bad y.from_bad (side_at k e) in
          let old : PlainSide = side_at k (peer e) in
          let d : PlainSide = with_bad y.to_bad old in
          let first : List PlainSide = slice_set (slice_set S n a) t c in
          let c_is : c ≡ with_bad x.to_bad old = ap (with_bad x.to_bad) (get_or-set_other S n t a no_side (peer-apart e)) in
          let mid : slice_set first n (with_bad y.from_bad (side_at (with_passage e x k) e)) ≡ slice_set (slice_set S n b) t c =
          ap (λ z. slice_set first n (with_bad y.from_bad z)) from_put
          ∙ set_comm (slice_set S n a) t n c b (peer-apart e) ∙ ap (λ zs. slice_set zs t c) (set-set S n a b) in
          let value : with_bad y.to_bad (slice_index_or (slice_set (slice_set S n b) t c) t no_side) ≡ d =
          ap (with_bad y.to_bad)
          (get_or-set_same (slice_set S n b) t c no_side (let h = length-set S n b in omega (arith, h, there)) ∙ c_is) in
          let goal : d ≡ with_bad y.to_bad (slice_index_or (slice_set S n b) t no_side) =
          ap (with_bad y.to_bad) (sym (get_or-set_other S n t b no_side (peer-apart e))) in
          let sides = (λ i. slice_set (mid i) t (with_bad y.to_bad (slice_index_or (mid i) t no_side)))
          ∙ (λ i. slice_set (slice_set (slice_set S n b) t c) t (value i))
          ∙ set-set (slice_set S n b) t c d ∙ ap (slice_set (slice_set S n b) t) goal in
          let f = set-set k.flows n x.flow y.flow in
          let l = set-set k.lanes n x.lane y.lane in
          λ i. record k { sides = sides i; flows = f i; lanes = l i }
