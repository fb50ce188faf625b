-- The links, once the input of a direction went whole to its empty output.
use Rattle.std.proofs.Common.{◌≡◌, ◌≢◌, ℕ, ◌+◌, ◌*◌, ◌<◌, ◌≤◌, List, [], length, slice_set, get_or, refl, sym, ◌∙◌, ap, subst, arith}
use Rattle.std.proofs.lemmas.List.{length-set, nil_from_length}
use Rattle.ev_types.specs.declared.side.SideId.{SideId}
use Rattle.ev_types.specs.Sides.{number, peer}
use Rattle.bev_world.specs.ByNumber.{output_swapped, input_swapped, swapped_across}
use Rattle.bev_world.specs.WorldValue.{WorldValue, slot_at}
use Rattle.bev_world.specs.declared.slot.Slot.{Slot}
use Rattle.relay_sides.specs.Bevs.{Bevs, bevs_at, upper_of, twin}
use Rattle.relay_sides.specs.Links.{passage_at, with_passage, moved}
use Rattle.relay_sides.specs.SidesValue.{SidesValue}
use Rattle.relay_sides.specs.SideView.{state_at, flow_at, lane_at, flow_of, lane_of, limit_kept}
use Rattle.relay_sides.specs.SidesView.{links_of, sides_of, AreSides, IsCounted}
use Rattle.relay_sides.specs.declared.sides.Sides.TheInside.{Inside}
use Rattle.relay_sides.specs.declared.side.SideState.{SideState}
use Rattle.relay_sides.proofs.BevsLemmas.{number-lt, twin-apart, twin-number, set_upper-other, set_upper-same}
use Rattle.relay_sides.proofs.ChangeLemmas.{Lasting, everywhere}
use Rattle.relay_sides.proofs.SidesLemmas.{here}
use Rattle.relay_sides.proofs.FlagLemmas.{upper_there}
use Rattle.relay_sides.proofs.PartLemmas.{Link, passage_by, unflawed, part_links, part_counted}
use Rattle.relay_sides.proofs.LinkLemmas.{own_found, link_with}

module _ (v : SidesValue) (r : Inside) (is : sides_of r ≡ v) (sound : AreSides r) (e : SideId) (opened : e.link < v.links.opened)
    (j : ℕ) (j_is : j ≡ number e) (x : SideState) (x_is : x ≡ get_or r.sides.items j x)
    (from to : ℕ) (from_is : from ≡ upper_of (number e)) (to_is : to ≡ upper_of (twin (number e)))
    (w : WorldValue) (w_is : w ≡ swapped_across r.world from to)
    (empty : length (bevs_at r.world.slots (twin (number e))).upper.bev.output.bytes ≡ 0)
    (count : ℕ) (count_is : count ≡ length (bevs_at r.world.slots (number e)).upper.bev.input.bytes) where
  abbrev n : ℕ
  n = number e

  abbrev t : ℕ
  t = twin (number e)

  abbrev S : List Slot
  S = r.world.slots

  abbrev K : List SideState
  K = r.sides.items

  abbrev a : Bevs
  a = bevs_at r.world.slots (number e)

  abbrev b : Bevs
  b = bevs_at r.world.slots (twin (number e))

  abbrev f : Bevs
  f = record a { upper = input_swapped a.upper b.upper }

  abbrev g : Bevs
  g = record b { upper = output_swapped a.upper b.upper }

  abbrev y : SideState
  y = record x { moved = x.moved + count }

  abbrev o : SideState
  o = state_at K t

  apart : n ≢ t
  apart h = twin-apart n (sym h)

  own_is : x ≡ state_at K n
  own_is = own_found v r is sound e opened j j_is x x_is

  slots_are : w.slots ≡ slice_set (slice_set S (upper_of t) g.upper) (upper_of n) f.upper
  slots_are =
      ap (λ (z : WorldValue). z.slots) w_is
      ∙ (λ i. (let p = from_is i in let q = to_is i in
      slice_set (slice_set S q (output_swapped (slot_at r.world p) (slot_at r.world q))) p
      (input_swapped (slot_at r.world p) (slot_at r.world q))))

  n_there : upper_of n < length S
  n_there = upper_there v r is sound e opened

  t_there : upper_of t < length S
  t_there = subst (λ m. upper_of m < length S) (twin-number e) (upper_there v r is sound (peer e) opened)

  off : (m : ℕ) → m ≢ n → m ≢ t → bevs_at w.slots m ≡ bevs_at S m
  off m c d =
      ap (λ z. bevs_at z m) slots_are ∙ set_upper-other (slice_set S (upper_of t) g.upper) n f.upper m c ∙ set_upper-other S t g.upper m d

  at_n : bevs_at w.slots n ≡ f
  at_n =
      let l = length-set S (upper_of t) g.upper in
      ap (λ z. bevs_at z n) slots_are
      ∙ set_upper-same (slice_set S (upper_of t) g.upper) n f.upper (omega (arith, n_there, l))
      ∙ (let h = set_upper-other S t g.upper n apart in λ i. (let z = h i in record z { upper = f.upper }))

  at_t : bevs_at w.slots t ≡ g
  at_t =
      ap (λ z. bevs_at z t) slots_are
      ∙ set_upper-other (slice_set S (upper_of t) g.upper) n f.upper t (twin-apart n) ∙ set_upper-same S t g.upper t_there

  link : Link S w.slots K (slice_set K j y) n f g y o
  link = link_with v r is sound e opened j j_is y w.slots f g off at_n at_t

  none : b.upper.bev.output.bytes ≡ []
  none = nil_from_length b.upper.bev.output.bytes empty

  pub move_links : links_of r.opened w.slots (slice_set r.sides.items j (record x { moved = x.moved + count }))
      ≡ with_passage e (moved (passage_at v.links e)) v.links
  move_links =
      part_links v r is e opened w.slots (slice_set K j y) f g y o link refl refl refl (ap limit_kept own_is) moved (ap
      (unflawed a) own_is) refl
      ((λ i. (let q = passage_by a b x o in let h = q.flow in let l = q.lane in let c = l.buffers in
      record q {
        flow = record h { moved = x.moved + count_is i };
        lane = record l { buffers = record c { input = none i; output = a.upper.bev.input.bytes } };
      }))
      ∙ ap (λ z. moved (passage_by a b z o)) own_is)

  pub move_lasting : Lasting r.world.slots w.slots r.sides.items (slice_set r.sides.items j (record x { moved = x.moved + count }))
  move_lasting = record {
    slots = ap length slots_are ∙ length-set (slice_set S (upper_of t) g.upper) (upper_of n) f.upper ∙ length-set S (upper_of t) g.upper;
    sides = length-set K j y;
    kinds = λ m. everywhere (λ m. (bevs_at S m).upper.kind) (λ m. (bevs_at w.slots m).upper.kind) n
        (λ m c. everywhere-but m c) (ap (λ (z : Bevs). z.upper.kind) at_n) m;
  }
    where
      everywhere-but : (m : ℕ) → m ≢ n → (bevs_at w.slots m).upper.kind ≡ (bevs_at S m).upper.kind
      everywhere-but m c =
          ap (λ z. (bevs_at z m).upper.kind) slots_are
          ∙ ap (λ (z : Bevs). z.upper.kind) (set_upper-other (slice_set S (upper_of t) g.upper) n f.upper m c)
          ∙ everywhere (λ k. (bevs_at S k).upper.kind) (λ k. (bevs_at (slice_set S (upper_of t) g.upper) k).upper.kind) t
          (λ k d. ap (λ (z : Bevs). z.upper.kind) (set_upper-other S t g.upper k d))
          (ap (λ (z : Bevs). z.upper.kind) (set_upper-same S t g.upper t_there)) m

  fits : IsCounted (flow_of a b x) (lane_of a b x)
  fits = subst (λ z. IsCounted (flow_of a b z) (lane_of a b z)) (sym own_is) (sound.counted n (number-lt e r.opened (here v r is e opened)))

  -- no more can be moved than was made
  pub move_bound : x.moved + count ≤ x.read_made
  move_bound = omega (arith, fits.moved, count_is)

  pub move_fits : (m : ℕ) → m < 2 * r.opened →
      IsCounted (flow_at w.slots (slice_set r.sides.items j (record x { moved = x.moved + count })) m)
      (lane_at w.slots (slice_set r.sides.items j (record x { moved = x.moved + count })) m)
  move_fits =
      part_counted v r is e opened w.slots (slice_set K j y) f g y o link refl refl refl (ap limit_kept own_is) sound
      (record {
        used = fits.used;
        moved = omega (arith, fits.moved, count_is, empty);
        turned = omega (arith, fits.turned, count_is, empty);
        given = fits.given;
      })

  -- the bufferevents of the other side's end are as they were
  pub move_lower : (bevs_at w.slots (twin (number e))).lower ≡ (bevs_at r.world.slots (twin (number e))).lower
  move_lower = ap (λ (z : Bevs). z.lower) at_t
