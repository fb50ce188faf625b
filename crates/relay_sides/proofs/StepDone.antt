-- The links, once a filter of a direction made its step.
use Rattle.std.proofs.Common.{◌≡◌, ℕ, ◌*◌, ◌<◌, Bool, List, length, slice_set, get_or, Option, refl, sym, ◌∙◌, ap, subst}
use Rattle.std.proofs.lemmas.List.{length-set}
use Rattle.token_bucket.specs.declared.limit.Dir.TheVariants.{Read, Write}
use Rattle.ev_types.specs.declared.side.SideId.{SideId}
use Rattle.ev_types.specs.Sides.{number, peer}
use Rattle.filter_model.specs.Filter.{or_else}
use Rattle.relay_state.specs.Passage.{read_part, write_step, written_by}
use Rattle.bev_world.specs.Filters.{crossing}
use Rattle.bev_world.specs.WorldValue.{WorldValue}
use Rattle.relay_sides.specs.Bevs.{Bevs, bevs_at, lower_of, upper_of, twin}
use Rattle.relay_sides.specs.Links.{passage_at, with_passage}
use Rattle.relay_sides.specs.SidesValue.{SidesValue}
use Rattle.relay_sides.specs.SideView.{state_at, flow_at, lane_at, flow_of, lane_of, limit_kept}
use Rattle.relay_sides.specs.SidesView.{links_of, sides_of, AreSides, IsCounted}
use Rattle.relay_sides.specs.declared.sides.Sides.TheInside.{Inside}
use Rattle.relay_sides.specs.declared.side.SideState.{SideState}
use Rattle.relay_sides.proofs.BevsLemmas.{number-lt, twin-apart, twin-number}
use Rattle.relay_sides.proofs.ChangeLemmas.{counted_of, set_state-other, set_state-same, Lasting}
use Rattle.relay_sides.proofs.SidesLemmas.{here, state_found}
use Rattle.relay_sides.proofs.FlagLemmas.{upper_there, state_there}
use Rattle.relay_sides.proofs.PartLemmas.{Link, passage_by, unflawed, part_links, part_counted}
use Rattle.relay_sides.proofs.LinkLemmas.{own_found, link_with}
use Rattle.relay_sides.proofs.FilterLemmas.{Went, read_bevs, read-other, read-same, read-long, read-kinds, read-right, read-unflawed}
use Rattle.relay_sides.proofs.FilterLemmas.{read-made, read-counted, write_bevs, write-other, write-same, write-long, write-kinds}
use Rattle.relay_sides.proofs.FilterLemmas.{write-left, write-unflawed, write-made, write-counted}

module _ (v : SidesValue) (r : Inside) (is : sides_of r ≡ v) (sound : AreSides r) (e : SideId) (opened : e.link < v.links.opened)
    (j : ℕ) (j_is : j ≡ number e) (x : SideState) (x_is : x ≡ get_or r.sides.items j x) where
  abbrev n : ℕ
  n = number e

  abbrev t : ℕ
  t = twin (number e)

  abbrev K : List SideState
  K = r.sides.items

  own_is : x ≡ state_at K n
  own_is = own_found v r is sound e opened j j_is x x_is

  fits : IsCounted (flow_of (bevs_at r.world.slots n) (bevs_at r.world.slots t) x)
      (lane_of (bevs_at r.world.slots n) (bevs_at r.world.slots t) x)
  fits = subst (λ z. IsCounted (flow_of (bevs_at r.world.slots n) (bevs_at r.world.slots t) z)
      (lane_of (bevs_at r.world.slots n) (bevs_at r.world.slots t) z))
      (sym own_is) (sound.counted n (number-lt e r.opened (here v r is e opened)))

  -- the read filter of the side
  module _ (mark : ℕ) (over : Bool) (w : WorldValue) (made : ℕ) (bad : Option ℕ)
      (g : Went Read (number e) mark over r.world w x.read_made made)
      (bad_is : bad ≡ or_else x.bad (crossing w Read (upper_of (number e)) (lower_of (number e))).filter.stopped) where
    long : upper_of n < length r.world.slots
    long = upper_there v r is sound e opened

    abbrev b : Bevs
    b = read_bevs r.world w n mark over x.read_made made g long

    abbrev d : Bevs
    d = bevs_at r.world.slots t

    abbrev o : SideState
    o = state_at K t

    abbrev y : SideState
    y = record x { read_made = made; bad = bad }

    link : Link r.world.slots w.slots K (slice_set K j y) n b d y o
    link = link_with v r is sound e opened j j_is y w.slots b d
        (λ m h _. read-other r.world w n mark over x.read_made made g long m h)
        (read-same r.world w n mark over x.read_made made g long)
        (read-other r.world w n mark over x.read_made made g long t (twin-apart n))

    pub read_links : links_of r.opened w.slots (slice_set r.sides.items j (record x { read_made = made; bad = bad }))
        ≡ with_passage e (read_part mark over (passage_at v.links e)) v.links
    read_links =
        part_links v r is e opened w.slots (slice_set K j y) b d y o link
        (read-right r.world w n mark over x.read_made made g long) refl refl
        (ap limit_kept own_is) (read_part mark over)
        (read-unflawed r.world w n mark over x.read_made made g long d x o bad refl bad_is
        ∙ ap (unflawed (bevs_at r.world.slots n)) own_is) refl
        (read-made r.world w n mark over x.read_made made g long d x o bad refl bad_is
        ∙ ap (λ z. read_part mark over (passage_by (bevs_at r.world.slots n) d z o)) own_is)

    pub read_lasting : Lasting r.world.slots w.slots r.sides.items (slice_set r.sides.items j (record x { read_made = made; bad = bad }))
    read_lasting = record {
      slots = read-long r.world w n mark over x.read_made made g long;
      sides = length-set K j y;
      kinds = read-kinds r.world w n mark over x.read_made made g long;
    }

    pub read_fits : (m : ℕ) → m < 2 * r.opened →
        IsCounted (flow_at w.slots (slice_set r.sides.items j (record x { read_made = made; bad = bad })) m)
        (lane_at w.slots (slice_set r.sides.items j (record x { read_made = made; bad = bad })) m)
    read_fits =
        part_counted v r is e opened w.slots (slice_set K j y) b d y o link
        (read-right r.world w n mark over x.read_made made g long) refl refl (ap limit_kept own_is) sound
        (read-counted r.world w n mark over x.read_made made g long d x o bad refl bad_is fits)

  -- the write filter of the other side
  module _ (hold : ℕ) (over : Bool) (w : WorldValue) (made : ℕ) (bad : Option ℕ)
      (g : Went Write (twin (number e)) hold over r.world w x.write_made made)
      (k : ℕ) (k_is : k ≡ twin (number e)) (z : SideState)
      (z_is : z ≡ get_or (slice_set r.sides.items j (record x { write_made = made })) k z)
      (bad_is : bad ≡ or_else z.bad (crossing w Write (upper_of (twin (number e))) (lower_of (twin (number e)))).filter.stopped) where
    long2 : upper_of t < length r.world.slots
    long2 = subst (λ m. upper_of m < length r.world.slots) (twin-number e) (upper_there v r is sound (peer e) opened)

    there : t < length K
    there = subst (λ m. m < length K) (twin-number e) (state_there v r is sound (peer e) opened)

    abbrev a : Bevs
    a = bevs_at r.world.slots n

    abbrev q : Bevs
    q = write_bevs r.world w t hold over x.write_made made g long2

    abbrev y2 : SideState
    y2 = record x { write_made = made }

    abbrev mid : List SideState
    mid = slice_set K j y2

    abbrev u : SideState
    u = record z { bad = bad }

    mid_is : mid ≡ slice_set K n y2
    mid_is = ap (λ i. slice_set K i y2) j_is

    other_is : z ≡ state_at K t
    other_is =
        let l = length-set K j y2 in
        state_found mid t k z k_is z_is (subst (λ m. t < m) (sym l) there)
        ∙ ap (λ s. state_at s t) mid_is ∙ set_state-other K n y2 t (twin-apart n)

    last_is : slice_set mid k u ≡ slice_set (slice_set K n y2) t u
    last_is = λ i. slice_set (mid_is i) (k_is i) u

    link2 : Link r.world.slots w.slots K (slice_set mid k u) n a q y2 u
    link2 = record {
      bevs = λ m _ h. write-other r.world w t hold over x.write_made made g long2 m h;
      states = λ m h i. ap (λ s. state_at s m) last_is ∙ set_state-other (slice_set K n y2) t u m i ∙ set_state-other K n y2 m h;
      from_is = write-other r.world w t hold over x.write_made made g long2 n (λ h. twin-apart n (sym h));
      to_is = write-same r.world w t hold over x.write_made made g long2;
      own_is = ap (λ s. state_at s n) last_is ∙ set_state-other (slice_set K n y2) t u n (λ h. twin-apart n (sym h))
          ∙ set_state-same K n y2 (state_there v r is sound e opened);
      other_is = ap (λ s. state_at s t) last_is
          ∙ set_state-same (slice_set K n y2) t u (subst (λ m. t < m) (sym (length-set K n y2)) there);
    }

    pub write_links : links_of r.opened w.slots
        (slice_set (slice_set r.sides.items j (record x { write_made = made })) k (record z { bad = bad }))
        ≡ with_passage e (let s = passage_at v.links e in written_by (write_step hold over s.lane) s) v.links
    write_links =
        part_links v r is e opened w.slots (slice_set mid k u) a q y2 u link2 refl
        (write-left r.world w t hold over x.write_made made g long2) (ap counted_of other_is) (ap limit_kept own_is)
        (λ s. written_by (write_step hold over s.lane) s) (ap (unflawed a) own_is)
        (write-unflawed r.world w t hold over x.write_made made g long2 a x z bad refl bad_is
        ∙ ap (unflawed (bevs_at r.world.slots t)) other_is)
        (write-made r.world w t hold over x.write_made made g long2 a x z bad refl bad_is
        ∙ (λ i. (let s = passage_by a (bevs_at r.world.slots t) (own_is i) (other_is i) in written_by (write_step hold over s.lane) s)))

    pub write_lasting : Lasting r.world.slots w.slots r.sides.items
        (slice_set (slice_set r.sides.items j (record x { write_made = made })) k (record z { bad = bad }))
    write_lasting = record {
      slots = write-long r.world w t hold over x.write_made made g long2;
      sides = length-set mid k u ∙ length-set K j y2;
      kinds = write-kinds r.world w t hold over x.write_made made g long2;
    }

    pub write_fits : (m : ℕ) → m < 2 * r.opened →
        IsCounted (flow_at w.slots (slice_set (slice_set r.sides.items j (record x { write_made = made })) k (record z { bad = bad })) m)
        (lane_at w.slots (slice_set (slice_set r.sides.items j (record x { write_made = made })) k (record z { bad = bad })) m)
    write_fits =
        part_counted v r is e opened w.slots (slice_set mid k u) a q y2 u link2 refl
        (write-left r.world w t hold over x.write_made made g long2) (ap counted_of other_is) (ap limit_kept own_is) sound
        (write-counted r.world w t hold over x.write_made made g long2 a x z bad refl bad_is fits)
