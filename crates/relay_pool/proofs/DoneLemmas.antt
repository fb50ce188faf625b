-- A link that is over in the pool is over in its bay, and one that left its bay is not kept, which no other change does.
use Rattle.std.proofs.Common.{◌≡◌, ℕ, ◌<◌, Bool, true, false, not, ◌&&◌, ◌==◌, List, length, map}
use Rattle.std.proofs.Common.{slice_index_or, slice_set, refl, sym, ◌∙◌, ap, subst}
use Rattle.std.specs.Prelude.{is_some}
use Rattle.std.proofs.lemmas.List.{get_or-map, get_or-set_same, length-set, map-set, set-get_or}
use Rattle.ev_types.specs.declared.side.Side.{Side}
use Rattle.ev_types.specs.declared.side.Side.TheVariants.{In, Out}
use Rattle.ev_types.specs.Sides.{other}
use Rattle.relay_model.specs.Plain.{PlainSide}
use Rattle.relay_state.specs.State.{Lane}
use Rattle.relay_sides.specs.Links.{Links}
use Rattle.relay_pool.specs.PoolValue.{PoolValue, is_done_side, is_done_link}
use Rattle.relay_pool.specs.PoolView.{links_seen, pool_of, ArePooled}
use Rattle.relay_pool.specs.Stays.{link_in, stay_at, is_in_bay, IsBay, IsOutOfBay}
use Rattle.relay_pool.specs.declared.pool.LinkPool.TheInside.{Inside}
use Rattle.relay_pool.specs.declared.stay.Over.{Over}
use Rattle.relay_pool.specs.declared.stay.Stay.{Stay}
use Rattle.relay_pool.specs.declared.stay.Stay.TheVariants as stay
use Rattle.relay_pool.proofs.LiftLemmas.{Image, side_of}
use Rattle.relay_pool.proofs.BayLemmas.{image_bay}

abbrev done-of : PlainSide → Lane → Bool
done-of x lane = not x.live && x.closed && x.references == 0 && not (is_some x.group) && length lane.buffers.raw_output == 0

module _ (from to : ℕ) (old new : Links) (i : Image from to old new) where
  done-side : (s : Side) → is_done_side new (side_of to s) ≡ is_done_side old (side_of from s)
  done-side s = λ j. done-of (i.side s j) (i.lane (other s) j)

  pub done-link : is_done_link new to ≡ is_done_link old from
  done-link = λ j. done-side In j && done-side Out j

pub done_met : (v : PoolValue) (r : Inside) → pool_of r ≡ v → ArePooled r → (link bay : ℕ) → link < length r.links.items →
    IsBay (stay_at r.links.items link) → bay ≡ link_in (stay_at r.links.items link) →
    is_done_link v.links link ≡ is_done_link r.sides.links bay
done_met v r is inv link bay b in_bay at =
    ap (λ (z : PoolValue). is_done_link z.links link) (sym is)
    ∙ done-link (link_in (stay_at r.links.items link)) link r.sides.links (links_seen r.links.items r.sides.links)
    (image_bay r inv link b in_bay)
    ∙ ap (is_done_link r.sides.links) (sym at)

-- what one of the list is tells whether its link is kept
pub kept-at : (stays : List Stay) (link : ℕ) → link < length stays →
    slice_index_or (map is_in_bay stays) link true ≡ is_in_bay (stay_at stays link)
kept-at stays link b = get_or-map is_in_bay stays link (stay.Bay 0) true b

pub kept-over : (stays : List Stay) (link : ℕ) → link < length stays → IsOutOfBay (stay_at stays link) →
    slice_index_or (map is_in_bay stays) link true ≡ false
kept-over stays link b out = kept-at stays link b ∙ go (stay_at stays link) out
  where
    go : (x : Stay) → IsOutOfBay x → is_in_bay x ≡ false
    go (stay.Bay bay) h = absurd h
    go (stay.Over over) h = refl

pub kept-left : (stays : List Stay) (link : ℕ) (o : Over) → link < length stays →
    slice_index_or (map is_in_bay (slice_set stays link (stay.Over o))) link true ≡ false
kept-left stays link o b =
    kept-at (slice_set stays link (stay.Over o)) link (subst (λ n. link < n) (sym (length-set stays link (stay.Over o))) b)
    ∙ ap is_in_bay (get_or-set_same stays link (stay.Over o) (stay.Bay 0) b)

-- no other link is kept, or is not, where one that is not done stays, where one is over already, and where a done one leaves
pub kept-undone : (kept : List Bool) (link : ℕ) (done : Bool) → done ≡ false →
    kept ≡ slice_set kept link (slice_index_or kept link true && not done)
kept-undone kept link done undone =
    sym (ap (slice_set kept link) (same (slice_index_or kept link true) done undone) ∙ set-get_or kept link true)
  where
    same : (a b : Bool) → b ≡ false → a && not b ≡ a
    same true b h = ap not h
    same false b h = refl

pub kept-out : (kept : List Bool) (link : ℕ) (done : Bool) → slice_index_or kept link true ≡ false →
    kept ≡ slice_set kept link (slice_index_or kept link true && not done)
kept-out kept link done out =
    sym (ap (slice_set kept link) (ap (λ x. x && not done) out ∙ sym out) ∙ set-get_or kept link true)

pub kept-done : (stays : List Stay) (link : ℕ) (o : Over) (kept : List Bool) (done : Bool) → map is_in_bay stays ≡ kept → done ≡ true →
    map is_in_bay (slice_set stays link (stay.Over o)) ≡ slice_set kept link (slice_index_or kept link true && not done)
kept-done stays link o kept done is over =
    map-set is_in_bay stays link (stay.Over o) ∙ (λ i. slice_set (is i) link (none (slice_index_or kept link true) done over i))
  where
    none : (a b : Bool) → b ≡ true → false ≡ (a && not b)
    none true b h = sym (ap not h)
    none false b h = refl
