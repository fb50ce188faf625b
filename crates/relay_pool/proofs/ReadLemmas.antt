-- The room for reads that a pool shows, and what stays where its links in bays are the same.
use Rattle.std.proofs.Common.{◌≡◌, ℕ, ◌*◌, ◌/◌, ◌%◌, ◌<◌, ◌≤◌, Bool, true, false, ◌==◌, List, length}
use Rattle.std.proofs.Common.{slice_index_or, refl, sym}
use Rattle.std.proofs.Common.{◌∙◌, ap, arith, eqb-true, subst}
use Rattle.std.proofs.lemmas.Bool.{eqb-false}
use Rattle.ev_types.specs.declared.side.Side.{Side}
use Rattle.ev_types.specs.declared.side.Side.TheVariants.{In, Out}
use Rattle.ev_types.specs.declared.side.SideId.{SideId}
use Rattle.ev_types.specs.Sides.{half, number}
use Rattle.relay_sides.specs.Links.{Links}
use Rattle.relay_sides.specs.Pairs.{HasPairs}
use Rattle.relay_sides.specs.SidesValue.{SidesValue}
use Rattle.relay_sides.specs.Table.{tabulate}
use Rattle.relay_sides.proofs.BevsLemmas.{number-lt}
use Rattle.relay_sides.proofs.TableLemmas.{get-tabulate, tabulate-same}
use Rattle.relay_pool.specs.PoolValue.{PoolValue, read_spare}
use Rattle.relay_pool.specs.PoolView.{room_in, pool_of, ArePooled}
use Rattle.relay_pool.specs.Stays.{stay_at, at_stay, IsBay, IsOutOfBay, IsLeftBy, Remembers}
use Rattle.relay_pool.specs.declared.pool.LinkPool.TheInside.{Inside}
use Rattle.relay_pool.specs.declared.stay.Stay.{Stay}
use Rattle.relay_pool.specs.declared.stay.Stay.TheVariants as stay
use Rattle.relay_pool.proofs.BayLemmas.{below_pool, bay_unless, same_length, other_stay}

half-below : (s : Side) → half s ≤ 1
half-below In = omega arith
half-below Out = omega arith

-- the room for a read: what there is in the bay, and none of a link that is over
module _ (v : PoolValue) (r : Inside) (is : pool_of r ≡ v) (inv : ArePooled r) (e : SideId) (opened : e.link < v.links.opened) where
  room_seen : read_spare v e ≡ room_in r.sides.spare_reads (stay_at r.links.items e.link) (half e.side)
  room_seen =
      let n = number e in
      let b = below_pool v r is inv e opened in
      let h = half-below e.side in
      let q : n / 2 ≡ e.link = omega (arith, h) in
      let m : n % 2 ≡ half e.side = omega (arith, h) in
      ap (λ (z : PoolValue). slice_index_or z.spare_reads n 0) (sym is)
      ∙ get-tabulate (λ k. room_in r.sides.spare_reads (stay_at r.links.items (k / 2)) (k % 2)) (2 * length r.links.items) n 0
      (number-lt e (length r.links.items) b)
      ∙ (λ i. room_in r.sides.spare_reads (stay_at r.links.items (q i)) (m i))

  in_bay_room : (x : Stay) (reads : List ℕ) → IsBay x → room_in reads x (half e.side) ≡ slice_index_or reads (number (at_stay x e)) 0
  in_bay_room (stay.Bay bay) reads h = refl
  in_bay_room (stay.Over o) reads h = absurd h

  left_room : (x : Stay) (reads : List ℕ) → IsOutOfBay x → room_in reads x (half e.side) ≡ 0
  left_room (stay.Bay bay) reads h = absurd h
  left_room (stay.Over o) reads h = refl

  pub room_met : (a : SideId) → a ≡ at_stay (stay_at r.links.items e.link) e → IsBay (stay_at r.links.items e.link) →
      read_spare v e ≡ slice_index_or r.sides.spare_reads (number a) 0
  room_met a h b =
      room_seen ∙ in_bay_room (stay_at r.links.items e.link) r.sides.spare_reads b
      ∙ ap (λ (z : SideId). slice_index_or r.sides.spare_reads (number z) 0) (sym h)

  pub room_over : IsOutOfBay (stay_at r.links.items e.link) → read_spare v e ≡ 0
  room_over l = room_seen ∙ left_room (stay_at r.links.items e.link) r.sides.spare_reads l

  pub bay_ready : (n : ℕ) → 0 < n → n ≤ read_spare v e → IsBay (stay_at r.links.items e.link)
  bay_ready n some h =
      bay_unless v r is inv e opened (stay_at r.links.items e.link) (λ l. let z = room_over l in absurd (omega (arith, some, h, z)))

-- what is so of a pool whose links in bays are the same
pub pooled_same : (r : Inside) → ArePooled r → (v : SidesValue) → v.links ≡ r.sides.links → ArePooled (record r { sides = v })
pooled_same r inv v is = record {
  pairs = subst (λ (z : Links). HasPairs z) (sym is) inv.pairs;
  bays = inv.bays ∙ sym (ap (λ (z : Links). z.opened) is);
  few = inv.few;
  stays = inv.stays;
  free = inv.free;
}

-- no room comes to a link that is over
module _ (v : PoolValue) (r : Inside) (is : pool_of r ≡ v) (inv : ArePooled r) (e : SideId) (opened : e.link < v.links.opened)
    (left : IsOutOfBay (stay_at r.links.items e.link)) (change : Links → Links) (new : List Stay)
    (went : IsLeftBy change e.link r.links.items new) where
  rooms_at : (reads : List ℕ) (x y : Stay) → IsOutOfBay x → Remembers change x y → (n : ℕ) → room_in reads y n ≡ room_in reads x n
  rooms_at reads (stay.Over o) (stay.Over z) h q n = refl
  rooms_at reads (stay.Over o) (stay.Bay u) h q n = absurd q
  rooms_at reads (stay.Bay u) y h q n = absurd h

  pub reads_left : tabulate (λ n. room_in r.sides.spare_reads (stay_at new (n / 2)) (n % 2)) (2 * length new) ≡ v.spare_reads
  reads_left =
      let b = below_pool v r is inv e opened in
      ap (λ m. tabulate (λ n. room_in r.sides.spare_reads (stay_at new (n / 2)) (n % 2)) (2 * m))
      (same_length r inv e.link b new went.rest)
      ∙ tabulate-same (λ n. room_in r.sides.spare_reads (stay_at r.links.items (n / 2)) (n % 2))
      (λ n. room_in r.sides.spare_reads (stay_at new (n / 2)) (n % 2)) (2 * length r.links.items)
      (λ n. at n (n / 2 == e.link) refl)
      ∙ ap (λ (z : PoolValue). z.spare_reads) is
    where
      at : (n : ℕ) (c : Bool) → (n / 2 == e.link) ≡ c →
          room_in r.sides.spare_reads (stay_at new (n / 2)) (n % 2) ≡ room_in r.sides.spare_reads (stay_at r.links.items (n / 2)) (n % 2)
      at n true p =
          let h = eqb-true (n / 2) e.link p in
          subst (λ m. room_in r.sides.spare_reads (stay_at new m) (n % 2) ≡ room_in r.sides.spare_reads (stay_at r.links.items m) (n % 2))
          (sym h) (rooms_at r.sides.spare_reads (stay_at r.links.items e.link) (stay_at new e.link) left went.there (n % 2))
      at n false p =
          ap (λ x. room_in r.sides.spare_reads x (n % 2))
          (other_stay r inv e.link (below_pool v r is inv e opened) new went.rest (n / 2) (eqb-false (n / 2) e.link p))
