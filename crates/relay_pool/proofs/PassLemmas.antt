-- A link that is passed in its bay is passed in the pool, and of one that is over nothing is.
use Rattle.std.proofs.Common.{◌≡◌, ◌≢◌, ◌⊎◌, ℕ, ◌<◌, Bool, true, false, length, inl, inr, refl, sym, ◌∙◌, ap, subst}
use Rattle.std.specs.Prelude.{MatchBool}
use Rattle.ev_types.specs.declared.side.Side.{Side}
use Rattle.ev_types.specs.declared.side.Side.TheVariants.{In, Out}
use Rattle.ev_types.specs.declared.side.SideId.{SideId}
use Rattle.ev_types.specs.Sides.{other, peer}
use Rattle.relay_model.specs.Rooms.{most_at_once, mark_or}
use Rattle.relay_state.specs.Closing.{in_side, out_side}
use Rattle.relay_state.specs.Passage.{Passage, pass_round, SomeRounds, Passed}
use Rattle.relay_sides.specs.LinkPasses.{PassedLink, PartlyPassedLink, NoRoundChanges, NoRoundOfLinkChanges}
use Rattle.relay_sides.specs.Links.{Links, side_at, passage_at, with_passage, round_from, PassedFrom, PartlyPassed}
use Rattle.relay_sides.specs.Progress.{is_settled, is_settled_from}
use Rattle.relay_sides.proofs.LinksLemmas.{with_same}
use Rattle.relay_pool.specs.PoolView.{links_seen, ArePooled}
use Rattle.relay_pool.specs.Stays.{link_in, stay_at, IsBay}
use Rattle.relay_pool.specs.declared.pool.LinkPool.TheInside.{Inside}
use Rattle.relay_pool.proofs.TouchLemmas.{Touches, touches_none, touches_then}
use Rattle.relay_pool.proofs.LiftLemmas.{Image, side_of, same_links, image_with, image_passage, touches_with}
use Rattle.relay_pool.proofs.BayLemmas.{image_then, image_bay, touches_pool}

-- a round of a link's direction is the same in both

module _ (hold from to : ℕ) (old new : Links) (i : Image from to old new) (s : Side) where
  pub round_same : round_from hold new (side_of to s) ≡ round_from hold old (side_of from s)
  round_same = λ j.
      pass_round (mark_or (i.side s j).marks.read_high most_at_once) (mark_or (i.side (other s) j).marks.write_high hold) (i.side s j).ended
      (i.side s j).live (i.side (other s) j).live

  pub settled_same : is_settled_from hold new (side_of to s) ≡ is_settled_from hold old (side_of from s)
  settled_same = λ j.
      is_settled (record {
        mark = mark_or (i.side s j).marks.read_high most_at_once;
        hold = mark_or (i.side (other s) j).marks.write_high hold;
        ended = (i.side s j).ended;
        from_live = (i.side s j).live;
        to_live = (i.side (other s) j).live;
      }) (image_passage from to old new i s j)

  pub still_same : NoRoundChanges hold old (side_of from s) → NoRoundChanges hold new (side_of to s)
  still_same h =
      subst (λ (f : Passage → Passage). f (passage_at new (side_of to s)) ≡ passage_at new (side_of to s)) (sym round_same)
      (subst (λ (x : Passage). round_from hold old (side_of from s) x ≡ x) (sym (image_passage from to old new i s)) h)

  passed_same : (x : Passage) → Passed (round_from hold old (side_of from s)) (passage_at old (side_of from s)) x →
      Passed (round_from hold new (side_of to s)) (passage_at new (side_of to s)) x
  passed_same x h =
      subst (λ (f : Passage → Passage). Passed f (passage_at new (side_of to s)) x) (sym round_same)
      (subst (λ (y : Passage). Passed (round_from hold old (side_of from s)) y x) (sym (image_passage from to old new i s)) h)

  some_same : (x : Passage) → SomeRounds (round_from hold old (side_of from s)) (passage_at old (side_of from s)) x →
      SomeRounds (round_from hold new (side_of to s)) (passage_at new (side_of to s)) x
  some_same x h =
      subst (λ (f : Passage → Passage). SomeRounds f (passage_at new (side_of to s)) x) (sym round_same)
      (subst (λ (y : Passage). SomeRounds (round_from hold old (side_of from s)) y x) (sym (image_passage from to old new i s)) h)

-- an image is one both ways
back : (from to : ℕ) (old new : Links) → Image from to old new → Image to from new old
back from to old new i = record {
  side = λ s. sym (i.side s);
  flow = λ s. sym (i.flow s);
  lane = λ s. sym (i.lane s);
  gauge = λ s. sym (i.gauge s);
  from_pairs = i.to_pairs;
  to_pairs = i.from_pairs;
  from_there = i.to_there;
  to_there = i.from_there;
}

-- Passing in the bay of a link

module _ (r : Inside) (inv : ArePooled r) (link : ℕ) (b : link < length r.links.items) (in_bay : IsBay (stay_at r.links.items link))
    (hold : ℕ) where
  abbrev bay : ℕ
  bay = link_in (stay_at r.links.items link)

  abbrev base : Links
  base = r.sides.links

  -- the pool with these bays
  abbrev seen : Links → Links
  seen k = links_seen r.links.items k

  abbrev Near : Links → Type 0
  Near k = Touches (link_in (stay_at r.links.items link)) r.sides.links k

  image : (k : Links) → Near k → Image (link_in (stay_at r.links.items link)) link k (links_seen r.links.items k)
  image k t = image_then r inv link b in_bay k t

  -- another passage, from some bays on
  put_seen : (k : Links) → Near k → (s : Side) (x : Passage) →
      links_seen r.links.items (with_passage (side_of bay s) x k) ≡ with_passage (side_of link s) x (links_seen r.links.items k)
  put_seen k t s x =
      let k2 : Links = with_passage (side_of bay s) x k in
      let t2 = touches_then bay base k k2 t (touches_with (side_of bay s) k x) in
      same_links bay link k2 (seen base) (seen k2) (with_passage (side_of link s) x (seen k))
      (touches_pool r inv link b in_bay k2 t2)
      (touches_then link (seen base) (seen k) (with_passage (side_of link s) x (seen k)) (touches_pool r inv link b in_bay k t)
      (touches_with (side_of link s) (seen k) x))
      (image k2 t2) (image_with bay link k (seen k) (image k t) s x)

  near_put : (k k2 : Links) → Near k → (s : Side) (x : Passage) → k2 ≡ with_passage (side_of bay s) x k → Near k2
  near_put k k2 t s x e =
      subst (λ (z : Links). Near z) (sym e)
      (touches_then bay base k (with_passage (side_of bay s) x k) t (touches_with (side_of bay s) k x))

  -- what is the same in the pool was the same in the bays
  pub apart_seen : (k k2 : Links) → Near k → Near k2 → k2 ≢ k → links_seen r.links.items k2 ≢ links_seen r.links.items k
  apart_seen k k2 t t2 d e =
      d (same_links link bay (seen k2) base k2 k t2 t (back bay link k2 (seen k2) (image k2 t2))
      (subst (λ (z : Links). Image link bay z k) (sym e) (back bay link k (seen k) (image k t))))

  passed_seen : (k k2 : Links) → Near k → (s : Side) → PassedFrom hold k (side_of bay s) k2 →
      PassedFrom hold (links_seen r.links.items k) (side_of link s) (links_seen r.links.items k2)
  passed_seen k k2 t s (x, h, e) =
      (x, passed_same hold bay link k (seen k) (image k t) s x h, ap (links_seen r.links.items) e ∙ put_seen k t s x)

  partly_seen : (k k2 : Links) → Near k → (s : Side) → PartlyPassed hold k (side_of bay s) k2 →
      PartlyPassed hold (links_seen r.links.items k) (side_of link s) (links_seen r.links.items k2)
  partly_seen k k2 t s (x, h, e) =
      (x, some_same hold bay link k (seen k) (image k t) s x h, ap (links_seen r.links.items) e ∙ put_seen k t s x)

  either_seen : (k m n : Links) → Near k → Near m → Near n → (m ≢ k) ⊎ (n ≢ m) → (seen m ≢ seen k) ⊎ (seen n ≢ seen m)
  either_seen k m n a c d (inl h) = inl (apart_seen k m a c h)
  either_seen k m n a c d (inr h) = inr (apart_seen m n c d h)

  told_seen : (c : Bool) (k m n : Links) → Near k → Near m → Near n → MatchBool c ((m ≢ k) ⊎ (n ≢ m)) ((m ≡ k) × (n ≡ m)) →
      MatchBool c ((seen m ≢ seen k) ⊎ (seen n ≢ seen m)) ((seen m ≡ seen k) × (seen n ≡ seen m))
  told_seen true k m n a c d h = either_seen k m n a c d h
  told_seen false k m n a c d (p, q) = (ap (links_seen r.links.items) p, ap (links_seen r.links.items) q)

  near_base : Near r.sides.links
  near_base = touches_none bay r.sides.links

  pub passed_in : (c : Bool) (k : Links) → PassedLink hold r.sides.links (link_in (stay_at r.links.items link)) c k →
      PassedLink hold (links_seen r.links.items r.sides.links) link c (links_seen r.links.items k)
  passed_in c k (m, (x, h, e), (y, g, f), told) =
      let t = near_put base m near_base In x e in
      let u = near_put m k t Out y f in
      (seen m, passed_seen base m near_base In (x, h, e), passed_seen m k t Out (y, g, f), told_seen c base m k near_base t u told)

  pub partly_in : (k : Links) → PartlyPassedLink hold r.sides.links (link_in (stay_at r.links.items link)) k →
      PartlyPassedLink hold (links_seen r.links.items r.sides.links) link (links_seen r.links.items k)
  partly_in k (inl h) = inl (partly_seen base k near_base In h)
  partly_in k (inr (m, (x, h, e), rest)) =
      inr (seen m, passed_seen base m near_base In (x, h, e), partly_seen m k (near_put base m near_base In x e) Out rest)

  pub settled_in : (s : Side) → is_settled_from hold (links_seen r.links.items r.sides.links) (side_of link s) ≡ true →
      is_settled_from hold r.sides.links (side_of (link_in (stay_at r.links.items link)) s) ≡ true
  settled_in s h = sym (settled_same hold bay link base (seen base) (image_bay r inv link b in_bay) s) ∙ h

  pub still_in : NoRoundOfLinkChanges hold r.sides.links (link_in (stay_at r.links.items link)) →
      NoRoundOfLinkChanges hold (links_seen r.links.items r.sides.links) link
  still_in (p, q) =
      let i = image_bay r inv link b in_bay in
      (still_same hold bay link base (seen base) i In p, still_same hold bay link base (seen base) i Out q)

-- Of a link without a live side no round does anything.

module _ (hold : ℕ) (k : Links) (e : SideId) (dead : (side_at k e).live ≡ false) (far : (side_at k (peer e)).live ≡ false) where
  pub dead_still : NoRoundChanges hold k e
  dead_still = λ j.
      pass_round (mark_or (side_at k e).marks.read_high most_at_once) (mark_or (side_at k (peer e)).marks.write_high hold) (side_at k
      e).ended
      (dead j) (far j) (passage_at k e)

  pub dead_passed : PassedFrom hold k e k
  dead_passed = (passage_at k e, (0, refl, dead_still), sym (with_same k e))

pub dead_link : (hold : ℕ) (k : Links) (link : ℕ) → (side_at k (in_side link)).live ≡ false → (side_at k (out_side link)).live ≡ false →
    PassedLink hold k link false k
dead_link hold k link near far =
    (k, dead_passed hold k (in_side link) near far, dead_passed hold k (out_side link) far near, (refl, refl))
