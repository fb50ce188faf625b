use Rattle.std.proofs.Common.{◌≡◌, ◌<◌, true, [], ◌∷◌, ◌++◌, length, length-append, map, sym, ◌∙◌, ap, subst, arith}
use Rattle.std.specs.Prelude.{Some, None, slice_get}
use Rattle.std.specs.Vec.{with_item}
use Rattle.std.proofs.lemmas.List.{length-set}
use Rattle.std.proofs.lemmas.Option.{slice_get_within}
use Rattle.relay_sides.specs.Links.{Links, with_link, with_new_link}
use Rattle.relay_sides.specs.Pairs.{HasPairs}
use Rattle.relay_pool.specs.PoolValue.{PoolValue}
use Rattle.relay_pool.specs.PoolView.{links_seen, AreGivenBack}
use Rattle.relay_pool.specs.Stays.{is_in_bay}
use Rattle.relay_pool.specs.declared.stay.Stay.TheVariants as stay
use Rattle.relay_pool.proofs.OpeningLemmas.{links_more, touches_new, fresh_new, alike_link, fresh_link, pairs_link}
use Rattle.relay_pool.proofs.OpeningLemmas.{pooled_more, away_free, away_more, few_more, bay_room, pushed_on}
use Rattle.relay_pool.proofs.OwnerLemmas.{owned_set, own_set, owned_more, own_more, last_unowned, back_taken, back_more}
use Rattle.relay_pool.proofs.pool.LinkPool.open.Goals as goal

-- in a bay that was given back

pub invariant_of-self : goal.invariant_of-self
invariant_of-self c =
    let r = c.self.inside in
    let inv = c.self.invariant in
    let bay = c.in-Some.bay in
    let kept = map is_in_bay r.links.items in
    let items = c.in-Some.ensures.items in
    let free = last_unowned r.free r.owners.items kept inv.free c.pop.new.self bay c.len-link.result items c.pop.ensures.capacity in
    let touch = touches_new bay c.args.time c.args.turn c.args.near c.args.far r.sides.links in
    let few = few_more r (subst (λ (z : PoolValue). 0 < z.spare_links) (sym c.self.view_is) c.requires.room) in
    pooled_more r inv c.reopen.new.self c.push.new.self (with_item r.owners bay (Some c.len-link.result)) c.pop.new.self bay
    (subst (λ (k : Links). HasPairs k) (sym c.reopen.ensures.links) (touch.pairs inv.pairs))
    (length-set r.owners.items bay (Some c.len-link.result) ∙ inv.bays ∙ sym (ap (λ (k : Links). k.opened) c.reopen.ensures.links)) few
    (pushed_on c.push.result c.unwrap.result r.links.items c.push.new.self.items (stay.Bay bay) c.unwrap.ensures c.push.ensures.items)
    (owned_set r.owners.items bay c.len-link.result free)
    (own_set r.owners.items bay (Some c.len-link.result) None free ∙ ap (λ n. Some (Some n)) (c.len-link.ensures ∙ r.links.ok.0))
    (back_taken r.free r.owners.items kept inv.free c.pop.new.self bay c.len-link.result items c.pop.ensures.capacity)

pub returns-in-Some-clause-links : goal.returns-in-Some-clause-links
returns-in-Some-clause-links c =
    let r = c.self.inside in
    let inv = c.self.invariant in
    let bay = c.in-Some.bay in
    let k = r.sides.links in
    let new : Links = with_new_link bay c.args.time c.args.turn c.args.near c.args.far k in
    let free = last_unowned r.free r.owners.items (map is_in_bay r.links.items) inv.free c.pop.new.self bay c.len-link.result
    c.in-Some.ensures.items c.pop.ensures.capacity in
    let there = slice_get_within r.owners.items bay None free in
    let touch = touches_new bay c.args.time c.args.turn c.args.near c.args.far k in
    let items = pushed_on c.push.result c.unwrap.result r.links.items c.push.new.self.items (stay.Bay bay) c.unwrap.ensures
    c.push.ensures.items in
    (λ i. links_seen (items i) (c.reopen.ensures.links i))
    ∙ links_more k new r.links.items bay (away_free r inv bay free) c.args.time c.args.turn c.args.near c.args.far
    (record { sides = touch.sides; flows = touch.flows; lanes = touch.lanes; gauges = touch.gauges })
    (fresh_new bay c.args.time c.args.turn c.args.near c.args.far k inv.pairs (omega (arith, there, inv.bays)))
    ∙ ap (λ (z : PoolValue). with_link c.args.time c.args.turn c.args.near c.args.far z.links) c.self.view_is

-- in a bay more

pub invariant_of-self-2 : goal.invariant_of-self-2
invariant_of-self-2 c =
    let r = c.self.inside in
    let inv = c.self.invariant in
    let x = Some c.len-link.result in
    let own = pushed_on c.push-2.result c.unwrap-2.result r.owners.items c.push-2.new.self.items x c.unwrap-2.ensures
    c.push-2.ensures.items in
    let spare = subst (λ (z : PoolValue). 0 < z.spare_links) (sym c.self.view_is) c.requires.room in
    let few = few_more r spare in
    let none = c.in_default.ensures.cases in
    let room = bay_room r none.0 spare in
    let opened = ap (λ (k : Links). k.opened) c.open.ensures.links in
    let bay : c.opened-bay.result ≡ length r.owners.items = c.opened-bay.ensures.count ∙ sym inv.bays in
    pooled_more r inv c.open.new.self c.push-3.new.self c.push-2.new.self c.pop.new.self c.opened-bay.result
    (subst (λ (k : Links). HasPairs k) (sym c.open.ensures.links)
    (pairs_link c.args.time c.args.turn c.args.near c.args.far r.sides.links inv.pairs))
    (ap length own ∙ (let l = length-append r.owners.items (x ∷ []) in omega (arith, l, inv.bays, opened))) few
    (pushed_on c.push-3.result c.unwrap-3.result r.links.items c.push-3.new.self.items (stay.Bay c.opened-bay.result) c.unwrap-3.ensures
    c.push-3.ensures.items)
    (λ u n p. subst (λ ys. slice_get ys u ≡ Some (Some n)) (sym own) (owned_more r.owners.items x u (Some n) p))
    (subst (λ ys. slice_get ys c.opened-bay.result ≡ Some (Some (length r.links.items))) (sym own)
    (ap (slice_get (r.owners.items ++ x ∷ [])) bay ∙ own_more r.owners.items x ∙ ap (λ n. Some (Some n)) (c.len-link.ensures ∙
    r.links.ok.0)))
    (subst (λ ys. AreGivenBack c.pop.new.self ys (map is_in_bay r.links.items ++ true ∷ [])) (sym own)
    (back_more r.free r.owners.items (map is_in_bay r.links.items) inv.free c.pop.new.self x (sym r.free.ok.0 ∙ none.0)
    (sym c.pop.new.self.ok.0 ∙ none.1) (omega (arith, room, r.owners.ok.0, c.pop.ensures.capacity))))

pub returns-clause-links : goal.returns-clause-links
returns-clause-links c =
    let r = c.self.inside in
    let inv = c.self.invariant in
    let k = r.sides.links in
    let bay : c.opened-bay.result ≡ k.opened = c.opened-bay.ensures.count in
    let items = pushed_on c.push-3.result c.unwrap-3.result r.links.items c.push-3.new.self.items (stay.Bay c.opened-bay.result)
    c.unwrap-3.ensures c.push-3.ensures.items in
    (λ i. links_seen (items i) (c.open.ensures.links i))
    ∙ (λ i. links_seen (r.links.items ++ stay.Bay (bay i) ∷ []) (with_link c.args.time c.args.turn c.args.near c.args.far k))
    ∙ links_more k (with_link c.args.time c.args.turn c.args.near c.args.far k) r.links.items k.opened (away_more r inv) c.args.time
    c.args.turn c.args.near c.args.far (alike_link c.args.time c.args.turn c.args.near c.args.far k inv.pairs)
    (fresh_link c.args.time c.args.turn c.args.near c.args.far k inv.pairs)
    ∙ ap (λ (z : PoolValue). with_link c.args.time c.args.turn c.args.near c.args.far z.links) c.self.view_is
