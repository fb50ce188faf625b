use Rattle.std.proofs.Common.{◌≡◌, ◌<◌, ◌∙◌, Bool, true, false, ◌&&◌, slice_index_or, refl, ap, sym, subst, arith}
use Rattle.std.proofs.lemmas.Bool.{and_parts}
use Rattle.relay_state.specs.Closing.{in_side, out_side}
use Rattle.relay_pool.specs.PoolValue.{PoolValue, is_done_side, is_done_link}
use Rattle.relay_pool.proofs.BayLemmas.{image_bay}
use Rattle.relay_pool.proofs.DoneLemmas.{done_met, kept-over, kept-left, kept-undone, kept-out, kept-done}
use Rattle.relay_pool.proofs.OpeningLemmas.{left_same, pooled_without, room_back}
use Rattle.relay_pool.proofs.pool.LinkPool.leave.Goals as goal
use Rattle.relay_pool.proofs.pool.LinkPool.leave.Goals.{Joined-then-not-is_idle}
use Rattle.relay_pool.proofs.pool.LinkPool.leave.Goals.{then-not-is_idle-via-then-not-is_idle}
use Rattle.relay_pool.proofs.pool.LinkPool.leave.Goals.{then-not-is_idle-via-else-not-is_idle+then-not-is_idle-2}

clash : {A : Type 0} (b : Bool) → b ≡ false → b ≡ true → A
clash true h e = absurd (cc h)
clash false h e = absurd (cc e)

unless : (b : Bool) → (b ≡ true → ⊥) → b ≡ false
unless true h = absurd (h refl)
unless false h = refl

pub is_idle-requires : goal.is_idle-requires
is_idle-requires c =
    let r = c.self.inside in
    let b = subst (λ (z : PoolValue). c.args.link < z.links.opened) (sym c.self.view_is) c.requires in
    subst (λ n. n < r.sides.links.opened) (sym c.in-Some.ensures.1)
    (image_bay r c.self.invariant c.args.link b c.in-Some.ensures.0).from_there

pub push_reserved-requires : goal.push_reserved-requires
push_reserved-requires c =
    let r = c.self.inside in
    let b = subst (λ (z : PoolValue). c.args.link < z.links.opened) (sym c.self.view_is) c.requires in
    let room = room_back r c.self.invariant c.args.link b c.in-Some.ensures.0 c.in-Some.bay c.in-Some.ensures.1 c.left_of-over.result
    c.left_of-over.ensures.over in
    omega (arith, room, r.free.ok.0)

pub invariant_of-self : goal.invariant_of-self
invariant_of-self c =
    let b = subst (λ (z : PoolValue). c.args.link < z.links.opened) (sym c.self.view_is) c.requires in
    pooled_without c.self.inside c.self.invariant c.args.link b c.in-Some.ensures.0 c.in-Some.bay c.in-Some.ensures.1 c.left_of-over.result
    c.left_of-over.ensures.over c.push_reserved.new.self c.push_reserved.ensures.items c.push_reserved.ensures.capacity

pub returns-clause-links : goal.returns-clause-links
returns-clause-links c =
    let b = subst (λ (z : PoolValue). c.args.link < z.links.opened) (sym c.self.view_is) c.requires in
    left_same c.self.inside c.self.invariant c.args.link b c.in-Some.ensures.0 c.in-Some.bay c.in-Some.ensures.1 c.left_of-over.result
    c.left_of-over.ensures.over c.left_of-over.ensures.memory
    ∙ ap (λ (z : PoolValue). z.links) c.self.view_is

-- a side in the bay is not done, so the link isn't
undone : (c : Joined-then-not-is_idle) → is_done_link c.args.self.now.links c.args.link ≡ false
undone c = unless (is_done_link c.args.self.now.links c.args.link) (λ done.
    let k = c.self.inside.sides.links in
    let b = subst (λ (z : PoolValue). c.args.link < z.links.opened) (sym c.self.view_is) c.requires in
    let there : is_done_link k c.in-Some.bay ≡ true =
    sym (done_met c.args.self.now c.self.inside c.self.view_is c.self.invariant c.args.link c.in-Some.bay b c.in-Some.ensures.0
    c.in-Some.ensures.1) ∙ done in
    let parts = and_parts (is_done_side k (in_side c.in-Some.bay)) (is_done_side k (out_side c.in-Some.bay)) there in
    elim c.then-not-is_idle.branch [
      | then-not-is_idle-via-then-not-is_idle w ↦ clash c.is_idle.result w.if-not-is_idle.true (c.is_idle.ensures.told ∙ parts.0)
      | then-not-is_idle-via-else-not-is_idle+then-not-is_idle-2 w ↦
          clash w.is_idle-else-not-is_idle.result w.if-not-is_idle-2.true
          (w.is_idle-else-not-is_idle.ensures.told ∙ ap (is_done_side k) w.peer.ensures ∙ parts.1)
    ])

pub returns-then-not-is_idle-clause-over : goal.returns-then-not-is_idle-clause-over
returns-then-not-is_idle-clause-over c = λ done.
    clash (is_done_link c.args.self.now.links c.args.link) (undone c) done

pub returns-clause-over : goal.returns-clause-over
returns-clause-over c = λ _.
    let r = c.self.inside in
    let b = subst (λ (z : PoolValue). c.args.link < z.links.opened) (sym c.self.view_is) c.requires in
    kept-left r.links.items c.args.link c.left_of-over.result b

pub returns-in_default-clause-kept : goal.returns-in_default-clause-kept
returns-in_default-clause-kept c =
    let v = c.args.self.now in
    let r = c.self.inside in
    let b = subst (λ (z : PoolValue). c.args.link < z.links.opened) (sym c.self.view_is) c.requires in
    kept-out v.kept c.args.link (is_done_link v.links c.args.link)
    (ap (λ (z : PoolValue). slice_index_or z.kept c.args.link true) (sym c.self.view_is)
    ∙ kept-over r.links.items c.args.link b c.in_default.ensures)

pub returns-then-not-is_idle-clause-kept : goal.returns-then-not-is_idle-clause-kept
returns-then-not-is_idle-clause-kept c =
    let v = c.args.self.now in
    kept-undone v.kept c.args.link (is_done_link v.links c.args.link) (undone c)

pub returns-clause-kept : goal.returns-clause-kept
returns-clause-kept c =
    let v = c.args.self.now in
    let r = c.self.inside in
    let k = r.sides.links in
    let b = subst (λ (z : PoolValue). c.args.link < z.links.opened) (sym c.self.view_is) c.requires in
    let near : is_done_side k (in_side c.in-Some.bay) ≡ true = sym c.is_idle.ensures.told ∙ c.if-not-is_idle.false in
    let far : is_done_side k (out_side c.in-Some.bay) ≡ true =
    sym (c.is_idle-else-not-is_idle.ensures.told ∙ ap (is_done_side k) c.peer.ensures) ∙ c.if-not-is_idle-2.false in
    let done : is_done_link v.links c.args.link ≡ true =
    done_met v r c.self.view_is c.self.invariant c.args.link c.in-Some.bay b c.in-Some.ensures.0 c.in-Some.ensures.1
    ∙ ap (λ x. x && is_done_side k (out_side c.in-Some.bay)) near ∙ far in
    kept-done r.links.items c.args.link c.left_of-over.result v.kept (is_done_link v.links c.args.link)
    (ap (λ (z : PoolValue). z.kept) c.self.view_is) done
