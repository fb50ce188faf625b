use Rattle.std.proofs.Common.{◌≡◌, ℕ, ◌+◌, ◌<◌, ◌≤◌, length, take, length-take-le, refl, sym, ◌∙◌, ap, subst, arith}
use Rattle.std.specs.Prelude.{vec_capacity}
use Rattle.ev_types.specs.Sides.{number}
use Rattle.bev_world.specs.ByNumber.{slot_fed}
use Rattle.bev_world.specs.WorldValue.{WorldValue, bev_at}
use Rattle.relay_sides.specs.Bevs.{bevs_at}
use Rattle.relay_sides.specs.SideView.{state_at}
use Rattle.relay_sides.specs.SidesView.{CanRead}
use Rattle.relay_sides.proofs.BevsLemmas.{number-lt}
use Rattle.relay_sides.proofs.SidesLemmas.{here, state_found}
use Rattle.relay_sides.proofs.RoomLemmas.{sound_unread}
use Rattle.relay_sides.proofs.ServeLemmas.{lower_changed, state_changed, can_read, state_brought, brought-links, brought-sound}
use Rattle.relay_sides.proofs.ServeLemmas.{brought_of, brought-room}
use Rattle.relay_sides.proofs.sides.Sides.bring.Goals as goal

pub feed_at-requires-clause-room : goal.feed_at-requires-clause-room
feed_at-requires-clause-room c =
    let r = c.self.inside in
    let can = can_read c.args.self.now r c.self.view_is c.args.side c.requires.opened c.self.invariant c.args.n
    c.requires.some c.requires.room in
    subst (λ (z : ℕ). length (bev_at r.world z).input.bytes + c.args.n ≤ r.spare) (sym c.lower.ensures) can.kept

pub overflow_add-own : goal.overflow_add-own
overflow_add-own c =
    let r = c.self.inside in
    let e = c.args.side in
    let can = can_read c.args.self.now r c.self.view_is e c.requires.opened c.self.invariant c.args.n
    c.requires.some c.requires.room in
    let lt = number-lt e r.opened (here c.args.self.now r c.self.view_is e c.requires.opened) in
    let s = state_found r.sides.items (number e) c.number.result c.index_mut-own.result.now c.number.ensures c.index_mut-own.ensures.value
    (omega (arith, lt, c.self.invariant.sides)) in
    omega (arith, can.counted, ap (λ z. z.read) s)

pub invariant_of-self : goal.invariant_of-self
invariant_of-self c =
    let r = c.self.inside in
    let bytes = take c.args.n c.args.block.now.items in
    let fits : c.args.n ≤ length c.args.block.now.items = omega (arith, c.requires.within, c.args.block.now.ok.0) in
    let len : c.args.n ≡ length bytes = sym (length-take-le c.args.n c.args.block.now.items fits) in
    let e = c.args.side in
    let lt = number-lt e r.opened (here c.args.self.now r c.self.view_is e c.requires.opened) in
    let lt2 : number e < length r.sides.items = omega (arith, lt, c.self.invariant.sides) in
    let x = state_found r.sides.items
    (number e) c.number.result c.index_mut-own.result.now c.number.ensures c.index_mut-own.ensures.value lt2 in
    let p = lower_changed r.world c.feed_at.new.self (number e) c.lower.result
    (slot_fed bytes c.args.time (bev_at c.feed_at.new.self c.lower.result).input.spare)
    c.lower.ensures (omega (arith, lt, c.self.invariant.slots)) c.feed_at.ensures.fed in
    let q = state_changed r.sides.items (number e) c.number.result (state_brought bytes) _ c.number.ensures lt2
    (brought_of bytes c.args.n _ _ len x) in
    let s = brought-sound c.args.self.now r c.self.view_is e c.requires.opened c.self.invariant bytes c.args.time _ _ _ p q in
    sound_unread _ s (ap (λ (z : WorldValue). z.chunked) c.feed_at.ensures.fed ∙ c.self.invariant.one_piece) refl

pub returns-clause-links : goal.returns-clause-links
returns-clause-links c =
    let r = c.self.inside in
    let bytes = take c.args.n c.args.block.now.items in
    let fits : c.args.n ≤ length c.args.block.now.items = omega (arith, c.requires.within, c.args.block.now.ok.0) in
    let len : c.args.n ≡ length bytes = sym (length-take-le c.args.n c.args.block.now.items fits) in
    let e = c.args.side in
    let lt = number-lt e r.opened (here c.args.self.now r c.self.view_is e c.requires.opened) in
    let lt2 : number e < length r.sides.items = omega (arith, lt, c.self.invariant.sides) in
    let x = state_found r.sides.items
    (number e) c.number.result c.index_mut-own.result.now c.number.ensures c.index_mut-own.ensures.value lt2 in
    let p = lower_changed r.world c.feed_at.new.self (number e) c.lower.result
    (slot_fed bytes c.args.time (bev_at c.feed_at.new.self c.lower.result).input.spare)
    c.lower.ensures (omega (arith, lt, c.self.invariant.slots)) c.feed_at.ensures.fed in
    let q = state_changed r.sides.items (number e) c.number.result (state_brought bytes) _ c.number.ensures lt2
    (brought_of bytes c.args.n _ _ len x) in
    brought-links c.args.self.now r c.self.view_is e c.requires.opened c.self.invariant bytes c.args.time _ _ _ p q

pub returns-clause-room : goal.returns-clause-room
returns-clause-room c =
    let r = c.self.inside in
    let bytes = take c.args.n c.args.block.now.items in
    let fits : c.args.n ≤ length c.args.block.now.items = omega (arith, c.requires.within, c.args.block.now.ok.0) in
    let len : c.args.n ≡ length bytes = sym (length-take-le c.args.n c.args.block.now.items fits) in
    let e = c.args.side in
    let lt = number-lt e r.opened (here c.args.self.now r c.self.view_is e c.requires.opened) in
    let lt2 : number e < length r.sides.items = omega (arith, lt, c.self.invariant.sides) in
    let x = state_found r.sides.items
    (number e) c.number.result c.index_mut-own.result.now c.number.ensures c.index_mut-own.ensures.value lt2 in
    let p = lower_changed r.world c.feed_at.new.self (number e) c.lower.result
    (slot_fed bytes c.args.time (bev_at c.feed_at.new.self c.lower.result).input.spare)
    c.lower.ensures (omega (arith, lt, c.self.invariant.slots)) c.feed_at.ensures.fed in
    let q = state_changed r.sides.items (number e) c.number.result (state_brought bytes) _ c.number.ensures lt2
    (brought_of bytes c.args.n _ _ len x) in
    let can = can_read c.args.self.now r c.self.view_is e c.requires.opened c.self.invariant c.args.n
    c.requires.some c.requires.room in
    brought-room c.args.self.now r c.self.view_is e c.requires.opened c.self.invariant bytes c.args.time _ _ _ p q
    (subst (CanRead (bevs_at r.world.slots (number e)) (state_at r.sides.items (number e)) (vec_capacity r.beside) r.spare) len can)
