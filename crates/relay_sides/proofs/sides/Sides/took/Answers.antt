use Rattle.std.proofs.Common.{ℕ, ◌+◌, ◌<◌, ◌≤◌, length, refl, ◌∙◌, ap, arith}
use Rattle.token_bucket.specs.declared.limit.Dir.TheVariants.{Write}
use Rattle.ev_types.specs.Sides.{number, peer}
use Rattle.bev_core.specs.Steps.{touched, less}
use Rattle.bev_world.specs.WorldValue.{WorldValue, bev_at}
use Rattle.bev_world.specs.declared.slot.Slot.{Slot}
use Rattle.relay_sides.specs.Bevs.{Bevs, twin}
use Rattle.relay_sides.proofs.BevsLemmas.{number-lt, twin-number}
use Rattle.relay_sides.proofs.SidesLemmas.{here, state_found, peer_number}
use Rattle.relay_sides.proofs.RoomLemmas.{sound_unread}
use Rattle.relay_sides.proofs.ServeLemmas.{then_changed, lower_changed, state_changed, state_given, can_give, took-links, took-sound}
use Rattle.relay_sides.proofs.sides.Sides.took.Goals as goal

pub overflow_add-from : goal.overflow_add-from
overflow_add-from c =
    let r = c.self.inside in
    let e = c.args.side in
    let lt = number-lt (peer e) r.opened (here c.args.self.now r c.self.view_is e c.requires.opened) in
    let t = ap number c.peer.ensures in
    let s = state_found r.sides.items (number (peer e)) c.number.result c.index_mut-from.result.now (c.number.ensures ∙ t)
    c.index_mut-from.ensures.value (omega (arith, lt, c.self.invariant.sides)) in
    let most = can_give c.args.self.now r c.self.view_is e c.requires.opened c.self.invariant c.args.count c.requires.within in
    let given = ap (λ z. z.given) s in
    let made = ap (λ z. z.write_made) s in
    let le : c.index_mut-from.result.now.given + c.args.count ≤ c.index_mut-from.result.now.write_made = omega (arith, most, given, made) in
    omega (arith, le)

pub invariant_of-self : goal.invariant_of-self
invariant_of-self c =
    let r = c.self.inside in
    let e = c.args.side in
    let n : ℕ = number e in
    let w = c.drain_at.new.self in
    let h = here c.args.self.now r c.self.view_is e c.requires.opened in
    let lt = number-lt e r.opened h in
    let lt2 = number-lt (peer e) r.opened h in
    let t = peer_number e c.peer.result c.peer.ensures in
    let in2 : twin n < length r.sides.items = omega (arith, lt2, twin-number e, c.self.invariant.sides) in
    let x = state_found r.sides.items (twin n) c.number.result c.index_mut-from.result.now (c.number.ensures ∙ t)
    c.index_mut-from.ensures.value in2 in
    let spare : ℕ = (bev_at w c.lower.result).output.spare in
    let f = λ (s : Slot). record s { bev = record s.bev { output = less s.bev.output c.args.count spare } } in
    let g = λ (s : Slot). record s { bev = touched s.bev Write c.args.time } in
    let p = lower_changed r.world w n c.lower.result f c.lower.ensures
    (omega (arith, lt, c.self.invariant.slots)) c.drain_at.ensures.bytes in
    let q = lower_changed w c.touch_at.new.self n c.lower-2.result g c.lower-2.ensures
    (omega (arith, lt, p.count, c.self.invariant.slots)) c.touch_at.ensures in
    let both = then_changed n (λ (b : Bevs). record b { lower = f b.lower }) (λ (b : Bevs). record b { lower = g b.lower })
    r.world.slots w.slots c.touch_at.new.self.slots p q in
    let k = state_changed r.sides.items (twin n) c.number.result (state_given c.args.count) _ (c.number.ensures ∙ t) in2
    (ap (state_given c.args.count) x) in
    let s = took-sound c.args.self.now r c.self.view_is e c.requires.opened c.self.invariant c.args.count spare c.args.time _ _ both k
    c.requires.within in
    sound_unread _ s
    (ap (λ (z : WorldValue). z.chunked) c.touch_at.ensures ∙ ap (λ (z : WorldValue). z.chunked) c.drain_at.ensures.bytes
    ∙ c.self.invariant.one_piece)
    refl

pub returns : goal.returns
returns c =
    let r = c.self.inside in
    let e = c.args.side in
    let n : ℕ = number e in
    let w = c.drain_at.new.self in
    let h = here c.args.self.now r c.self.view_is e c.requires.opened in
    let lt = number-lt e r.opened h in
    let lt2 = number-lt (peer e) r.opened h in
    let t = peer_number e c.peer.result c.peer.ensures in
    let in2 : twin n < length r.sides.items = omega (arith, lt2, twin-number e, c.self.invariant.sides) in
    let x = state_found r.sides.items (twin n) c.number.result c.index_mut-from.result.now (c.number.ensures ∙ t)
    c.index_mut-from.ensures.value in2 in
    let spare : ℕ = (bev_at w c.lower.result).output.spare in
    let f = λ (s : Slot). record s { bev = record s.bev { output = less s.bev.output c.args.count spare } } in
    let g = λ (s : Slot). record s { bev = touched s.bev Write c.args.time } in
    let p = lower_changed r.world w n c.lower.result f c.lower.ensures
    (omega (arith, lt, c.self.invariant.slots)) c.drain_at.ensures.bytes in
    let q = lower_changed w c.touch_at.new.self n c.lower-2.result g c.lower-2.ensures
    (omega (arith, lt, p.count, c.self.invariant.slots)) c.touch_at.ensures in
    let both = then_changed n (λ (b : Bevs). record b { lower = f b.lower }) (λ (b : Bevs). record b { lower = g b.lower })
    r.world.slots w.slots c.touch_at.new.self.slots p q in
    let k = state_changed r.sides.items (twin n) c.number.result (state_given c.args.count) _ (c.number.ensures ∙ t) in2
    (ap (state_given c.args.count) x) in
    took-links c.args.self.now r c.self.view_is e c.requires.opened c.self.invariant c.args.count spare c.args.time _ _ both k
