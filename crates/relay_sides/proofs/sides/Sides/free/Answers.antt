use Rattle.std.proofs.Common.{refl, ◌∙◌, ap, arith}
use Rattle.ev_types.specs.Sides.{number}
use Rattle.bev_world.specs.WorldValue.{WorldValue}
use Rattle.relay_sides.specs.Bevs.{Bevs}
use Rattle.relay_sides.proofs.BevsLemmas.{number-lt}
use Rattle.relay_sides.proofs.SidesLemmas.{here}
use Rattle.relay_sides.proofs.RoomLemmas.{sound_unread}
use Rattle.relay_sides.proofs.ServeLemmas.{then_changed, lower_changed, upper_changed, slot_off, off-links, off-sound}
use Rattle.relay_sides.proofs.sides.Sides.free.Goals as goal

pub invariant_of-self : goal.invariant_of-self
invariant_of-self c =
    let r = c.self.inside in
    let e = c.args.side in
    let w = c.drop_at.new.self in
    let lt = number-lt e r.opened (here c.args.self.now r c.self.view_is e c.requires) in
    let p = lower_changed r.world w (number e) c.lower.result slot_off c.lower.ensures (omega (arith, lt, c.self.invariant.slots))
    c.drop_at.ensures in
    let q = upper_changed w c.drop_at-2.new.self (number e) c.upper.result slot_off c.upper.ensures
    (omega (arith, lt, p.count, c.self.invariant.slots)) c.drop_at-2.ensures in
    let s = off-sound c.args.self.now r c.self.view_is e c.requires c.self.invariant c.drop_at-2.new.self.slots
    (then_changed (number e) (λ (b : Bevs). record b { lower = slot_off b.lower }) (λ (b : Bevs). record b { upper = slot_off b.upper })
    r.world.slots w.slots c.drop_at-2.new.self.slots p q) in
    sound_unread _ s
    (ap (λ (z : WorldValue). z.chunked) c.drop_at-2.ensures ∙ ap (λ (z : WorldValue). z.chunked) c.drop_at.ensures
    ∙ c.self.invariant.one_piece)
    refl

pub returns : goal.returns
returns c =
    let r = c.self.inside in
    let e = c.args.side in
    let w = c.drop_at.new.self in
    let lt = number-lt e r.opened (here c.args.self.now r c.self.view_is e c.requires) in
    let p = lower_changed r.world w (number e) c.lower.result slot_off c.lower.ensures (omega (arith, lt, c.self.invariant.slots))
    c.drop_at.ensures in
    let q = upper_changed w c.drop_at-2.new.self (number e) c.upper.result slot_off c.upper.ensures
    (omega (arith, lt, p.count, c.self.invariant.slots)) c.drop_at-2.ensures in
    off-links c.args.self.now r c.self.view_is e c.requires c.self.invariant c.drop_at-2.new.self.slots
    (then_changed (number e) (λ (b : Bevs). record b { lower = slot_off b.lower }) (λ (b : Bevs). record b { upper = slot_off b.upper })
    r.world.slots w.slots c.drop_at-2.new.self.slots p q)
