use Rattle.std.proofs.Common.{Bool, refl, sym, ◌∙◌, ap, subst, arith}
use Rattle.std.specs.Prelude.{vec_capacity}
use Rattle.ev_types.specs.Sides.{number, peer}
use Rattle.bev_world.specs.WorldValue.{WorldValue}
use Rattle.relay_sides.specs.Bevs.{lower_of, upper_of, twin}
use Rattle.relay_sides.specs.SidesValue.{SidesValue}
use Rattle.relay_sides.proofs.BevsLemmas.{number-lt, twin-number, twin-apart, twin-twin}
use Rattle.relay_sides.proofs.SidesLemmas.{here, peer_number}
use Rattle.relay_sides.proofs.RoomLemmas.{quiet_links, quiet_sound, sound_unread}
use Rattle.relay_sides.proofs.GivenUpLemmas.{HasGivenUp, gave_up, near_gave_up, far_gave_up, no_idle_room}
use Rattle.relay_sides.proofs.sides.Sides.give_up_rooms.Goals as goal

pub invariant_of-self : goal.invariant_of-self
invariant_of-self c =
    let r = c.self.inside in
    let e = c.args.from in
    let w = c.give_up_at-4.new.self in
    let h = here c.args.self.now r c.self.view_is e c.requires in
    let lt = number-lt e r.opened h in
    let lt2 = number-lt (peer e) r.opened h in
    let t = peer_number e c.peer-to.result c.peer-to.ensures in
    let q = gave_up r.world c.give_up_at.new.self c.give_up_at-2.new.self c.give_up_at-3.new.self w (number e) (twin (number e))
    c.lower.result c.upper.result c.upper-2.result c.lower-2.result c.lower.ensures c.upper.ensures
    (c.upper-2.ensures ∙ ap upper_of t) (c.lower-2.ensures ∙ ap lower_of t)
    (omega (arith, lt, c.self.invariant.slots)) (omega (arith, lt2, twin-number e, c.self.invariant.slots))
    c.give_up_at.ensures c.give_up_at-2.ensures c.give_up_at-3.ensures c.give_up_at-4.ensures in
    let s = quiet_sound r.world.slots w.slots r.sides.items q r c.self.invariant refl refl in
    sound_unread _ s
    (let f : WorldValue → Bool = λ w. w.chunked in
    ap f c.give_up_at-4.ensures ∙ ap f c.give_up_at-3.ensures ∙ ap f c.give_up_at-2.ensures ∙ ap f c.give_up_at.ensures
    ∙ c.self.invariant.one_piece)
    refl

pub returns-clause-links : goal.returns-clause-links
returns-clause-links c =
    let r = c.self.inside in
    let e = c.args.from in
    let w = c.give_up_at-4.new.self in
    let h = here c.args.self.now r c.self.view_is e c.requires in
    let lt = number-lt e r.opened h in
    let lt2 = number-lt (peer e) r.opened h in
    let t = peer_number e c.peer-to.result c.peer-to.ensures in
    let q = gave_up r.world c.give_up_at.new.self c.give_up_at-2.new.self c.give_up_at-3.new.self w (number e) (twin (number e))
    c.lower.result c.upper.result c.upper-2.result c.lower-2.result c.lower.ensures c.upper.ensures
    (c.upper-2.ensures ∙ ap upper_of t) (c.lower-2.ensures ∙ ap lower_of t)
    (omega (arith, lt, c.self.invariant.slots)) (omega (arith, lt2, twin-number e, c.self.invariant.slots))
    c.give_up_at.ensures c.give_up_at-2.ensures c.give_up_at-3.ensures c.give_up_at-4.ensures in
    quiet_links r.world.slots w.slots r.sides.items q r.opened ∙ ap (λ (z : SidesValue). z.links) c.self.view_is

pub returns-clause-rooms : goal.returns-clause-rooms
returns-clause-rooms c =
    let r = c.self.inside in
    let e = c.args.from in
    let h = here c.args.self.now r c.self.view_is e c.requires in
    let far = far_gave_up r.world c.give_up_at.new.self c.give_up_at-2.new.self c.give_up_at-3.new.self c.give_up_at-4.new.self (number e)
    (twin (number e)) c.lower.result c.upper.result c.upper-2.result c.lower-2.result c.lower.ensures c.upper.ensures
    (c.upper-2.ensures ∙ ap upper_of (peer_number e c.peer-to.result c.peer-to.ensures))
    (c.lower-2.ensures ∙ ap lower_of (peer_number e c.peer-to.result c.peer-to.ensures))
    (omega (arith, number-lt e r.opened h, c.self.invariant.slots))
    (omega (arith, number-lt (peer e) r.opened h, twin-number e, c.self.invariant.slots))
    c.give_up_at.ensures c.give_up_at-2.ensures c.give_up_at-3.ensures c.give_up_at-4.ensures in
    let near = near_gave_up r.world c.give_up_at.new.self c.give_up_at-2.new.self c.give_up_at-3.new.self c.give_up_at-4.new.self (number e)
    (twin (number e)) c.lower.result c.upper.result c.upper-2.result c.lower-2.result c.lower.ensures c.upper.ensures
    (c.upper-2.ensures ∙ ap upper_of (peer_number e c.peer-to.result c.peer-to.ensures))
    (c.lower-2.ensures ∙ ap lower_of (peer_number e c.peer-to.result c.peer-to.ensures))
    (omega (arith, number-lt e r.opened h, c.self.invariant.slots))
    (omega (arith, number-lt (peer e) r.opened h, twin-number e, c.self.invariant.slots))
    c.give_up_at.ensures c.give_up_at-2.ensures c.give_up_at-3.ensures c.give_up_at-4.ensures (λ q. twin-apart (number e) (sym q)) in
    no_idle_room r.opened c.give_up_at-4.new.self.slots r.sides.items e h (vec_capacity r.beside) near far

pub returns-clause-back : goal.returns-clause-back
returns-clause-back c =
    let r = c.self.inside in
    let e = c.args.from in
    let w = c.give_up_at-4.new.self in
    let h = here c.args.self.now r c.self.view_is e c.requires in
    let far = far_gave_up r.world c.give_up_at.new.self c.give_up_at-2.new.self c.give_up_at-3.new.self c.give_up_at-4.new.self (number e)
    (twin (number e)) c.lower.result c.upper.result c.upper-2.result c.lower-2.result c.lower.ensures c.upper.ensures
    (c.upper-2.ensures ∙ ap upper_of (peer_number e c.peer-to.result c.peer-to.ensures))
    (c.lower-2.ensures ∙ ap lower_of (peer_number e c.peer-to.result c.peer-to.ensures))
    (omega (arith, number-lt e r.opened h, c.self.invariant.slots))
    (omega (arith, number-lt (peer e) r.opened h, twin-number e, c.self.invariant.slots))
    c.give_up_at.ensures c.give_up_at-2.ensures c.give_up_at-3.ensures c.give_up_at-4.ensures in
    let near = near_gave_up r.world c.give_up_at.new.self c.give_up_at-2.new.self c.give_up_at-3.new.self c.give_up_at-4.new.self (number e)
    (twin (number e)) c.lower.result c.upper.result c.upper-2.result c.lower-2.result c.lower.ensures c.upper.ensures
    (c.upper-2.ensures ∙ ap upper_of (peer_number e c.peer-to.result c.peer-to.ensures))
    (c.lower-2.ensures ∙ ap lower_of (peer_number e c.peer-to.result c.peer-to.ensures))
    (omega (arith, number-lt e r.opened h, c.self.invariant.slots))
    (omega (arith, number-lt (peer e) r.opened h, twin-number e, c.self.invariant.slots))
    c.give_up_at.ensures c.give_up_at-2.ensures c.give_up_at-3.ensures c.give_up_at-4.ensures (λ q. twin-apart (number e) (sym q)) in
    no_idle_room r.opened w.slots r.sides.items (peer e) h (vec_capacity r.beside)
    (subst (HasGivenUp w.slots) (sym (twin-number e)) far)
    (subst (HasGivenUp w.slots) (sym (ap twin (twin-number e) ∙ twin-twin (number e))) near)
