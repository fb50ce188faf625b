-- There is room beside the events before a new one is made.
use Rattle.std.proofs.Common.{◌≡◌, ◌≤◌, ◌<◌, ◌+◌, ◌/◌, ◌^◌, ap, refl, length, arith}
use Rattle.event_base.proofs.TiedLemmas.{AreKept-grow, AreKept-push}
use Rattle.event_base.proofs.base.Base.new_event.Goals as goal

pub invariant_of-self : goal.invariant_of-self
invariant_of-self c =
    let kept = c.self.invariant.kept in
    let wider = c.in_err-grow.ensures.stays in record {
      kept = AreKept-grow _ _ _ _ _ kept (λ k. refl) c.in_err-grow.ensures.places kept.moments (omega (arith, kept.places, wider))
          c.in_err-grow.ensures.priorities;
      early = c.self.invariant.early;
    }

pub invariant_of-self-in_err-grow-2 : goal.invariant_of-self-in_err-grow-2
invariant_of-self-in_err-grow-2 c =
    let kept = c.self.invariant.kept in
    let wider = c.in_ok-grow.ensures.stays in
    let longer = c.in_err-grow-2.ensures.stays in record {
      kept = AreKept-grow _ _ _ _ _ kept c.in_err-grow-2.ensures.moments c.in_ok-grow.ensures.places
          (omega (arith, kept.moments, longer)) (omega (arith, kept.places, wider)) c.in_ok-grow.ensures.priorities;
      early = c.self.invariant.early;
    }

pub invariant_of-self-2 : goal.invariant_of-self-2
invariant_of-self-2 c =
    let kept = c.self.invariant.kept in
    let wider = c.in_ok-grow.ensures.stays in
    let longer = c.in_ok-grow-2.ensures.stays in
    let count = c.self.inside.events.ok.0 in
    let size = c.len-number.ensures in
    let room = c.in_ok-grow.ensures.room in
    let room_2 = c.in_ok-grow-2.ensures.room in
    let grown = AreKept-grow c.self.inside.events.items c.self.inside.deadlines c.grow-2.new.self c.self.inside.ready
    c.grow.new.self kept c.in_ok-grow-2.ensures.moments c.in_ok-grow.ensures.places (omega (arith, kept.moments, longer))
    (omega (arith, kept.places, wider)) c.in_ok-grow.ensures.priorities in
    let some = grown.some in
    let low : c.grow.new.self.priorities / 2 < c.grow.new.self.priorities = omega (arith, some) in
    let few : length c.self.inside.events.items + 1 ≤ 2 ^ 32 = omega (arith, count, size) in
    let in_moments : length c.self.inside.events.items + 1 ≤ length c.grow-2.new.self.moments = omega (arith, count, size, room_2) in
    let in_places : length c.self.inside.events.items + 1 ≤ length c.grow.new.self.places = omega (arith, count, size, room) in record {
      kept = rw (c.in_ok-push.ensures.items, c.made-event.ensures, c.priorities.ensures) (AreKept-push c.self.inside.events.items
          c.grow-2.new.self c.grow.new.self _ grown few in_moments in_places refl refl low);
      early = c.self.invariant.early;
    }
