-- The queues follow the events.
use Rattle.std.proofs.Common.{sym, ap, length}
use Rattle.event_base.proofs.RousingLemmas.{CanRise-known, risen-kept}
use Rattle.event_base.proofs.base.Base.rouse.Goals as goal

pub wakers-requires : goal.wakers-requires
wakers-requires c =
    CanRise-known _ _ _ c.args.numbers.now c.self.inside.events.items c.self.inside.ready.next _
    (sym (ap length c.deref.ensures.value)) (rw (← c.self.view_is) at c.requires.can)

pub wake_all-requires-clause-can : goal.wake_all-requires-clause-can
wake_all-requires-clause-can c =
    let both = risen-kept _ _ _ c.args.numbers.now c.self.inside.events.items c.self.inside.deadlines
    c.self.inside.ready.priorities c.self.inside.ready.places c.self.inside.ready.next 0 c.self.invariant.kept c.requires.apart
    (rw (← c.self.view_is) at c.requires.can) in
    rw (c.deref-2.ensures.value, c.in_ok-wakers.ensures.list, c.deref.ensures.value) both.0

pub invariant_of-self-2 : goal.invariant_of-self-2
invariant_of-self-2 c =
    let both = risen-kept _ _ _ c.args.numbers.now c.self.inside.events.items c.self.inside.deadlines
    c.self.inside.ready.priorities c.self.inside.ready.places c.self.inside.ready.next _ c.self.invariant.kept c.requires.apart
    (rw (← c.self.view_is) at c.requires.can) in
    record {
      kept = rw (
        c.raise_all.ensures,
        c.next-next.ensures,
        c.in_ok-wake_all.ensures.ok,
        c.deref-2.ensures.value,
        c.in_ok-wakers.ensures.list,
        c.deref.ensures.value,
      ) both.1;
      early = c.self.invariant.early;
    }
