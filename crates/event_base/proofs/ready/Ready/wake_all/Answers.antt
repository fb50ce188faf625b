-- The queues and the places get the same events.
use Rattle.std.proofs.Common.{◌≡◌, ◌+◌, ◌-◌, ◌<◌, ◌∙◌, ℕ, length, take, ap, sym, refl, add-zero, arith}
use Rattle.std.proofs.lemmas.List.{at_drop_all}
use Rattle.event_base.specs.Ready.{CanAppend, CanWake, woken, appended_all}
use Rattle.event_base.proofs.ReadyLemmas.{CanAppend-from, IsPlaced-woken, length-appended_all}
use Rattle.event_base.proofs.ready.Ready.wake_all.Goals as goal

pub append_all-requires : goal.append_all-requires
append_all-requires c = CanAppend-from _ _ _ _ _ c.self.invariant refl (rw (← c.self.view_is) at c.requires.can)

pub loop-w-init : goal.loop-w-init
loop-w-init c = record {
  places = refl;
  can = rw (c.in_ok-append_all.ensures.ok, length-appended_all c.self.inside.active c.args.waking.now)
      (rw (← c.self.view_is) at c.requires.can);
  next = sym (add-zero _);
  active = refl;
}

pub invariant_of-self-in-loop-w : goal.invariant_of-self-in-loop-w
invariant_of-self-in-loop-w c =
    let places : c.loop-w.self-inside.places.items ≡ woken c.self.inside.places.items c.self.inside.next c.args.waking.now = sym
    (at_drop_all (woken c.loop-w.self-inside.places.items c.loop-w.self-inside.next) c.args.waking.now c.loop-w.w-index
    (omega arith)) ∙ c.loop-w.invariant.places in
    let next : c.loop-w.self-inside.next ≡ c.self.inside.next + length c.args.waking.now = omega arith in
    rw (c.loop-w.invariant.active, c.in_ok-append_all.ensures.ok, places, next)
    (IsPlaced-woken _ _ _ _ c.args.waking.now c.self.invariant refl (rw (← c.self.view_is) at c.requires.can))

pub returns-clause-ok : goal.returns-clause-ok
returns-clause-ok c =
    let places : c.loop-w.self-inside.places.items ≡ woken c.self.inside.places.items c.self.inside.next c.args.waking.now = sym
    (at_drop_all (woken c.loop-w.self-inside.places.items c.loop-w.self-inside.next) c.args.waking.now c.loop-w.w-index
    (omega arith)) ∙ c.loop-w.invariant.places in
    let next : c.loop-w.self-inside.next ≡ c.self.inside.next + length c.args.waking.now = omega arith in
    let count : length c.loop-w.self-inside.active ≡ length c.self.inside.active = ap length
    (c.loop-w.invariant.active ∙ c.in_ok-append_all.ensures.ok) ∙ length-appended_all c.self.inside.active c.args.waking.now in
    rw (← c.self.view_is) (cc (places, next, count))
