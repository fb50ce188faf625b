-- The pending events of the signal get its flag and its calls.
use Rattle.std.proofs.Common.{◌≡◌, ◌∙◌, ◌+◌, ◌<◌, ◌^◌, sym, ap, subst, [], count_by, length}
use Rattle.std.proofs.Common.{Ok, false, arith}
use Rattle.event_base.specs.Base.{BaseValue}
use Rattle.event_base.specs.BaseView.{base_of}
use Rattle.std.specs.List.{list_any}
use Rattle.event_base.specs.Fires.{hearing, is_woken_by, overflows}
use Rattle.event_base.specs.Calls.{signal}
use Rattle.event_base.specs.Rousing.{risen, wakers}
use Rattle.event_base.proofs.SignalLemmas.{hearing-can, hearing-apart, hearing-wakers}
use Rattle.event_base.proofs.CallLemmas.{on_ok, signal-done, with_parts}
use Rattle.event_base.proofs.base.Base.signal.Goals as goal

pub rouse-requires-clause-can : goal.rouse-requires-clause-can
rouse-requires-clause-can c =
    let items = c.self.inside.events.items in
    let next = c.self.inside.ready.next in
    let numbers : c.deref-4.result.now ≡ hearing c.args.number 0 items = c.deref-4.ensures.value ∙ c.in_ok-numbers.ensures.list ∙ ap
    (hearing c.args.number 0) c.deref-3.ensures.value in
    let woken : c.woken_by.result ≡ count_by (is_woken_by c.args.number) items = c.woken_by.ensures ∙ ap
    (count_by (is_woken_by c.args.number)) c.deref.ensures.value in
    let low : next + count_by (is_woken_by c.args.number) items < 2 ^ 64 = omega (arith, woken, c.next.ensures, c.if-woken_by-next.false) in
    let fits : list_any (overflows c.args.number c.args.count) items ≡ false = sym (c.any_overflows.ensures ∙ ap
    (list_any (overflows c.args.number c.args.count)) c.deref-2.ensures.value) ∙ c.if-any_overflows.false in
    rw (c.from-count.ensures, numbers, ← c.self.view_is) (hearing-can c.args.number c.args.count items [] next low fits)

pub rouse-requires-clause-apart : goal.rouse-requires-clause-apart
rouse-requires-clause-apart c =
    let items = c.self.inside.events.items in
    let next = c.self.inside.ready.next in
    let numbers : c.deref-4.result.now ≡ hearing c.args.number 0 items = c.deref-4.ensures.value ∙ c.in_ok-numbers.ensures.list ∙ ap
    (hearing c.args.number 0) c.deref-3.ensures.value in
    let woken : c.woken_by.result ≡ count_by (is_woken_by c.args.number) items = c.woken_by.ensures ∙ ap
    (count_by (is_woken_by c.args.number)) c.deref.ensures.value in
    let low : next + count_by (is_woken_by c.args.number) items < 2 ^ 64 = omega (arith, woken, c.next.ensures, c.if-woken_by-next.false) in
    let fits : list_any (overflows c.args.number c.args.count) items ≡ false = sym (c.any_overflows.ensures ∙ ap
    (list_any (overflows c.args.number c.args.count)) c.deref-2.ensures.value) ∙ c.if-any_overflows.false in
    rw numbers (hearing-apart c.args.number 0 items)

pub rouse-requires-clause-fits : goal.rouse-requires-clause-fits
rouse-requires-clause-fits c =
    let items = c.self.inside.events.items in
    let next = c.self.inside.ready.next in
    let numbers : c.deref-4.result.now ≡ hearing c.args.number 0 items = c.deref-4.ensures.value ∙ c.in_ok-numbers.ensures.list ∙ ap
    (hearing c.args.number 0) c.deref-3.ensures.value in
    let woken : c.woken_by.result ≡ count_by (is_woken_by c.args.number) items = c.woken_by.ensures ∙ ap
    (count_by (is_woken_by c.args.number)) c.deref.ensures.value in
    let low : next + count_by (is_woken_by c.args.number) items < 2 ^ 64 = omega (arith, woken, c.next.ensures, c.if-woken_by-next.false) in
    let fits : list_any (overflows c.args.number c.args.count) items ≡ false = sym (c.any_overflows.ensures ∙ ap
    (list_any (overflows c.args.number c.args.count)) c.deref-2.ensures.value) ∙ c.if-any_overflows.false in
    let total : length (wakers items (hearing c.args.number 0 items)) ≡ count_by (is_woken_by c.args.number) items = hearing-wakers
    c.args.number items [] in
    rw (numbers, ← c.self.view_is) (omega (arith, total, low))

pub returns-clause-ok : goal.returns-clause-ok
returns-clause-ok c =
    let items = c.self.inside.events.items in
    let next = c.self.inside.ready.next in
    let numbers : c.deref-4.result.now ≡ hearing c.args.number 0 items = c.deref-4.ensures.value ∙ c.in_ok-numbers.ensures.list ∙ ap
    (hearing c.args.number 0) c.deref-3.ensures.value in
    let woken : c.woken_by.result ≡ count_by (is_woken_by c.args.number) items = c.woken_by.ensures ∙ ap
    (count_by (is_woken_by c.args.number)) c.deref.ensures.value in
    let low : next + count_by (is_woken_by c.args.number) items < 2 ^ 64 = omega (arith, woken, c.next.ensures, c.if-woken_by-next.false) in
    let fits : list_any (overflows c.args.number c.args.count) items ≡ false = sym (c.any_overflows.ensures ∙ ap
    (list_any (overflows c.args.number c.args.count)) c.deref-2.ensures.value) ∙ c.if-any_overflows.false in
    let k = c.from-count.result in
    on_ok c.rouse.result _ _ c.rouse.ensures.ok (λ is.
    subst (λ (v : BaseValue). signal v c.args.number c.args.count ≡ Ok c.rouse.new.self) c.self.view_is
    (signal-done (base_of c.self.inside) c.rouse.new.self c.args.number c.args.count k c.deref-4.result.now numbers
    c.from-count.ensures c.if-count-eq0.false low fits
    (subst (λ (v : BaseValue). c.rouse.new.self ≡ with_parts v (risen 8 k k v.events v.next_activation c.deref-4.result.now)
    (v.next_activation + length (wakers v.events c.deref-4.result.now))) (sym c.self.view_is) is)))
