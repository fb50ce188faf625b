-- The due events become active, and then the batch is fixed.
use Rattle.std.proofs.Common.{◌≡◌, ◌∙◌, ℕ, ◌+◌, ◌<◌, ◌^◌, max, sym, ap, subst, map, count_by, length}
use Rattle.std.proofs.Common.{Ok, IfErr, true, false, not, List, arith}
use Rattle.std.proofs.lemmas.Bool.{ltb-true, not-false}
use Rattle.event_base.specs.declared.event.Event.{Event}
use Rattle.event_base.specs.Base.{BaseValue}
use Rattle.event_base.specs.BaseView.{base_of}
use Rattle.std.proofs.lemmas.Result.{err_from_is_err_and}
use Rattle.event_base.specs.Deadlines.{due_at}
use Rattle.std.specs.List.{list_any}
use Rattle.event_base.specs.Turns.{time_at, is_due, wakes, timed_out}
use Rattle.event_base.specs.Calls.{IsAnswer, begin_turn, ended, fit}
use Rattle.event_base.specs.Faults.{from_timers}
use Rattle.event_base.specs.Rousing.{risen, wakers}
use Rattle.event_base.proofs.TurnLemmas.{risen-due, can-due, apart-due, wakers-due, IsOpen-start}
use Rattle.event_base.proofs.CallLemmas.{if_err, answer-memory, begin_turn-ok, begin_turn-done, with_parts}
use Rattle.event_base.proofs.WantLemmas.{numbers-some, Rises-some, due-any}
use Rattle.event_base.proofs.base.Base.begin_turn.Goals as goal

-- the numbers that do not run out are enough
room_left : {seen items : List Event} {told next : ℕ} (time : ℕ) → told ≡ next → seen ≡ items
    → not (fit told (count_by (wakes time) seen)) ≡ false → next + count_by (wakes time) items < 2 ^ 64
room_left {items = items} {next = next} time number same enough =
    ltb-true (next + count_by (wakes time) items) (2 ^ 64)
    (rw (← number, ← same) (not-false _ enough))

pub returns-in_err-due-clause-refused : goal.returns-in_err-due-clause-refused
returns-in_err-due-clause-refused c =
    let items = c.self.inside.events.items in
    let next = c.self.inside.ready.next in
    let time = c.max-time.result in
    let moments = c.self.inside.deadlines.moments in
    let low : next + count_by (wakes time) items < 2 ^ 64 = room_left time c.next.ensures c.deref.ensures.value
    (sym c.runs_out_at.ensures ∙ c.if-runs_out_at.false) in
    let at_time : time ≡ time_at c.self.inside.time c.args.now = c.max-time.ensures ∙ ap (max c.self.inside.time) c.min.ensures in
    let low_then : next + count_by (wakes (time_at c.self.inside.time c.args.now)) items < 2 ^ 64 = subst
    (λ t. next + count_by (wakes t) items < 2 ^ 64) at_time low in
    let good = begin_turn-ok (base_of c.self.inside) c.args.now low_then in
    let p = err_from_is_err_and c.from_residual.result c.from_residual.ensures.1 in
    subst (λ (v : BaseValue). IfErr c.from_residual.result (λ fault. IsAnswer fault (begin_turn v c.args.now))) c.self.view_is
    (if_err c.from_residual.result p.0 (λ fault. IsAnswer fault (begin_turn (base_of c.self.inside) c.args.now)) p.1
    (answer-memory (begin_turn (base_of c.self.inside) c.args.now) _ p.0 good (p.2 ∙ ap from_timers c.in_err-due.ensures.refused)))

pub returns-in_err-due-clause-memory : goal.returns-in_err-due-clause-memory
returns-in_err-due-clause-memory c = λ wanted.
    let items = c.self.inside.events.items in
    let time = c.max-time.result in
    let moments = c.self.inside.deadlines.moments in
    let at_time : time ≡ time_at c.self.inside.time c.args.now = c.max-time.ensures ∙ ap (max c.self.inside.time) c.min.ensures in
    let start = IsOpen-start time moments items c.self.invariant.kept.timed in
    let some = c.in_err-due.ensures.some in
    let there = start.open_ones some.0 some.1 some.2 in
    let any : list_any (is_due time) items ≡ true = due-any time items some.0 some.1 there.0 there.1 there.2 in
    subst (λ (v : BaseValue). list_any (is_due (time_at v.time c.args.now)) v.events ≡ true) c.self.view_is
    (subst (λ t. list_any (is_due t) items ≡ true) at_time any)

pub rouse-requires-clause-can : goal.rouse-requires-clause-can
rouse-requires-clause-can c =
    let items = c.self.inside.events.items in
    let next = c.self.inside.ready.next in
    let time = c.max-time.result in
    let moments = c.self.inside.deadlines.moments in
    let low : next + count_by (wakes time) items < 2 ^ 64 = room_left time c.next.ensures c.deref.ensures.value
    (sym c.runs_out_at.ensures ∙ c.if-runs_out_at.false) in
    let at_time : time ≡ time_at c.self.inside.time c.args.now = c.max-time.ensures ∙ ap (max c.self.inside.time) c.min.ensures in
    let start = IsOpen-start time moments items c.self.invariant.kept.timed in
    let due = c.in_ok-due.due.items in
    let rises = c.in_ok-due.ensures.events in
    rw (c.deref-2.ensures.value, ← c.self.view_is) (can-due time due next items (due_at time moments) start rises low)

pub rouse-requires-clause-apart : goal.rouse-requires-clause-apart
rouse-requires-clause-apart c = rw c.deref-2.ensures.value (apart-due c.in_ok-due.due.items
    (due_at c.max-time.result c.self.inside.deadlines.moments) c.in_ok-due.ensures.events)

pub rouse-requires-clause-fits : goal.rouse-requires-clause-fits
rouse-requires-clause-fits c =
    let items = c.self.inside.events.items in
    let next = c.self.inside.ready.next in
    let time = c.max-time.result in
    let moments = c.self.inside.deadlines.moments in
    let low : next + count_by (wakes time) items < 2 ^ 64 = room_left time c.next.ensures c.deref.ensures.value
    (sym c.runs_out_at.ensures ∙ c.if-runs_out_at.false) in
    let at_time : time ≡ time_at c.self.inside.time c.args.now = c.max-time.ensures ∙ ap (max c.self.inside.time) c.min.ensures in
    let start = IsOpen-start time moments items c.self.invariant.kept.timed in
    let due = c.in_ok-due.due.items in
    let rises = c.in_ok-due.ensures.events in
    let total : length (wakers items due) ≡ count_by (wakes time) items = wakers-due time due items (due_at time moments) start rises in
    rw (c.deref-2.ensures.value, ← c.self.view_is) (omega (arith, total, low))

pub returns-in_err-rouse-clause-refused : goal.returns-in_err-rouse-clause-refused
returns-in_err-rouse-clause-refused c =
    let items = c.self.inside.events.items in
    let next = c.self.inside.ready.next in
    let time = c.max-time.result in
    let moments = c.self.inside.deadlines.moments in
    let low : next + count_by (wakes time) items < 2 ^ 64 = room_left time c.next.ensures c.deref.ensures.value
    (sym c.runs_out_at.ensures ∙ c.if-runs_out_at.false) in
    let at_time : time ≡ time_at c.self.inside.time c.args.now = c.max-time.ensures ∙ ap (max c.self.inside.time) c.min.ensures in
    let low_then : next + count_by (wakes (time_at c.self.inside.time c.args.now)) items < 2 ^ 64 = subst
    (λ t. next + count_by (wakes t) items < 2 ^ 64) at_time low in
    let good = begin_turn-ok (base_of c.self.inside) c.args.now low_then in
    let p = err_from_is_err_and c.from_residual-in_err-rouse.result c.from_residual-in_err-rouse.ensures.1 in
    subst (λ (v : BaseValue). IfErr c.from_residual-in_err-rouse.result (λ fault. IsAnswer fault (begin_turn v c.args.now))) c.self.view_is
    (if_err c.from_residual-in_err-rouse.result p.0 (λ fault. IsAnswer fault (begin_turn (base_of c.self.inside) c.args.now)) p.1
    (answer-memory (begin_turn (base_of c.self.inside) c.args.now) _ p.0 good (p.2 ∙ c.in_err-rouse.ensures.refused)))

pub returns-in_err-rouse-clause-memory : goal.returns-in_err-rouse-clause-memory
returns-in_err-rouse-clause-memory c = λ wanted.
    let items = c.self.inside.events.items in
    let time = c.max-time.result in
    let moments = c.self.inside.deadlines.moments in
    let at_time : time ≡ time_at c.self.inside.time c.args.now = c.max-time.ensures ∙ ap (max c.self.inside.time) c.min.ensures in
    let start = IsOpen-start time moments items c.self.invariant.kept.timed in
    let due = c.in_ok-due.due.items in
    let many : 0 < length due = subst (λ ks. 0 < length ks) c.deref-2.ensures.value (numbers-some _ _ c.in_err-rouse.ensures.some) in
    let some = Rises-some due (due_at time moments) c.in_ok-due.ensures.events many in
    let there = start.open_ones some.0 some.1 some.2 in
    let any : list_any (is_due time) items ≡ true = due-any time items some.0 some.1 there.0 there.1 there.2 in
    subst (λ (v : BaseValue). list_any (is_due (time_at v.time c.args.now)) v.events ≡ true) c.self.view_is
    (subst (λ t. list_any (is_due t) items ≡ true) at_time any)

pub returns-clause-ok : goal.returns-clause-ok
returns-clause-ok c =
    let items = c.self.inside.events.items in
    let next = c.self.inside.ready.next in
    let time = c.max-time.result in
    let moments = c.self.inside.deadlines.moments in
    let low : next + count_by (wakes time) items < 2 ^ 64 = room_left time c.next.ensures c.deref.ensures.value
    (sym c.runs_out_at.ensures ∙ c.if-runs_out_at.false) in
    let at_time : time ≡ time_at c.self.inside.time c.args.now = c.max-time.ensures ∙ ap (max c.self.inside.time) c.min.ensures in
    let start = IsOpen-start time moments items c.self.invariant.kept.timed in
    let due = c.in_ok-due.due.items in
    let rises = c.in_ok-due.ensures.events in
    let numbers = c.deref-2.result.now in
    let is_due = c.deref-2.ensures.value in
    let events : risen 1 1 0 items next numbers ≡ map (timed_out time next items) items = ap (risen 1 1 0 items next) is_due ∙
    risen-due time due next items (due_at time moments) start rises in
    let total : length (wakers items numbers) ≡ count_by (wakes time) items = ap (λ ks. length (wakers items ks)) is_due ∙
    wakers-due time due items (due_at time moments) start rises in
    let mid : c.rouse.new.self ≡ with_parts (base_of c.self.inside) (risen 1 1 0 items next numbers)
    (next + length (wakers items numbers)) =
    subst (λ (v : BaseValue). c.rouse.new.self ≡ with_parts v (risen 1 1 0 v.events v.next_activation numbers)
    (v.next_activation + length (wakers v.events numbers))) (sym c.self.view_is) c.in_ok-rouse.ensures.ok in
    subst (λ (v : BaseValue). begin_turn v c.args.now ≡ Ok c.fix_batch.new.self) c.self.view_is
    (begin_turn-done (base_of c.self.inside) c.rouse.new.self c.fix_batch.new.self c.args.now time numbers c.ended-over.result
    at_time (c.ended-over.ensures ∙ ap ended (sym c.self.view_is)) events total low mid c.fix_batch.ensures)
