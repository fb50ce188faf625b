use Rattle.std.proofs.Common.{◌≡◌, ℕ, suc, ◌<◌, ◌+◌, length, drop, set, get_or, Some, None, option_map, true, ap, sym, ◌∙◌, subst, add-one}
use Rattle.evbuf.specs.Evbuffered.{Called}
use Rattle.evbuf.specs.declared.callback.SizeCallback.{SizeCallback}
use Rattle.evbuf.specs.Callbacks.{Callbacks, newest_waiting, after_report, report_of, reported, waits}
use Rattle.evbuf.proofs.CallbackLemmas.{newest_waiting-at, after_report-at}
use Rattle.evbuf.proofs.callback_list.CallbackList.take_report.Goals as goal

-- the place of the newest callback that has a report to make
abbrev NewestAt : Callbacks → ℕ → Type 0
NewestAt cs i = (i < length cs) × (newest_waiting (drop (i + 1) cs) ≡ None) × ((d : SizeCallback) → waits (get_or cs i d) ≡ true)

behind : (cs : Callbacks) (i : ℕ) → newest_waiting (drop (i + 1) cs) ≡ None → newest_waiting (drop (suc i) cs) ≡ None
behind cs i none = ap (λ k. newest_waiting (drop k cs)) (sym (add-one i)) ∙ none

pub returns-in-Some-clause-report : goal.returns-in-Some-clause-report
returns-in-Some-clause-report c =
    let items = c.self.inside.items.items in
    let d = c.index_mut.result.now in
    let place : NewestAt items c.in-Some.i = let P : Callbacks → Type 0 = λ cs. NewestAt cs c.in-Some.i in
    subst P c.deref.ensures.value c.in-Some.ensures.place in
    ap Some c.report-report.ensures.report
    ∙ ap (λ callback. Some (report_of callback)) c.index_mut.ensures.value
    ∙ ap (λ o. option_map report_of o) (sym (newest_waiting-at c.in-Some.i items d place.0 (place.2 d) (behind items c.in-Some.i place.1)))
    ∙ ap (λ (v : Called). option_map report_of (newest_waiting v.callbacks)) c.self.view_is

pub returns-in-Some-clause-callbacks : goal.returns-in-Some-clause-callbacks
returns-in-Some-clause-callbacks c =
    let items = c.self.inside.items.items in
    let d = c.index_mut.result.now in
    let place : NewestAt items c.in-Some.i = let P : Callbacks → Type 0 = λ cs. NewestAt cs c.in-Some.i in
    subst P c.deref.ensures.value c.in-Some.ensures.place in
    ap (λ callback. set items c.in-Some.i callback) c.report-report.ensures.after
    ∙ ap (λ callback. set items c.in-Some.i (reported callback)) c.index_mut.ensures.value
    ∙ sym (after_report-at c.in-Some.i items d place.0 (place.2 d) (behind items c.in-Some.i place.1))
    ∙ ap (λ (v : Called). after_report v.callbacks) c.self.view_is
