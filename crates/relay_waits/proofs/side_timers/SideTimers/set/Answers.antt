use Rattle.std.proofs.Common.{◌≡◌, ◌∙◌, refl, sym, ap, cond, nat_eq, Some, None}
use Rattle.std.specs.Map.{lookup}
use Rattle.min_timer.specs.declared.timer.Timer as by_number
use Rattle.min_timer.specs.Queue.{with_timer, without}
use Rattle.relay_model.specs.Plain.{placed, without_timer}
use Rattle.relay_waits.specs.TimerSides.{timers_of}
use Rattle.relay_waits.proofs.KeptLemmas.{kept-as, kept-added, kept-replaced, replaced, added, after-replacing, was-kept, is-ok, AreWith}
use Rattle.relay_waits.proofs.side_timers.SideTimers.set.Goals as goal

pub invariant_of-self-in-Some : goal.invariant_of-self-in-Some
invariant_of-self-in-Some c =
    let t = c.self.inside in
    let n = c.number_of-number.result in
    let h = c.in-Some.before in
    let timer : by_number.Timer = record { deadline = c.args.deadline; key = n; handle = c.in-Ok.handle } in
    let same = c.reserve.ensures.entries in
    let is : lookup (nat_eq n) t.handles.entries ≡ Some h =
    ap (lookup (nat_eq n)) (sym same) ∙ was-kept c.insert.result c.unwrap.result _ c.unwrap.ensures c.insert.ensures.old ∙ c.in-Some.is in
    let are : AreWith n (Some c.in-Ok.handle) t.handles.entries c.insert.new.self.entries =
    λ q. (is-ok c.insert.result c.unwrap.result c.unwrap.ensures c.insert.ensures.updates).0 q
    ∙ ap (λ es. cond (nat_eq n q) (Some c.in-Ok.handle) (lookup (nat_eq q) es)) same in
    kept-as _ c.cancel.new.self.last (with_timer timer (without h t.timers.pending)) c.cancel.new.self.pending c.insert.new.self.entries
    (after-replacing n t.timers.last h timer t.timers.pending c.add.new.self.pending c.cancel.new.self.pending t.handles.entries
    c.self.invariant is c.in-Ok.ensures.numbered c.in-Ok.ensures.added c.cancel.ensures.left)
    (c.cancel.ensures.last ∙ c.in-Ok.ensures.counted)
    (kept-replaced n t.timers.last h timer t.timers.pending t.handles.entries c.insert.new.self.entries c.self.invariant is refl
    c.number_of-number.ensures.small c.in-Ok.ensures.numbered are)

pub invariant_of-self-in_default-unwrap : goal.invariant_of-self-in_default-unwrap
invariant_of-self-in_default-unwrap c =
    let t = c.self.inside in
    let n = c.number_of-number.result in
    let timer : by_number.Timer = record { deadline = c.args.deadline; key = n; handle = c.in-Ok.handle } in
    let same = c.reserve.ensures.entries in
    let none : lookup (nat_eq n) t.handles.entries ≡ None =
    ap (lookup (nat_eq n)) (sym same) ∙ was-kept c.insert.result c.unwrap.result _ c.unwrap.ensures c.insert.ensures.old
    ∙ c.in_default-unwrap.is in
    let are : AreWith n (Some c.in-Ok.handle) t.handles.entries c.insert.new.self.entries =
    λ q. (is-ok c.insert.result c.unwrap.result c.unwrap.ensures c.insert.ensures.updates).0 q
    ∙ ap (λ es. cond (nat_eq n q) (Some c.in-Ok.handle) (lookup (nat_eq q) es)) same in
    kept-as _ c.add.new.self.last (with_timer timer t.timers.pending) c.add.new.self.pending c.insert.new.self.entries
    c.in-Ok.ensures.added c.in-Ok.ensures.counted
    (kept-added n t.timers.last timer t.timers.pending t.handles.entries c.insert.new.self.entries c.self.invariant none refl
    c.number_of-number.ensures.small c.in-Ok.ensures.numbered are)

pub returns-in-Some-clause-ok : goal.returns-in-Some-clause-ok
returns-in-Some-clause-ok c =
    let t = c.self.inside in
    let n = c.number_of-number.result in
    let e = c.args.side in
    let h = c.in-Some.before in
    let timer : by_number.Timer = record { deadline = c.args.deadline; key = n; handle = c.in-Ok.handle } in
    let key = c.number_of-number.ensures.number in
    let is : lookup (nat_eq n) t.handles.entries ≡ Some h =
    ap (lookup (nat_eq n)) (sym c.reserve.ensures.entries)
    ∙ was-kept c.insert.result c.unwrap.result _ c.unwrap.ensures c.insert.ensures.old ∙ c.in-Some.is in
    ap timers_of (after-replacing n t.timers.last h timer t.timers.pending c.add.new.self.pending c.cancel.new.self.pending
    t.handles.entries c.self.invariant is c.in-Ok.ensures.numbered c.in-Ok.ensures.added c.cancel.ensures.left)
    ∙ replaced e t.timers.last h timer t.timers.pending t.handles.entries c.self.invariant
    (ap (λ m. lookup (nat_eq m) t.handles.entries) (sym key) ∙ is) key
    ∙ ap (λ ts. placed (record { side = e; deadline = c.args.deadline }) (without_timer e ts)) c.self.view_is

pub returns-in_default-unwrap-clause-ok : goal.returns-in_default-unwrap-clause-ok
returns-in_default-unwrap-clause-ok c =
    let t = c.self.inside in
    let n = c.number_of-number.result in
    let e = c.args.side in
    let timer : by_number.Timer = record { deadline = c.args.deadline; key = n; handle = c.in-Ok.handle } in
    let key = c.number_of-number.ensures.number in
    let none : lookup (nat_eq n) t.handles.entries ≡ None =
    ap (lookup (nat_eq n)) (sym c.reserve.ensures.entries)
    ∙ was-kept c.insert.result c.unwrap.result _ c.unwrap.ensures c.insert.ensures.old ∙ c.in_default-unwrap.is in
    ap timers_of c.in-Ok.ensures.added
    ∙ added e timer t.timers.pending t.handles.entries c.self.invariant.each
    (ap (λ m. lookup (nat_eq m) t.handles.entries) (sym key) ∙ none) key
    ∙ ap (λ ts. placed (record { side = e; deadline = c.args.deadline }) (without_timer e ts)) c.self.view_is
