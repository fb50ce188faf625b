use Rattle.std.proofs.Common.{Result, Ok, Err, OnErr, ◌≤◌, ◌^◌, ◌≡◌, ◌+◌, ◌∙◌, sym, ap, subst, refl, map, take, filter}
use Rattle.std.specs.List.Sorted.{IsNonDecreasingBy}
use Rattle.relay_model.specs.Asks.{most_asks}
use Rattle.relay_model.specs.Hooked.{asked_in}
use Rattle.relay_model.specs.Plans.{acts_at, heard_of, kind_of}
use Rattle.script_hook.specs.Keys.{line_key}
use Rattle.script_hook.specs.Planning.{acts_in, is_at}
use Rattle.script_hook.proofs.PlanLemmas.{planned-push}
use Rattle.script_hook.specs.Planning.{IsCountedOut}
use Rattle.script_hook.proofs.script_hook.ScriptHookHook.fire.Goals as goal

pub lines_at-requires : goal.lines_at-requires
lines_at-requires c = record { sorted = subst (IsNonDecreasingBy line_key) (sym c.deref.ensures.value) c.self.invariant.sorted }

pub returns-clause-by_plan : goal.returns-clause-by_plan
returns-clause-by_plan c =
    let hook = c.self.inside in
    let why = c.args.why in
    let lent = c.ask_lines.new.ctl in
    let kind : c.kind-kind.result ≡ kind_of why = c.kind-kind.ensures in
    let counted : c.in_ok-nth.nth ≡ heard_of (kind_of why) hook.log.heard + 1 =
    c.in_ok-nth.ensures.count ∙ ap (λ n. n + 1) (c.self.invariant.counted c.kind-kind.result ∙ ap (λ k. heard_of k hook.log.heard) kind) in
    let lines : c.lines_at.result.now ≡ filter (is_at (kind_of why) (heard_of (kind_of why) hook.log.heard + 1)) hook.log.lines =
    c.lines_at.ensures
    ∙ (λ i. filter (is_at (kind i) (counted i)) (c.deref.ensures.value i))
    ∙ c.self.invariant.same (kind_of why) (heard_of (kind_of why) hook.log.heard + 1) in
    let now : map (λ x. x.0) (asked_in lent.me lent.log) ≡ acts_at hook.log.lines (kind_of why)
    (heard_of (kind_of why) hook.log.heard + 1) =
    ap (λ me. map (λ x. x.0) (asked_in me lent.log)) c.ask_lines.ensures.steps.me
    ∙ c.ask_lines.ensures.asked
    ∙ ap (λ z. take most_asks (acts_in z)) lines in
    rw (← c.self.view_is)
    (λ before. rw (c.then-self-inside.ensures.0, c.then-self-inside.ensures.1, c.then-self-inside.ensures.2)
    (planned-push hook.log.lines hook.log.heard hook.log.asked (asked_in lent.me lent.log) why before now))

on-err : {T E P : Type 0} (r : Result T E) → P → OnErr r P
on-err (Ok x) p = tt
on-err (Err e) p = p

pub returns-in_err-nth-clause-refused : goal.returns-in_err-nth-clause-refused
returns-in_err-nth-clause-refused c =
    let hook = c.self.inside in
    let full = c.in_err-nth.ensures.refused in
    let counted = c.self.invariant.counted c.kind-kind.result in
    let out : IsCountedOut c.kind-kind.result hook.log.heard = subst (λ n. 2 ^ 64 ≤ n + 1) counted full.0 in
    let heard : IsCountedOut (kind_of c.args.why) c.args.self.now.heard =
    subst (λ h. IsCountedOut (kind_of c.args.why) h) (ap (λ h. h.heard) c.self.view_is)
    (subst (λ k. IsCountedOut k hook.log.heard) c.kind-kind.ensures out) in
    on-err c.from_residual.result (heard, c.self.view_is, refl)
