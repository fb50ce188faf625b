use Rattle.std.proofs.Common.{◌≡◌, ℕ, ◌-◌, ◌^◌, min, List, drop, length, ap, ◌∙◌, arith}
use Rattle.std.specs.Prelude.{sum_by}
use Rattle.std.proofs.lemmas.List.{drop_all}
use Rattle.script_port.specs.ScriptState.{EndKept}
use Rattle.script_port.proofs.ScriptPendingLemmas.{sum_of_states}
use Rattle.script_port.proofs.script_links.ScriptLinks.unread.Goals as goal

pub returns : goal.returns
returns c =
    let items = c.deref-end-items.result.now in
    let bytes = λ (e : EndKept). length e.state.pending in
    let none : sum_by bytes (drop c.loop-end.end-index items) ≡ 0 = ap (sum_by bytes) (drop_all c.loop-end.end-index items (omega arith)) in
    let left = c.loop-end.invariant.left in
    let fits = c.loop-end.invariant.fits in
    let all : c.loop-end.sum ≡ min (sum_by bytes items) (2 ^ 64 - 1) = omega (arith, none, left, fits) in
    rw (← c.self.view_is) (all ∙ ap (λ (es : List EndKept). min (sum_by bytes es) (2 ^ 64 - 1)) c.deref-end-items.ensures.value
    ∙ ap (λ (n : ℕ). min n (2 ^ 64 - 1)) (sum_of_states c.self.inside.ends.items))
