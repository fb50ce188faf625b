use Rattle.std.proofs.Common.{◌≡◌, length, sym, ap, ◌∙◌, arith, rules}
use Rattle.std.specs.Prelude.{◌==◌, ◌&&◌}
use Rattle.std.specs.VecDeque.{deque_len}
use Rattle.deferred_cb.specs.DueCalls.{all_calls}
use Rattle.deferred_cb.specs.DueValue.{DueValue}
use Rattle.deferred_cb.proofs.CallLemmas.{no-calls-test}
use Rattle.deferred_cb.proofs.due.Due.is_empty.Goals as goal

pub returns-then-is_empty : goal.returns-then-is_empty
returns-then-is_empty c =
    let none : length c.self.inside.pending.entries ≡ 0 = search rules in
    let many : deque_len c.self.inside.batch ≡ length c.self.inside.batch.items = omega (arith, c.self.inside.batch.ok.0) in
    c.is_empty-then-is_empty.ensures ∙ ap (λ n. n == 0) many ∙ no-calls-test c.self.inside.batch.items c.self.invariant.left
    ∙ ap (λ n. (n == 0) && (length (all_calls c.self.inside.batch.items) == 0)) (sym none)
    ∙ ap (λ (z : DueValue). (length z.pending == 0) && (length z.batch == 0)) c.self.view_is
