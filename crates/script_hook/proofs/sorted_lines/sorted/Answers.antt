use Rattle.std.proofs.Common.{◌≡◌, ◌∙◌, ap, rules, filter}
use Rattle.std.proofs.lemmas.List.Sorted.{IsNonDecreasingBy-from_sort_by_key, answers_always}
use Rattle.script_hook.specs.Keys.{line_key}
use Rattle.script_hook.specs.Planning.{is_at}
use Rattle.script_hook.proofs.KeyLemmas.{same-sorted}
use Rattle.script_hook.proofs.sorted_lines.sorted.Goals as goal

pub returns-clause-sorted : goal.returns-clause-sorted
returns-clause-sorted c =
    IsNonDecreasingBy-from_sort_by_key line_key _ c.in_ok-sort_by_key.ensures.sorted (λ a r q k. search rules)

pub returns-clause-same : goal.returns-clause-same
returns-clause-same c = λ k n.
    same-sorted k n c.in_ok-kept.kept.items c.sort_by_key.new.self.items
    (c.in_ok-sort_by_key.ensures.stable line_key (answers_always _ (λ a r. r ≡ line_key a.0.now) _ (λ f a r q k. search rules)))
    ∙ ap (filter (is_at k n)) c.in_ok-kept.ensures.items
