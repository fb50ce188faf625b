use Rattle.std.proofs.Common.{◌≡◌, ap, drop, length, subst, ◌∙◌}
use Rattle.std.specs.Prelude.{IfOk}
use Rattle.std.specs.Vec.Iter.{into_iter_items}
use Rattle.std.proofs.lemmas.Iterator.{items_from_collect}
use Rattle.std.proofs.lemmas.Iterator.Adapters.{YieldsList-from_skip, YieldsList-from_vec}
use Rattle.command_words.proofs.words.words_behind_name.Goals as goal

-- All but the first are collected.
pub returns-in_ok-collect-in-Ok-clause-words : goal.returns-in_ok-collect-in-Ok-clause-words
returns-in_ok-collect-in-Ok-clause-words c =
    let same = ap into_iter_items c.skip.ensures.source in
    let long = c.skip.result.iter.rest.ok.0 ∙ ap length same in
    let all = YieldsList-from_skip 1 (YieldsList-from_vec (into_iter_items c.in-Ok.args) same long) c.skip.ensures.count in
    let taken = items_from_collect c.collect.result c.collect.ensures.ran all in
    rw c.in-Ok.is (subst (λ r. IfOk r (λ w. w.items ≡ drop 1 (into_iter_items c.in-Ok.args))) c.in_ok-collect-in-Ok.was taken)
