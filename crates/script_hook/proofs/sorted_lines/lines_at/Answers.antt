use Rattle.std.proofs.Common.{sym, subst, rules, ltb, leb}
use Rattle.std.specs.List.Sorted.{IsNonDecreasingBy}
use Rattle.std.proofs.lemmas.List.Sorted.{IsPartitionPoint-from_clause, IsPartitionedBy-ltb, IsPartitionedBy-leb, IsNonDecreasingBy-drop}
use Rattle.script_hook.specs.Keys.{line_key}
use Rattle.script_hook.proofs.KeyLemmas.{lines-here}
use Rattle.script_hook.proofs.sorted_lines.lines_at.Goals as goal

pub returns : goal.returns
returns c =
    let at = c.key_at-at.result in
    let lines = c.args.lines.now in
    let low = c.partition_point.result in
    let rest = c.split_at.result.1.now in
    let many = c.partition_point-2.result in
    let rises : IsNonDecreasingBy line_key rest =
    subst (IsNonDecreasingBy line_key) (sym c.split_at.ensures.back) (IsNonDecreasingBy-drop line_key low lines c.requires.sorted) in
    let below =
    IsPartitionPoint-from_clause (λ y. ltb (line_key y) at) lines low c.partition_point.ensures.partitioned
    (IsPartitionedBy-ltb line_key lines at c.requires.sorted) (λ a r q k. search rules) in
    let upto =
    IsPartitionPoint-from_clause (λ y. leb (line_key y) at) rest many c.partition_point-2.ensures.partitioned
    (IsPartitionedBy-leb line_key rest at rises) (λ a r q k. search rules) in
    lines-here c.args.kind c.args.nth at lines rest c.split_at-2.result.0.now low many c.key_at-at.ensures c.partition_point.ensures.bound
    c.partition_point-2.ensures.bound c.split_at.ensures.back c.split_at-2.ensures.front below upto
