use Rattle.std.proofs.Common.{◌∙◌, ◌+◌, ap, sym}
use Rattle.std.proofs.Math.Seq.{map-set_same}
use Rattle.rate_group.specs.GroupList.{group_value}
use Rattle.rate_group.proofs.ListLemmas.{counts-changed, count_at}
use Rattle.rate_group.proofs.group_list.add_member.Goals as goal

pub returns-clause-values : goal.returns-clause-values
returns-clause-values c =
    map-set_same group_value c.args.groups.now c.args.at c.join.new.self c.index-groups-at.result c.join.ensures.value

pub returns-clause-counts : goal.returns-clause-counts
returns-clause-counts c =
    counts-changed c.args.groups.now c.args.at _ c.join.new.self c.index-groups-at.result c.requires.at
    (c.join.ensures.count ∙ ap (λ n. n + 1) (sym (count_at c.args.groups.now c.args.at c.index-groups-at.result c.requires.at)))
