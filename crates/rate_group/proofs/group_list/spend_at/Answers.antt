use Rattle.std.proofs.Math.Seq.{map-set_same}
use Rattle.rate_group.specs.declared.group.Group.{Group}
use Rattle.rate_group.specs.Steps.{spent_in}
use Rattle.rate_group.proofs.ListLemmas.{values-changed}
use Rattle.rate_group.proofs.group_list.spend_at.Goals as goal

pub returns-clause-values : goal.returns-clause-values
returns-clause-values c =
    values-changed c.args.groups.now c.args.at (spent_in c.args.dir c.args.n) c.spend.new.self c.index-groups-at.result c.requires.at
    c.spend.ensures.value

pub returns-clause-counts : goal.returns-clause-counts
returns-clause-counts c =
    map-set_same (λ (g : Group). g.count) c.args.groups.now c.args.at c.spend.new.self c.index-groups-at.result c.spend.ensures.count
