use Rattle.std.proofs.Common.{◌≡◌, ◌∙◌, List, length, sym, ap, subst}
use Rattle.rate_group.specs.declared.group_set.GroupSet.{GroupSet}
use Rattle.rate_group.specs.GroupValue.{GroupsValue, GroupsKept}
use Rattle.rate_group.specs.GroupView.{groups_value}
use Rattle.rate_group.specs.Steps.{with_groups}
use Rattle.rate_group.specs.GroupsCalls.{CallsLead, makings}
use Rattle.rate_group.proofs.MakingLemmas.{makings-lead}
use Rattle.rate_group.proofs.groups.Groups.make_all.Goals as goal

pub returns-clause-called : goal.returns-clause-called
returns-clause-called c =
    let now = c.args.now in
    let sets : List GroupSet = c.args.sets.now in
    let old : GroupsValue = c.args.self.now.value in
    let more : groups_value (record { groups = c.push_all.new.groups; members = c.self.inside.members })
    ≡ with_groups now sets (groups_value c.self.inside) =
    λ i. record { groups = c.in_ok-push_all.ensures.ok i; members = c.self.inside.members.entries } in
    let last = more ∙ ap (λ (v : GroupsKept). with_groups now sets v.value) c.self.view_is in
    subst (λ (v : GroupsValue). CallsLead old (makings now (length old.groups) sets) v) (sym last)
    (makings-lead now sets old c.requires.shares c.requires.numbers)
