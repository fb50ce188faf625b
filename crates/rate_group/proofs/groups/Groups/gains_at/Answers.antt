use Rattle.std.proofs.Common.{◌∙◌, List, ap}
use Rattle.rate_group.specs.declared.group.Group.{Group}
use Rattle.rate_group.specs.GroupValue.{GroupsKept}
use Rattle.rate_group.specs.GroupList.{gains_counted}
use Rattle.rate_group.specs.Gains.{first_moment, waiting_gains}
use Rattle.rate_group.proofs.GainLemmas.{gains-counted}
use Rattle.rate_group.proofs.groups.Groups.gains_at.Goals as goal

pub returns : goal.returns
returns c =
    let time = c.args.time in
    c.first_gain.ensures ∙ ap (λ (gs : List Group). first_moment (gains_counted time gs)) c.deref.ensures.value
    ∙ ap first_moment (gains-counted time c.self.inside.groups.items c.self.inside.members.entries c.self.invariant)
    ∙ ap (λ (v : GroupsKept). first_moment (waiting_gains time 0 v.value.members v.value.groups)) c.self.view_is
