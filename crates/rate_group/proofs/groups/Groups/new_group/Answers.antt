use Rattle.std.proofs.Common.{List, sym, subst}
use Rattle.rate_group.specs.declared.group.Group.{Group}
use Rattle.rate_group.specs.GroupList.{Counted}
use Rattle.rate_group.proofs.MemberLemmas.{counted-push}
use Rattle.rate_group.proofs.groups.Groups.new_group.Goals as goal

pub invariant_of-self-2 : goal.invariant_of-self-2
invariant_of-self-2 c =
    let es = c.self.inside.members.entries in
    subst (λ z. Counted z es) (sym {A = List Group} c.in_ok-push.ensures.items)
    (counted-push c.self.inside.groups.items c.new.result es c.self.invariant c.new.ensures.count)
