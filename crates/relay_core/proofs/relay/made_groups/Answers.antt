use Rattle.std.proofs.Common.{◌≡◌, ◌∙◌, List, [], ◌∷◌, OnOk, refl, ap, subst}
use Rattle.std.specs.Prelude.{map}
use Rattle.rate_group.specs.declared.group_set.GroupSet.{GroupSet}
use Rattle.rate_group.specs.GroupValue.{GroupValue, GroupsValue}
use Rattle.rate_group.specs.GroupsCalls.{no_groups}
use Rattle.rate_group.specs.Steps.{all_made, with_groups, made}
use Rattle.relay_core.specs.GivenGroups.{group_given}
use Rattle.relay_state.specs.State.{new_groups}
use Rattle.relay_core.proofs.relay.made_groups.Goals as goal

made-alike : (xs : List GroupSet) → all_made 0 xs ≡ (new_groups (map group_given xs)).groups
made-alike [] = refl
made-alike (x ∷ xs) = ap (λ z. made x.cfg x.share 0 ∷ z) (made-alike xs)

-- all groups are made behind none
all-made : (x y : GroupsValue) (xs : List GroupSet) → x ≡ no_groups → y ≡ with_groups 0 xs x → y ≡ new_groups (map group_given xs)
all-made x y xs none is =
    is ∙ ap (with_groups 0 xs) none ∙ ap (λ (z : List GroupValue). (let w : GroupsValue = record { groups = z; members = [] } in w))
    (made-alike xs)

pub returns-in-Ok : goal.returns-in-Ok
returns-in-Ok c =
    all-made c.new-groups.result.value c.make_all.new.self.value c.args.given.now.groups.items c.new-groups.ensures
    (subst (λ r. OnOk r (c.make_all.new.self.value ≡ with_groups 0 c.deref.result.now c.new-groups.result.value)) c.in-Ok.is
    c.make_all.ensures.ok ∙ ap (λ xs. with_groups 0 xs c.new-groups.result.value) c.deref.ensures.value)
