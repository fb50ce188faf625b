use Rattle.std.proofs.Common.{◌<◌, List, length, get_or, sym, ap, subst, arith}
use Rattle.std.specs.Prelude.{nat_eq}
use Rattle.std.specs.Map.{remove_entry}
use Rattle.std.proofs.lemmas.List.{with_items_is}
use Rattle.rate_group.specs.declared.group.Group.{Group}
use Rattle.rate_group.specs.GroupList.{Counted, counts_of}
use Rattle.rate_group.proofs.MemberLemmas.{counted-left, has-member, long-set}
use Rattle.rate_group.proofs.groups.Groups.leave.Goals as goal

pub drop_member-requires-clause-at : goal.drop_member-requires-clause-at
drop_member-requires-clause-at c =
    let es = c.self.inside.members.entries in
    let has = has-member c.self.inside.groups.items es c.args.member c.self.invariant c.in-Some.group (sym c.in-Some.ensures.value) in
    let value = ap length c.deref_mut.ensures.value in
    let within = has.0 in
    omega (arith, within, value)

pub drop_member-requires-clause-some : goal.drop_member-requires-clause-some
drop_member-requires-clause-some c =
    let es = c.self.inside.members.entries in
    let has = has-member c.self.inside.groups.items es c.args.member c.self.invariant c.in-Some.group (sym c.in-Some.ensures.value) in
    subst (λ (z : List Group). 0 < get_or (counts_of z) c.in-Some.group 0) (sym c.deref_mut.ensures.value) has.1

pub invariant_of-self-2 : goal.invariant_of-self-2
invariant_of-self-2 c =
    let old : List Group = c.deref_mut.result.now in
    let new : List Group = c.drop_member.new.groups in
    let es = c.self.inside.members.entries in
    let counts = c.drop_member.ensures.counts in
    let long = long-set old new c.in-Some.group _ counts in
    let whole = with_items_is c.self.inside.groups new (let a = c.deref_mut.ensures.len in omega (arith, a, long)) in
    let holds : Counted old es = subst (λ z. Counted z es) (sym c.deref_mut.ensures.value) c.self.invariant in
    let left : Counted new (remove_entry (nat_eq c.args.member) es) =
    counted-left old new es c.args.member c.in-Some.group holds (sym c.in-Some.ensures.value) counts in
    subst (λ z. Counted z c.shift_remove.new.self.entries) (sym whole)
    (subst (λ z. Counted new z) (sym c.shift_remove.ensures.entries) left)
