use Rattle.std.proofs.Common.{◌≡◌, ◌∙◌, ◌+◌, ◌<◌, List, length, get_or, sym, ap, subst, arith}
use Rattle.std.specs.Prelude.{nat_eq}
use Rattle.std.proofs.lemmas.List.{with_items_is}
use Rattle.indexmap.specs.IndexMap.{insert_entry}
use Rattle.rate_group.specs.declared.group.Group.{Group}
use Rattle.rate_group.specs.GroupList.{Counted, CountsMove, HasMember, counts_of, one_of}
use Rattle.rate_group.specs.Steps.{group_of}
use Rattle.rate_group.proofs.MemberLemmas.{counted-move, room-move, has-member}
use Rattle.rate_group.proofs.groups.Groups.change.Goals as goal

pub move_member-requires-clause-before : goal.move_member-requires-clause-before
move_member-requires-clause-before c =
    let es = c.self.inside.members.entries in
    let has = has-member c.self.inside.groups.items es c.args.member c.self.invariant in
    subst (λ o. HasMember c.deref_mut.result.now o) (sym c.in_ok-before.ensures.old)
    (subst (λ z. HasMember z (group_of c.args.member es)) (sym c.deref_mut.ensures.value) has)

pub move_member-requires-clause-room : goal.move_member-requires-clause-room
move_member-requires-clause-room c =
    let es = c.self.inside.members.entries in
    let holds : Counted c.deref_mut.result.now es = subst (λ z. Counted z es) (sym c.deref_mut.ensures.value) c.self.invariant in
    let many : length (insert_entry nat_eq es c.args.member c.args.group) ≡ c.len-all.result =
    ap length (sym c.in_ok-before.ensures.entries) ∙ sym c.len-all.ensures.len in
    subst (λ o. get_or (counts_of c.deref_mut.result.now) c.args.group 0 < c.len-all.result + one_of c.args.group o)
    (sym c.in_ok-before.ensures.old)
    (room-move c.deref_mut.result.now es c.args.member c.args.group c.len-all.result holds many)

pub invariant_of-self-2 : goal.invariant_of-self-2
invariant_of-self-2 c =
    let old : List Group = c.deref_mut.result.now in
    let new : List Group = c.move_member.new.groups in
    let es = c.self.inside.members.entries in
    let long = c.move_member.ensures.long in
    let whole = with_items_is c.self.inside.groups new (let a = c.deref_mut.ensures.len in omega (arith, a, long)) in
    let holds : Counted old es = subst (λ z. Counted z es) (sym c.deref_mut.ensures.value) c.self.invariant in
    let within : c.args.group < length old =
    let a = c.if-group-len.false in let b = c.len.ensures in let d = c.deref_mut.ensures.len in omega (arith, a, b, d) in
    let moved : Counted new (insert_entry nat_eq es c.args.member c.args.group) =
    counted-move old new es c.args.member c.args.group holds within long
    (subst (λ o. CountsMove old new o c.args.group) c.in_ok-before.ensures.old c.move_member.ensures.counts) in
    subst (λ z. Counted z c.insert.new.self.entries) (sym whole)
    (subst (λ z. Counted new z) (sym c.in_ok-before.ensures.entries) moved)
