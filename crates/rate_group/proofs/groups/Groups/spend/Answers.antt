use Rattle.std.proofs.Common.{◌∙◌, ◌≤◌, List, length, sym, ap, subst, arith}
use Rattle.std.specs.Prelude.{slice_get}
use Rattle.std.specs.Option.{IsSomeAnd}
use Rattle.std.proofs.lemmas.List.{with_items_is}
use Rattle.rate_group.specs.declared.group.Group.{Group}
use Rattle.rate_group.specs.GroupValue.{GroupsKept}
use Rattle.rate_group.specs.GroupList.{Counted}
use Rattle.rate_group.specs.Steps.{share_in}
use Rattle.rate_group.proofs.MemberLemmas.{counted-same, long-counts, has-member, within-share}
use Rattle.rate_group.proofs.groups.Groups.spend.Goals as goal

pub spend_at-requires-clause-at : goal.spend_at-requires-clause-at
spend_at-requires-clause-at c =
    let es = c.self.inside.members.entries in
    let has = has-member c.self.inside.groups.items es c.args.member c.self.invariant c.in-Some.group.now (sym c.in-Some.ensures.value) in
    let value = ap length c.deref_mut.ensures.value in
    let within = has.0 in
    omega (arith, within, value)

pub spend_at-requires-clause-within : goal.spend_at-requires-clause-within
spend_at-requires-clause-within c = λ g at.
    within-share c.self.inside.groups.items c.self.inside.members.entries c.args.member c.in-Some.group.now c.args.dir c.args.n
    c.self.invariant (sym c.in-Some.ensures.value)
    (subst (λ (v : GroupsKept). IsSomeAnd (share_in c.args.member c.args.dir v.value) (λ share. c.args.n ≤ share)) (sym c.self.view_is)
    c.requires)
    g (ap (λ (z : List Group). slice_get z c.in-Some.group.now) (sym c.deref_mut.ensures.value) ∙ at)

pub invariant_of-self : goal.invariant_of-self
invariant_of-self c =
    let gs : List Group = c.self.inside.groups.items in
    let new : List Group = c.spend_at.new.groups in
    let es = c.self.inside.members.entries in
    let counts = c.spend_at.ensures.counts in
    let value = c.deref_mut.ensures.value in
    let long = long-counts c.deref_mut.result.now new counts in
    let whole = with_items_is c.self.inside.groups new (let a = c.deref_mut.ensures.len in omega (arith, a, long)) in
    subst (λ z. Counted z es) (sym whole)
    (counted-same c.deref_mut.result.now new es (subst (λ z. Counted z es) (sym value) c.self.invariant) counts)
