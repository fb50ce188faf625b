use Rattle.std.proofs.Common.{List, sym, subst, arith}
use Rattle.std.proofs.lemmas.List.{with_items_is}
use Rattle.rate_group.specs.declared.group.Group.{Group}
use Rattle.rate_group.specs.GroupList.{Counted}
use Rattle.rate_group.proofs.MemberLemmas.{counted-same, long-counts}
use Rattle.rate_group.proofs.groups.Groups.refill.Goals as goal

pub invariant_of-self : goal.invariant_of-self
invariant_of-self c =
    let gs : List Group = c.self.inside.groups.items in
    let new : List Group = c.refill_all.new.groups in
    let es = c.self.inside.members.entries in
    let counts = c.refill_all.ensures.counts in
    let value = c.deref_mut.ensures.value in
    let long = long-counts c.deref_mut.result.now new counts in
    let whole = with_items_is c.self.inside.groups new (let a = c.deref_mut.ensures.len in omega (arith, a, long)) in
    subst (λ z. Counted z es) (sym whole)
    (counted-same c.deref_mut.result.now new es (subst (λ z. Counted z es) (sym value) c.self.invariant) counts)
