use Rattle.std.proofs.Common.{◌∙◌, List, sym, ap, arith, Some}
use Rattle.rate_group.specs.declared.group.Group.{Group}
use Rattle.rate_group.specs.GroupValue.{GroupsKept}
use Rattle.rate_group.specs.Steps.{share_in}
use Rattle.rate_group.proofs.MemberLemmas.{has-member, count-read, count-some, share-read}
use Rattle.rate_group.proofs.groups.Groups.share.Goals as goal

pub index-requires : goal.index-requires
index-requires c =
    let es = c.self.inside.members.entries in
    let has = has-member c.self.inside.groups.items es c.args.member c.self.invariant c.in-Some.group.now (sym c.in-Some.ensures.value) in
    let within = has.0 in
    let long = c.self.inside.groups.ok.0 in
    omega (arith, within, long)

pub share-requires : goal.share-requires
share-requires c =
    let gs : List Group = c.self.inside.groups.items in
    let es = c.self.inside.members.entries in
    let known = sym c.in-Some.ensures.value in
    let has = has-member gs es c.args.member c.self.invariant c.in-Some.group.now known in
    let count = count-read gs es c.in-Some.group.now c.index.result.now c.self.invariant has.0 c.index.ensures in
    let some = count-some c.args.member c.in-Some.group.now es known in
    omega (arith, count, some)

pub returns : goal.returns
returns c =
    let gs : List Group = c.self.inside.groups.items in
    let es = c.self.inside.members.entries in
    let known = sym c.in-Some.ensures.value in
    let has = has-member gs es c.args.member c.self.invariant c.in-Some.group.now known in
    ap Some c.share.ensures
    ∙ share-read gs es c.args.member c.in-Some.group.now c.args.dir c.index.result.now c.self.invariant known has.0 c.index.ensures
    ∙ ap (λ (v : GroupsKept). share_in c.args.member c.args.dir v.value) c.self.view_is
