use Rattle.std.proofs.Common.{◌≡◌, ◌∙◌, ◌+◌, List, ap, get_or, arith}
use Rattle.std.proofs.lemmas.List.{length-map}
use Rattle.rate_group.specs.declared.group.Group.{Group}
use Rattle.rate_group.specs.GroupList.{counts_of, one_at, one_of}
use Rattle.rate_group.proofs.ListLemmas.{one_more, one_less}
use Rattle.rate_group.proofs.group_list.move_member.Goals.{in-Some, in_default}
use Rattle.rate_group.proofs.group_list.move_member.Goals as goal

pub drop_member-requires-clause-at : goal.drop_member-requires-clause-at
drop_member-requires-clause-at c = (c.requires.before c.in-Some.before c.in-Some.is).0

pub returns-clause-counts : goal.returns-clause-counts
returns-clause-counts c = λ k.
    let old : List Group = c.args.groups.now in
    let between : List Group = c.match-before.groups in
    let at = c.args.at in
    let within = c.requires.at in
    let auto = c.match-before.auto.groups in
    let many = length-map between (λ (g : Group). g.count) in
    let many_old = length-map old (λ (g : Group). g.count) in
    let more : get_or (counts_of c.add_member.new.groups) k 0 ≡ get_or (counts_of between) k 0 + one_at k at =
    ap (λ cs. get_or cs k 0) c.add_member.ensures.counts ∙ one_more (counts_of between) at k (omega (arith, within, auto, many)) in
    let less : get_or (counts_of between) k 0 + one_of k c.args.before ≡ get_or (counts_of old) k 0 = elim c.match-before.branch [
      | in-Some w ↦
          let n = w.in-Some.before in
          let has = c.requires.before n w.in-Some.is in
          (λ i. get_or (counts_of (w.groups-is i)) k 0 + one_of k (w.in-Some.is i))
          ∙ ap (λ cs. get_or cs k 0 + one_at k n) w.drop_member.ensures.counts
          ∙ one_less (counts_of old) n k (let h = has.0 in omega (arith, h, many_old)) has.1
      | in_default w ↦
          (λ i. get_or (counts_of (w.groups-is i)) k 0 + one_of k (w.in_default.is i)) ∙ omega arith
    ] in
    omega (arith, more, less)
