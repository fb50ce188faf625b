use Rattle.std.proofs.Common.{◌≡◌, ◌∙◌, ◌++◌, [], ◌∷◌, List, take, get_or, map, append-nil, sym, ap, subst, arith, append_assoc}
use Rattle.std.proofs.lemmas.List.{map-append, map_more, take_all}
use Rattle.rate_group.specs.declared.group.Group.{Group}
use Rattle.rate_group.specs.declared.group_set.GroupSet.{GroupSet}
use Rattle.rate_group.specs.GroupValue.{GroupValue}
use Rattle.rate_group.specs.GroupList.{group_value, group_values, Counted}
use Rattle.rate_group.specs.Steps.{made}
use Rattle.rate_group.proofs.MemberLemmas.{counted-push}
use Rattle.rate_group.proofs.group_list.push_all.Goals as goal

pub loop-set-init : goal.loop-set-init
loop-set-init c =
    let room = c.in_ok-reserve.ensures.ok in
    let items = c.in_ok-reserve.ensures.items in
    record {
      values = ap group_values items ∙ sym (append-nil (group_values c.args.groups.now.items));
      counted = λ members h. subst (λ (z : List Group). Counted z members) (sym items) h;
      room = omega (arith, room);
    }

pub unwrap-requires : goal.unwrap-requires
unwrap-requires c =
    let room = c.loop-set.invariant.room in
    let more = c.loop-set-test.true in
    c.push.ensures.succeeds (omega (arith, room, more))

pub loop-set-preserved : goal.loop-set-preserved
loop-set-preserved c =
    let sets : List GroupSet = c.args.sets.now in
    let i = c.loop-set.set-index in
    let before : List GroupValue = group_values c.args.groups.now.items in
    let gs : List Group = c.loop-set.groups.items in
    let make : GroupSet → GroupValue = λ s. made s.cfg s.share c.args.now in
    let items : c.push.new.self.items ≡ gs ++ c.new.result ∷ [] = rw c.unwrap.ensures at c.push.ensures.items in
    let len = rw c.unwrap.ensures at c.push.ensures.len in
    record {
      values =
          ap group_values items ∙ map-append group_value gs (c.new.result ∷ [])
          ∙ ap (λ (v : GroupValue). group_values gs ++ v ∷ []) (c.new.ensures.value ∙ ap make c.set-item.is)
          ∙ ap (λ vs. vs ++ make (get_or sets i c.set-item.result) ∷ []) c.loop-set.invariant.values
          ∙ append_assoc before (map make (take i sets)) (make (get_or sets i c.set-item.result) ∷ [])
          ∙ ap (λ vs. before ++ vs) (sym (map_more make sets i c.set-item.result c.loop-set-test.true));
      counted = λ members h.
          subst (λ (z : List Group). Counted z members) (sym items)
          (counted-push gs c.new.result members (c.loop-set.invariant.counted members h) c.new.ensures.count);
      room = let was = c.loop-set.invariant.room in let a = c.push.ensures.capacity in omega (arith, was, len, a);
    }

pub returns-clause-ok : goal.returns-clause-ok
returns-clause-ok c =
    let sets : List GroupSet = c.args.sets.now in
    let make : GroupSet → GroupValue = λ s. made s.cfg s.share c.args.now in
    c.loop-set.invariant.values
    ∙ ap (λ (xs : List GroupSet). group_values c.args.groups.now.items ++ map make xs)
    (take_all c.loop-set.set-index sets c.loop-set-test.false)

pub returns-clause-counted : goal.returns-clause-counted
returns-clause-counted c = c.loop-set.invariant.counted
