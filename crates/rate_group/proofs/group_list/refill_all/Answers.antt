use Rattle.std.proofs.Common.{◌≡◌, ◌∙◌, List, map, get_or, set, ap, sym, arith, append-nil}
use Rattle.std.specs.Prelude.{◌++◌}
use Rattle.std.proofs.Math.Seq.{map-set_same}
use Rattle.std.proofs.lemmas.List.{map-set, get_or-map, take_all, drop_all, length-map}
use Rattle.std.proofs.lemmas.List.Edits.{map_over_more}
use Rattle.rate_group.specs.declared.group.Group.{Group}
use Rattle.rate_group.specs.GroupValue.{GroupValue}
use Rattle.rate_group.specs.GroupList.{group_value, group_values}
use Rattle.rate_group.specs.Steps.{refilled_to}
use Rattle.rate_group.proofs.group_list.refill_all.Goals as goal

pub loop-group-preserved : goal.loop-group-preserved
loop-group-preserved c =
    let gs : List Group = c.loop-group.groups in
    let i = c.loop-group.group-index in
    let item : GroupValue = group_value (get_or gs i c.group-item.result) in
    let within = c.loop-group-test.true in
    let long = c.loop-group.auto.groups in
    let read : get_or (group_values gs) i item ≡ item =
    get_or-map group_value gs i c.group-item.result item (omega (arith, within, long)) in
    record {
      values =
          map-set group_value gs i c.refill.new.self
          ∙ ap (set (group_values gs) i) c.refill.ensures.value
          ∙ map_over_more (refilled_to c.args.now) (group_values c.args.groups.now) (group_values gs) i item
          (let k = length-map c.args.groups.now group_value in omega (arith, within, k)) c.loop-group.invariant.values (sym read);
      counts =
          map-set_same (λ (g : Group). g.count) gs i c.refill.new.self c.group-item.result c.refill.ensures.count
          ∙ c.loop-group.invariant.counts;
    }

pub returns-clause-values : goal.returns-clause-values
returns-clause-values c =
    let xs : List GroupValue = group_values c.args.groups.now in
    let i = c.loop-group.group-index in
    let past = c.loop-group-test.false in
    let k = length-map c.args.groups.now group_value in
    c.loop-group.invariant.values
    ∙ (λ j. map (refilled_to c.args.now) (take_all i xs (omega (arith, past, k)) j) ++ drop_all i xs (omega (arith, past, k)) j)
    ∙ append-nil (map (refilled_to c.args.now) xs)
