use Rattle.std.proofs.Common.{◌≡◌, ◌≤◌, ◌∙◌, length, ap, sym, subst, OnOk, IfOk, vec_capacity}
use Rattle.ev_types.specs.declared.filter.FilterKind.{FilterKind}
use Rattle.filter_model.specs.Running.{Running}
use Rattle.stream_filters.specs.StepAnswers.{most_by_step}
use Rattle.bev_core.specs.BevValue.{BevValue}
use Rattle.bev_core.specs.Steps.{held}
use Rattle.bev_filter.specs.Passing.{Crossing}
use Rattle.bev_filter.specs.StepRoom.{HasStepRoom}
use Rattle.bev_world.specs.ByNumber.{filter_of, with_spare_in, target_of}
use Rattle.bev_world.specs.Filters.{crossing}
use Rattle.bev_world.specs.WorldValue.{slot_at, bev_at, with_bev}
use Rattle.bev_world.proofs.ByNumberLemmas.{to-target, filter-there, crossing-roomier}
use Rattle.bev_world.proofs.world.World.reserve_step_at.Goals as goal

pub returns-clause-stays : goal.returns-clause-stays
returns-clause-stays c =
    let w = c.args.self.now in
    let new = c.reserve_target.new.self in
    let t = to-target new c.args.dir c.args.at c.args.under in
    let is = c.reserve_target.ensures.stays
    ∙ ap (λ (b : BevValue). with_bev w (target_of c.args.dir c.args.at c.args.under)
    (with_spare_in (bev_at w (target_of c.args.dir c.args.at c.args.under)) c.args.dir (held b c.args.dir).spare)) (sym t) in
    is

pub returns-clause-crossing : goal.returns-clause-crossing
returns-clause-crossing c =
    let w = c.args.self.now in
    let new = c.reserve_target.new.self in
    let t = to-target new c.args.dir c.args.at c.args.under in
    let is = c.reserve_target.ensures.stays
    ∙ ap (λ (b : BevValue). with_bev w (target_of c.args.dir c.args.at c.args.under)
    (with_spare_in (bev_at w (target_of c.args.dir c.args.at c.args.under)) c.args.dir (held b c.args.dir).spare)) (sym t) in
    let same = crossing-roomier c.args.dir w new c.args.at c.args.under
    (held (crossing new c.args.dir c.args.at c.args.under).to c.args.dir).spare c.requires.there c.reserve_target.ensures.below is in
    same

pub returns-clause-spare : goal.returns-clause-spare
returns-clause-spare c =
    let w = c.args.self.now in
    let new = c.reserve_target.new.self in
    let t = to-target new c.args.dir c.args.at c.args.under in
    let u = to-target w c.args.dir c.args.at c.args.under in
    subst (λ (b : BevValue). (held b c.args.dir).spare ≤ (held (crossing new c.args.dir c.args.at c.args.under).to c.args.dir).spare)
    (sym u)
    (subst (λ (b : BevValue). (held (bev_at w (target_of c.args.dir c.args.at c.args.under)) c.args.dir).spare ≤ (held b c.args.dir).spare)
    (sym t) c.reserve_target.ensures.spare)

pub returns-clause-room : goal.returns-clause-room
returns-clause-room c =
    let w = c.args.self.now in
    let new = c.reserve_target.new.self in
    let t = to-target new c.args.dir c.args.at c.args.under in
    let is = c.reserve_target.ensures.stays
    ∙ ap (λ (b : BevValue). with_bev w (target_of c.args.dir c.args.at c.args.under)
    (with_spare_in (bev_at w (target_of c.args.dir c.args.at c.args.under)) c.args.dir (held b c.args.dir).spare)) (sym t) in
    let same = crossing-roomier c.args.dir w new c.args.at c.args.under
    (held (crossing new c.args.dir c.args.at c.args.under).to c.args.dir).spare c.requires.there c.reserve_target.ensures.below is in
    let kind : (crossing new c.args.dir c.args.at c.args.under).filter.kind ≡ (filter_of (slot_at w c.args.at) c.args.dir).kind =
    ap (λ (p : Crossing). p.filter.kind) same ∙ ap (λ (x : Running). x.kind) (filter-there w c.args.dir c.args.at c.args.under) in
    subst (λ (k : FilterKind). OnOk c.reserve_target.result (HasStepRoom k c.args.count
    (length (held (crossing new c.args.dir c.args.at c.args.under).to c.args.dir).bytes) c.args.limit
    (held (crossing new c.args.dir c.args.at c.args.under).to c.args.dir).spare (vec_capacity c.reserve_target.new.beside) c.args.made))
    (sym kind)
    (subst (λ (b : BevValue). OnOk c.reserve_target.result (HasStepRoom (filter_of (slot_at w c.args.at) c.args.dir).kind c.args.count
    (length (held b c.args.dir).bytes) c.args.limit (held b c.args.dir).spare (vec_capacity c.reserve_target.new.beside) c.args.made))
    (sym t)
    c.reserve_target.ensures.room)

pub returns-clause-most : goal.returns-clause-most
returns-clause-most c =
    let w = c.args.self.now in
    let new = c.reserve_target.new.self in
    let t = to-target new c.args.dir c.args.at c.args.under in
    let is = c.reserve_target.ensures.stays
    ∙ ap (λ (b : BevValue). with_bev w (target_of c.args.dir c.args.at c.args.under)
    (with_spare_in (bev_at w (target_of c.args.dir c.args.at c.args.under)) c.args.dir (held b c.args.dir).spare)) (sym t) in
    let same = crossing-roomier c.args.dir w new c.args.at c.args.under
    (held (crossing new c.args.dir c.args.at c.args.under).to c.args.dir).spare c.requires.there c.reserve_target.ensures.below is in
    let kind : (crossing new c.args.dir c.args.at c.args.under).filter.kind ≡ (filter_of (slot_at w c.args.at) c.args.dir).kind =
    ap (λ (p : Crossing). p.filter.kind) same ∙ ap (λ (x : Running). x.kind) (filter-there w c.args.dir c.args.at c.args.under) in
    subst (λ (k : FilterKind). IfOk c.reserve_target.result (λ most. most ≡ most_by_step k c.args.count
    (length (held (crossing new c.args.dir c.args.at c.args.under).to c.args.dir).bytes) c.args.limit)) (sym kind)
    (subst (λ (b : BevValue). IfOk c.reserve_target.result (λ most. most ≡ most_by_step (filter_of (slot_at w c.args.at) c.args.dir).kind
    c.args.count (length (held b c.args.dir).bytes) c.args.limit)) (sym t) c.reserve_target.ensures.most)

pub returns-clause-sure : goal.returns-clause-sure
returns-clause-sure c there =
    let w = c.args.self.now in
    let t = to-target w c.args.dir c.args.at c.args.under in
    let kind : (crossing w c.args.dir c.args.at c.args.under).filter.kind ≡ (filter_of (slot_at w c.args.at) c.args.dir).kind =
    ap (λ (x : Running). x.kind) (filter-there w c.args.dir c.args.at c.args.under) in
    c.reserve_target.ensures.sure
    (subst (λ (k : FilterKind). HasStepRoom k c.args.count
    (length (held (bev_at w (target_of c.args.dir c.args.at c.args.under)) c.args.dir).bytes) c.args.limit
    (held (bev_at w (target_of c.args.dir c.args.at c.args.under)) c.args.dir).spare (vec_capacity c.args.beside.now) c.args.made) kind
    (subst (λ (b : BevValue). HasStepRoom (crossing w c.args.dir c.args.at c.args.under).filter.kind c.args.count
    (length (held b c.args.dir).bytes) c.args.limit (held b c.args.dir).spare (vec_capacity c.args.beside.now) c.args.made) t there))
