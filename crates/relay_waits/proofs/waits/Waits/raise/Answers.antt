use Rattle.std.proofs.Common.{◌≡◌, ◌∙◌, true, false, sym, ap, slice_index_or}
use Rattle.std.specs.List.{list_any}
use Rattle.ev_types.specs.Sides.{same_end}
use Rattle.deferred_cb.specs.DueCalls as by_number
use Rattle.relay_model.specs.Due.{with_reason}
use Rattle.relay_waits.specs.DueSides.{dues}
use Rattle.relay_waits.specs.WaitsValue.{WaitsValue}
use Rattle.relay_waits.specs.WaitsView.{waits_value}
use Rattle.relay_waits.proofs.DueLemmas.{reasons-join}
use Rattle.relay_waits.proofs.HookLemmas.{hook-by_number}
use Rattle.relay_waits.proofs.WaitLemmas.{has-room, due-raised}
use Rattle.relay_waits.proofs.waits.Waits.raise.Goals as goal

pub schedule-requires : goal.schedule-requires
schedule-requires c =
    let hs = c.self.inside.hooked.items in
    let hook : slice_index_or hs c.number_of.result false ≡ true =
    ap (λ n. slice_index_or hs n false) c.number_of.ensures.number ∙ sym (hook-by_number hs c.args.side)
    ∙ ap (λ (v : WaitsValue). list_any (λ x. same_end x c.args.side) v.hooks) c.self.view_is ∙ c.requires in
    has-room hs c.self.inside.waiting c.self.inside.firing c.number_of.result c.self.invariant hook

pub invariant_of-self : goal.invariant_of-self
invariant_of-self c =
    let hs = c.self.inside.hooked.items in
    let hook : slice_index_or hs c.number_of.result false ≡ true =
    ap (λ n. slice_index_or hs n false) c.number_of.ensures.number ∙ sym (hook-by_number hs c.args.side)
    ∙ ap (λ (v : WaitsValue). list_any (λ x. same_end x c.args.side) v.hooks) c.self.view_is ∙ c.requires in
    due-raised hs c.self.inside.waiting c.schedule.new.self c.self.inside.firing c.number_of.result c.args.why c.self.invariant
    (hook, c.number_of.ensures.small) c.schedule.ensures.pending c.schedule.ensures.batch c.schedule.ensures.spare

pub returns : goal.returns
returns c =
    let es = c.self.inside.waiting.pending in
    let went : dues c.schedule.new.self.pending ≡ with_reason c.args.side c.args.why (dues es) =
    ap dues c.schedule.ensures.pending ∙ ap (λ n. dues (by_number.with_reason n c.args.why es)) c.number_of.ensures.number
    ∙ reasons-join c.args.side c.args.why es in
    ap (λ ds. record (waits_value c.self.inside) { due = ds }) went
    ∙ ap (λ (v : WaitsValue). record v { due = with_reason c.args.side c.args.why v.due }) c.self.view_is
