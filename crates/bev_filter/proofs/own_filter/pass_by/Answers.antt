use Rattle.std.proofs.Common.{◌-◌, ◌∙◌, ap, refl, subst, Err}
use Rattle.stream_filters.specs.StreamSteps.{MakesStep}
use Rattle.bev_core.specs.Steps.{held}
use Rattle.bev_filter.specs.PassingBy.{Between}
use Rattle.bev_filter.proofs.PassingByLemmas.{passed-on, passed-bad}
use Rattle.bev_filter.proofs.own_filter.pass_by.Goals as goal

pub returns-in_ok-trade-in-Ok : goal.returns-in_ok-trade-in-Ok
returns-in_ok-trade-in-Ok g c =
    let left = c.saturating_sub-room.ensures ∙ ap (λ n. c.args.limit - n) c.len.ensures.len in
    record {
      passes = passed-on _ _ _ c.args.dir c.args.limit c.args.mode
          (record { from = c.args.from.now; to = c.args.to.now; by = c.args.filter.now }) c.copied-next.result c.step_of.new.filter
          c.saturating_sub-room.result (held c.args.from.now c.args.dir).bytes c.new-made.result.items c.step_of.new.made.items
          c.deref.result.now c.trade.new.from c.trade.new.to c.copied-next.ensures refl left c.new-made.ensures.items c.deref.ensures.value
          c.in-Ok.step c.in-Ok.ensures.steps c.in_ok-trade-in-Ok.ensures.trades;
    }

pub returns-in_ok-trade-in-Err-BadByte : goal.returns-in_ok-trade-in-Err-BadByte
returns-in_ok-trade-in-Err-BadByte g c =
    let left = c.saturating_sub-room.ensures ∙ ap (λ n. c.args.limit - n) c.len.ensures.len in
    let steps = subst (λ fault. MakesStep g.F.StreamFilter.filter g.F.StreamFilter.reached g.F.StreamFilter.known c.args.mode
    c.saturating_sub-room.result (held c.args.from.now c.args.dir).bytes (Err fault) c.copied-next.result c.step_of.new.filter
    c.new-made.result.items c.step_of.new.made.items) c.in-Err-BadByte.field-0-is c.in-Err-BadByte.ensures.steps in
    record {
      passes = passed-bad _ _ _ c.args.dir c.args.limit c.args.mode
          (record { from = c.args.from.now; to = c.args.to.now; by = c.args.filter.now }) c.copied-next.result c.step_of.new.filter
          c.saturating_sub-room.result (held c.args.from.now c.args.dir).bytes c.new-made.result.items c.step_of.new.made.items
          c.deref-in-Err-BadByte.result.now c.trade-in-Err-BadByte.new.from c.trade-in-Err-BadByte.new.to c.copied-next.ensures
          refl left c.new-made.ensures.items c.deref-in-Err-BadByte.ensures.value c.in-Err-BadByte.used
          c.in-Err-BadByte.place steps c.in_ok-trade-in-Err-BadByte.ensures.trades;
    }
