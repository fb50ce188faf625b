use Rattle.std.proofs.Common.{◌-◌, ◌∙◌, ap, refl, subst, Ok, Err}
use Rattle.filter_model.specs.FilterStep.{Stepped}
use Rattle.stream_filters.specs.StepAnswers.{Answers}
use Rattle.stream_filters.specs.declared.fault.FilterFault.{FilterFault}
use Rattle.bev_core.specs.Steps.{held}
use Rattle.bev_filter.specs.Passing.{Crossing, passing}
use Rattle.bev_filter.proofs.PassingLemmas.{step-beside, passed-beside}
use Rattle.bev_filter.proofs.passing.pass_made.Goals as goal

pub returns-in-Ok-clause-passes : goal.returns-in-Ok-clause-passes
returns-in-Ok-clause-passes c =
    let p : Crossing = record { from = c.args.from.now; to = c.args.to.now; filter = c.args.filter.now } in
    let empty = c.new-made.ensures.items in
    let left = c.saturating_sub-room.ensures ∙ ap (λ n. c.args.limit - n) c.len.ensures.len in
    let e = step-beside c.args.dir p c.args.limit c.saturating_sub-room.result c.args.mode c.copied-next.result
    (held c.args.from.now c.args.dir).bytes c.new-made.result.items c.copied-next.ensures refl empty left in
    let h = subst (λ (s : Stepped). Answers (Ok c.in-Ok.step) s c.copied-next.result c.make_of-answer.new.filter c.new-made.result.items
    c.make_of-answer.new.made.items) e c.in-Ok.ensures.answers in (
      h.0,
      passed-beside c.args.dir p _ c.in-Ok.step.used c.make_of-answer.new.filter c.new-made.result.items c.make_of-answer.new.made.items
          c.deref.result.now c.drain.new.self c.feed.new.self h.0.used h.1 empty c.deref.ensures.value c.drain.ensures.bytes
          c.in_ok-feed-in-Ok.ensures.ok,
    )

pub returns-in-BadByte-clause-passes : goal.returns-in-BadByte-clause-passes
returns-in-BadByte-clause-passes c =
    let p : Crossing = record { from = c.args.from.now; to = c.args.to.now; filter = c.args.filter.now } in
    let empty = c.new-made.ensures.items in
    let left = c.saturating_sub-room.ensures ∙ ap (λ n. c.args.limit - n) c.len.ensures.len in
    let e = step-beside c.args.dir p c.args.limit c.saturating_sub-room.result c.args.mode c.copied-next.result
    (held c.args.from.now c.args.dir).bytes c.new-made.result.items c.copied-next.ensures refl empty left in
    let refused = subst (λ (s : Stepped). Answers (Err c.in-Err.fault) s c.copied-next.result c.make_of-answer.new.filter
    c.new-made.result.items c.make_of-answer.new.made.items) e c.in-Err.ensures.answers in
    let h = subst (λ (fault : FilterFault). Answers (Err fault) (passing c.args.dir p c.args.limit c.args.mode) c.copied-next.result
    c.make_of-answer.new.filter c.new-made.result.items c.make_of-answer.new.made.items) c.in-BadByte.is refused in (
      h.1,
      passed-beside c.args.dir p _ c.in-BadByte.used c.make_of-answer.new.filter c.new-made.result.items c.make_of-answer.new.made.items
          c.deref-in-BadByte.result.now c.drain-in-BadByte.new.self c.feed-in-BadByte.new.self h.0 h.2 empty
          c.deref-in-BadByte.ensures.value c.drain-in-BadByte.ensures.bytes c.in_ok-feed-in-BadByte.ensures.ok,
    )
