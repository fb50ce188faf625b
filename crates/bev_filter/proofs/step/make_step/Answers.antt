use Rattle.std.proofs.Common.{◌-◌, ◌∙◌, length, ap, refl, subst, arith}
use Rattle.filter_model.specs.FilterStep.{Stepped}
use Rattle.stream_filters.specs.StepAnswers.{WasMade}
use Rattle.stream_filters.proofs.GoOnLemmas.{step-most}
use Rattle.bev_core.specs.Steps.{held}
use Rattle.bev_filter.specs.Passing.{Crossing, stepping}
use Rattle.bev_filter.proofs.PassingLemmas.{step-near, made-near, fed-spare, passed-beside}
use Rattle.bev_filter.proofs.step.make_step.Goals as goal

pub feed_reserved-requires : goal.feed_reserved-requires
feed_reserved-requires c =
    let p : Crossing = record { from = c.args.from.now; to = c.args.to.now; filter = c.args.filter.now } in
    let e = step-near c.args.dir p c.args.limit c.saturating_sub-room.result (length c.clear.new.self.items) c.args.at_end
    c.args.filter.now c.all_of.result.now refl c.all_of.ensures (ap length c.clear.ensures.items)
    (c.saturating_sub-room.ensures ∙ ap (λ n. c.args.limit - n) c.len.ensures.len) in
    let w = subst (λ (s : Stepped). WasMade s c.make-used.new.self c.clear.new.self.items c.make-used.new.dst.items) e
    c.make-used.ensures.made in
    let made = made-near c.args.dir p c.args.limit c.args.at_end c.make-used.new.self c.clear.new.self.items c.make-used.new.dst.items
    c.clear.ensures.items w in
    omega (
      arith,
      ap length (c.deref.ensures.value ∙ made),
      step-most c.args.filter.now c.args.at_end c.args.limit (length (held c.args.to.now c.args.dir).bytes)
          (held c.args.from.now c.args.dir).bytes,
      c.requires.room,
    )

pub returns-clause-crossed : goal.returns-clause-crossed
returns-clause-crossed c =
    let p : Crossing = record { from = c.args.from.now; to = c.args.to.now; filter = c.args.filter.now } in
    let e = step-near c.args.dir p c.args.limit c.saturating_sub-room.result (length c.clear.new.self.items) c.args.at_end
    c.args.filter.now c.all_of.result.now refl c.all_of.ensures (ap length c.clear.ensures.items)
    (c.saturating_sub-room.ensures ∙ ap (λ n. c.args.limit - n) c.len.ensures.len) in
    let w = subst (λ (s : Stepped). WasMade s c.make-used.new.self c.clear.new.self.items c.make-used.new.dst.items) e
    c.make-used.ensures.made in
    passed-beside c.args.dir p (stepping c.args.dir p c.args.limit c.args.at_end) c.make-used.result c.make-used.new.self
    c.clear.new.self.items c.make-used.new.dst.items c.deref.result.now c.drain.new.self c.feed_reserved.new.self
    (c.make-used.ensures.used ∙ ap (λ (s : Stepped). s.used) e) w c.clear.ensures.items c.deref.ensures.value c.drain.ensures.bytes
    (fed-spare c.args.dir c.args.to.now c.feed_reserved.new.self c.deref.result.now _ c.feed_reserved.ensures)

pub returns-clause-made : goal.returns-clause-made
returns-clause-made c =
    let p : Crossing = record { from = c.args.from.now; to = c.args.to.now; filter = c.args.filter.now } in
    let e = step-near c.args.dir p c.args.limit c.saturating_sub-room.result (length c.clear.new.self.items) c.args.at_end
    c.args.filter.now c.all_of.result.now refl c.all_of.ensures (ap length c.clear.ensures.items)
    (c.saturating_sub-room.ensures ∙ ap (λ n. c.args.limit - n) c.len.ensures.len) in
    let w = subst (λ (s : Stepped). WasMade s c.make-used.new.self c.clear.new.self.items c.make-used.new.dst.items) e
    c.make-used.ensures.made in
    let made = made-near c.args.dir p c.args.limit c.args.at_end c.make-used.new.self c.clear.new.self.items c.make-used.new.dst.items
    c.clear.ensures.items w in
    omega (arith, c.len-2.ensures, ap length made)
