use Rattle.std.proofs.Common.{◌+◌, ◌∙◌, sym, ap, subst, length, take, drop, arith, vec_capacity}
use Rattle.std.specs.List.{last_or}
use Rattle.stream_filters.specs.declared.knowledge.Knowledge.{Knowledge}
use Rattle.stream_filters.specs.Knowledge.{IsDigitLast}
use Rattle.stream_filters.specs.Parts.{AppendsPart}
use Rattle.stream_filters.proofs.AlongLemmas.{Along, along-more, along-ends, stops-full}
use Rattle.stream_filters.proofs.step.run.Goals as goal

pub loop-at-preserved : goal.loop-at-preserved
loop-at-preserved c =
    let k = c.args.kind in
    let limit = c.args.limit in
    let src = c.args.src.now in
    let at = c.loop-at.at in
    let now = c.loop-at.known in
    let used = c.part-used.result in
    let rest = c.split_at.ensures.back in
    let piece = c.split_at-in-loop-at.ensures.front ∙ ap (take used) rest in
    let part = subst (λ z. AppendsPart k limit now.used now.last z c.loop-at.dst.items c.part-used.new.dst.items used) rest
    c.part-used.ensures.part in
    let known = c.use_bytes.ensures ∙ (λ i. record now { used = now.used + length (piece i); last = last_or now.last (piece i) }) in
    let more = along-more k limit c.args.known.now now src c.args.dst.now.items c.loop-at.dst.items at
    (vec_capacity c.loop-at.dst) c.loop-at.invariant.along
    c.part-used.new.dst.items used (vec_capacity c.part-used.new.dst) part c.part-used.ensures.capacity in
    record {
      along = subst (λ z. Along k limit c.args.known.now z src c.args.dst.now.items c.part-used.new.dst.items (at + used)
          (vec_capacity c.part-used.new.dst)) (sym known) more;
      digit = subst (IsDigitLast k) (ap (λ z. last_or now.last (take used z)) rest
          ∙ sym (ap (λ (z : Knowledge). z.last) known)) c.part-used.ensures.digit;
      capacity = omega (arith, c.part-used.ensures.capacity, c.loop-at.invariant.capacity);
    }

pub returns-else-len-limit-clause-ran : goal.returns-else-len-limit-clause-ran
returns-else-len-limit-clause-ran c =
    let now = c.loop-at.known in
    along-ends c.args.kind c.args.limit c.args.known.now now c.args.src.now c.args.dst.now.items c.loop-at.dst.items c.loop-at.at
    (vec_capacity c.loop-at.dst) c.loop-at.invariant.along
    (stops-full c.args.kind c.args.limit (length c.loop-at.dst.items) now.used now.last (drop c.loop-at.at c.args.src.now) (omega arith))
