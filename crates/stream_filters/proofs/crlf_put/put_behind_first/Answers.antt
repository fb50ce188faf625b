use Rattle.std.proofs.Common.{◌+◌, ◌-◌, ◌++◌, ◌∙◌, ap, take, drop, length, arith, append_assoc, length-append}
use Rattle.std.specs.Prelude.{slice_index}
use Rattle.filter_model.specs.Filter.{crlf_after}
use Rattle.stream_filters.proofs.CrlfLemmas.{next-piece, crlf-some}
use Rattle.stream_filters.proofs.crlf_put.put_behind_first.Goals as goal

pub put-requires : goal.put-requires
put-requires c =
    let src = c.args.src.now in
    let at = c.loop-at.at in
    let was = c.loop-at.invariant in
    let piece = c.split_at-in-loop-at.result.0.now in
    let next = next-piece src _ piece at c.min.result was.within was.sixteens c.requires.sixteens c.split_at.ensures.back
    c.min.ensures c.split_at-in-loop-at.ensures.front in
    let front = crlf_after (slice_index src 0) (take at (drop 1 src)) in
    let whole = ap length next.made in
    let is = ap length (c.split_at-in-loop-at-2.ensures.front ∙ c.write_crlf-end.ensures.text) in
    let held = ap length was.items in
    let grown = was.capacity in
    let two = length-append front (crlf_after (slice_index piece 0) (drop 1 piece)) in
    let some = crlf-some (at + (length piece - 1)) (slice_index src 0) (drop 1 src) in
    omega (arith, whole, is, held, grown, two, length-append c.args.dst.now.items front, some, c.requires.room)

pub loop-at-preserved : goal.loop-at-preserved
loop-at-preserved c =
    let src = c.args.src.now in
    let at = c.loop-at.at in
    let was = c.loop-at.invariant in
    let piece = c.split_at-in-loop-at.result.0.now in
    let next = next-piece src _ piece at c.min.result was.within was.sixteens c.requires.sixteens c.split_at.ensures.back
    c.min.ensures c.split_at-in-loop-at.ensures.front in
    let old = c.args.dst.now.items in
    let is = c.split_at-in-loop-at-2.ensures.front ∙ c.write_crlf-end.ensures.text in
    record {
      sixteens = next.sixteens;
      within = next.within;
      block = c.write_crlf-end.ensures.len ∙ was.block;
      items =
          c.put.ensures.items ∙ (λ i. was.items i ++ is i)
          ∙ append_assoc old (crlf_after (slice_index src 0) (take at (drop 1 src))) (crlf_after (slice_index piece 0) (drop 1 piece))
          ∙ ap (λ xs. old ++ xs) next.made;
      capacity = (let a = c.put.ensures.capacity in let b = was.capacity in omega (arith, a, b));
    }
