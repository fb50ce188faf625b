use Rattle.std.proofs.Common.{◌≡◌, ◌++◌, ◌∙◌, sym, ap, take, drop, length, arith, append_assoc, length-append}
use Rattle.std.proofs.Math.Seq.{take-add}
use Rattle.filter_model.specs.Filter.{hex_out}
use Rattle.filter_model.proofs.FilterLemmas.{hex_out-append}
use Rattle.stream_filters.proofs.PartLemmas.{length-hex_out}
use Rattle.stream_filters.proofs.hex_parts.put_digits.Goals as goal

pub loop-at-preserved : goal.loop-at-preserved
loop-at-preserved c =
    let bytes = c.args.bytes.now in
    let at = c.loop-at.at in
    let was = c.loop-at.invariant in
    let old = c.args.dst.now.items in
    let piece = c.split_at-in-loop-at.result.0.now in
    let n = length piece in
    let same : piece ≡ take n (drop at bytes) =
    c.split_at-in-loop-at.ensures.front ∙ (λ i. take (sym c.split_at-in-loop-at.ensures.front_len i) (c.split_at.ensures.back i)) in
    let many = length-hex_out piece in
    let written = ap length c.write_digits.ensures in
    record {
      items =
          c.put.ensures.items
          ∙ (λ i. was.items i ++ c.write_digits.ensures i)
          ∙ append_assoc old (hex_out (take at bytes)) (hex_out piece)
          ∙ (λ i. old ++ sym (hex_out-append (take at bytes) piece) i)
          ∙ (λ i. old ++ hex_out (take at bytes ++ same i))
          ∙ (λ i. old ++ hex_out (sym (take-add at n bytes) i));
      len = (let a = c.put.ensures.len in let b = was.len in omega (arith, a, b, written, many));
      capacity = (let a = c.put.ensures.capacity in let b = was.capacity in omega (arith, a, b));
      within = (let a = c.split_at-in-loop-at.ensures.back_len in let b = c.split_at.ensures.back_len in
          let w = was.within in omega (arith, a, b, w));
      block = (let l = length-append c.write_digits.new.block c.split_at_mut-places.result.1.now in
          let b = c.split_at_mut-places.ensures.back_len in let k = was.block in omega (arith, l, b, k, written, many));
    }
