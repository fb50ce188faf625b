use Rattle.std.proofs.Common.{◌≡◌, ◌+◌, ◌*◌, ◌∙◌, ◌≤◌, length, sym, ap, arith}
use Rattle.std.specs.Simd.Lanes.{chunk, put_chunk}
use Rattle.std.proofs.lemmas.Simd.{length-put_chunk}
use Rattle.stream_filters.proofs.HexBlockLemmas.{spelled-vector, worst-vector, mask_small}
use Rattle.stream_filters.proofs.hex_lanes.read_by_lanes.Goals as goal

pub loop-block-preserved : goal.loop-block-preserved
loop-block-preserved c =
    let digits = c.args.digits.now in
    let block = c.loop-block.block in
    let at = c.loop-block.at in
    let was = c.loop-block.invariant in
    let worst = c.loop-block.worst in
    let values = c.values_of-values.result in
    let bytes = c.spelled_by.result in
    let same : length (put_chunk at block bytes) ≡ length block = length-put_chunk at block bytes in
    let within : at + 16 ≤ length block = (let t = c.loop-block-test.true in let w = was.within in omega (arith, t, w)) in
    let inside : 2 * at + 32 ≤ length digits = (let p = was.places in omega (arith, within, p)) in
    record {
      within = omega (arith, within, same);
      digits = worst-vector digits worst values at c.loop-block.auto.worst.0 (omega arith) was.digits c.values_of-values.ensures.small;
      spelled =
          spelled-vector digits block bytes at inside was.places (omega arith) was.spelled
          (λ all. c.spelled_by.ensures (chunk (2 * at) 32 digits) all (c.values_of-values.ensures.values all));
      places = was.places ∙ ap (λ n. 2 * n) (sym same);
    }

pub returns-clause-digits : goal.returns-clause-digits
returns-clause-digits c = mask_small c.loop-block.worst c.loop-block.auto.worst.0 ∙ c.loop-block.invariant.digits

pub returns-clause-spelled : goal.returns-clause-spelled
returns-clause-spelled c none =
    let was = c.loop-block.invariant in
    was.spelled (sym was.digits ∙ sym (mask_small c.loop-block.worst c.loop-block.auto.worst.0) ∙ none)
