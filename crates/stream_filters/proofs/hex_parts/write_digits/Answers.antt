use Rattle.std.proofs.Common.{◌+◌, ◌*◌, ◌∙◌, sym, ap, take, arith}
use Rattle.std.specs.Prelude.{slice_set}
use Rattle.std.proofs.lemmas.List.{length-set, take_all}
use Rattle.filter_model.specs.Filter.{hex_out}
use Rattle.stream_filters.proofs.BlockLemmas.{digits-next}
use Rattle.stream_filters.proofs.hex_parts.write_digits.Goals as goal

pub loop-at-preserved : goal.loop-at-preserved
loop-at-preserved c =
    let bytes = c.args.bytes.now in
    let block = c.loop-at.block in
    let at = c.loop-at.at in
    let was = c.loop-at.invariant in
    let p = c.hex_digit.ensures in
    let q = c.hex_digit-in-loop-at.ensures in
    record {
      written =
          (λ i. take (2 * (at + 1)) (slice_set (slice_set block (2 * at) (p i)) (2 * at + 1) (q i)))
          ∙ digits-next bytes block at c.loop-at-test.true was.places was.written;
      places =
          length-set (slice_set block (2 * at) c.hex_digit.result) (2 * at + 1) c.hex_digit-in-loop-at.result
          ∙ length-set block (2 * at) c.hex_digit.result ∙ was.places;
    }

pub returns : goal.returns
returns c =
    let bytes = c.args.bytes.now in
    let block = c.loop-at.block in
    let at = c.loop-at.at in
    let was = c.loop-at.invariant in
    sym (take_all (2 * at) block (let p = was.places in let f = c.loop-at-test.false in omega (arith, p, f)))
    ∙ was.written ∙ ap hex_out (take_all at bytes c.loop-at-test.false)
