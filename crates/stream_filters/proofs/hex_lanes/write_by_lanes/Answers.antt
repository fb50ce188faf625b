use Rattle.std.proofs.Common.{◌+◌, ◌*◌, ◌∙◌, ◌≤◌, length, arith}
use Rattle.std.proofs.lemmas.Simd.{length-put_chunk}
use Rattle.stream_filters.proofs.HexBlockLemmas.{digits-vector}
use Rattle.stream_filters.proofs.hex_lanes.write_by_lanes.Goals as goal

pub loop-at-preserved : goal.loop-at-preserved
loop-at-preserved c =
    let bytes = c.args.bytes.now in
    let block = c.loop-at.block in
    let at = c.loop-at.at in
    let was = c.loop-at.invariant in
    let digits = c.two_digits-digits.result in
    let within : at + 16 ≤ length bytes = (let t = c.loop-at-test.true in let w = was.within in omega (arith, t, w)) in
    record {
      within = within;
      written = digits-vector bytes block digits at within was.places was.written c.two_digits-digits.ensures;
      places = length-put_chunk (2 * at) block digits ∙ was.places;
    }
