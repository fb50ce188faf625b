use Rattle.std.proofs.Common.{◌+◌, ◌++◌, ◌∙◌, take, drop, arith}
use Rattle.std.specs.Prelude.{slice_index}
use Rattle.filter_model.specs.Filter.{crlf_after}
use Rattle.stream_filters.proofs.CrlfLemmas.{crlf-further}
use Rattle.stream_filters.proofs.crlf_lanes.write_crlf.Goals as goal

pub loop-at-preserved : goal.loop-at-preserved
loop-at-preserved c =
    let src = c.args.src.now in
    let at = c.loop-at.at in
    let was = c.loop-at.invariant in
    let done = c.write_sixteen-end.ensures in
    record {
      sixteens = (let s = was.sixteens in omega (arith, s));
      within = omega (arith, c.loop-at-test.true);
      short = (let s = was.short in let m = done.within in omega (arith, s, m));
      len = done.len ∙ was.len;
      text =
          done.text ∙ (λ i. was.text i ++ crlf_after (slice_index src at) (take 16 (drop (at + 1) src)))
          ∙ crlf-further src at 16 was.within;
    }
