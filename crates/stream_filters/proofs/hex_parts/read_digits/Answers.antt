use Rattle.std.proofs.Common.{◌+◌, ◌*◌, ◌%◌, ◌<◌, ◌∙◌, sym, ap, length, arith}
use Rattle.std.specs.Prelude.{nat_lt, max, slice_index}
use Rattle.std.specs.List.{list_all}
use Rattle.std.proofs.lemmas.List.{length-set, take_all}
use Rattle.filter_model.specs.Filter.{hex_in, is_hex}
use Rattle.stream_filters.specs.Parts.{value_or_none}
use Rattle.stream_filters.proofs.BlockLemmas.{worst-next, spelled-next}
use Rattle.stream_filters.proofs.hex_parts.read_digits.Goals as goal

pub loop-at-preserved : goal.loop-at-preserved
loop-at-preserved c =
    let digits = c.args.digits.now in
    let block = c.loop-at.block in
    let at = c.loop-at.at in
    let was = c.loop-at.invariant in
    let high = c.value_or_none-high.ensures in
    let low = c.value_or_none-low.ensures in
    let within : 2 * at + 1 < length digits = (let p = c.requires in let t = c.loop-at-test.true in omega (arith, p, t)) in
    record {
      digits =
          ap (λ n. nat_lt n 16) (c.max-worst.ensures ∙ (λ i. max (c.max.ensures i) (low i)))
          ∙ (λ i. nat_lt (max (max c.loop-at.worst (high i)) (value_or_none (slice_index digits (2 * at + 1)))) 16)
          ∙ worst-next digits at c.loop-at.worst within was.digits;
      spelled = spelled-next digits block at _ within was.places was.spelled
          (λ i. (high i * 16 % 256 + low i) % 256);
      places = was.places ∙ ap (λ n. 2 * n) (sym (length-set block at _));
    }

pub returns-clause-digits : goal.returns-clause-digits
returns-clause-digits c =
    let digits = c.args.digits.now in
    let was = c.loop-at.invariant in
    was.digits ∙ ap (list_all is_hex) (take_all (2 * c.loop-at.at) digits
    (let p = c.requires in let f = c.loop-at-test.false in omega (arith, p, f)))

pub returns-clause-spelled : goal.returns-clause-spelled
returns-clause-spelled c small =
    let digits = c.args.digits.now in
    let at = c.loop-at.at in
    let was = c.loop-at.invariant in
    let all = take_all (2 * at) digits (let p = c.requires in let f = c.loop-at-test.false in omega (arith, p, f)) in
    sym (take_all at c.loop-at.block (let p = c.requires in let q = was.places in let f = c.loop-at-test.false in omega (arith, p, q, f)))
    ∙ was.spelled (sym was.digits ∙ small) ∙ ap hex_in all
