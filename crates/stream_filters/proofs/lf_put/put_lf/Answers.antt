use Rattle.std.proofs.Common.{◌++◌, ◌∙◌, ap, drop, length, arith, append_assoc, length-append}
use Rattle.filter_model.specs.Filter.{to_lf}
use Rattle.stream_filters.proofs.lf_put.put_lf.Goals as goal

pub put-requires : goal.put-requires
put-requires c =
    let src = c.args.src.now in
    let was = c.loop-at.invariant in
    let piece = c.split_at.result.0.now in
    let rest = to_lf (drop c.min-to.result src) in
    let made = ap length (ap (λ xs. xs ++ rest) c.split_at.ensures.front ∙ c.write_lf-end.ensures.text) in
    let held = ap length was.items in
    let grown = was.capacity in
    omega (
      arith,
      made,
      length-append piece rest,
      held,
      length-append c.loop-at.dst.items (to_lf (drop c.loop-at.at src)),
      length-append c.args.dst.now.items (to_lf src),
      grown,
      c.requires.room,
    )

pub loop-at-preserved : goal.loop-at-preserved
loop-at-preserved c =
    let src = c.args.src.now in
    let at = c.loop-at.at in
    let was = c.loop-at.invariant in
    let piece = c.split_at.result.0.now in
    let rest = to_lf (drop c.min-to.result src) in
    let made = ap (λ xs. xs ++ rest) c.split_at.ensures.front ∙ c.write_lf-end.ensures.text in
    let least = c.min-to.ensures in
    let sixteens = was.sixteens in
    record {
      sixteens = omega (arith, sixteens, least, c.requires.sixteens);
      within = omega (arith, least, c.loop-at-test.true);
      block = c.write_lf-end.ensures.len ∙ was.block;
      items =
          ap (λ xs. xs ++ rest) c.put.ensures.items ∙ append_assoc c.loop-at.dst.items piece rest
          ∙ ap (λ xs. c.loop-at.dst.items ++ xs) made ∙ was.items;
      capacity = (let a = c.put.ensures.capacity in let b = was.capacity in omega (arith, a, b));
    }
