use Rattle.std.proofs.Common.{◌≡◌, ◌+◌, ◌*◌, ◌++◌, ◌∙◌, refl, sym, ap, subst, true, take, drop, arith, length-append, vec_capacity}
use Rattle.std.specs.List.{list_all}
use Rattle.filter_model.specs.Filter.{hex_in, is_hex}
use Rattle.stream_filters.specs.Parts.{ReadsPairs}
use Rattle.stream_filters.proofs.PairLemmas.{pairs-none, block-more, block-room}
use Rattle.stream_filters.proofs.hex_parts.pairs_by_blocks.Goals as goal

pub loop-at-init : goal.loop-at-init
loop-at-init c = record {
  pairs = pairs-none c.args.limit c.args.src.now c.args.dst.now.items (let b = c.requires.below in omega (arith, b));
  capacity = omega arith;
  block = refl;
}

pub loop-at-preserved : goal.loop-at-preserved
loop-at-preserved c =
    let src = c.args.src.now in
    let at = c.loop-at.at in
    let old = c.args.dst.now.items in
    let was = c.loop-at.invariant in
    let n = c.min-count.result in
    let digits = c.split_at-in-loop-at.ensures.front ∙ ap (take (2 * n)) c.split_at.ensures.back in
    let all : list_all is_hex (take (2 * n) (drop at src)) ≡ true =
    ap (list_all is_hex) (sym digits) ∙ sym c.read_digits.ensures.digits ∙ c.if-not-read_digits.false in
    let filled = c.put.ensures.items
    ∙ (λ i. c.loop-at.dst.items ++ c.read_digits.ensures.spelled c.if-not-read_digits.false i)
    ∙ (λ i. c.loop-at.dst.items ++ hex_in (digits i)) in
    record {
      pairs = subst (λ new. ReadsPairs c.args.limit src old new (at + 2 * n)) (sym filled)
          (block-more c.args.limit c.args.known.now.used c.args.known.now.last src old c.requires.even c.loop-at.dst.items at
          (vec_capacity c.args.dst.now) n was.pairs (omega arith) (omega arith) all);
      capacity = (let a = was.capacity in let b = c.put.ensures.capacity in omega (arith, a, b));
      block = (let l = length-append c.read_digits.new.block c.split_at_mut-places.result.1.now in
          let b = c.split_at_mut-places.ensures.back_len in let f = c.split_at_mut-places.ensures.front_len in
          let k = was.block in let a = c.read_digits.auto.block in omega (arith, l, b, f, k, a));
    }

pub put-requires : goal.put-requires
put-requires c =
    let src = c.args.src.now in
    let at = c.loop-at.at in
    let was = c.loop-at.invariant in
    let n = c.min-count.result in
    let digits = c.split_at-in-loop-at.ensures.front ∙ ap (take (2 * n)) c.split_at.ensures.back in
    let all : list_all is_hex (take (2 * n) (drop at src)) ≡ true =
    ap (list_all is_hex) (sym digits) ∙ sym c.read_digits.ensures.digits ∙ c.if-not-read_digits.false in
    let room = block-room c.args.limit c.args.known.now.used c.args.known.now.last src c.args.dst.now.items c.requires.even
    c.loop-at.dst.items at (vec_capacity c.args.dst.now) n was.pairs (omega arith) (omega arith) all c.requires.room in
    let f = c.split_at_mut-places.ensures.front_len in let a = c.read_digits.auto.block in
    omega (arith, room, was.capacity, f, a)
