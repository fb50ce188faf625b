use Rattle.std.proofs.Common.{◌+◌, ◌++◌, ◌∷◌, [], ◌∙◌, sym, subst, refl, slice_index, arith, vec_capacity}
use Rattle.stream_filters.specs.Parts.{ReadsPairs}
use Rattle.stream_filters.proofs.PairLemmas.{pair-cases, pair-more, pair-room}
use Rattle.stream_filters.proofs.hex_parts.hex_pairs.Goals as goal

pub loop-at-init : goal.loop-at-init
loop-at-init c = record { pairs = c.pairs_by_blocks-at.ensures.pairs; capacity = c.pairs_by_blocks-at.ensures.capacity }

pub put_byte-requires : goal.put_byte-requires
put_byte-requires c =
    let src = c.args.src.now in
    let at = c.loop-at.at in
    let x = slice_index src at in
    let y = slice_index src (at + 1) in
    let is = pair-cases x y c.in-Some.value (sym c.in-Some.is ∙ c.pair_value.ensures) in
    let room = pair-room c.args.limit c.args.known.now.used c.args.known.now.last src c.args.dst.now.items c.requires.even
    c.loop-at.dst.items at (vec_capacity c.args.dst.now) x y c.loop-at.invariant.pairs refl refl is.first is.second
    (omega arith) (omega arith) c.requires.room in
    omega (arith, room, c.loop-at.invariant.capacity)

pub loop-at-preserved : goal.loop-at-preserved
loop-at-preserved c =
    let src = c.args.src.now in
    let at = c.loop-at.at in
    let old = c.args.dst.now.items in
    let x = slice_index src at in
    let y = slice_index src (at + 1) in
    let is = pair-cases x y c.in-Some.value (sym c.in-Some.is ∙ c.pair_value.ensures) in
    let put = c.put_byte.ensures.items ∙ (λ i. c.loop-at.dst.items ++ is.value i ∷ []) in
    record {
      pairs = subst (λ new. ReadsPairs c.args.limit src old new (at + 2)) (sym put)
          (pair-more c.args.limit c.args.known.now.used c.args.known.now.last src old c.requires.even c.loop-at.dst.items at
          (vec_capacity c.args.dst.now) x y c.loop-at.invariant.pairs refl refl is.first is.second (omega arith) (omega arith));
      capacity = (let a = c.loop-at.invariant.capacity in let b = c.put_byte.ensures.capacity in omega (arith, a, b));
    }
