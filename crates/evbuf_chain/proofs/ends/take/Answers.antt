use Rattle.std.proofs.Common.{◌≤◌, ◌++◌, length, take, ap, sym, ◌∙◌, arith, append_assoc, length-append, length-take}
use Rattle.evbuf_chain.specs.ChunkValue.{tickets_of}
use Rattle.evbuf_chain.proofs.EndLemmas.{drained-bytes, drained-marks, drained-ended, take-append}
use Rattle.evbuf_chain.proofs.ends.take.Goals as goal

pub push-requires : goal.push-requires
push-requires c =
    omega (
      arith,
      ap length c.first.ensures,
      ap length c.as_slice.ensures,
      length-take c.gather-left.result c.as_slice.result.now,
      c.gather-left.ensures.room,
      c.requires.room,
    )

pub drop_front-requires : goal.drop_front-requires
drop_front-requires c =
    omega (arith, c.gather-left.ensures.drained.left, c.requires.there, length-append c.args.chunks.now.bytes c.args.own.now.items)

pub returns : goal.returns
returns c =
    let left = c.gather-left.result in
    let so = c.gather-left.ensures.drained in
    let released = tickets_of c.args.ended.now in
    let now = tickets_of c.gather-left.new.ended in
    let there : left ≤ length c.args.own.now.items =
    omega (arith, so.left, c.requires.there, length-append c.args.chunks.now.bytes c.args.own.now.items) in
    record {
      bytes =
          drained-bytes c.args.chunks.now c.gather-left.new.chunks c.args.own.now c.drop_front.new.self released now c.args.n left so
          c.drop_front.ensures.items;
      marks =
          drained-marks c.args.chunks.now c.gather-left.new.chunks c.args.own.now c.drop_front.new.self released now c.args.n left so
          c.len-marked.ensures.marked c.drop_front.ensures.items;
      ended = drained-ended c.args.chunks.now c.gather-left.new.chunks c.args.own.now released now c.args.n left so;
      items =
          c.push.ensures.items
          ∙ ap (λ bs. bs ++ c.first.result.now) c.gather-left.ensures.into
          ∙ append_assoc c.args.into.now.items (take c.args.n c.args.chunks.now.bytes) c.first.result.now
          ∙ ap (λ bs. c.args.into.now.items ++ bs)
          (ap (λ bs. take c.args.n c.args.chunks.now.bytes ++ bs)
          (c.first.ensures ∙ ap (λ bs. take left bs) c.as_slice.ensures ∙ ap (λ k. take k c.args.own.now.items) so.left)
          ∙ sym (take-append c.args.n c.args.chunks.now.bytes c.args.own.now.items));
      room =
          omega (
            arith,
            c.push.ensures.spare,
            ap length c.first.ensures,
            ap length c.as_slice.ensures,
            length-take left c.as_slice.result.now,
            there,
            c.gather-left.ensures.room,
            c.requires.room,
          );
      spare = c.drop_front.ensures.spare;
    }
