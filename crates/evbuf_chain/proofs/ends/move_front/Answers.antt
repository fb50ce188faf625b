use Rattle.std.proofs.Common.{◌≡◌, ◌≤◌, ◌++◌, length, take, ap, ◌∙◌, arith, append-nil, length-append, length-take}
use Rattle.evbuf_chain.specs.Mark.{unmarked}
use Rattle.evbuf_chain.specs.ChunkValue.{tickets_of, all_bytes, all_marks}
use Rattle.evbuf_chain.proofs.EndLemmas.{front-bytes, front-marks, front-taken, front-moved, front-copied, ended-own}
use Rattle.evbuf_chain.proofs.ends.move_front.Goals as goal

pub cut_front-requires-clause-there : goal.cut_front-requires-clause-there
cut_front-requires-clause-there c =
    omega (
      arith,
      c.move_whole-left.ensures.moves.beyond,
      c.requires.there,
      length-append c.args.chunks.now.bytes c.args.own.now.items,
      length-append c.move_whole-left.new.chunks.bytes c.args.own.now.items,
    )

pub put_behind-requires : goal.put_behind-requires
put_behind-requires c =
    let rest = c.move_whole-left.new.chunks in
    let own = c.args.own.now in
    let moved : c.cut_front.new.moved.bytes ++ c.in_ok-cut.cut.items ≡ take c.args.n (all_bytes c.args.chunks.now own) =
    ap (λ m. m.bytes ++ c.in_ok-cut.cut.items) c.in_ok-cut.ensures.moved
    ∙ ap (λ bs. c.move_whole-left.new.moved.bytes ++ bs) c.in_ok-cut.ensures.items
    ∙ front-taken c.args.chunks.now c.new-whole.result rest c.move_whole-left.new.moved own c.args.n c.move_whole-left.result
    c.move_whole-left.ensures.moves c.new-whole.ensures.bytes in
    omega (arith, ap length moved, length-take c.args.n (all_bytes c.args.chunks.now own), c.requires.to_fits)

pub returns-clause-bytes : goal.returns-clause-bytes
returns-clause-bytes c =
    c.in_ok-cut.ensures.bytes
    ∙ front-bytes c.args.chunks.now c.new-whole.result c.move_whole-left.new.chunks c.move_whole-left.new.moved c.args.own.now c.args.n
    c.move_whole-left.result c.move_whole-left.ensures.moves

pub returns-clause-marks : goal.returns-clause-marks
returns-clause-marks c =
    c.in_ok-cut.ensures.marks
    ∙ front-marks c.args.chunks.now c.new-whole.result c.move_whole-left.new.chunks c.move_whole-left.new.moved c.args.own.now c.args.n
    c.move_whole-left.result c.move_whole-left.ensures.moves c.len-marked.ensures.marked c.len-rest.ensures.marked

pub returns-clause-to_bytes : goal.returns-clause-to_bytes
returns-clause-to_bytes c =
    let to = all_bytes c.args.to.now c.args.to_own.now in
    c.put_behind.ensures.bytes
    ∙ ap (λ m. to ++ (m.bytes ++ c.in_ok-cut.cut.items)) c.in_ok-cut.ensures.moved
    ∙ ap (λ bs. to ++ (c.move_whole-left.new.moved.bytes ++ bs)) c.in_ok-cut.ensures.items
    ∙ ap (λ bs. to ++ bs)
    (front-taken c.args.chunks.now c.new-whole.result c.move_whole-left.new.chunks c.move_whole-left.new.moved c.args.own.now c.args.n
    c.move_whole-left.result c.move_whole-left.ensures.moves c.new-whole.ensures.bytes)

pub returns-clause-to_marks : goal.returns-clause-to_marks
returns-clause-to_marks c =
    let left = c.move_whole-left.result in
    let rest = c.move_whole-left.new.chunks in
    let own = c.args.own.now in
    let cut = c.in_ok-cut.cut in
    let to = all_marks c.args.to.now c.args.to_own.now in
    let there : left ≤ length (all_bytes rest own) =
    omega (
      arith,
      c.move_whole-left.ensures.moves.beyond,
      c.requires.there,
      length-append c.args.chunks.now.bytes own.items,
      length-append rest.bytes own.items,
    ) in
    let size : length c.in_ok-cut.cut.items ≡ left =
    omega (arith, ap length c.in_ok-cut.ensures.items, length-take left (all_bytes rest own), there) in
    c.put_behind.ensures.marks
    ∙ ap (λ m. to ++ (m.marks ++ unmarked (length c.in_ok-cut.cut.items))) c.in_ok-cut.ensures.moved
    ∙ ap (λ ms. to ++ ms)
    (front-moved c.args.chunks.now c.new-whole.result rest c.move_whole-left.new.moved own cut c.args.n left
    c.move_whole-left.ensures.moves c.new-whole.ensures.marks c.move_whole-left.ensures.no_mark c.len-marked.ensures.marked
    c.len-marked.ensures.whole c.requires.there size)

pub returns-clause-ended : goal.returns-clause-ended
returns-clause-ended c =
    c.in_ok-cut.ensures.ended
    ∙ ap (λ ts. tickets_of c.args.ended.now ++ ts)
    (ended-own c.move_whole-left.result c.move_whole-left.new.chunks.marks (length c.args.own.now.items) ∙ c.move_whole-left.ensures.no_end)
    ∙ append-nil (tickets_of c.args.ended.now)

pub returns-then-len-eq0-clause-to_marks : goal.returns-then-len-eq0-clause-to_marks
returns-then-len-eq0-clause-to_marks c =
    let left = c.move_whole-left.result in
    let rest = c.move_whole-left.new.chunks in
    let moved = c.move_whole-left.new.moved in
    let still : length moved.marks ≡ 0 = omega (arith, c.len.ensures.marked, c.len.ensures.len, c.if-len-eq0.true) in
    front-copied c.args.chunks.now c.new-whole.result rest moved c.args.to.now c.args.own.now c.args.to_own.now c.copy_front.new.into
    c.args.n left c.move_whole-left.ensures.moves c.new-whole.ensures.marks still c.move_whole-left.ensures.no_mark
    c.len-marked.ensures.marked c.len-marked.ensures.whole c.requires.there c.in_ok-copy_front.ensures.copied.items

pub returns-then-len-eq0-clause-ended : goal.returns-then-len-eq0-clause-ended
returns-then-len-eq0-clause-ended c =
    c.in_ok-copy_front.ensures.copied.ended
    ∙ ap (λ ts. tickets_of c.args.ended.now ++ ts)
    (ended-own c.move_whole-left.result c.move_whole-left.new.chunks.marks (length c.args.own.now.items) ∙ c.move_whole-left.ensures.no_end)
    ∙ append-nil (tickets_of c.args.ended.now)
