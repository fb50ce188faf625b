use Rattle.std.proofs.Common.{◌≡◌, ◌++◌, ◌∙◌, ◌==◌, ap, length, arith, vec_capacity}
use Rattle.std.specs.Prelude.{nat_lt}
use Rattle.filter_model.specs.FilterStep.{stop_place, is_finished}
use Rattle.stream_filters.specs.Knowledge.{running_of}
use Rattle.stream_filters.proofs.GoOnLemmas.{room-all, room-run, room-end, used-is, after-is, filled-is}
use Rattle.stream_filters.proofs.step.run_on.Goals as goal

pub run-used-requires-clause-room : goal.run-used-requires-clause-room
run-used-requires-clause-room c =
    let known = c.args.known.now in
    let old = c.args.dst.now in
    room-run c.args.kind c.args.limit c.args.over known c.args.src.now old.items c.requires.open c.requires.unstopped
    (vec_capacity old)
    (room-all c.args.kind c.args.limit c.args.over known c.args.src.now old.items c.requires.open c.requires.unstopped
    (vec_capacity old) c.requires.room)

pub put-requires : goal.put-requires
put-requires c =
    let k = c.args.kind in
    let known = c.args.known.now in
    let src = c.args.src.now in
    let old = c.args.dst.now in
    let over = c.args.over in
    let after = c.run-used.new.known in
    let mid = c.run-used.new.dst in
    let all = room-all k c.args.limit over known src old.items c.requires.open c.requires.unstopped (vec_capacity old) c.requires.room in
    let ran = c.run-used.ensures.ran in
    let room : nat_lt c.len.result c.args.limit ≡ nat_lt (length mid.items) c.args.limit =
    ap (λ m. nat_lt m c.args.limit) (let e : c.len.result ≡ length mid.items = omega arith in e) in
    let fin = c.is_over-known.ensures
    ∙ (λ i. is_finished (running_of k after) (c.run-used.result == length src) over (room i)) in
    let end = room-end k c.args.limit over known src old.items c.requires.open c.requires.unstopped after mid.items c.run-used.result ran
    (vec_capacity old) c.is_over-known.result fin all in
    omega (arith, end, ap length c.end_bytes.ensures, c.run-used.ensures.capacity)

pub returns-clause-used : goal.returns-clause-used
returns-clause-used c =
    used-is c.args.kind c.args.limit c.args.over c.args.known.now c.args.src.now c.args.dst.now.items c.requires.open
    c.requires.unstopped c.run-used.new.known c.run-used.new.dst.items c.run-used.result c.run-used.ensures.ran

pub returns-clause-made : goal.returns-clause-made
returns-clause-made c =
    let k = c.args.kind in
    let known = c.args.known.now in
    let src = c.args.src.now in
    let old = c.args.dst.now in
    let over = c.args.over in
    let after = c.run-used.new.known in
    let mid = c.run-used.new.dst in
    let ran = c.run-used.ensures.ran in
    let room : nat_lt c.len.result c.args.limit ≡ nat_lt (length mid.items) c.args.limit =
    ap (λ m. nat_lt m c.args.limit) (let e : c.len.result ≡ length mid.items = omega arith in e) in
    let fin = c.is_over-known.ensures
    ∙ (λ i. is_finished (running_of k after) (c.run-used.result == length src) over (room i)) in
    let stop = c.stop_place-known.ensures
    ∙ (λ i. stop_place (running_of k after) (c.run-used.result == length src) over (room i)) in
    record {
      after_it = after-is k c.args.limit over known src old.items c.requires.open c.requires.unstopped after mid.items
          c.run-used.result ran c.is_over-known.result c.stop_place-known.result fin stop;
      filled_by_it =
          c.put.ensures.items ∙ ap (λ z. mid.items ++ z) c.end_bytes.ensures
          ∙ filled-is k c.args.limit over known src old.items c.requires.open c.requires.unstopped after mid.items
          c.run-used.result ran c.is_over-known.result fin;
    }
