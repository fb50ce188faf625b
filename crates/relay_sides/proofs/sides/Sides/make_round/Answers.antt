use Rattle.std.proofs.Common.{true, false, ap, sym, ◌∙◌}
use Rattle.relay_state.specs.Passage.{hold_part, read_part, move_part, write_part}
use Rattle.relay_sides.specs.Links.{passage_at, with_passage}
use Rattle.relay_sides.proofs.LinksLemmas.{with_same}
use Rattle.relay_sides.proofs.RoundParts.{part_then, lane_then, input_room_kept, read_end, output_room_then, keeps_then, keeps_same}
use Rattle.relay_sides.proofs.RoundParts.{whole_round, end_round, no_round, not_so, so}
use Rattle.relay_sides.proofs.sides.Sides.make_round.Goals as goal

pub run_read_filter-requires-clause-room : goal.run_read_filter-requires-clause-room
run_read_filter-requires-clause-room c =
    let v = c.args.self.now in
    let e = c.args.from in
    let t = c.args.round in
    let w = c.hold_back.new.self in
    input_room_kept t.mark v.links w.links v.rooms w.rooms e
    (lane_then v.links w.links e c.hold_back.ensures.pairs c.requires.opened
    (hold_part t.hold (passage_at v.links e)) c.hold_back.ensures.links)
    c.hold_back.ensures.rooms c.requires.input

pub run_write_filter-requires-clause-room : goal.run_write_filter-requires-clause-room
run_write_filter-requires-clause-room c =
    let v = c.args.self.now in
    let e = c.args.from in
    let t = c.args.round in
    let k = v.links in
    let x = passage_at k e in
    let pairs = c.hold_back.ensures.pairs in
    let a = c.hold_back.new.self in
    let b = c.run_read_filter.new.self in
    let d = c.move_input.new.self in
    let second = part_then k a.links b.links e pairs c.requires.opened (hold_part t.hold x) (read_part t.mark t.ended)
    c.hold_back.ensures.links c.run_read_filter.ensures.links in
    let third = part_then k b.links d.links e pairs c.requires.opened (read_part t.mark t.ended (hold_part t.hold x)) move_part
    second c.move_input.ensures.links in
    let ends = read_end t.mark t.hold t.ended x in
    output_room_then t.mark t.hold k d.links v.rooms d.rooms e (move_part (read_part t.mark t.ended (hold_part t.hold x)))
    (lane_then k d.links e pairs c.requires.opened (move_part (read_part t.mark t.ended (hold_part t.hold x))) third) ends.0 ends.1
    (keeps_then e v.rooms a.rooms d.rooms (keeps_same e v.rooms a.rooms c.hold_back.ensures.rooms)
    (keeps_then e a.rooms b.rooms d.rooms c.run_read_filter.ensures.rooms c.move_input.ensures.rooms))
    c.requires.raw_output

pub returns-then-not-round : goal.returns-then-not-round
returns-then-not-round c =
    let k = c.args.self.now.links in
    let e = c.args.from in
    sym (with_same k e) ∙ ap (λ z. with_passage e z k)
    (no_round c.args.round (passage_at k e) (not_so c.args.round.to_live c.if-not-round.true))

pub returns-then-round : goal.returns-then-round
returns-then-round c =
    let v = c.args.self.now in
    let e = c.args.from in
    let t = c.args.round in
    let k = v.links in
    let x = passage_at k e in
    let pairs = c.hold_back.ensures.pairs in
    let a = c.hold_back.new.self in
    let b = c.run_read_filter.new.self in
    let d = c.move_input.new.self in
    let second = part_then k a.links b.links e pairs c.requires.opened (hold_part t.hold x) (read_part t.mark t.ended)
    c.hold_back.ensures.links c.run_read_filter.ensures.links in
    let third = part_then k b.links d.links e pairs c.requires.opened (read_part t.mark t.ended (hold_part t.hold x)) move_part
    second c.move_input.ensures.links in
    part_then k d.links c.run_write_filter.new.self.links e pairs c.requires.opened
    (move_part (read_part t.mark t.ended (hold_part t.hold x)))
    (write_part t.hold true) third c.run_write_filter.ensures
    ∙ ap (λ z. with_passage e z k) (whole_round t x c.if-round.true (so t.to_live c.if-not-round.false))

pub returns-else-round : goal.returns-else-round
returns-else-round c =
    let v = c.args.self.now in
    let e = c.args.from in
    let t = c.args.round in
    let k = v.links in
    let x = passage_at k e in
    part_then k c.hold_back.new.self.links c.run_write_filter-else-round.new.self.links e c.hold_back.ensures.pairs c.requires.opened
    (hold_part t.hold x) (write_part t.hold false) c.hold_back.ensures.links c.run_write_filter-else-round.ensures
    ∙ ap (λ z. with_passage e z k) (end_round t x c.if-round.false (so t.to_live c.if-not-round.false))
