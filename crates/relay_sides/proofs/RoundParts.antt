-- The parts of a round, one after another, with the room that was made before.
use Rattle.std.proofs.Common.{◌≡◌, ℕ, ◌+◌, ◌<◌, ◌≤◌, Bool, true, false, not, ◌&&◌, ◌==◌, if◌then◌else◌, length, slice_index_or, slice_set}
use Rattle.std.proofs.Common.{refl, sym, ◌∙◌, ap, subst, arith, length-append}
use Rattle.std.proofs.lemmas.List.{length-set}
use Rattle.ev_types.specs.declared.side.SideId.{SideId}
use Rattle.ev_types.specs.Sides.{number, peer}
use Rattle.relay_model.specs.Plain.{no_side}
use Rattle.relay_state.specs.State.{Lane}
use Rattle.relay_state.specs.Passage.{Passage, hold_part, read_step, read_part, move_part, write_part, pass_round}
use Rattle.relay_state.specs.Passing.{with_bad}
use Rattle.stream_filters.specs.StepAnswers.{most_by_step}
use Rattle.stream_filters.proofs.GoOnLemmas.{step-most}
use Rattle.bev_filter.specs.StepRoom.{HasStepRoom}
use Rattle.relay_sides.specs.Links.{Links, side_at, lane_at, passage_at, with_passage, moved}
use Rattle.relay_sides.specs.Pairs.{HasPairs}
use Rattle.relay_sides.specs.Progress.{round_by}
use Rattle.relay_sides.specs.Rooms.{Rooms, input_room, raw_output_room, HasInputRoom, HasOutputRoom, most_offered, KeepsEndRoom}
use Rattle.relay_sides.specs.declared.pass.RoundRules.{RoundRules}
use Rattle.relay_sides.proofs.StepLemmas.{room-mono}
use Rattle.relay_sides.proofs.LinksLemmas.{passage_put, lane_put, with_twice}

-- one part behind another
pub part_then : (k l m : Links) (e : SideId) → HasPairs k → e.link < k.opened → (x : Passage) (f : Passage → Passage) →
    l ≡ with_passage e x k → m ≡ with_passage e (f (passage_at l e)) l → m ≡ with_passage e (f x) k
part_then k l m e pairs opened x f first next =
    next ∙ (λ i. with_passage e (f (passage_at (first i) e)) (first i))
    ∙ ap (λ z. with_passage e (f z) (with_passage e x k)) (passage_put k e pairs opened x) ∙ with_twice k e pairs opened x (f x)

-- the bytes of the direction that was put
pub lane_then : (k l : Links) (e : SideId) → HasPairs k → e.link < k.opened → (x : Passage) → l ≡ with_passage e x k → lane_at l e ≡ x.lane
lane_then k l e pairs opened x is = ap (λ z. lane_at z e) is ∙ lane_put k e pairs opened x

-- there is room for the read filter's step where the bytes are as they were
pub input_room_kept : (mark : ℕ) (k l : Links) (r s : Rooms) (e : SideId) → lane_at l e ≡ lane_at k e → s ≡ r → HasInputRoom mark k r e →
    HasInputRoom mark l s e
input_room_kept mark k l r s e same rooms h =
    subst (λ (z : Lane). HasStepRoom z.reader.kind (length z.buffers.raw_input) (length z.buffers.input) mark
    (input_room s e) s.beside z.read_made)
    (sym same) (subst (λ z. HasInputRoom mark k z e) (sym rooms) h)

-- how many bytes the write filter is offered at most, of a direction
abbrev pub most_of : ℕ → Passage → ℕ
most_of mark x =
    let l = x.lane in
    most_by_step l.reader.kind (length l.buffers.raw_input) (length l.buffers.input) mark + length l.buffers.input + length l.buffers.output

-- the end of a direction
pub record EndOf (x y : Passage) : Type 0 where
  pub writer : y.lane.writer ≡ x.lane.writer
  pub raw_output : y.lane.buffers.raw_output ≡ x.lane.buffers.raw_output
  pub write_made : y.lane.write_made ≡ x.lane.write_made

-- is as it was once the read filter ran and the input was moved, and no more is offered
pub read_end : (mark hold : ℕ) (ended : Bool) (x : Passage) →
    EndOf x (move_part (read_part mark ended (hold_part hold x)))
    × (length (move_part (read_part mark ended (hold_part hold x))).lane.buffers.output ≤ most_of mark x)
read_end mark hold ended x =
    let y : Passage = read_part mark ended (hold_part hold x) in
    let made = (read_step mark ended x.lane).made in
    let input = length-append x.lane.buffers.input made in
    let most = step-most x.lane.reader ended mark (length x.lane.buffers.input) x.lane.buffers.raw_input in
    go y (not y.flow.held && length y.lane.buffers.output == 0) (record { writer = refl; raw_output = refl; write_made = refl })
    (omega (arith, input, most))
  where
    go : (y : Passage) (b : Bool) → EndOf x y → length y.lane.buffers.input + length y.lane.buffers.output ≤ most_of mark x →
        EndOf x (if b then moved y else y) × (length (if b then moved y else y).lane.buffers.output ≤ most_of mark x)
    go y true e h = (record { writer = e.writer; raw_output = e.raw_output; write_made = e.write_made }, omega (arith, h))
    go y false e h = (e, omega (arith, h))

-- so there is room for the write filter's step
pub output_room_then : (mark hold : ℕ) (k l : Links) (r s : Rooms) (e : SideId) (y : Passage) → lane_at l e ≡ y.lane →
    EndOf (passage_at k e) y → length y.lane.buffers.output ≤ most_of mark (passage_at k e) → KeepsEndRoom e r s →
    HasOutputRoom hold (most_offered mark k e) k r e → HasOutputRoom hold (length (lane_at l e).buffers.output) l s e
output_room_then mark hold k l r s e y is end most kept h =
    subst (λ (z : Lane). HasStepRoom z.writer.kind (length z.buffers.output) (length z.buffers.raw_output) hold
    (raw_output_room s e) s.beside z.write_made)
    (sym is)
    (let x = passage_at k e in
    let g : HasStepRoom x.lane.writer.kind (length y.lane.buffers.output) (length x.lane.buffers.raw_output) hold
    (raw_output_room s e) s.beside
    x.lane.write_made =
    room-mono x.lane.writer.kind (length y.lane.buffers.output) (most_offered mark k e) (length x.lane.buffers.raw_output) hold
    (raw_output_room r e) r.beside (raw_output_room s e) s.beside x.lane.write_made most (omega (arith, kept.raw_output)) kept.beside h in
    subst (λ n. HasStepRoom y.lane.writer.kind (length y.lane.buffers.output) (length y.lane.buffers.raw_output) hold
    (raw_output_room s e) s.beside n)
    (sym end.write_made)
    (subst (λ bs. HasStepRoom y.lane.writer.kind (length y.lane.buffers.output) (length bs) hold
    (raw_output_room s e) s.beside x.lane.write_made)
    (sym end.raw_output)
    (subst (λ w. HasStepRoom w.kind (length y.lane.buffers.output) (length x.lane.buffers.raw_output) hold
    (raw_output_room s e) s.beside x.lane.write_made)
    (sym end.writer) g)))

-- room at the end stays over two parts
pub keeps_then : (e : SideId) (a b c : Rooms) → KeepsEndRoom e a b → KeepsEndRoom e b c → KeepsEndRoom e a c
keeps_then e a b c p q = record { raw_output = q.raw_output ∙ p.raw_output; beside = omega (arith, p.beside, q.beside) }

pub keeps_same : (e : SideId) (a b : Rooms) → b ≡ a → KeepsEndRoom e a b
keeps_same e a b is = record { raw_output = ap (λ z. raw_output_room z e) is; beside = omega (arith, ap (λ (z : Rooms). z.beside) is) }

-- the four parts of a round
pub whole_round : (t : RoundRules) (x : Passage) → t.from_live ≡ true → t.to_live ≡ true →
    write_part t.hold true (move_part (read_part t.mark t.ended (hold_part t.hold x))) ≡ round_by t x
whole_round t x from to = λ i. pass_round t.mark t.hold t.ended (sym from i) (sym to i) x

-- the two where the side is freed that it begins at
pub end_round : (t : RoundRules) (x : Passage) → t.from_live ≡ false → t.to_live ≡ true →
    write_part t.hold false (hold_part t.hold x) ≡ round_by t x
end_round t x from to = λ i. pass_round t.mark t.hold t.ended (sym from i) (sym to i) x

-- and none where that is freed at which it ends
pub no_round : (t : RoundRules) (x : Passage) → t.to_live ≡ false → x ≡ round_by t x
no_round t x to = go t.from_live ∙ (λ i. pass_round t.mark t.hold t.ended t.from_live (sym to i) x)
  where
    go : (b : Bool) → x ≡ pass_round t.mark t.hold t.ended b false x
    go true = refl
    go false = refl

-- what is not so
pub not_so : (b : Bool) → not b ≡ true → b ≡ false
not_so true h = absurd (let wrong : false ≡ true = h in cc)
not_so false h = refl

pub so : (b : Bool) → not b ≡ false → b ≡ true
so true h = refl
so false h = absurd (let wrong : true ≡ false = h in cc)

-- there were two sides and two directions for each link before
pub pairs_back : (k l : Links) (e : SideId) (x : Passage) → l ≡ with_passage e x k → HasPairs l → HasPairs k
pairs_back k l e x is pairs =
    let n : ℕ = number e in
    let a = with_bad x.from_bad (side_at k e) in
    let c = with_bad x.to_bad (slice_index_or (slice_set k.sides n a) (number (peer e)) no_side) in
    let opened = ap (λ (z : Links). z.opened) is in
    record {
      sides = omega (
        arith,
        pairs.sides,
        ap (λ (z : Links). length z.sides) is,
        opened,
        length-set (slice_set k.sides n a) (number (peer e)) c,
        length-set k.sides n a,
      );
      flows = omega (arith, pairs.flows, ap (λ (z : Links). length z.flows) is, opened, length-set k.flows n x.flow);
      lanes = omega (arith, pairs.lanes, ap (λ (z : Links). length z.lanes) is, opened, length-set k.lanes n x.lane);
      gauges = omega (arith, pairs.gauges, ap (λ (z : Links). length z.gauges) is, opened);
    }
