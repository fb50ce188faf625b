-- The sides and the directions of all links that were opened, and what changes of them.
use Rattle.std.specs.Prelude.{◌≡◌, ℕ, ◌+◌, Bool, false, ◌==◌, ◌&&◌, ◌||◌, List, [], ◌∷◌, ◌++◌, length, slice_index_or, slice_set, min}
use Rattle.std.specs.Prelude.{Option}
use Rattle.std.specs.Prelude.{Some, None, option_map}
use Rattle.std.specs.List.{list_any}
use Rattle.token_bucket.specs.declared.limit.Dir.{Dir}
use Rattle.token_bucket.specs.declared.limit.Dir.TheVariants as dir
use Rattle.token_bucket.specs.declared.limit.LimitCfg.{LimitCfg}
use Rattle.ev_types.specs.declared.side.Side.TheVariants.{In}
use Rattle.ev_types.specs.declared.filter.FilterKind.{FilterKind}
use Rattle.ev_types.specs.declared.side.SideId.{SideId}
use Rattle.ev_types.specs.Sides.{number, peer}
use Rattle.relay_model.specs.Settings.{usual}
use Rattle.relay_model.specs.Plain.{PlainSide, Standing, first_limit, no_side, new_side}
use Rattle.relay_model.specs.Flow.{Flow, no_flow}
use Rattle.filter_model.specs.FilterStep.{begun}
use Rattle.relay_model.specs.Rooms.{most_at_once, mark_or}
use Rattle.relay_model.specs.Moments.{active_at}
use Rattle.relay_state.specs.Running.{Gauge, no_gauge, held_at, gauge_after, gauge_begun, gauge_set}
use Rattle.relay_state.specs.State.{Lane, no_lane, lane_got, lane_moved, lane_taken, lane_left, lane_lost}
use Rattle.relay_state.specs.Serving.{flow_given}
use Rattle.relay_state.specs.Passage.{Passage, read_part, pass_round, SomeRounds, Passed}
use Rattle.relay_state.specs.Passing.{with_bad}
use Rattle.relay_state.specs.Closing.{in_side, out_side}
use Rattle.relay_state.specs.Counting.{has_flown_far, has_read_far}
use Rattle.relay_sides.specs.declared.opening.NewSide.{NewSide}

-- How many links were opened. Sides stand by their numbers, and so do their buckets, and the flows and lanes of directions, each at the
-- side that it begins at.
pub record Links : Type 0 where
  pub opened : ℕ
  pub sides : List PlainSide
  pub flows : List Flow
  pub lanes : List Lane
  pub gauges : List Gauge

abbrev pub no_links : Links
no_links = record { opened = 0; sides = []; flows = []; lanes = []; gauges = [] }

abbrev pub side_at : Links → SideId → PlainSide
side_at k e = slice_index_or k.sides (number e) no_side

abbrev pub flow_at : Links → SideId → Flow
flow_at k e = slice_index_or k.flows (number e) no_flow

abbrev pub lane_at : Links → SideId → Lane
lane_at k e = slice_index_or k.lanes (number e) no_lane

-- the buckets of a side
abbrev pub gauge_at : Links → SideId → Gauge
gauge_at k e = slice_index_or k.gauges (number e) no_gauge

abbrev pub put_side : SideId → PlainSide → Links → Links
put_side e x k = record k { sides = slice_set k.sides (number e) x }

abbrev pub put_flow : SideId → Flow → Links → Links
put_flow e f k = record k { flows = slice_set k.flows (number e) f }

abbrev pub put_lane : SideId → Lane → Links → Links
put_lane e l k = record k { lanes = slice_set k.lanes (number e) l }

abbrev pub put_gauge : SideId → Gauge → Links → Links
put_gauge e x k = record k { gauges = slice_set k.gauges (number e) x }

-- one side is changed
abbrev pub change_side : SideId → (PlainSide → PlainSide) → Links → Links
change_side e change k = put_side e (change (side_at k e)) k

-- the flow of the direction that begins at a side is changed
abbrev pub change_flow : SideId → (Flow → Flow) → Links → Links
change_flow e change k = put_flow e (change (flow_at k e)) k

-- a side as its link opens, in a turn and at its time
abbrev pub opening_side : ℕ → ℕ → NewSide → PlainSide
opening_side time turn n =
    let x = new_side usual time turn In n.connected in
    record x { marks = n.marks; timeouts = n.timeouts; limit = option_map (first_limit time turn) n.limit; group = n.group }

-- a direction of a new link, with these filters
abbrev pub fresh_lane : FilterKind → FilterKind → Lane
fresh_lane reader writer = record no_lane { reader = begun reader; writer = begun writer }

-- The next link has these two sides. The direction from a side has the read filter of that side and the write filter of the other.
abbrev pub with_link : ℕ → ℕ → NewSide → NewSide → Links → Links
with_link time turn near far k = record {
  opened = k.opened + 1;
  sides = k.sides ++ opening_side time turn near ∷ opening_side time turn far ∷ [];
  flows = k.flows ++ no_flow ∷ no_flow ∷ [];
  lanes = k.lanes ++ fresh_lane near.read far.write ∷ fresh_lane far.read near.write ∷ [];
  gauges = k.gauges ++ gauge_begun near.limit time ∷ gauge_begun far.limit time ∷ [];
}

-- a link of before has the two sides of a new one, and the directions between them
abbrev pub with_new_link : ℕ → ℕ → ℕ → NewSide → NewSide → Links → Links
with_new_link link time turn near far k =
    let a = in_side link in
    let b = out_side link in
    let sided : Links = put_side b (opening_side time turn far) (put_side a (opening_side time turn near) k) in
    let flowing : Links = put_flow b no_flow (put_flow a no_flow sided) in
    let laned : Links = put_lane b (fresh_lane far.read near.write) (put_lane a (fresh_lane near.read far.write) flowing) in
    put_gauge b (gauge_begun far.limit time) (put_gauge a (gauge_begun near.limit time) laned)

-- Limits

-- what a side's own limit leaves it to move in a direction at a time
abbrev pub allowance_at : ℕ → Links → SideId → Dir → Option ℕ
allowance_at time k e d = option_map (λ y. held_at y.cfg (gauge_at k e) d time) (side_at k e).limit

-- The limit that stands once another is set, or none, in a turn and at its time. It takes what the buckets hold with it, cut to the new
-- bursts.
abbrev pub limit_set_on : Gauge → ℕ → ℕ → Option Standing → Option LimitCfg → Option Standing
limit_set_on x time turn was None = None
limit_set_on x time turn None (Some cfg) = Some (first_limit time turn cfg)
limit_set_on x time turn (Some was) (Some cfg) = Some (record {
  cfg = cfg;
  turn = turn;
  time = time;
  read_level = min (held_at was.cfg x dir.Read time) cfg.read_burst;
  write_level = min (held_at was.cfg x dir.Write time) cfg.write_burst;
})

-- with such a limit
abbrev pub limited : ℕ → ℕ → SideId → Option LimitCfg → Links → Links
limited time turn e cfg k =
    put_gauge e (gauge_set (side_at k e).limit cfg time (gauge_at k e))
    (change_side e (λ x. record x { limit = limit_set_on (gauge_at k e) time turn x.limit cfg }) k)

-- the side moved so many bytes in a direction at a time
abbrev pub bucket_spent : ℕ → SideId → Dir → ℕ → Links → Links
bucket_spent time e d n k = put_gauge e (gauge_after (side_at k e).limit time d n (gauge_at k e)) k

-- Passing

-- the direction that begins at a side
abbrev pub passage_at : Links → SideId → Passage
passage_at k e = record {
  flow = flow_at k e;
  lane = lane_at k e;
  from_bad = (side_at k e).bad;
  to_bad = (side_at k (peer e)).bad;
}

-- this is the direction that begins at a side
abbrev pub with_passage : SideId → Passage → Links → Links
with_passage e x k =
    put_lane e x.lane (change_side (peer e) (with_bad x.to_bad) (change_side e (with_bad x.from_bad) (put_flow e x.flow k)))

-- its input goes whole to its output
abbrev pub moved : Passage → Passage
moved x =
    let f = x.flow in
    record x { flow = record f { moved = f.moved + length x.lane.buffers.input }; lane = lane_moved x.lane }

-- how long the input of a side gets, and how many bytes that wait for a side hold the direction to it, where so many do in the run
abbrev pub read_mark : Links → SideId → ℕ
read_mark k e = mark_or (side_at k e).marks.read_high most_at_once

abbrev pub hold_mark : ℕ → Links → SideId → ℕ
hold_mark hold k e = mark_or (side_at k e).marks.write_high hold

-- the round of the direction that begins at a side
abbrev pub round_from : ℕ → Links → SideId → Passage → Passage
round_from hold k e =
    pass_round (read_mark k e) (hold_mark hold k (peer e)) (side_at k e).ended (side_at k e).live (side_at k (peer e)).live

-- the direction from a side was passed, and nothing else changed
abbrev pub PassedFrom : ℕ → Links → SideId → Links → Type 0
PassedFrom hold old e new = (x : Passage) × Passed (round_from hold old e) (passage_at old e) x × (new ≡ with_passage e x old)

-- some rounds of it were made, and nothing else changed
abbrev pub PartlyPassed : ℕ → Links → SideId → Links → Type 0
PartlyPassed hold old e new = (x : Passage) × SomeRounds (round_from hold old e) (passage_at old e) x × (new ≡ with_passage e x old)

-- whether each filter of a direction is finished is told twice
pub record IsTold (x : Passage) : Type 0 where
  pub read : x.flow.read_done ≡ x.lane.reader.finished
  pub write : x.flow.write_done ≡ x.lane.writer.finished

-- Serving

-- Bytes that were read at a time stand behind the raw input, and then the read filter runs.
abbrev pub with_got : ℕ → SideId → List ℕ → Links → Links
with_got time e bytes k = put_lane e (lane_got bytes (lane_at k e)) (change_side e (active_at time dir.Read) k)

abbrev pub after_got : ℕ → SideId → List ℕ → Links → Links
after_got time e bytes k =
    let j : Links = with_got time e bytes k in with_passage e (read_part (read_mark j e) false (passage_at j e)) j

-- At a time the side's end took the first bytes that wait for it.
abbrev pub after_took : ℕ → SideId → ℕ → Links → Links
after_took time e n k =
    put_lane (peer e) (lane_taken n (lane_at k (peer e)))
    (change_side e (active_at time dir.Write) (change_flow (peer e) (flow_given n) k))

-- The side is freed: of the direction that begins at it what was not moved is dropped, and of the one that ends at it what waits.
abbrev pub freed : SideId → Links → Links
freed e k =
    let own : Links = put_lane e (lane_left (lane_at k e)) (change_side e (λ x. record x { live = false; group = None }) k) in
    put_lane (peer e) (lane_lost (lane_at own (peer e))) own

-- Counting

-- no byte of the direction that begins at a side is on its way
abbrev pub is_empty : Links → SideId → Bool
is_empty k from =
    let b = (lane_at k from).buffers in
    length b.raw_input == 0 && length b.input == 0 && length b.output == 0 && length b.raw_output == 0

-- all bytes of it were given, and no more will come
abbrev pub is_complete : Links → SideId → Bool
is_complete k from = (side_at k from).ended && (flow_at k from).write_done && is_empty k from

-- a count of the direction that begins at a side has come to 2^62, one of a link, and one of any direction
abbrev pub has_spent_count_from : Links → SideId → Bool
has_spent_count_from k e = has_flown_far (flow_at k e) || has_read_far (lane_at k e)

abbrev pub has_spent_count : Links → ℕ → Bool
has_spent_count k link = has_spent_count_from k (in_side link) || has_spent_count_from k (out_side link)

abbrev pub any_count_is_spent : Links → Bool
any_count_is_spent k = list_any has_flown_far k.flows || list_any has_read_far k.lanes
