-- How far a direction has come, as the code compares it, and its rounds, as the code makes them.
use Rattle.std.specs.Prelude.{ℕ, Bool, not, ◌==◌, ◌&&◌, ◌||◌, nat_lt, length, is_some}
use Rattle.relay_state.specs.State.{Lane}
use Rattle.relay_state.specs.Passage.{Passage, pass_round}
use Rattle.ev_types.specs.declared.side.SideId.{SideId}
use Rattle.ev_types.specs.Sides.{peer}
use Rattle.relay_sides.specs.Links.{Links, side_at, passage_at, read_mark, hold_mark}
use Rattle.relay_sides.specs.declared.pass.RoundProgress.{RoundProgress}
use Rattle.relay_sides.specs.declared.pass.RoundRules.{RoundRules}

-- what a round may change
abbrev pub progress_of : Passage → RoundProgress
progress_of x = record {
  reader = record { used = x.flow.used; finished = x.flow.read_done; stopped = is_some x.lane.reader.stopped };
  writer = record { used = x.flow.turned; finished = x.flow.write_done; stopped = is_some x.lane.writer.stopped };
  moved = x.flow.moved;
  held = x.flow.held;
  from_bad = is_some x.from_bad;
  to_bad = is_some x.to_bad;
}

-- the round that goes by these
abbrev pub round_by : RoundRules → Passage → Passage
round_by t = pass_round t.mark t.hold t.ended t.from_live t.to_live

-- no byte waits before the end of a direction
abbrev pub is_all_passed : Lane → Bool
is_all_passed l = let b = l.buffers in length b.raw_input == 0 && length b.input == 0 && length b.output == 0

-- There is nothing that a round could do: the direction isn't held and does not become so, its side has not ended, its filters run,
-- and all bytes have come to its end.
abbrev pub is_settled : RoundRules → Passage → Bool
is_settled t x =
    not t.ended && not x.flow.held && nat_lt (length x.lane.buffers.raw_output) t.hold && is_all_passed x.lane && not x.flow.read_done
    && not (is_some x.lane.reader.stopped || is_some x.lane.writer.stopped)

-- what a round of the direction that begins at a side goes by, where so many bytes hold a direction in the run
abbrev pub rules_of : ℕ → Links → SideId → RoundRules
rules_of hold k e = record {
  mark = read_mark k e;
  hold = hold_mark hold k (peer e);
  ended = (side_at k e).ended;
  from_live = (side_at k e).live;
  to_live = (side_at k (peer e)).live;
}

-- there is nothing that a round of it could do
abbrev pub is_settled_from : ℕ → Links → SideId → Bool
is_settled_from hold k e = is_settled (rules_of hold k e) (passage_at k e)
