-- Passing in the relay's state.
use Rattle.std.specs.Prelude.{◌≡◌, ℕ, false, Option}
use Rattle.ev_types.specs.declared.side.SideId.{SideId}
use Rattle.ev_types.specs.Sides.{peer}
use Rattle.relay_model.specs.Plain.{Plain, PlainSide, side_at, flow_at, put_flow, change_side, is_live}
use Rattle.relay_model.specs.Rooms.{read_mark, hold_mark}
use Rattle.relay_state.specs.State.{State, lane_at, with_plain, with_lane}
use Rattle.relay_state.specs.Passage.{Passage, read_part, pass_round, SomeRounds, Passed}

-- the direction that begins at a side
abbrev pub passage_at : State → SideId → Passage
passage_at s e = record {
  flow = flow_at s.plain e;
  lane = lane_at s e;
  from_bad = (side_at s.plain e).bad;
  to_bad = (side_at s.plain (peer e)).bad;
}

-- the bad place of a side is this one
abbrev pub with_bad : Option ℕ → PlainSide → PlainSide
with_bad place x = record x { bad = place }

-- the plain state with what passing changes of a direction
abbrev pub plain_passed : SideId → Passage → Plain → Plain
plain_passed e x p = change_side (peer e) (with_bad x.to_bad) (change_side e (with_bad x.from_bad) (put_flow e x.flow p))

-- the state with this direction
abbrev pub with_passage : SideId → Passage → State → State
with_passage e x s = with_lane e x.lane (with_plain (plain_passed e x s.plain) s)

-- the round of the direction that begins at a side
abbrev pub round_from : State → SideId → Passage → Passage
round_from s e =
    pass_round (read_mark s.plain e) (hold_mark s.settings s.plain (peer e)) (side_at s.plain e).ended (is_live s.plain e) (is_live s.plain (peer e))

-- the direction from a side was passed, and nothing else changed
abbrev pub PassedFrom : State → SideId → State → Type 0
PassedFrom old e new = (x : Passage) × Passed (round_from old e) (passage_at old e) x × (new ≡ with_passage e x old)

-- some rounds of it were made, and nothing else changed
abbrev pub PartlyPassed : State → SideId → State → Type 0
PartlyPassed old e new = (x : Passage) × SomeRounds (round_from old e) (passage_at old e) x × (new ≡ with_passage e x old)

-- the read filter of a side runs over what was got, and isn't finished yet
abbrev pub read_run : SideId → State → State
read_run e s = with_passage e (read_part (read_mark s.plain e) false (passage_at s e)) s
