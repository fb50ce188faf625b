-- A direction as passing sees it, and what the parts of a round of passing do to it. Each filter makes one step of a round, over the
-- buffers alone.
use Rattle.std.specs.Prelude.{◌≡◌, ℕ, zero, suc, ◌+◌, ◌/◌, Bool, true, false, ◌==◌, ◌&&◌, not, nat_le, if◌then◌else◌, length, fold, Option}
use Rattle.filter_model.specs.Filter.{or_else}
use Rattle.relay_model.specs.Flow.{Flow}
use Rattle.filter_model.specs.FilterStep.{Stepped, stepped}
use Rattle.relay_model.specs.Round.{Part, parts_of}
use Rattle.relay_state.specs.State.{Lane, lane_turned, lane_moved, lane_written}

-- A direction, how far it has come, and the first bad place that was met by a filter of the side where it begins and of the
-- side where it ends.
pub record Passage : Type 0 where
  pub flow : Flow
  pub lane : Lane
  pub from_bad : Option ℕ
  pub to_bad : Option ℕ

-- The direction becomes held where the raw output is at least the hold mark, and is no more held where it is at most half of that.
abbrev pub holds_back : ℕ → Passage → Bool
holds_back hold x =
    let waiting : ℕ = length x.lane.buffers.raw_output in
    if nat_le hold waiting then true else (if nat_le waiting (hold / 2) then false else x.flow.held)

abbrev pub hold_part : ℕ → Passage → Passage
hold_part hold x = let f = x.flow in record x { flow = record f { held = holds_back hold x } }

-- The read filter's step, until the input has reached the mark.
abbrev pub read_step : ℕ → Bool → Lane → Stepped
read_step mark over l = stepped l.reader over mark (length l.buffers.input) l.buffers.raw_input

abbrev pub read_by : Stepped → Passage → Passage
read_by step x =
    let f = x.flow in
    record x {
      flow = record f { used = f.used + step.used; read_done = step.after.finished };
      lane = lane_turned step x.lane;
      from_bad = or_else x.from_bad step.after.stopped;
    }

-- The read filter runs, and finishes where the end has come.
abbrev pub read_part : ℕ → Bool → Passage → Passage
read_part mark over x = read_by (read_step mark over x.lane) x

-- The input goes whole to an empty output, unless the direction is held.
abbrev pub move_part : Passage → Passage
move_part x =
    let f = x.flow in
    if not f.held && length x.lane.buffers.output == 0
    then record x { flow = record f { moved = f.moved + length x.lane.buffers.input }; lane = lane_moved x.lane } else x

-- The write filter's step, until the raw output has reached the hold mark.
abbrev pub write_step : ℕ → Bool → Lane → Stepped
write_step hold over l = stepped l.writer over hold (length l.buffers.raw_output) l.buffers.output

abbrev pub written_by : Stepped → Passage → Passage
written_by step x =
    let f = x.flow in
    record x {
      flow = record f { turned = f.turned + step.used; write_done = step.after.finished };
      lane = lane_written step x.lane;
      to_bad = or_else x.to_bad step.after.stopped;
    }

-- all that will ever come was moved: the read filter is finished, and the input is empty
abbrev pub has_moved_all : Passage → Bool
has_moved_all x = x.flow.read_done && length x.lane.buffers.input == 0

-- The write filter runs, unless the direction is held. Where it may, it finishes once all that will come was moved.
abbrev pub write_part : ℕ → Bool → Passage → Passage
write_part hold may_end x = if x.flow.held then x else written_by (write_step hold (may_end && has_moved_all x) x.lane) x

-- one part of a round, with the read mark, the hold mark, and whether the side has ended where the direction begins
abbrev pub pass_part : ℕ → ℕ → Bool → Part → Passage → Passage
pass_part mark hold ended Part.Hold x = hold_part hold x
pass_part mark hold ended Part.Read x = read_part mark ended x
pass_part mark hold ended Part.Move x = move_part x
pass_part mark hold ended Part.Write x = write_part hold true x
pass_part mark hold ended Part.Drain x = write_part hold false x

-- a round: the parts that are called for by which of the two sides live
abbrev pub pass_round : ℕ → ℕ → Bool → Bool → Bool → Passage → Passage
pass_round mark hold ended from_live to_live x = fold (λ y part. pass_part mark hold ended part y) x (parts_of from_live to_live)

abbrev pub rounds : ℕ → (Passage → Passage) → Passage → Passage
rounds zero f x = x
rounds (suc n) f x = rounds n f (f x)

-- some rounds were made
abbrev pub SomeRounds : (Passage → Passage) → Passage → Passage → Type 0
SomeRounds f old new = (n : ℕ) × (new ≡ rounds n f old)

-- some rounds were made, and one more changes nothing
abbrev pub Passed : (Passage → Passage) → Passage → Passage → Type 0
Passed f old new = (n : ℕ) × (new ≡ rounds n f old) × (f new ≡ new)
