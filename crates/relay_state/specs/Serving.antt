-- What the answer to a read, a write or a connect check changes.
use Rattle.std.specs.Prelude.{ℕ, ◌+◌, nat_le, if◌then◌else◌, List, length}
use Rattle.token_bucket.specs.declared.limit.Dir.TheVariants as dir
use Rattle.ev_types.specs.declared.side.SideId.{SideId}
use Rattle.ev_types.specs.declared.answer.ConnAnswer.{ConnAnswer}
use Rattle.ev_types.specs.declared.answer.ConnAnswer.TheVariants as conn
use Rattle.ev_types.specs.declared.answer.ReadAnswer.{ReadAnswer}
use Rattle.ev_types.specs.declared.answer.ReadAnswer.TheVariants as read
use Rattle.ev_types.specs.declared.answer.WriteAnswer.{WriteAnswer}
use Rattle.ev_types.specs.declared.answer.WriteAnswer.TheVariants as write
use Rattle.ev_types.specs.declared.why.Why.TheVariants as why
use Rattle.ev_types.specs.Sides.{number, peer}
use Rattle.rate_group.specs.Steps.{spent}
use Rattle.relay_model.specs.Flow.{Flow}
use Rattle.relay_model.specs.Plain.{side_at, change_side, change_flow}
use Rattle.relay_model.specs.Reasons.{raise}
use Rattle.relay_model.specs.Moments.{active_at}
use Rattle.relay_model.specs.Serve as model
use Rattle.relay_state.specs.State.{State, lane_at, gauges_after, with_plain, with_lane, lane_got, lane_taken}
use Rattle.relay_state.specs.Passing.{read_run}
use Rattle.relay_state.specs.Rooms.{input_length, output_length}

-- the read reason becomes due where the input is at least as long as the read low mark
abbrev pub raise_read : SideId → State → State
raise_read e s = if nat_le (side_at s.plain e).marks.read_low (input_length s e) then with_plain (raise s.settings e why.Read s.plain) s else s

-- the write reason becomes due where the output is at most as long as the write low mark
abbrev pub raise_write : SideId → State → State
raise_write e s = if nat_le (output_length s e) (side_at s.plain e).marks.write_low then with_plain (raise s.settings e why.Write s.plain) s else s

abbrev pub after_conn : State → SideId → ConnAnswer → State
after_conn s e answer = with_plain (model.after_conn s.settings e answer s.plain) s

-- bytes were got, and stand behind the raw input
abbrev pub with_got : State → SideId → List ℕ → State
with_got s e bytes =
    record (with_lane e (lane_got bytes (lane_at s e)) (with_plain (model.after_read s.settings e (read.Got (length bytes)) s.plain) s)) {
      gauges = gauges_after e dir.Read (length bytes) s;
      groups = spent (number e) dir.Read (length bytes) s.groups;
    }

-- Then the read filter runs, and the low mark is looked at.
abbrev pub after_got : State → SideId → List ℕ → State
after_got s e bytes = raise_read e (read_run e (with_got s e bytes))

-- with the bytes that were got
abbrev pub after_read : State → SideId → ReadAnswer → List ℕ → State
after_read s e (read.Got n) bytes = after_got s e bytes
after_read s e read.Ended bytes = with_plain (model.after_read s.settings e read.Ended s.plain) s
after_read s e read.NotYet bytes = s
after_read s e read.Failed bytes = with_plain (model.after_read s.settings e read.Failed s.plain) s

-- so many bytes more were given
abbrev pub flow_given : ℕ → Flow → Flow
flow_given n f = record f { given = f.given + n }

-- a side's end took the first of the bytes that wait for it
abbrev pub with_taken : State → SideId → ℕ → State
with_taken s e n =
    record (with_lane (peer e) (lane_taken n (lane_at s (peer e)))
    (with_plain (change_side e (active_at s.plain.time dir.Write) (change_flow (peer e) (flow_given n) s.plain)) s)) {
      gauges = gauges_after e dir.Write n s;
      groups = spent (number e) dir.Write n s.groups;
    }

-- Then the low mark is looked at.
abbrev pub after_took : State → SideId → ℕ → State
after_took s e n = raise_write e (with_taken s e n)

abbrev pub after_write_failed : State → SideId → State
after_write_failed s e = with_plain (model.after_conn s.settings e conn.Failed s.plain) s

abbrev pub after_write : State → SideId → WriteAnswer → State
after_write s e (write.Took n) = after_took s e n
after_write s e write.NotYet = s
after_write s e write.Failed = after_write_failed s e
after_write s e write.NoMemory = s
