-- Bytes that go through a filter from a buffer of one bufferevent to the buffer of the same direction of another.
use Rattle.std.specs.Prelude.{◌≡◌, ℕ, Bool, true, false, Some, Result, Ok, Err, length}
use Rattle.token_bucket.specs.declared.limit.Dir.{Dir}
use Rattle.ev_types.specs.declared.filter.Mode.{Mode}
use Rattle.filter_model.specs.Running.{Running}
use Rattle.filter_model.specs.FilterStep.{Stepped, stepped}
use Rattle.stream_filters.specs.declared.stream_filter.Step.{Step}
use Rattle.stream_filters.specs.StepAnswers.{is_last, WentOn}
use Rattle.bev_core.specs.BevValue.{BevValue}
use Rattle.bev_core.specs.Steps.{held, with_held, more, less}
use Rattle.bev_filter.specs.declared.fault.PassFault.{PassFault}
use Rattle.bev_filter.specs.declared.fault.PassFault.TheVariants.{Memory, Filter, Spent}

-- the bufferevent that bytes leave, the one to which they come, and the filter
pub record Crossing : Type 0 where
  pub from : BevValue
  pub to : BevValue
  pub filter : Running

-- the filter's step over all bytes of the source, with the target's length under the limit, where the stream ends behind them or not
abbrev pub stepping : Dir → Crossing → ℕ → Bool → Stepped
stepping dir p limit at_end = stepped p.filter at_end limit (length (held p.to dir).bytes) (held p.from dir).bytes

-- the same, by the mode
abbrev pub passing : Dir → Crossing → ℕ → Mode → Stepped
passing dir p limit mode = stepping dir p limit (is_last mode)

-- The step was made: the bytes that it used have left the source, and what it made of them stands at the end of the target.
-- Nothing else changed but what is spare in the two.
pub record Crossed (dir : Dir) (s : Stepped) (before after : Crossing) : Type 0 where
  pub gone : after.from ≡ with_held before.from dir (less (held before.from dir) s.used (held after.from dir).spare)
  pub come : after.to ≡ with_held before.to dir (more (held before.to dir) s.made (held after.to dir).spare)
  pub filter : after.filter ≡ s.after

-- Ok tells how many bytes were used and whether the filter is finished, where it did not stop. Filter tells the place at which
-- it stopped. Want of memory changed nothing, and neither did Spent.
abbrev pub Passes : Dir → ℕ → Mode → Result Step PassFault → Crossing → Crossing → Type 0
Passes dir limit mode (Ok step) before after =
    WentOn step (passing dir before limit mode) × Crossed dir (passing dir before limit mode) before after
Passes dir limit mode (Err (Filter place)) before after =
    ((passing dir before limit mode).after.stopped ≡ Some place) × Crossed dir (passing dir before limit mode) before after
Passes dir limit mode (Err Memory) before after = after ≡ before
Passes dir limit mode (Err Spent) before after = after ≡ before

-- the answer is Spent
abbrev pub says_spent : Result Step PassFault → Bool
says_spent (Ok step) = false
says_spent (Err Memory) = false
says_spent (Err (Filter place)) = false
says_spent (Err Spent) = true
