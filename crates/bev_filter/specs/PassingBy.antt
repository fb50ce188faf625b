-- Bytes that go through any filter of a byte stream, from a buffer of one bufferevent to the buffer of the same direction of another.
use Rattle.std.specs.Prelude.{◌≡◌, ℕ, ⊤, List, ◌++◌, take, length, Some, Result, Ok, Err}
use Rattle.token_bucket.specs.declared.limit.Dir.{Dir}
use Rattle.ev_types.specs.declared.filter.Mode.{Mode}
use Rattle.filter_model.specs.Filter.{Filter}
use Rattle.stream_filters.specs.declared.stream_filter.Step.{Step}
use Rattle.stream_filters.specs.StepAnswers.{is_last}
use Rattle.stream_filters.specs.StreamSteps.{Reached, Taken, taken, GoesOn, is_beyond}
use Rattle.bev_core.specs.BevValue.{BevValue}
use Rattle.bev_core.specs.Steps.{held, with_held, more, less}
use Rattle.bev_filter.specs.declared.fault.PassFault.{PassFault}
use Rattle.bev_filter.specs.declared.fault.PassFault.TheVariants.{Memory, Filter as Bad, Spent}
use Rattle.bev_filter.specs.Passing.{says_spent}

-- the bufferevent that bytes leave, the one to which they come, and a filter of any type
pub record Between (S : Type 0) : Type 0 where
  pub from : BevValue
  pub to : BevValue
  pub by : S

-- Bytes went from the one to the other: so many have left the source, and these stand at the end of the target. Nothing else
-- changed but what is spare in the two.
pub record Trades (dir : Dir) (used : ℕ) (made : List ℕ) (from to from_after to_after : BevValue) : Type 0 where
  pub gone : from_after ≡ with_held from dir (less (held from dir) used (held from_after dir).spare)
  pub come : to_after ≡ with_held to dir (more (held to dir) made (held to_after dir).spare)

-- The step was made: the bytes that it used have left the source, what it made stands at the end of the target, and the filter came as
-- far as the step says, and may have used these bytes too.
pub record CrossedBy {S : Type 0} (reached : S → Reached) (known : S → List ℕ → Type 0) (dir : Dir) (t : Taken) (past : List ℕ)
    (before after : Between S) : Type 0 where
  pub trades : Trades dir t.used t.made before.from before.to after.from after.to
  pub came : reached after.by ≡ t.reached
  pub knows : known after.by (past ++ take t.used (held before.from dir).bytes)

-- Ok tells how many bytes were used and whether the filter is finished, where it did not stop. Filter tells the place at which it
-- stopped.
abbrev pub TellsPassed : {S : Type 0} → (S → Reached) → (S → List ℕ → Type 0) → Dir → Result Step PassFault → Taken → List ℕ →
    Between S → Between S → Type 0
TellsPassed reached known dir (Ok step) t past before after = GoesOn step t × CrossedBy reached known dir t past before after
TellsPassed reached known dir (Err (Bad place)) t past before after =
    (t.reached.stopped ≡ Some place) × CrossedBy reached known dir t past before after
TellsPassed reached known dir (Err Memory) t past before after = ⊤
TellsPassed reached known dir (Err Spent) t past before after = ⊤

-- Where a step was made, bytes went from the one to the other, whatever the filter used before.
abbrev pub Traded : {S : Type 0} → Dir → Result Step PassFault → Between S → Between S → Type 0
Traded dir (Ok step) before after = ((made : List ℕ) × Trades dir step.used made before.from before.to after.from after.to)
Traded dir (Err (Bad place)) before after = ((used : ℕ) × (made : List ℕ) × Trades dir used made before.from before.to after.from after.to)
Traded dir (Err Memory) before after = ⊤
Traded dir (Err Spent) before after = ⊤

-- want of memory changed nothing, and neither did Spent
abbrev pub AllKept : {A : Type 0} → Result Step PassFault → A → A → Type 0
AllKept (Ok step) before after = ⊤
AllKept (Err (Bad place)) before after = ⊤
AllKept (Err Memory) before after = after ≡ before
AllKept (Err Spent) before after = after ≡ before

-- The step of a filter from the buffer of a direction to that of another bufferevent, with the target's length under the limit. It is
-- the same filter then. Whatever it may have used before, the step is the one of its definition over all bytes of the source.
pub record PassesBy {S : Type 0} (filter : S → Filter) (reached : S → Reached) (known : S → List ℕ → Type 0) (dir : Dir) (limit : ℕ)
    (mode : Mode) (result : Result Step PassFault) (before after : Between S) : Type 0 where
  pub same : filter after.by ≡ filter before.by
  pub trades : Traded dir result before after
  pub tells : (past : List ℕ) → known before.by past →
      TellsPassed reached known dir result
      (taken (filter before.by) past (reached before.by) (is_last mode) limit (length (held before.to dir).bytes)
      (held before.from dir).bytes)
      past before after
  pub refused : AllKept result before after
  pub spent : says_spent result ≡ is_beyond (reached before.by) (length (held before.from dir).bytes)
