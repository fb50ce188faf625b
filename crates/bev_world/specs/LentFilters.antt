-- Bytes that go through a filter that is lent to a world.
use Rattle.std.specs.Prelude.{◌≡◌, ℕ, if◌then◌else◌, Bool, true, [], List, length, Option, Some, None, Result, ⊤}
use Rattle.std.specs.Option.{option_or}
use Rattle.token_bucket.specs.declared.limit.Dir.{Dir}
use Rattle.ev_types.specs.declared.filter.Mode.{Mode}
use Rattle.ev_types.specs.declared.filter.Mode.TheVariants.{Finished}
use Rattle.filter_model.specs.Filter.{Filter}
use Rattle.stream_filters.specs.declared.stream_filter.Step.{Step}
use Rattle.stream_filters.specs.StreamSteps.{Reached, is_beyond}
use Rattle.bev_core.specs.Steps.{held}
use Rattle.bev_filter.specs.declared.fault.PassFault.{PassFault}
use Rattle.bev_filter.specs.Passing.{Crossing}
use Rattle.bev_filter.specs.PassingBy.{PassesBy, Between}
use Rattle.bev_world.specs.declared.fault.WorldFault.{WorldFault}
use Rattle.bev_world.specs.declared.fault.WorldFault.TheVariants as fault
use Rattle.bev_world.specs.Refusals.{live_refusal}
use Rattle.bev_world.specs.PassAnswers.{ByAnswer}
use Rattle.bev_world.specs.Filters.{crossing, Passed, under_of}
use Rattle.bev_world.specs.WorldValue.{WorldValue, slot_at}

-- the two bufferevents of a crossing, and in place of its filter one that is lent
abbrev pub by_lent : {S : Type 0} → Crossing → S → Between S
by_lent p lent = record { from = p.from; to = p.to; by = lent }

-- The step of a lent filter went so between two bufferevents, and the filter of the slot is as it was.
pub record PassesLent {S : Type 0} (filter : S → Filter) (reached : S → Reached) (known : S → List ℕ → Type 0) (dir : Dir) (limit : ℕ)
    (mode : Mode) (lent lent_after : S) (before : Crossing) (answer : Result Step PassFault) (after : Crossing) : Type 0 where
  pub passes : PassesBy filter reached known dir limit mode answer (by_lent before lent) (by_lent after lent_after)
  pub own : after.filter ≡ before.filter

-- Bytes have passed where the step was made, and those before a bad one where it met one; else the world is as before, and what is kept
-- then holds.
abbrev pub PassedOrKept : (Result Step PassFault → Crossing → Type 0) → Type 0 → Dir → ℕ → ℕ → Result Step WorldFault → WorldValue →
    WorldValue → Type 0
PassedOrKept passes kept dir n under answer w new =
    ByAnswer (λ answer. Passed (passes answer) dir n under w new) ((new ≡ w) × kept) answer

-- Of a bufferevent that is no filter nothing changes, nor does the filter that is lent.
abbrev pub LentPassedAt : {S : Type 0} → (S → Filter) → (S → Reached) → (S → List ℕ → Type 0) → Option ℕ → Dir → ℕ → Mode → ℕ →
    Result Step WorldFault → S → S → WorldValue → WorldValue → Type 0
LentPassedAt filter reached known None dir limit mode n answer lent lent_after w new = (new ≡ w) × (lent_after ≡ lent)
LentPassedAt filter reached known (Some under) dir limit mode n answer lent lent_after w new =
    PassedOrKept (PassesLent filter reached known dir limit mode lent lent_after (crossing w dir n under)) (lent_after ≡ lent) dir n under
    answer w new

-- it goes on, and the bytes that it used and those of the source are more than a u64 counts
abbrev pub is_lent_spent : Reached → Dir → Crossing → Bool
is_lent_spent x dir p = is_beyond x (length (held p.from dir).bytes)

-- it is no filter, or the one under it isn't live, or the lent filter goes on and would use more bytes than a u64 counts
abbrev pub lent_under_refusal : Reached → Option ℕ → WorldValue → Dir → ℕ → Option WorldFault
lent_under_refusal x None w dir n = Some fault.NoFilter
lent_under_refusal x (Some under) w dir n =
    option_or (live_refusal w under) (if is_lent_spent x dir (crossing w dir n under) then Some fault.Spent else None)

abbrev pub lent_refusal : Reached → WorldValue → Dir → ℕ → Option WorldFault
lent_refusal x w dir n = option_or (live_refusal w n) (lent_under_refusal x (under_of (slot_at w n).kind) w dir n)

-- a finished filter is asked for no bytes and for the end
abbrev pub IsLentOpen : Reached → Dir → Mode → Crossing → Type 0
IsLentOpen x dir mode p = x.finished ≡ true → ((held p.from dir).bytes ≡ []) × (mode ≡ Finished)

-- where a bufferevent is a filter, a step is asked for no bytes and for the end
abbrev pub AsksForEnd : Option ℕ → WorldValue → Dir → ℕ → Mode → Type 0
AsksForEnd None w dir n mode = ⊤
AsksForEnd (Some under) w dir n mode = ((held (crossing w dir n under).from dir).bytes ≡ []) × (mode ≡ Finished)
