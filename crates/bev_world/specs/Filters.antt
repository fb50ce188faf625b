-- Bytes that go through the filters of a filter bufferevent.
use Rattle.std.specs.Prelude.{◌≡◌, ℕ, ◌&&◌, nat_lt, if◌then◌else◌, true, [], length, Option, Some, None, Result, Ok, Err, ⊤}
use Rattle.std.specs.Option.{option_or}
use Rattle.token_bucket.specs.declared.limit.Dir.{Dir}
use Rattle.token_bucket.specs.declared.limit.Dir.TheVariants.{Read, Write}
use Rattle.ev_types.specs.declared.why.Why.TheVariants as why
use Rattle.ev_types.specs.declared.filter.Mode.{Mode}
use Rattle.ev_types.specs.declared.filter.Mode.TheVariants.{Finished}
use Rattle.stream_filters.specs.declared.stream_filter.Step.{Step}
use Rattle.stream_filters.specs.StepAnswers.{is_spent}
use Rattle.bev_core.specs.BevValue.{reaches_low}
use Rattle.bev_core.specs.Steps.{held}
use Rattle.bev_filter.specs.Passing.{Crossing, Passes}
use Rattle.bev_world.specs.declared.fault.WorldFault.{WorldFault}
use Rattle.bev_world.specs.declared.fault.WorldFault.TheVariants as fault
use Rattle.bev_world.specs.declared.slot.Kind.{Kind}
use Rattle.bev_world.specs.declared.slot.Kind.TheVariants as kind
use Rattle.bev_world.specs.PassAnswers.{ByAnswer}
use Rattle.bev_world.specs.Refusals.{live_refusal}
use Rattle.bev_world.specs.WorldValue.{WorldValue, slot_at, bev_at, with_slot, with_bev, raised_if}

-- the bufferevent under a filter
abbrev pub under_of : Kind → Option ℕ
under_of kind.Socket = None
under_of (kind.Half other) = None
under_of (kind.Filter under) = Some under

-- What is read goes from the input of the one under a filter through its read filter to its own input; what is written goes from its
-- own output through its write filter to the output of the one under it.
abbrev pub crossing : WorldValue → Dir → ℕ → ℕ → Crossing
crossing w Read n under = record { from = bev_at w under; to = bev_at w n; filter = (slot_at w n).read_filter }
crossing w Write n under = record { from = bev_at w n; to = bev_at w under; filter = (slot_at w n).write_filter }

-- Both bufferevents and the filter are as a step left them. The reason of reading is due where bytes came to the input and it reaches
-- its low mark, the reason of writing where bytes left the output and it reaches its own.
abbrev pub crossed : WorldValue → Dir → ℕ → ℕ → Crossing → WorldValue
crossed w Read n under p =
    raised_if (nat_lt (length (bev_at w n).input.bytes) (length p.to.input.bytes) && reaches_low p.to Read)
    (with_slot (with_slot w under (record (slot_at w under) { bev = p.from; room = 0 })) n
    (record (slot_at w n) { bev = p.to; room = 0; read_filter = p.filter })) n why.Read
crossed w Write n under p =
    raised_if (nat_lt (length p.from.output.bytes) (length (bev_at w n).output.bytes) && reaches_low p.from Write)
    (with_slot (with_bev w under p.to) n (record (slot_at w n) { bev = p.from; write_filter = p.filter })) n why.Write

-- a step after which this holds of what went from the one to the other, and the world is as that left them
pub record Passed (passes : Crossing → Type 0) (dir : Dir) (n under : ℕ) (w new : WorldValue) : Type 0 where
  pub after : Crossing
  pub passed : passes after
  pub world : new ≡ crossed w dir n under after

-- Bytes have passed where the step was made, and those before a bad one where it met one; else nothing has changed.
abbrev pub PassedOr : Dir → ℕ → Mode → ℕ → ℕ → Result Step WorldFault → WorldValue → WorldValue → Type 0
PassedOr dir limit mode n under answer w new =
    ByAnswer (λ answer. Passed (Passes dir limit mode answer (crossing w dir n under)) dir n under w new) (new ≡ w) answer

-- of a bufferevent that is no filter nothing changes
abbrev pub PassedAt : Option ℕ → Dir → ℕ → Mode → ℕ → Result Step WorldFault → WorldValue → WorldValue → Type 0
PassedAt None dir limit mode n answer w new = new ≡ w
PassedAt (Some under) dir limit mode n answer w new = PassedOr dir limit mode n under answer w new

-- it is no filter, or the one under it isn't live, or the filter goes on and would use more bytes than a u64 counts
abbrev pub under_refusal : Option ℕ → WorldValue → Dir → ℕ → Option WorldFault
under_refusal None w dir n = Some fault.NoFilter
under_refusal (Some under) w dir n =
    option_or (live_refusal w under)
    (if is_spent (crossing w dir n under).filter (length (held (crossing w dir n under).from dir).bytes) then Some fault.Spent else None)

abbrev pub pass_refusal : WorldValue → Dir → ℕ → Option WorldFault
pass_refusal w dir n = option_or (live_refusal w n) (under_refusal (under_of (slot_at w n).kind) w dir n)

-- the answer is the refusal that holds; where none holds it is a step, or want of memory, or a bad place
abbrev pub AnswersPass : Result Step WorldFault → Option WorldFault → Type 0
AnswersPass (Ok step) refusal = refusal ≡ None
AnswersPass (Err (fault.Filter place)) refusal = refusal ≡ None
AnswersPass (Err fault.Memory) refusal = refusal ≡ None
AnswersPass (Err fault.NotLive) refusal = refusal ≡ Some fault.NotLive
AnswersPass (Err fault.NotSocket) refusal = refusal ≡ Some fault.NotSocket
AnswersPass (Err fault.IdsSpent) refusal = refusal ≡ Some fault.IdsSpent
AnswersPass (Err fault.Taken) refusal = refusal ≡ Some fault.Taken
AnswersPass (Err fault.NoFilter) refusal = refusal ≡ Some fault.NoFilter
AnswersPass (Err fault.TooManyRefs) refusal = refusal ≡ Some fault.TooManyRefs
AnswersPass (Err fault.Spent) refusal = refusal ≡ Some fault.Spent

-- a finished filter is asked for no bytes and for the end
abbrev pub IsOpen : Option ℕ → WorldValue → Dir → ℕ → Mode → Type 0
IsOpen None w dir n mode = ⊤
IsOpen (Some under) w dir n mode =
    (crossing w dir n under).filter.finished ≡ true → ((held (crossing w dir n under).from dir).bytes ≡ []) × (mode ≡ Finished)
