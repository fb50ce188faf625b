-- The step of a filter by the slots of the two bufferevents: the one under the filter, and the filter itself.
use Rattle.std.specs.Prelude.{◌≡◌, ℕ, ◌&&◌, nat_lt, if◌then◌else◌, Bool, true, false, [], length, Option, Some, None, Result}
use Rattle.token_bucket.specs.declared.limit.Dir.{Dir}
use Rattle.token_bucket.specs.declared.limit.Dir.TheVariants.{Read, Write}
use Rattle.ev_types.specs.declared.filter.Mode.{Mode}
use Rattle.ev_types.specs.declared.filter.Mode.TheVariants.{Finished}
use Rattle.stream_filters.specs.declared.stream_filter.Step.{Step}
use Rattle.stream_filters.specs.StepAnswers.{is_spent}
use Rattle.filter_model.specs.Running.{Running}
use Rattle.bev_core.specs.BevValue.{BevValue, reaches_low}
use Rattle.bev_core.specs.Steps.{held, with_held}
use Rattle.bev_filter.specs.declared.fault.PassFault.{PassFault}
use Rattle.bev_filter.specs.Passing.{Crossing}
use Rattle.bev_world.specs.declared.fault.WorldFault.{WorldFault}
use Rattle.bev_world.specs.declared.fault.WorldFault.TheVariants as fault
use Rattle.bev_world.specs.declared.slot.Slot.{Slot}
use Rattle.bev_world.specs.PassAnswers.{ByAnswer}
use Rattle.bev_world.specs.Refusals.{live_refusal}
use Rattle.bev_world.specs.WorldValue.{WorldValue}

-- what goes from the one to the other, and the filter through which it goes
abbrev pub slots_crossing : Dir → Slot → Slot → Crossing
slots_crossing Read lower over = record { from = lower.bev; to = over.bev; filter = over.read_filter }
slots_crossing Write lower over = record { from = over.bev; to = lower.bev; filter = over.write_filter }

-- the same by the two bufferevents and a filter
abbrev pub toward : Dir → BevValue → BevValue → Running → Crossing
toward Read lower over own = record { from = lower; to = over; filter = own }
toward Write lower over own = record { from = over; to = lower; filter = own }

-- no more than the buffer of a direction is other
abbrev pub IsOtherIn : Dir → BevValue → BevValue → Type 0
IsOtherIn dir old new = new ≡ with_held old dir (held new dir)

-- the one under the filter after a step
abbrev pub lower_after : Dir → Slot → Crossing → Slot
lower_after Read s p = record s { bev = p.from; room = 0 }
lower_after Write s p = record s { bev = p.to }

-- the filter's own after a step
abbrev pub over_after : Dir → Slot → Crossing → Slot
over_after Read s p = record s { bev = p.to; room = 0; read_filter = p.filter }
over_after Write s p = record s { bev = p.from; write_filter = p.filter }

-- bytes came to its input or left its output, and the length calls for the callback
abbrev pub is_due : Dir → Slot → Crossing → Bool
is_due Read s p = nat_lt (length s.bev.input.bytes) (length p.to.input.bytes) && reaches_low p.to Read
is_due Write s p = nat_lt (length p.from.output.bytes) (length s.bev.output.bytes) && reaches_low p.from Write

-- What goes from the one to the other by a step that holds so of it. Of each bufferevent no more than the buffer of the direction is
-- other. Both slots are as the step left them, and `due` tells whether the reason is due.
pub record StepMade (passes : Crossing → Type 0) (dir : Dir) (lower over new_lower new_over : Slot) (due : Bool) : Type 0 where
  pub after : Crossing
  pub passed : passes after
  pub from_is : IsOtherIn dir (slots_crossing dir lower over).from after.from
  pub to_is : IsOtherIn dir (slots_crossing dir lower over).to after.to
  pub lower_is : new_lower ≡ lower_after dir lower after
  pub over_is : new_over ≡ over_after dir over after
  pub due_is : due ≡ is_due dir over after

-- nothing has changed
abbrev pub NoStep : Slot → Slot → Slot → Slot → Bool → Type 0
NoStep lower over new_lower new_over due = (new_lower ≡ lower) × (new_over ≡ over) × (due ≡ false)

-- the step was made, up to a bad byte where it met one; else nothing has changed, and what is kept then holds
abbrev pub StepMadeOr : (Result Step PassFault → Crossing → Type 0) → Type 0 → Dir → Result Step WorldFault → Slot → Slot → Slot → Slot →
    Bool → Type 0
StepMadeOr passes kept dir answer lower over new_lower new_over due =
    ByAnswer (λ answer. StepMade (passes answer) dir lower over new_lower new_over due)
    (NoStep lower over new_lower new_over due × kept) answer

-- a step of a finished filter is asked for no bytes and for the end
abbrev pub IsOpenFor : Crossing → Dir → Mode → Type 0
IsOpenFor p dir mode = p.filter.finished ≡ true → ((held p.from dir).bytes ≡ []) × (mode ≡ Finished)

-- the filter goes on and would use more bytes than a u64 counts
abbrev pub is_own_spent : Dir → Crossing → Bool
is_own_spent dir p = is_spent p.filter (length (held p.from dir).bytes)

abbrev pub spent_refusal : Bool → Option WorldFault
spent_refusal spent = if spent then Some fault.Spent else None

-- it is no filter, or the one under it isn't live
abbrev pub below_refusal : Option ℕ → WorldValue → Option WorldFault
below_refusal None w = Some fault.NoFilter
below_refusal (Some under) w = live_refusal w under
