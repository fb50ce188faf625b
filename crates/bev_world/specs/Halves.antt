-- Bytes that are written to a bufferevent and taken from it, and what then goes from one half of a pair to the other.
use Rattle.std.specs.Prelude.{◌≡◌, ℕ, ◌+◌, ◌-◌, ◌&&◌, ◌≤◌, min, if◌then◌else◌, nat_lt, List, length, take, Option, Some, None}
use Rattle.std.specs.Option.{option_or}
use Rattle.token_bucket.specs.declared.limit.Dir.TheVariants.{Read, Write}
use Rattle.ev_types.specs.declared.why.Why.TheVariants as why
use Rattle.ev_types.specs.declared.filter.Mode.TheVariants.{Normal}
use Rattle.bev_core.specs.BevValue.{BevValue, reaches_low, state_of}
use Rattle.bev_core.specs.Steps.{more, less}
use Rattle.bev_pair.specs.Transfer.{count_of}
use Rattle.bev_world.specs.declared.fault.WorldFault.{WorldFault}
use Rattle.bev_world.specs.declared.slot.Kind.{Kind}
use Rattle.bev_world.specs.declared.slot.Kind.TheVariants as kind
use Rattle.bev_world.specs.Refusals.{live_refusal, length_fault}
use Rattle.bev_world.specs.WorldValue.{WorldValue, slot_at, bev_at, is_live, with_slot, with_bev, raised_if}

-- the other half of a half, where it is live
abbrev pub live_half : WorldValue → Kind → Option ℕ
live_half w kind.Socket = None
live_half w (kind.Half other) = if is_live w other then Some other else None
live_half w (kind.Filter under) = None

abbrev pub other_half : WorldValue → ℕ → Option ℕ
other_half w n = live_half w (slot_at w n).kind

-- The first bytes of one half's output went to the end of the other's input. Where there were some, the other's reason of reading is
-- due where its input reaches its low mark, and then the one's reason of writing where its output does. The last two arguments are
-- what is spare in that output and in that input.
abbrev pub passed_on : WorldValue → ℕ → ℕ → ℕ → ℕ → ℕ → WorldValue
passed_on w from to count behind before =
    let writer : BevValue = record (bev_at w from) { output = less (bev_at w from).output count behind } in
    let reader : BevValue = record (bev_at w to) { input = more (bev_at w to).input (take count (bev_at w from).output.bytes) before } in
    raised_if (nat_lt 0 count && reaches_low writer Write)
    (raised_if (nat_lt 0 count && reaches_low reader Read)
    (with_slot (with_bev w from writer) to (record (slot_at w to) { bev = reader; room = (slot_at w to).room - count })) to why.Read)
    from why.Write

-- bytes are at the end of the output
abbrev pub appended : WorldValue → ℕ → List ℕ → ℕ → WorldValue
appended w n bytes spare = with_bev w n (record (bev_at w n) { output = more (bev_at w n).output bytes spare })

-- the first bytes of the input are gone
abbrev pub shortened : WorldValue → ℕ → ℕ → ℕ → WorldValue
shortened w n count spare = with_bev w n (record (bev_at w n) { input = less (bev_at w n).input count spare })

-- what is spare in an input is other
abbrev pub with_spare : WorldValue → ℕ → ℕ → WorldValue
with_spare w n spare =
    with_bev w n (record (bev_at w n) { input = record (bev_at w n).input { spare = spare } })

-- how many bytes the pair lets go on once so many more are in the output
abbrev pub count_with : WorldValue → ℕ → ℕ → ℕ → ℕ
count_with w from to more =
    let writer = state_of (bev_at w from) in
    count_of (record writer { output = writer.output + more }) (state_of (bev_at w to)) Normal

-- how many bytes it lets go on once so many are gone from the input
abbrev pub count_without : WorldValue → ℕ → ℕ → ℕ → ℕ
count_without w from to gone =
    let reader = state_of (bev_at w to) in
    count_of (state_of (bev_at w from)) (record reader { input = reader.input - gone }) Normal

-- Bytes were written: they are at the end of the output, and of a half whose other half is live as many went on as the pair lets go.
abbrev pub WrittenTo : Option ℕ → WorldValue → ℕ → List ℕ → WorldValue → Type 0
WrittenTo None w n bytes new = new ≡ appended w n bytes (bev_at new n).output.spare
WrittenTo (Some other) w n bytes new =
    new ≡ passed_on (appended w n bytes 0) n other (count_with w n other (length bytes)) (bev_at new n).output.spare
    (bev_at new other).input.spare

-- Bytes were taken: the first of the input are gone, and as many came from a live other half as the pair lets go.
abbrev pub TakenFrom : Option ℕ → WorldValue → ℕ → ℕ → WorldValue → Type 0
TakenFrom None w n count new = new ≡ shortened w n count (bev_at new n).input.spare
TakenFrom (Some other) w n count new =
    new ≡ passed_on (shortened w n count 0) other n (count_without w other n count) (bev_at new other).output.spare
    (bev_at new n).input.spare

-- what is spare in the input of the other half may be more, and nothing else is other
abbrev pub Roomier : Option ℕ → WorldValue → WorldValue → Type 0
Roomier None w new = new ≡ w
Roomier (Some other) w new =
    (new ≡ with_spare w other (bev_at new other).input.spare) × ((bev_at w other).input.spare ≤ (bev_at new other).input.spare)

-- the output of a half, or what goes on to the input of the other, would get too long
abbrev pub half_refusal : WorldValue → ℕ → ℕ → ℕ → Option WorldFault
half_refusal w n other more =
    option_or (length_fault (length (bev_at w n).output.bytes) more)
    (length_fault (length (bev_at w other).input.bytes) (count_with w n other more))

abbrev pub output_refusal : Option ℕ → WorldValue → ℕ → ℕ → Option WorldFault
output_refusal None w n more = length_fault (length (bev_at w n).output.bytes) more
output_refusal (Some other) w n more = half_refusal w n other more

-- it isn't live, or an output or an input would get too long
abbrev pub write_refusal : WorldValue → ℕ → ℕ → Option WorldFault
write_refusal w n more = option_or (live_refusal w n) (output_refusal (other_half w n) w n more)

-- what comes back from the other half would make the input too long
abbrev pub back_refusal : Option ℕ → WorldValue → ℕ → ℕ → Option WorldFault
back_refusal None w n count = None
back_refusal (Some other) w n count =
    length_fault (length (bev_at w n).input.bytes - count) (count_without w other n count)

abbrev pub take_refusal : WorldValue → ℕ → ℕ → Option WorldFault
take_refusal w n most =
    option_or (live_refusal w n) (back_refusal (other_half w n) w n (min most (length (bev_at w n).input.bytes)))
