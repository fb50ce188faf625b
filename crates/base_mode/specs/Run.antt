-- What a base answers to a script: each line as a step, with the text that it adds.
use Rattle.std.specs.Prelude.{ℕ, ◌+◌, ◌^◌, ◌==◌, ◌&&◌, if◌then◌else◌, List, [], ◌∷◌, ◌++◌, codes, nat_lt, slice_set, slice_index, Option}
use Rattle.std.specs.Prelude.{Some, None, option_and_then, length, Result, Ok, Err}
use Rattle.std.specs.List.{filter_map, position_or_len}
use Rattle.std.specs.Fmt.{decimal}
use Rattle.hex.specs.Hex.{encode_lower}
use Rattle.script_text.specs.Lines.{line_of}
use Rattle.event_base.specs.declared.fault.BaseFault.{BaseFault}
use Rattle.event_base.specs.declared.fault.BaseFault.TheVariants as fault
use Rattle.event_base.specs.Base.{BaseValue}
use Rattle.event_base.specs.Calls as call
use Rattle.base_mode.specs.declared.command.Reaction.{Reaction}
use Rattle.base_mode.specs.declared.command.Reaction.TheVariants as act
use Rattle.base_mode.specs.declared.command.Command.{Command}
use Rattle.base_mode.specs.declared.command.Command.TheVariants.{On}
use Rattle.base_mode.specs.Order.{made}

-- A run of some lines: the base, the time of its last turn, the lines that were run, how often each event fired, by its
-- number of the base, and the text of the answers.
pub record RunValue : Type 0 where
  pub base : BaseValue
  pub time : ℕ
  pub before : List Command
  pub fires : List ℕ
  pub text : List ℕ

-- what becomes of a run: it goes on, or a number is spent, and then the text so far stands
abbrev pub Outcome : Type 0
Outcome = Result RunValue (List ℕ)

-- what becomes of a run that goes on so, if it goes on
abbrev pub going_on : Outcome → (RunValue → Outcome) → Outcome
going_on (Ok r) on = on r
going_on (Err text) on = Err text

-- the run with more text
abbrev pub with_text : RunValue → List ℕ → RunValue
with_text r text = record r { text = r.text ++ text }

-- The number that the base gave to the event of a name: its place among the names in the order of making. A name that was
-- not made has the number of none.
abbrev pub number_of : ℕ → List ℕ → ℕ
number_of event names = position_or_len (λ other. other == event) names

-- how a refusal is called
abbrev pub name_of : BaseFault → List ℕ
name_of fault.Memory = codes "Memory"
name_of fault.BadPriority = codes "BadPriority"
name_of fault.NoEvent = codes "NoEvent"
name_of fault.IsActive = codes "IsActive"
name_of fault.Spent = codes "Spent"
name_of fault.TooManyDelays = codes "TooManyDelays"

abbrev pub ok_text : List ℕ
ok_text = line_of (codes "ok" ∷ [])

abbrev pub refused_text : BaseFault → List ℕ
refused_text why = line_of (codes "refused" ∷ name_of why ∷ [])

-- the run after a call whose answer is written
abbrev pub answered : RunValue → call.Step → Outcome
answered r (Ok b) = Ok (with_text (record r { base = b }) ok_text)
answered r (Err fault.Spent) = Err r.text
answered r (Err why) = Ok (with_text r (refused_text why))

-- the base after a call whose answer is not written; none where a number is spent
abbrev pub kept : BaseValue → call.Step → Option BaseValue
kept old (Ok b) = Some b
kept old (Err fault.Spent) = None
kept old (Err why) = Some old

-- what a line tells the callback of an event to do at a fire of this number
abbrev pub act_for : ℕ → ℕ → Command → Option Reaction
act_for event nth (On e k what) = if e == event && k == nth then Some what else None
act_for event nth _ = None

-- what the callback of an event does at a fire of this number, in the order of the lines
abbrev pub acts_at : ℕ → ℕ → List Command → List Reaction
acts_at event nth before = filter_map (act_for event nth) before

-- the call of an act, where the events that were made have these names
abbrev pub act_step : BaseValue → List ℕ → Reaction → call.Step
act_step b names (act.Delete event) = call.del_event b (number_of event names)
act_step b names (act.Add event delay) = call.add_event b (number_of event names) (Some delay)
act_step b names (act.Activate event) = call.activate b (number_of event names) 2
act_step b names act.Break = Ok (call.loop_break b)
act_step b names act.Exit = Ok (call.loop_exit b)

-- the base after some acts
abbrev pub after_acts : BaseValue → List ℕ → List Reaction → Option BaseValue
after_acts b names [] = Some b
after_acts b names (what ∷ more) = option_and_then (λ next. after_acts next names more) (kept b (act_step b names what))

-- the text of a fire, with the flags as two hex digits
abbrev pub fired_text : ℕ → ℕ → List ℕ
fired_text event flags = line_of (codes "fired" ∷ decimal event ∷ encode_lower (flags ∷ []) ∷ [])

-- the base after what the callback of an event does at a fire of this number; none where a number is spent
abbrev pub after_fire : RunValue → ℕ → ℕ → Option BaseValue
after_fire r event nth =
    if nat_lt nth (2 ^ 64) then after_acts r.base (made r.before) (acts_at event nth r.before) else None

-- what becomes of a run whose base is this one after the fire of a number, where there is a base
abbrev pub after_call : RunValue → ℕ → ℕ → Option BaseValue → Outcome
after_call r number nth None = Err r.text
after_call r number nth (Some b) = Ok (record r { base = b; fires = slice_set r.fires number nth })

-- The callback of an event, by its number of the base: the fire is written, and then the callback does what it was told
-- for this fire. An event that no line made has no callback.
abbrev pub called_back : RunValue → ℕ → ℕ → Outcome
called_back r number flags =
    if nat_lt number (length r.fires)
    then (let event = slice_index (made r.before) number in
    let nth = slice_index r.fires number + 1 in
    after_call (with_text r (fired_text event flags)) number nth (after_fire r event nth))
    else Ok r

-- what comes of the batch of a turn: it is over, or a callback was called
pub data Fired : Type 0 where
  Over : RunValue → Fired
  Called : Outcome → Fired

-- The next callback of the batch, where the base goes on so and this event fires with its flags.
abbrev pub fired : RunValue → call.Step → Option (ℕ × ℕ) → Fired
fired r (Err why) fire = Fired.Called (Err r.text)
fired r (Ok b) None = Fired.Over (record r { base = b })
fired r (Ok b) (Some fire) = Fired.Called (called_back (record r { base = b }) fire.0 fire.1)

abbrev pub next_fired : RunValue → Fired
next_fired r = fired r (call.next_active r.base) (call.next_fire r.base)
