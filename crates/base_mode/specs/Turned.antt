-- What a base answers to a turn, to a line and to a whole script.
use Rattle.std.specs.Prelude.{ℕ, zero, suc, ◌+◌, ◌≤◌, max, sum_by, Bool, true, false, if◌then◌else◌, List, [], ◌∷◌, ◌++◌, codes, Option}
use Rattle.std.specs.Prelude.{Some, None, Result, Ok, Err}
use Rattle.std.specs.Option.{option_map_or}
use Rattle.std.specs.Fmt.{decimal}
use Rattle.script_text.specs.Lines.{line_of}
use Rattle.event_base.specs.Base.{BaseValue}
use Rattle.event_base.specs.declared.event.Event.{Event}
use Rattle.event_base.specs.Turns.{time_at, in_batch}
use Rattle.event_base.specs.Calls as call
use Rattle.event_base.specs.Delays.{common}
use Rattle.base_mode.specs.declared.command.Command.{Command}
use Rattle.base_mode.specs.declared.command.Command.TheVariants.{New, Priority, Add, Delete, Activate, Signal, On, Turn, Common}
use Rattle.base_mode.specs.Order.{made}
use Rattle.base_mode.specs.Script.{ScriptValue}
use Rattle.base_mode.specs.Spelled.{script_of}
use Rattle.base_mode.specs.Run.{RunValue, Outcome, going_on, with_text, number_of, ok_text, answered, Fired, next_fired}

-- what becomes of a turn's run after a fire
abbrev pub after_fired : Fired → (RunValue → Outcome) → Outcome
after_fired (Fired.Over r) on = Ok r
after_fired (Fired.Called outcome) on = going_on outcome on

-- how many callbacks the batch owes for an event
abbrev pub owed_by : BaseValue → Event → ℕ
owed_by b e = if in_batch b e then option_map_or (λ a. max a.count 1) e.active 0 else 0

-- how many callbacks the batch of the turn owes
abbrev pub owed : BaseValue → ℕ
owed b = sum_by (owed_by b) b.events

-- what becomes active from now on is not in the batch
abbrev pub IsClosed : BaseValue → Type 0
IsClosed b = b.batch_end ≤ b.next_activation

-- the run after so many steps of the batch: each calls a callback, or finds that the batch is over
unfoldable pub all_fired : ℕ → RunValue → Outcome
all_fired zero r = Ok r
all_fired (suc more) r = after_fired (next_fired r) (all_fired more)

-- The run after the whole batch: a step for each callback that it owes, and one that finds it over. No more are wanted, since
-- each callback takes one from what the batch owes, and nothing that a callback does adds to it.
abbrev pub whole_batch : RunValue → Outcome
whole_batch r = all_fired (owed r.base + 1) r

-- the text of a turn at this time
abbrev pub turn_text : ℕ → List ℕ
turn_text time = line_of (codes "turn" ∷ decimal time ∷ [])

-- the text of how long to wait for the next turn, where one is to come
abbrev pub next_text : Option ℕ → List ℕ
next_text None = line_of (codes "next" ∷ codes "none" ∷ [])
next_text (Some ms) = line_of (codes "next" ∷ decimal ms ∷ [])

-- how long to wait for the next turn, unless the loop was over before this one
abbrev pub wait_after : Bool → BaseValue → Option ℕ
wait_after over b = if over then None else call.poll_timeout b

-- A turn of this moment begins, where the base goes on so. Its time is the latest moment of the turns so far.
abbrev pub begun : RunValue → ℕ → call.Step → Outcome
begun r ms (Err why) = Err r.text
begun r ms (Ok b) = Ok (record r { base = b; time = time_at r.time ms; text = r.text ++ turn_text (time_at r.time ms) })

-- a turn ends
abbrev pub turn_ended : Bool → RunValue → RunValue
turn_ended over r = with_text r (next_text (wait_after over r.base))

-- a turn of this moment
abbrev pub turned : RunValue → ℕ → Outcome
turned r ms =
    going_on (begun r ms (call.begin_turn r.base ms))
    (λ started. going_on (whole_batch started) (λ done. Ok (turn_ended (call.ended r.base) done)))

-- the run after what a line asks for
abbrev pub obeyed : RunValue → Command → Outcome
obeyed r (New event persist signal) = answered r (call.new_event r.base persist signal)
obeyed r (Priority event priority) = answered r (call.set_priority r.base (number_of event (made r.before)) priority)
obeyed r (Add event delay) = answered r (call.add_event r.base (number_of event (made r.before)) delay)
obeyed r (Delete event) = answered r (call.del_event r.base (number_of event (made r.before)))
obeyed r (Activate event) = answered r (call.activate r.base (number_of event (made r.before)) 2)
obeyed r (Signal number count) = answered r (call.signal r.base number count)
obeyed r (On event nth what) = Ok r
obeyed r (Turn ms) = turned r ms
obeyed r (Common ms) = answered r (common r.base ms)

-- an event that is made has not fired yet
abbrev pub new_fires : Command → List ℕ
new_fires (New event persist signal) = 0 ∷ []
new_fires _ = []

-- the run with a line more behind it
abbrev pub recorded : RunValue → Command → RunValue
recorded r line = record r { before = r.before ++ line ∷ []; fires = r.fires ++ new_fires line }

-- the run after a line
abbrev pub run : RunValue → Command → Outcome
run r line = going_on (obeyed r line) (λ next. Ok (recorded next line))

-- the run after some lines
abbrev pub all_run : RunValue → List Command → Outcome
all_run r [] = Ok r
all_run r (line ∷ more) = going_on (run r line) (λ next. all_run next more)

-- a run that has made its base, and answered so
abbrev pub start : ℕ → RunValue
start priorities = record { base = call.new_base priorities; time = 0; before = []; fires = []; text = ok_text }

-- the text of a run as it ends, and whether it ends since a number is spent
abbrev pub ending : Outcome → List ℕ × Bool
ending (Ok r) = (r.text, false)
ending (Err text) = (text, true)

-- the answers to a script, and whether they end before it does since a number is spent
abbrev pub answers_to : ScriptValue → List ℕ × Bool
answers_to script = ending (all_run (start script.priorities) script.commands)

abbrev pub answers_if : Result ScriptValue ℕ → Result (List ℕ × Bool) ℕ
answers_if (Ok script) = Ok (answers_to script)
answers_if (Err line) = Err line

-- what the script is answered that a text spells, or the number of the first line that is not in the grammar
abbrev pub answers_of : List ℕ → Result (List ℕ × Bool) ℕ
answers_of text = answers_if (script_of text)
