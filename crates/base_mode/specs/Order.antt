-- Which line may stand behind which.
use Rattle.std.specs.Prelude.{ℕ, List, [], ◌∷◌, ◌++◌, ◌==◌, Bool, true, not, if◌then◌else◌, Option, Some, None, is_some}
use Rattle.std.specs.List.{list_any, filter_map}
use Rattle.base_mode.specs.declared.command.Command.{Command}
use Rattle.base_mode.specs.declared.command.Command.TheVariants.{New, Priority, Add, Delete, Activate, Signal, On, Turn, Common}
use Rattle.base_mode.specs.declared.line.Line.{Line}
use Rattle.base_mode.specs.declared.line.Line.TheVariants.{Skipped, Base, Put}
use Rattle.base_mode.specs.Script.{ScriptSoFar}

-- the event that a line makes
abbrev pub new_name : Command → Option ℕ
new_name (New event persist signal) = Some event
new_name _ = None

-- the names of the events that some lines make, in their order
abbrev pub made : List Command → List ℕ
made commands = filter_map new_name commands

abbrev pub is_made : ℕ → List Command → Bool
is_made event commands = list_any (λ other. other == event) (made commands)

-- May the line stand behind the others? An event is made once, and a line that names one stands behind its making.
abbrev pub may_follow : List Command → Command → Bool
may_follow before (New event persist signal) = not (is_made event before)
may_follow before (Priority event priority) = is_made event before
may_follow before (Add event delay) = is_made event before
may_follow before (Delete event) = is_made event before
may_follow before (Activate event) = is_made event before
may_follow before (Signal signal count) = true
may_follow before (On event nth act) = is_made event before
may_follow before (Turn ms) = true
may_follow before (Common ms) = true

-- The script with a line more, where that line may stand there. The number of priorities is said once, before all other
-- lines.
abbrev pub extended : ScriptSoFar → Line → Option ScriptSoFar
extended script Skipped = Some script
extended script (Base priorities) =
    if is_some script.priorities then None else Some (record script { priorities = Some priorities })
extended script (Put command) =
    if is_some script.priorities then (if may_follow script.commands command then Some (record script { commands = script.commands ++ command ∷ [] }) else None) else None
