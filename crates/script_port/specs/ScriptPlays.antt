-- What a caller of a script port gets.
use Rattle.std.specs.Prelude.{◌≡◌, ℕ, ◌+◌, List, [], length, sum_by, Ok}
use Rattle.ev_types.specs.Trace.{Trace}
use Rattle.script_text.specs.Script.{ScriptValue}
use Rattle.script_text.specs.Spelled.{script_of}
use Rattle.relay_model.specs.Answers.{TurnAnswer}
use Rattle.relay_model.specs.Plays.{AlwaysTookAll, EndsPlayed, Plays}
use Rattle.script_port.specs.ScriptState.{PortState}
use Rattle.ev_types.specs.ScriptTurn.{lines_of}
use Rattle.relay_model.specs.Called.{NamesOpened}
use Rattle.relay_model.specs.Script.{Script}
use Rattle.relay_model.specs.Scripted.{pending}
use Rattle.relay_model.specs.Plain.{sides_from}
use Rattle.script_port.specs.ScriptLinks.{links_of}
use Rattle.script_port.specs.ScriptPlan.{ScriptPlan, plan_of_run, IsCalledBy}
use Rattle.script_port.specs.ScriptVouched.{PortStands, ScriptVouches, NoneWaits}

-- A trace that a port over a script vouches for, with closing turns that go on by the step of its settings, is played from that
-- script, where it is called for: by the run that took all links, and whose answer says so much of its turns.
abbrev pub VouchedIsPlayed : Type 0
VouchedIsPlayed = (script : Script) (p : PortState) (t : Trace) (closing announced : ℕ) (answer : TurnAnswer) →
    ScriptVouches p (plan_of_run script announced) t → IsCalledBy (plan_of_run script announced) t →
    AlwaysTookAll script.turns script.settings.links [] t →
    EndsPlayed script.turns script.settings.links (length script.turns + closing) answer t → Plays script closing answer t

-- Where no link waits by a plan, none does by any other plan of the same script.
abbrev pub NoneWaitsOn : Type 0
NoneWaitsOn = (plan later : ScriptPlan) (t : Trace) → later.turns ≡ plan.turns → IsCalledBy plan t → NoneWaits plan t → NoneWaits later t

-- What a port has pending at all ends is what its script has, all sides of its links together.
abbrev pub PendingIsScripted : Type 0
PendingIsScripted = (p : PortState) (step : ℕ) (t : Trace) → PortStands p step t →
    sum_by (λ s. length s.pending) p.links.ends
    ≡ sum_by (λ e. length (pending p.turns t e)) (sides_from 0 (length (links_of (lines_of p.turns))))

-- The lines of every script that a text spells name opened links alone.
abbrev pub SpelledNamesOpened : Type 0
SpelledNamesOpened = (text : List ℕ) (script : ScriptValue) → script_of text ≡ Ok script → NamesOpened 0 (lines_of script.turns)
