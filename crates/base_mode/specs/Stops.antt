-- Why a run stops, and what is written of a call.
use Rattle.std.specs.Prelude.{◌≡◌, ⊤, ℕ, ◌++◌, Bool, true, false, List, Option, None, Result, Ok, Err}
use Rattle.event_base.specs.declared.fault.BaseFault.{BaseFault}
use Rattle.event_base.specs.declared.fault.BaseFault.TheVariants as base
use Rattle.base_mode.specs.declared.halt.Halt.{Halt}
use Rattle.base_mode.specs.declared.halt.Halt.TheVariants as halt
use Rattle.base_mode.specs.declared.stop.Stop.{Stop}
use Rattle.base_mode.specs.declared.stop.Stop.TheVariants as stop
use Rattle.base_mode.specs.Run.{RunValue, Outcome, Fired, ok_text, refused_text}

-- A base stops for a spent number exactly where the acts have no base behind them. Memory may run out anywhere.
abbrev pub IsStop : {X : Type 0} → Halt → Option X → Type 0
IsStop halt.Memory answer = ⊤
IsStop halt.Spent answer = answer ≡ None

-- The run took this step. Where a number is spent its text is the text so far. Want of memory may stop it anywhere.
abbrev pub Went : {T : Type 0} → Result T Halt → RunValue → Outcome → Type 0
Went (Ok done) after step = step ≡ Ok after
Went (Err halt.Memory) after step = ⊤
Went (Err halt.Spent) after step = step ≡ Err after.text

-- the same of a fire, which tells whether a callback was called
abbrev pub HasFired : Result Bool Halt → RunValue → Fired → Type 0
HasFired (Ok true) after step = step ≡ Fired.Called (Ok after)
HasFired (Ok false) after step = step ≡ Fired.Over after
HasFired (Err halt.Memory) after step = ⊤
HasFired (Err halt.Spent) after step = step ≡ Fired.Called (Err after.text)

-- the same of lines that take the run and hand it back
abbrev pub HasRun : Result RunValue Stop → Outcome → Type 0
HasRun (Ok after) step = step ≡ Ok after
HasRun (Err stop.Memory) step = ⊤
HasRun (Err (stop.Spent text)) step = step ≡ Err text.items

-- some text was appended, unless memory ran out
abbrev pub IsWritten : Result (Unit {0}) Halt → List ℕ → List ℕ → List ℕ → Type 0
IsWritten (Ok done) old new text = new ≡ old ++ text
IsWritten (Err why) old new text = why ≡ halt.Memory

-- What is written of a call that ended so: its answer. Of a spent number nothing is.
abbrev pub IsAnswered : Result (Unit {0}) BaseFault → Result (Unit {0}) Halt → List ℕ → List ℕ → Type 0
IsAnswered (Ok done) result old new = IsWritten result old new ok_text
IsAnswered (Err base.Memory) result old new = result ≡ Err halt.Memory
IsAnswered (Err base.Spent) result old new = (result ≡ Err halt.Spent) × (new ≡ old)
IsAnswered (Err why) result old new = IsWritten result old new (refused_text why)

-- what a call that ended so means where nothing is written of it
abbrev pub passed_on : Result (Unit {0}) BaseFault → Result (Unit {0}) Halt
passed_on (Ok done) = Ok tt
passed_on (Err base.Memory) = Err halt.Memory
passed_on (Err base.Spent) = Err halt.Spent
passed_on (Err why) = Ok tt
