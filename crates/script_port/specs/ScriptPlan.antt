-- A script's turns and the closing turns that were announced behind them: the plan by which a script port vouches for traces.
use Rattle.std.specs.Prelude.{ℕ, List, [], ◌++◌, replicate}
use Rattle.ev_types.specs.Trace.{Trace}
use Rattle.ev_types.specs.ScriptTurn.{ScriptTurn}
use Rattle.relay_model.specs.Called.{IsCalledFor}
use Rattle.relay_model.specs.Script.{Script, closing_step}

pub record ScriptPlan : Type 0 where
  pub turns : List ScriptTurn  -- the turns of the script
  pub closing : ℕ  -- how many closing turns were announced
  pub step : ℕ  -- by how much the clock goes on with each of them

-- before a closing turn is announced
abbrev pub first_plan : List ScriptTurn → ℕ → ScriptPlan
first_plan turns step = record { turns = turns; closing = 0; step = step }

-- the plan of a run over a script with so many closing turns announced, which go on by the step of its settings
abbrev pub plan_of_run : Script → ℕ → ScriptPlan
plan_of_run script closing = record { turns = script.turns; closing = closing; step = closing_step script.settings }

-- so many turns without lines
abbrev pub closings : ℕ → List ScriptTurn
closings n = replicate n (0, [])

-- A trace is called for by a plan: the lines of the script name opened links, the trace has no more turns than the script has and
-- closing turns were announced, and its links are numbered in order.
abbrev pub IsCalledBy : ScriptPlan → Trace → Type 0
IsCalledBy plan t = IsCalledFor (plan.turns ++ closings plan.closing) t
