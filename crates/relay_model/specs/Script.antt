-- A script as plain values: its settings, its plans and its turns. How it is spelled stands elsewhere; what a port answers
-- by it stands in Scripted, and which runs it has in Plays.
use Rattle.std.specs.Prelude.{ℕ, max, ◌==◌, Bool, if◌then◌else◌, List, ◌++◌, map, filter, fold, option_map, option_to_list}
use Rattle.std.specs.List.{list_any}
use Rattle.ev_types.specs.declared.side.SideId.{SideId}
use Rattle.ev_types.specs.Sides.{same_end}
use Rattle.relay_model.specs.Settings.{Settings}
use Rattle.relay_model.specs.Plain.{sides_where}
use Rattle.ev_types.specs.declared.plan_line.PlanLine.{PlanLine}
use Rattle.ev_types.specs.ScriptTurn.{ScriptTurn}

pub record Script : Type 0 where
  pub settings : Settings
  pub plans : List (SideId × PlanLine)  -- what is planned for the hooks of sides, in the order of the lines
  pub turns : List ScriptTurn

-- what is planned for the hook of a side
abbrev pub plan_of : Script → SideId → List PlanLine
plan_of script e = map (λ x. x.1) (filter (λ x. same_end x.0 e) script.plans)

-- is something planned for the hook of a side
abbrev pub is_planned : Script → SideId → Bool
is_planned script e = list_any (λ x. same_end x.0 e) script.plans

-- The settings of a run to which so many hooks were handed in, one for each of the first sides: those sides have a hook for
-- which something is planned.
abbrev pub run_settings : Script → ℕ → Settings
run_settings script handed_in = record script.settings { hooks = sides_where (is_planned script) handed_in }

-- the tick lengths of all limits
abbrev pub tick_lengths : Settings → List ℕ
tick_lengths g =
    option_to_list (option_map (λ cfg. cfg.tick_ms) g.in_rate) ++ option_to_list (option_map (λ cfg. cfg.tick_ms) g.out_rate)
    ++ map (λ x. x.cfg.tick_ms) g.groups

abbrev pub greatest : List ℕ → ℕ
greatest ns = fold (λ most n. max most n) 0 ns

-- How far the clock goes on with each turn behind those of the script: by the greatest tick length of the settings, or a
-- second where there is none.
abbrev pub closing_step : Settings → ℕ
closing_step g = if greatest (tick_lengths g) == 0 then 1000 else greatest (tick_lengths g)
