-- A script as plain values. How it is spelled stands elsewhere.
use Rattle.std.specs.Prelude.{List}
use Rattle.ev_types.specs.ScriptTurn.{ScriptTurn}
use Rattle.ev_types.specs.declared.settings.Settings.{Settings}
use Rattle.ev_types.specs.declared.side.SideId.{SideId}
use Rattle.script_text.specs.declared.members.Members.{Members}
use Rattle.rate_group.specs.declared.group_set.GroupSet.{GroupSet}
use Rattle.ev_types.specs.declared.plan_line.PlanLine.{PlanLine}
use Rattle.script_text.specs.declared.setting.Given.{Given}
use Rattle.script_text.specs.Given.{settings_by}

-- the settings that its lines give, who is in which group, the groups by their numbers, what is planned for the hooks of sides, and the
-- turns, in their order
pub record ScriptValue : Type 0 where
  pub settings : Settings
  pub members : Members
  pub groups : List GroupSet
  pub plans : List (SideId × PlanLine)
  pub turns : List ScriptTurn

-- a script of which some lines were read: what its lines give so far
pub record SoFar : Type 0 where
  pub given : Given
  pub groups : List GroupSet
  pub plans : List (SideId × PlanLine)
  pub turns : List ScriptTurn

-- the script, where no line follows
abbrev pub whole : SoFar → ScriptValue
whole so_far = record {
  settings = settings_by so_far.given;
  members = so_far.given.members;
  groups = so_far.groups;
  plans = so_far.plans;
  turns = so_far.turns;
}
