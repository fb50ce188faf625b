-- A script of a base as values.
use Rattle.std.specs.Prelude.{ℕ, List, Option}
use Rattle.base_mode.specs.declared.command.Command.{Command}

-- a script of which some lines were read: the number of priorities, once the line that says it came, and the lines to
-- which a base answers
pub record ScriptSoFar : Type 0 where
  pub priorities : Option ℕ
  pub commands : List Command

-- a whole script
pub record ScriptValue : Type 0 where
  pub priorities : ℕ
  pub commands : List Command
