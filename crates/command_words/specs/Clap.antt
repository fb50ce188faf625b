-- What clap is told of the programs' commands.
use Rattle.std.specs.Prelude.{ℕ, List, [], ◌∷◌, codes, map, true, Some}
use Rattle.clap.specs.Walk.{Rule}
use Rattle.clap.specs.Simple.{App, new_rule, new_shape}
use Rattle.clap.specs.declared.builder.action.ArgAction.TheVariants.{Set, SetTrue}
use Rattle.command_words.specs.Options.{Named}
use Rattle.command_words.specs.ServeGrammar.{serve_names}

-- an option with a value, which is named by its long form alone
abbrev pub option_rule : Named → Rule
option_rule n = record (new_rule n.0) { long = Some n.0; action = Some Set; required = n.1 }

-- a command with these arguments, which answers for no word itself and whose words do not begin with the program's name
abbrev pub app_with : List ℕ → List Rule → App
app_with program rules = record {
  top = record (new_shape program) { rules = rules; no_binary_name = true; disable_help_flag = true; disable_version_flag = true };
  subs = [];
}

abbrev pub bare_app : List ℕ → App
bare_app program = app_with program []

abbrev pub serve_app : App
serve_app = app_with (codes "evrelay") (map option_rule serve_names)

-- the program that plays scripts takes a mode word
abbrev pub mode_rule : Rule
mode_rule = record (new_rule (codes "mode")) { action = Some Set; required = true }

-- a word behind it
abbrev pub count_rule : Rule
count_rule = record (new_rule (codes "count")) { action = Some Set }

-- and the flag `--drain`
abbrev pub drain_rule : Rule
drain_rule = record (new_rule (codes "drain")) { long = Some (codes "drain"); action = Some SetTrue }

abbrev pub mode_app : App
mode_app = app_with (codes "evplay") (mode_rule ∷ count_rule ∷ drain_rule ∷ [])
